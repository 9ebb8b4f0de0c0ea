-- 31 first, then 32.
use mathlib.Core.Path.{refl, sym, ◌∙◌}
use borrow.Author.Tests.{lt-ltb, le-ltb}
use Rattle.tree.specs.Coded.{split_refusal}
use Rattle.tree.proofs.splitting.refuse_split.Goals as goal

pub returns-then-is_fixed : goal.returns-then-is_fixed
unfolding split_refusal
returns-then-is_fixed c = rw (sym c.is_fixed.ensures ∙ c.if-is_fixed.true) refl

pub returns-then-depth-gt-MOST_DEPTH : goal.returns-then-depth-gt-MOST_DEPTH
unfolding split_refusal
returns-then-depth-gt-MOST_DEPTH c = rw (sym c.is_fixed.ensures ∙ c.if-is_fixed.false, lt-ltb _ _ c.if-depth-gt-MOST_DEPTH.true) refl

pub returns : goal.returns
unfolding split_refusal
returns c = rw (sym c.is_fixed.ensures ∙ c.if-is_fixed.false, le-ltb _ _ c.if-depth-gt-MOST_DEPTH.false) refl
