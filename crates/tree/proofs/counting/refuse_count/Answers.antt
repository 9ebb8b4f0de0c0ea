-- 32 first, then 37.
use mathlib.Core.Path.{refl, sym, ◌∙◌}
use borrow.Author.Tests.{lt-ltb, le-ltb}
use Rattle.tree.specs.Coded.{count_refusal}
use Rattle.tree.proofs.counting.refuse_count.Goals as goal

pub returns-then-depth-gt-MOST_DEPTH : goal.returns-then-depth-gt-MOST_DEPTH
unfolding count_refusal
returns-then-depth-gt-MOST_DEPTH c = rw (lt-ltb _ _ c.if-depth-gt-MOST_DEPTH.true) refl

pub returns-then-not-is_narrower : goal.returns-then-not-is_narrower
unfolding count_refusal
returns-then-not-is_narrower c = rw (le-ltb _ _ c.if-depth-gt-MOST_DEPTH.false, sym c.is_narrower.ensures ∙ c.if-not-is_narrower.true) refl

pub returns : goal.returns
unfolding count_refusal
returns c = rw (le-ltb _ _ c.if-depth-gt-MOST_DEPTH.false, sym c.is_narrower.ensures ∙ c.if-not-is_narrower.false) refl
