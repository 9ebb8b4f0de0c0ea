-- The end of a text: the end line is a word, and what is judged from it on is whether that word stands there with nothing after it.
use Prim.Native.Nat.{ℕ, suc, ◌+◌}
use native.Mathlib.Numerals.{add-one}
use native.Mathlib.Omega.{arith}
use mathlib.Core.Path.{◌≡◌, refl, sym, ap, ◌∙◌}
use mathlib.Core.Bool.{Bool, true, false, cond}
use mathlib.Core.List.{List, [], ◌∷◌}
use mathlib.Core.Option.{Option}
use lib.ListN.{length, drop}
use lib.Dec.{eqb}
use Rattle.text.specs.Lines.{Line, missing, unended, ended, due, later, longer, cut_at, lines_of, is_line}
use Rattle.text.specs.Course.{Found, refused, refused_at, judged_from}
use Rattle.text.specs.Ends.{after_end, end_of, ended_by, EndDue}
use Rattle.text.specs.declared.End.TheVariants.{Missing}
use Rattle.text.proofs.Cuts.{later_lines}
use Rattle.text.proofs.Words.{word_is}

module _ {S R : Type 0} (judge : S → Line → Found S) (end : S → Option R) where
  module _ (w : List ℕ) (s : S) (v : R) (d : EndDue judge end w s v) (l : ℕ) where
    -- past the end line
    judged_after : (t : List ℕ) → judged_from judge end (suc l) d.then (lines_of t) ≡ ended_by l v (after_end (lines_of t))
    unfolding judged_from
    judged_after [] = rw d.may_end refl
    judged_after (b ∷ t) = go (eqb b 10)
      where
        first : (x : Line) → judge d.then (longer b x) ≡ refused 12
        first missing = d.unended_after (b ∷ [])
        first (unended y) = d.unended_after (b ∷ y)
        first (ended y) = d.ended_after (b ∷ y)

        go : (p : Bool) → judged_from judge end (suc l) d.then (cut_at p b (lines_of t)) ≡ ended_by l v (after_end (cut_at p b (lines_of t)))
        go true = rw (d.ended_after []) (ap (refused_at 12) (sym (add-one l)))
        go false = rw (first (due (lines_of t))) (ap (refused_at 12) (sym (add-one l)))

    pub end_judged : (t : List ℕ) → judged_from judge end l s (lines_of t) ≡ ended_by l v (end_of w (lines_of t))
    unfolding judged_from end_of
    end_judged t = go (lines_of t) refl (is_line w (due (lines_of t))) refl
      where
        go : (ls : List Line) → lines_of t ≡ ls → (p : Bool) → is_line w (due ls) ≡ p → judged_from judge end l s ls ≡ ended_by l v (cond p (after_end (later ls)) Missing)
        go [] q true e = absurd (let z : ◌≡◌ {A = ℕ} 0 1 = cc in omega arith)
        go [] q false e = rw d.not_there refl
        go (x ∷ ls) q true e =
            let k : lines_of (drop (length w + 1) t) ≡ ls = later_lines t w (ap due q ∙ word_is w x e) ∙ ap later q in
            rw (d.right_word x e, ← k) (judged_after (drop (length w + 1) t))
        go (x ∷ ls) q false e = rw (d.wrong_word x e) refl
