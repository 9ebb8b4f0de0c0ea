-- What `kind_at` and `end_at` answer at each return.
use Prim.Native.Nat.{ℕ, suc, ◌+◌, ◌≤◌, ◌<◌}
use native.Mathlib.Omega.{arith}
use mathlib.Core.Path.{◌≡◌, refl, sym, ap, ◌∙◌}
use mathlib.Core.Bool.{Bool, true, false}
use mathlib.Core.List.{List, ◌∷◌}
use lib.ListN.{length, drop, get_or, length-append, length-drop, drop_of_length-le}
use lib.Seq.{drop-cons}
use lib.Dec.{eqb}
use Rattle.text.specs.Lines.{Line, cut_at, lines_of, line_at, is_line, kind_of, kind_problem, kind_schedule, kind_tree}
use Rattle.text.specs.Ends.{after_end, end_of}
use Rattle.text.specs.declared.Kind.TheVariants.{Unknown, Problem, Schedule, Tree}
use Rattle.text.specs.declared.End.TheVariants.{Missing, Followed, Last}
use Rattle.text.proofs.Cuts.{text_ended}
use Rattle.text.proofs.Words.{word_is}
use Rattle.text.proofs.Verdicts.{word_next}

-- ---- `kind_at`, by the word that the line is

module _ (l : Line) where
  pub problem_kind : is_line kind_problem l ≡ true → Problem ≡ kind_of l
  unfolding kind_of
  problem_kind e = simp e

  module _ (p : is_line kind_problem l ≡ false) where
    pub schedule_kind : is_line kind_schedule l ≡ true → Schedule ≡ kind_of l
    unfolding kind_of
    schedule_kind e = simp (p, e)

    module _ (q : is_line kind_schedule l ≡ false) where
      pub tree_kind : is_line kind_tree l ≡ true → Tree ≡ kind_of l
      unfolding kind_of
      tree_kind e = simp (p, q, e)

      pub unknown_kind : is_line kind_tree l ≡ false → Unknown ≡ kind_of l
      unfolding kind_of
      unknown_kind e = simp (p, q, e)

-- ---- `end_at`, by the word and what stands past it

module _ (w s : List ℕ) (at : ℕ) where
  pub end_missing : is_line w (line_at s at) ≡ false → Missing ≡ end_of w (lines_of (drop at s))
  unfolding end_of
  end_missing e = simp e

  module _ (e : is_line w (line_at s at) ≡ true) where
    -- the end line, with its byte 10, lies within the text
    pub end_within : at + length w + 1 ≤ length s
    end_within =
        let rest = drop (length w + 1) (drop at s) in
        let n = ap length (text_ended (drop at s) w (word_is w (line_at s at) e)) ∙ length-append w (10 ∷ rest) in
        omega (arith, length-drop at s)

    -- the lines after it are those of the text past its byte 10
    past_end : end_of w (lines_of (drop at s)) ≡ after_end (lines_of (drop (at + length w + 1) s))
    unfolding end_of
    past_end = rw e (ap after_end (sym (word_next w s at e)))

    pub end_followed : at + length w + 1 < length s → Followed ≡ end_of w (lines_of (drop at s))
    end_followed h = sym (past_end ∙ ap (λ (t : List ℕ). after_end (lines_of t)) (drop-cons s (at + length w + 1) 0 h) ∙ go (eqb (get_or s (at + length w + 1) 0) 10))
      where
        go : (p : Bool) → after_end (cut_at p (get_or s (at + length w + 1) 0) (lines_of (drop (suc (at + length w + 1)) s))) ≡ Followed
        go true = refl
        go false = refl

    pub end_last : length s ≤ at + length w + 1 → Last ≡ end_of w (lines_of (drop at s))
    end_last h = sym (past_end ∙ ap (λ (t : List ℕ). after_end (lines_of t)) (drop_of_length-le s h))
