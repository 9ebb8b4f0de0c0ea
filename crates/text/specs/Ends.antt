-- The end of a text.
use Rattle.std.specs.Prelude.{ℕ, ◌+◌, ◌≡◌, true, false, cond, List, [], ◌∷◌}
use Rattle.std.proofs.Math.Option.{Option, none, some}
use Rattle.text.specs.Lines.{Line, unended, ended, due, later, is_line}
use Rattle.text.specs.Course.{Found, refused, good, Judged, refused_at, accepted}
use Rattle.text.specs.declared.End.{End}
use Rattle.text.specs.declared.End.TheVariants.{Missing, Followed, Last}

-- ---- document 01, Texts: a text's last line is its end line

-- by the lines after the end line
abbrev pub after_end : List Line → End
after_end [] = Last
after_end (l ∷ ls) = Followed

-- the lines that are left, where the end line, this word, is due
unfoldable pub end_of : List ℕ → List Line → End
end_of w ls = cond (is_line w (due ls)) (after_end (later ls)) Missing

-- ---- document 01, Numbers that come from the text, 12: the end line is missing, or anything stands after it

-- the answer to a text whose lines before line l, at which the end line is due, give v
abbrev pub ended_by : {R : Type 0} → ℕ → R → End → Judged R
ended_by l v Missing = refused_at 12 l
ended_by l v Followed = refused_at 12 (l + 1)
ended_by l v Last = accepted v

-- where s says what is due, the end line is due, this word; past it no line is good, and the text may end there with v
pub record EndDue {S R : Type 0} (judge : S → Line → Found S) (end : S → Option R) (w : List ℕ) (s : S) (v : R) : Type 0 where
  pub then : S
  pub not_there : end s ≡ none
  pub wrong_word : (l : Line) → is_line w l ≡ false → judge s l ≡ refused 12
  pub right_word : (l : Line) → is_line w l ≡ true → judge s l ≡ good then
  pub may_end : end then ≡ some v
  pub unended_after : (b : List ℕ) → judge then (unended b) ≡ refused 12
  pub ended_after : (b : List ℕ) → judge then (ended b) ≡ refused 12
