-- The four lines before the unit lines: the rendering of numbers in range, as many as are due, is good at its place.
use Prim.Native.Nat.{ℕ, zero, suc, ◌<◌}
use native.Mathlib.Omega.{arith}
use mathlib.Core.Path.{◌≡◌, ap, ◌∙◌}
use mathlib.Core.List.{List, [], ◌∷◌}
use lib.ListN.{length}
use Rattle.model.specs.Ranges as ranges
use Rattle.model.specs.Ranges.{All}
use Rattle.text.specs.Lines.{Line, ended}
use Rattle.text.specs.Forms.{plain, numbers_of, form_tests}
use Rattle.text.specs.Rendering.{plain_line}
use Rattle.text.specs.Course.{good}
use Rattle.text.specs.Tests.{Test, found}
use Rattle.text.proofs.Plain.{AllBetween, plain_good, plain_numbers}
use Rattle.text.proofs.Verdicts.{form_found}
use Rattle.problem.specs.Course.{Due, tests, next_due, judge}

-- ---- ranges of lists, said in two ways

pub all_between : (lo hi : ℕ) (vs : List ℕ) → All (λ v. ranges.Between lo v hi) vs → AllBetween lo hi vs
all_between lo hi [] a i h = absurd (omega arith)
all_between lo hi (v ∷ vs) a zero h = a.0
all_between lo hi (v ∷ vs) a (suc i) h = all_between lo hi vs a.1 i (omega arith)

pub between_all : (lo hi : ℕ) (vs : List ℕ) → AllBetween lo hi vs → All (λ v. ranges.Between lo v hi) vs
between_all lo hi [] b = tt
between_all lo hi (v ∷ vs) b = (b 0 (omega arith), between_all lo hi vs (λ i h. b (suc i) (omega arith)))

-- ---- the rendering of n values in range, where these are due

module _ (key : List ℕ) (n lo hi : ℕ) (vs : List ℕ) (h : 0 < n) (e : length vs ≡ n) (r : All (λ v. ranges.Between lo v hi) vs) where
  abbrev line : Line
  line = ended (plain_line key vs)

  -- is good at its place, and what is due next is so by these values
  pub plain_judged : (s : Due) (after : List ℕ → Due) → tests s line ≡ form_tests (plain key n lo hi) line [] → next_due s line ≡ after (numbers_of (plain key n lo hi) line)
      → judge s line ≡ good (after vs)
  unfolding judge
  plain_judged s after w d =
      ap (λ (ts : List Test). found ts (next_due s line)) w
      ∙ form_found (plain key n lo hi) line [] (next_due s line) (plain_good key n lo hi vs h e (all_between lo hi vs r))
      ∙ ap good (d ∙ ap after (plain_numbers key n lo hi vs h e (all_between lo hi vs r)))
