-- One unit of a problem's: what holds of all units holds of it, and its part of the fixed statuses has its marks.
use mathlib.Core.Path.{◌≡◌, refl, ◌∙◌, ap, ap₂}
use mathlib.Core.Bool.{Bool, cond}
use mathlib.Core.List.{List, [], ◌∷◌}
use Prim.Native.Nat.{ℕ, zero, suc, ◌+◌, ◌*◌, ◌-◌, ◌≤◌, ◌<◌}
use native.Mathlib.Nat.{mul-le-mul_right}
use native.Mathlib.Omega.{arith}
use lib.ListN.{length, get_or, take, drop, length-drop}
use lib.Seq.{get_or-take, get_or-drop, length-take-le}
use lib.IntN.{ℤ}
use Rattle.model.specs.declared.generator.Generator.{Generator}
use Rattle.model.specs.Ranges.{All, GoodUnit}
use Rattle.model.specs.Above.{Mark}
use Rattle.model.proofs.Extents.{Same, is_stuck_ext, unit_least_ext, ramp_least_ext}
use Rattle.walk.specs.Marks.{mark_of, marks_of, marks_in}
use Rattle.walk.proofs.AboveMarks.{marks_same}
use Rattle.std.specs.Prelude.{None, Some}
use Rattle.least.specs.UnitLeasts.{least_of, ramp_least_of}

-- what holds of all units
pub all_get_d : (R : Generator → Type 0) (u : ℕ) (l : List Generator) (d : Generator) → u < length l → All R l → R (get_or l u d)
all_get_d R u [] d h a = absurd (omega arith)
all_get_d R zero (g ∷ l) d h a = a.0
all_get_d R (suc u) (g ∷ l) d h a = all_get_d R u l d (omega arith) a.1

-- ---- one unit's part of the fixed statuses

-- it is within them
pub part_within : (I n u k : ℕ) → u < I → I * n ≤ k → u * n + n ≤ k
part_within I n u k inside room = omega (arith, mul-le-mul_right n inside)

-- and as long as the periods
pub part_long : (n place : ℕ) (above : List ℕ) → place + n ≤ length above → length (take (place + n - place) (drop place above)) ≡ n
part_long n place above h =
    let e : place + n - place ≡ n = omega arith in
    rw e (length-take-le n (drop place above) (omega (arith, length-drop place above)))

module _ (I n u : ℕ) (above : List ℕ) (inside : u < I) where
  part_marks : Same n (marks_of (take n (drop (u * n) above))) (marks_in I n above u)
  part_marks t l = ap mark_of (get_or-take n (drop (u * n) above) t 0 l ∙ get_or-drop (u * n) above t 0) ∙ marks_same I n above u inside t l

  -- what depends on the marks of the periods alone, where the number of periods and the part's place and length are known as others
  pub part_same : {A : Type 0} (F : ℕ → (ℕ → Mark) → A) → ((m m' : ℕ → Mark) → Same n m m' → F n m ≡ F n m')
      → (N place long : ℕ) → N ≡ n → place ≡ u * n → long ≡ n
      → F N (marks_of (take long (drop place above))) ≡ F n (marks_in I n above u)
  part_same F ext N place long e f h = rw (e, f, h) (ext (marks_of (take n (drop (u * n) above))) (marks_in I n above u) part_marks)

  -- a unit's answer
  module _ (q s : ℕ → ℕ) (g : Generator) (good : GoodUnit g) where
    pub part_answer : (N place long : ℕ) → N ≡ n → place ≡ u * n → long ≡ n
        → least_of N q s g (marks_of (take long (drop place above))) ≡ least_of n q s g (marks_in I n above u)
    part_answer =
        part_same (λ N m. least_of N q s g m)
        (λ m m' h. ap₂ (λ (b : Bool) (z : ℤ). cond b None (Some z)) (is_stuck_ext n g m m' h) (unit_least_ext n g m m' h good q q s s (λ t l. refl) (λ t l. refl)))

    pub ramp_part_answer : (x y : ℕ → ℕ) (N place long : ℕ) → N ≡ n → place ≡ u * n → long ≡ n
        → ramp_least_of N q s x y g (marks_of (take long (drop place above))) ≡ ramp_least_of n q s x y g (marks_in I n above u)
    ramp_part_answer x y =
        part_same (λ N m. ramp_least_of N q s x y g m)
        (λ m m' h.
        ap₂ (λ (b : Bool) (z : ℤ). cond b None (Some z)) (is_stuck_ext n g m m' h)
        (ramp_least_ext n g m m' h good q q s s x x y y (λ t l. refl) (λ t l. refl) (λ t l. refl) (λ t l. refl)))
