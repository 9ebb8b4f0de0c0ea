-- A unit is stuck just where its walk over periods that cost nothing finds nothing; and one unit of a problem's.
use mathlib.Core.Path.{◌≡◌, refl, sym, ◌∙◌}
use mathlib.Core.List.{List, [], ◌∷◌}
use Prim.Native.Nat.{ℕ, zero, suc, ◌*◌, ◌<◌}
use native.Mathlib.Omega.{arith}
use lib.Dec.{eqb}
use lib.ListN.{length, get_or, take, drop, replicate}
use Rattle.model.specs.declared.generator.Generator.{Generator}
use Rattle.model.specs.Ranges.{Between}
use Rattle.model.specs.Above.{Mark, Marks, rest}
use Rattle.model.specs.Leaf.{is_stuck, stuck_at}
use Rattle.model.specs.Walk.{walk}
use Rattle.model.proofs.Stuck.{is_stuck_is}
use Rattle.model.proofs.Extents.{is_stuck_ext}
use Rattle.walk.specs.Marks.{marks_of, marks_in}
use Rattle.walk.specs.Limits.{GoodCosts}
use Rattle.walk.specs.GoingBack.{costs_of}
use Rattle.walk.proofs.Fronts.{front_length, front_at}
use Rattle.least.proofs.Costs.{all_of}
use Rattle.least.proofs.UnitParts.{part_same}

-- the front of an array of zeros
abbrev free : ℕ → List ℕ
free n = take n (replicate 48 0)

pub free_good : (n : ℕ) → Between 1 n 48 → GoodCosts (length (free n)) (free n) (free n)
free_good n h =
    let long : length (free n) ≡ n = front_length 0 n 48 h.1 in
    let good = all_of 1_000_000_000_000_000 (free n) (λ t l. omega (arith, front_at 0 n 48 h.1 t (omega arith))) in
    record { periods_in = omega arith; on_long = refl; off_long = refl; on_in = good; off_in = good }

pub free_walk : (n : ℕ) → Between 1 n 48 → (g : Generator) (m : ℕ → Mark)
    → eqb (walk (length (free n)) g m (costs_of (free n) (free n)) g.on g.since) 0 ≡ is_stuck n g m
free_walk n h g m = rw (front_length 0 n 48 h.1) (sym (is_stuck_is n g m (costs_of (free n) (free n))))

-- the unit u
stuck_at_is : (n u : ℕ) (l : List Generator) (d : Generator) (m : Marks) → u < length l → is_stuck n (get_or l u d) (m u) ≡ stuck_at n l m u
stuck_at_is n u [] d m h = absurd (omega arith)
stuck_at_is n zero (g ∷ l) d m h = refl
stuck_at_is n (suc u) (g ∷ l) d m h = stuck_at_is n u l d (rest m) (omega arith)

pub part_stuck : (n u : ℕ) (l : List Generator) (d : Generator) (above : List ℕ) → u < length l → (N long : ℕ) → N ≡ n → long ≡ n
    → is_stuck N (get_or l u d) (marks_of (take long (drop (u * n) above))) ≡ stuck_at n l (marks_in (length l) n above) u
part_stuck n u l d above h N long e f =
    part_same (length l) n u above h (λ N m. is_stuck N (get_or l u d) m) (λ m m' i. is_stuck_ext n (get_or l u d) m m' i) N (u * n) long e refl f
    ∙ stuck_at_is n u l d (marks_in (length l) n above) h
