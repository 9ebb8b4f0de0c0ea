-- Short: of the ranks of all units, in the order of the units or the largest first, those of the units not fixed off are what `short` takes; and the byte of an upper count
-- says which order it is.
use mathlib.Core.Path.{◌≡◌, refl, sym, ◌∙◌, ap, ap₂}
use mathlib.Core.Bool.{Bool, true, false, cond}
use mathlib.Core.List.{List, [], ◌∷◌, map}
use mathlib.Core.Option.{Option, none, some}
use Prim.Native.Nat.{ℕ, zero, suc, ◌+◌, ◌-◌, ◌≤◌, ◌<◌}
use native.Mathlib.Omega.{arith}
use lib.Dec.{ltb}
use lib.ListN.{length, get_or, take}
use lib.Seq.{take_all}
use Rattle.model.specs.declared.generator.Generator.{Generator}
use Rattle.model.specs.Instance.{Instance, ◌at◌}
use Rattle.model.specs.Ranges.{All, GoodUnit}
use Rattle.model.specs.Held.{blank_generator}
use Rattle.model.specs.Above.{Mark, free, fixed, Marks, rest}
use Rattle.model.specs.Largest.{total, falling}
use Rattle.model.specs.Leaf.{unless_off, usable, those}
use Rattle.model.specs.Turns.{turned, in_turn, took}
use Rattle.model.proofs.Sorting.{falling_those, falling_map}
use Rattle.model.proofs.Turns.{in_turn_total}
use Rattle.layout.specs.Ranks.{rank, unit_of, pU_of, ranks_from, ranked}
use Rattle.layout.proofs.Ranks.{unit_back, pU_back, ranks_at, pU_inside}
use Rattle.walk.specs.Marks.{most_of, above_of, upper_begin}
use Rattle.walk.proofs.AboveMarks.{most_here}
use Rattle.leaves.specs.LeafLeasts.{taken_in, taken_from}
--
use Rattle.leaves.proofs.MarkBytes.{usable_length}
use Rattle.leaves.proofs.Takings.{may, values}

-- the unit of a rank is not fixed off in period t
abbrev pub usable_rank : Marks → ℕ → ℕ → Bool
usable_rank m t r = may (m (unit_of r) t)

-- the rank of unit u stands for its mark and its pU
pub rank_may : (gs : List Generator) → length gs ≤ 32 → (m : Marks) (t u : ℕ) → u < length gs → usable_rank m t (get_or (ranks_from 0 gs) u 0) ≡ may (m u t)
rank_may gs few m t u h =
    ap (λ (k : ℕ). may (m k t)) (ap unit_of (ranks_at gs u h) ∙ unit_back u (get_or gs u blank_generator).pU (omega arith))

pub rank_value : (gs : List Generator) (u : ℕ) → u < length gs → pU_of (get_or (ranks_from 0 gs) u 0) ≡ (get_or gs u blank_generator).pU
rank_value gs u h = ap pU_of (ranks_at gs u h) ∙ pU_back u (get_or gs u blank_generator).pU

pub pU_small : (gs : List Generator) → All GoodUnit gs → (u : ℕ) → u < length gs → (get_or gs u blank_generator).pU ≤ 10000
pU_small [] a u h = absurd (omega arith)
pU_small (g ∷ gs) a zero h = omega (arith, a.0.in_range.pU_in)
pU_small (g ∷ gs) a (suc u) h = pU_small gs a.1 u (omega arith)

-- a unit adds no more than its pU
pub adds_most : (x : Mark) (v : ℕ) → total (unless_off x v []) ≤ v
adds_most free v = omega arith
adds_most (fixed true) v = omega arith
adds_most (fixed false) v = omega arith

-- ---- by number

usable_ranks_from : (u : ℕ) (gs : List Generator) (m m' : Marks) (t : ℕ) → u + length gs ≤ 32 → ((k : ℕ) → m' k t ≡ m (u + k) t)
    → map pU_of (those (usable_rank m t) (ranks_from u gs)) ≡ usable gs m' t
unfolding usable
usable_ranks_from u [] m m' t h e = refl
usable_ranks_from u (g ∷ gs) m m' t h e =
    rw (unit_back u g.pU (omega arith)) (go (m u t) (m' 0 t) (let i : u + 0 ≡ u = omega arith in e 0 ∙ ap (λ (k : ℕ). m k t) i)
    (usable_ranks_from (suc u) gs m (rest m') t (omega arith) (λ k. let i : u + suc k ≡ suc u + k = omega arith in e (suc k) ∙ ap (λ (k : ℕ). m k t) i)))
  where
    others : List ℕ
    others = those (usable_rank m t) (ranks_from (suc u) gs)

    go : (x y : Mark) → y ≡ x → map pU_of others ≡ usable gs (rest m') t
        → map pU_of (cond (may x) (rank u g.pU ∷ others) others) ≡ unless_off y g.pU (usable gs (rest m') t)
    go x y i k = rw i (one x)
      where
        one : (x : Mark) → map pU_of (cond (may x) (rank u g.pU ∷ others) others) ≡ unless_off x g.pU (usable gs (rest m') t)
        one free = ap₂ ◌∷◌ (pU_back u g.pU) k
        one (fixed true) = ap₂ ◌∷◌ (pU_back u g.pU) k
        one (fixed false) = k

module _ (gs : List Generator) (few : length gs ≤ 32) (m : Marks) (t : ℕ) where
  usable_ranks : map pU_of (those (usable_rank m t) (ranks_from 0 gs)) ≡ usable gs m t
  usable_ranks = usable_ranks_from 0 gs m m t (omega arith) (λ k. let i : k ≡ 0 + k = omega arith in ap (λ (k : ℕ). m k t) i)

  pub by_number : values (usable_rank m t) pU_of (ranks_from 0 gs) (length gs) ≡ usable gs m t
  by_number = ap (take (length gs)) usable_ranks ∙ take_all (length gs) (usable gs m t) (usable_length gs m t)

  -- ---- the largest first

  pub by_size : (K : ℕ) → values (usable_rank m t) pU_of (ranked gs) K ≡ take K (falling (usable gs m t))
  unfolding ranked
  by_size K =
      ap (take K)
      (ap (map pU_of) (falling_those (usable_rank m t) (ranks_from 0 gs))
      ∙ falling_map pU_of (λ x y h. omega arith) (those (usable_rank m t) (ranks_from 0 gs))
      ∙ ap falling usable_ranks)

  -- ---- what one unit adds is small

  pub value_small : All GoodUnit gs → (i : ℕ) → i < length gs → (x : Mark) → total (unless_off x (pU_of (get_or (ranked gs) i 0)) []) ≤ 10000
  value_small good i h x = omega (arith, adds_most x (pU_of (get_or (ranked gs) i 0)), pU_inside gs i few good h)

-- ---- with the upper count's byte

most_none : (b : ℕ) → b ≡ 0 → most_of b ≡ none
most_none b e = ap most_of e

most_some : (b : ℕ) → (b ≡ 0 → ⊥) → most_of b ≡ some (b - 1)
most_some zero h = absurd (h refl)
most_some (suc K) h = ap some (let e : K ≡ suc K - 1 = omega arith in e)

module _ (P : Instance) (bytes : List ℕ) (t : ℕ) (l : t < P.periods) where
  abbrev need : ℕ
  need = P.demand at t + P.spare at t

  answers : (l : List ℕ) (d : ℕ) (o : Option ℕ) → d ≡ need → l ≡ turned o (usable P.units (above_of P bytes).marks t) → o ≡ (above_of P bytes).most t
      → taken_from l d ≡ taken_in P (above_of P bytes) t
  unfolding in_turn
  answers l d o e i j =
      let A = above_of P bytes in
      let k : l ≡ in_turn P A t = i ∙ ap (λ (o : Option ℕ). turned o (usable P.units A.marks t)) j in
      ap₂ taken_from k e ∙ ap (λ (n : ℕ). record { short = ltb n need; units = took (in_turn P A t) need }) (in_turn_total P A t)

  -- none stands: by number
  pub answers_all : (d : ℕ) → d ≡ need → bytes at (upper_begin + t) ≡ 0
      → taken_from (usable P.units (above_of P bytes).marks t) d ≡ taken_in P (above_of P bytes) t
  answers_all d e b = answers _ d none e refl (sym (most_none _ b) ∙ most_here P.periods bytes t l)

  -- one stands: the largest first, and so many
  pub answers_largest : (d : ℕ) → d ≡ need → (bytes at (upper_begin + t) ≡ 0 → ⊥)
      → taken_from (take (bytes at (upper_begin + t) - 1) (falling (usable P.units (above_of P bytes).marks t))) d
      ≡ taken_in P (above_of P bytes) t
  answers_largest d e b = answers _ d (some (bytes at (upper_begin + t) - 1)) e refl (sym (most_some _ b) ∙ most_here P.periods bytes t l)
