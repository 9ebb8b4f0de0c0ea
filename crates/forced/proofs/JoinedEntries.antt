-- How an entry is joined: the sum of two coded values, one of which may not be there, the least of several with one more, and the run that has not changed its status.
use mathlib.Core.Path.{◌≡◌, refl, sym, ap, ap₂, ◌∙◌}
use mathlib.Core.Bool.{Bool, true, false, cond, beq}
use mathlib.Core.List.{List}
use Prim.Native.Nat.{ℕ, zero, suc, ◌+◌, ◌*◌, min}
use native.Mathlib.Numerals.{add-one}
use lib.ListN.{length}
use Rattle.model.specs.declared.generator.Generator.{Generator}
use Rattle.model.specs.Instance.{◌at◌}
use Rattle.model.specs.Walk.{lesser}
use Rattle.model.specs.ForcedWalk.{both, least_upto}
use Rattle.model.proofs.Coded.{lesser_none}
use Rattle.runs.specs.Kept.{first_of, kept_in}
use Rattle.forced.specs.Entries.{entry_of}

-- ---- the sum

pub none_left : (x y : ℕ) → x ≡ 0 → 0 ≡ both x y
unfolding both
none_left x y e = rw e refl

pub none_right : (x y : ℕ) → y ≡ 0 → 0 ≡ both x y
unfolding both
none_right zero y e = refl
none_right (suc x) y e = rw e refl

-- ---- the least

pub least_none : (f : ℕ → ℕ) → 0 ≡ least_upto 0 f
unfolding least_upto
least_none f = refl

pub least_more : (i : ℕ) (f : ℕ → ℕ) (found value : ℕ) → found ≡ least_upto i f → value ≡ f i → lesser found value ≡ least_upto (i + 1) f
unfolding least_upto
least_more i f found value e h = rw (add-one i) (ap₂ lesser e h)

-- ---- an entry

-- what is found in the list of the states, by the number of the states and the place where their values begin
module _ (g : Generator) (table : List ℕ) (t : ℕ) (d : Bool) (l : List ℕ) (own reached begin found : ℕ) (r : reached ≡ min t (length l)) (b : begin ≡ t * 145 + first_of d)
    (f : found ≡ least_upto reached (λ i. both (l at i) (table at (begin + i)))) where
  abbrev listed : ℕ
  listed = least_upto (min t (length l)) (λ i. both (l at i) (table at (t * 145 + first_of d + i)))

  abbrev entry_by : Bool → ℕ
  entry_by c = lesser listed (cond c (both own (kept_in g table t d (g.since + t))) 0)

  found_listed : found ≡ listed
  found_listed = f ∙ ap₂ (λ (x y : ℕ). least_upto x (λ i. both (l at i) (table at (y + i)))) r b

  -- the run that has not changed its status has it
  pub entry_own : beq g.on d ≡ true → (kept : ℕ) → kept ≡ kept_in g table t d (g.since + t) → lesser found (both own kept) ≡ entry_of g table t d l own
  entry_own e kept k = ap₂ (λ (x y : ℕ). lesser x (both own y)) found_listed k ∙ ap entry_by (sym e)

  -- or not
  pub entry_other : beq g.on d ≡ false → found ≡ entry_of g table t d l own
  entry_other e = found_listed ∙ sym (lesser_none listed) ∙ ap entry_by (sym e)
