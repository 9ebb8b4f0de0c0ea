-- A docket kept in slices is had again from them, where its arrays are as long as the struct's and its bound is small.
use Rattle.std.specs.Prelude.{None, Option, Some}
use mathlib.Core.Path.{◌≡◌, refl, ap, ◌∙◌}
use mathlib.Core.Bool.{Bool, true, false, not, cond}
use Prim.Native.Nat.{ℕ, suc}
use native.Mathlib.Omega.{arith}
use lib.Dec.{eqb}
use lib.IntN.{ℤ, pos, negsuc}
use lib.ListN.{length, take, drop}
use lib.Seq.{take_at, drop_at}
use mathlib.Core.List.{List, ◌∷◌, ◌++◌, append_assoc}
use borrow.Author.Tests.{lt-ltb}
use Rattle.model.specs.Instance.{◌at◌}
use Rattle.layout.specs.Numbers.{laid_out, problem_in}
use Rattle.writer.specs.Written.{figure_of}
use Rattle.layout.proofs.Again.{problem_again}
use Rattle.docket.specs.declared.Docket.{Docket}
use Rattle.docket.specs.declared.held.CostBy.{CostBy}
use Rattle.docket.specs.declared.held.HeldBound.{HeldBound}
use Rattle.docket.specs.declared.held.HeldBound.TheVariants as bound
use Rattle.docket.specs.Docket.{small_bound}
use Rattle.docket.proofs.Differences.{small_size}
use Rattle.state.specs.Layout.{size_room, layout_mark, head, cost_numbers, held_bound_numbers, bound_in, state_numbers, docket_in, held_in}
use Rattle.state.specs.Kept.{kept_numbers, kept_rows}
use Rattle.state.proofs.Fits.{Fits}
use Rattle.state.proofs.Sizes.{minus_is}
use Rattle.state.proofs.Keeping.{five, eight, eight_long}

-- ---- what is held

number_again : (z : ℤ) (w : ℕ) (l : List ℕ) → small_bound (bound.Number (record { value = z; writer = w })) ≡ true
    → let b = held_bound_numbers (bound.Number (record { value = z; writer = w })) ++ l in bound_in (b at 0) (b at 1) (b at 2) ≡ bound.Number (record { value = z; writer = w })
unfolding figure_of
number_again (pos n) w l h = let k = lt-ltb n size_room (omega (arith, small_size (pos n) h)) in rw k refl
number_again (negsuc n) w l h = let k = lt-ltb (suc n) size_room (omega (arith, small_size (negsuc n) h)) in
    rw k (ap (λ (z : ℤ). bound.Number (record { value = z; writer = w })) (minus_is n))

bound_again : (h : HeldBound) (l : List ℕ) → small_bound h ≡ true → bound_in ((held_bound_numbers h ++ l) at 0) ((held_bound_numbers h ++ l) at 1) ((held_bound_numbers h ++ l) at 2) ≡ h
bound_again bound.Nothing l s = refl
bound_again (bound.Number n) l s = number_again n.value n.writer l s
bound_again (bound.Never n) l s = refl

held_of : (c : Option CostBy) (b : HeldBound) (l : List ℕ) → small_bound b ≡ true → (x y : ℕ)
    → held_in (x ∷ y ∷ (cost_numbers c ++ (held_bound_numbers b ++ l))) ≡ record { cost = c; bound = b }
held_of None b l s x y = ap (λ (h : HeldBound). record { cost = None; bound = h }) (bound_again b l s)
held_of (Some n) b l s x y = ap (λ (h : HeldBound). record { cost = Some n; bound = h }) (bound_again b l s)

-- ---- the whole

module _ (d : Docket) (F : Fits d) (v w : List ℕ) where
  -- the numbers, part after part
  after : List ℕ
  after = drop (length (state_numbers d)) v

  tail : List ℕ
  tail = laid_out d.problem ++ after

  parts : kept_numbers d v ≡ head d ++ (cost_numbers d.held.cost ++ (held_bound_numbers d.held.bound ++ tail))
  unfolding kept_numbers state_numbers after tail
  parts =
      append_assoc (eight d) (laid_out d.problem) after
      ∙ append_assoc (five d) (held_bound_numbers d.held.bound) tail
      ∙ append_assoc (head d) (cost_numbers d.held.cost) (held_bound_numbers d.held.bound ++ tail)

  from_eight : drop 8 (kept_numbers d v) ≡ tail
  unfolding kept_numbers state_numbers after tail
  from_eight = ap (drop 8) (append_assoc (eight d) (laid_out d.problem) after) ∙ drop_at (eight d) tail 8 (eight_long d)

  known_again : (k : Bool) → not (eqb (cond k 1 0) 0) ≡ k
  known_again true = refl
  known_again false = refl

  problem_is : problem_in (drop 8 (kept_numbers d v)) ≡ d.problem
  unfolding tail
  problem_is = ap problem_in from_eight ∙ problem_again d.problem F.demand_long F.spare_long F.units_long after

  rows_are : take 1536 (kept_rows d w) ≡ d.rows
  unfolding kept_rows
  rows_are = take_at d.rows (drop (length d.rows) w) 1536 F.rows_long

  held_is : held_in (kept_numbers d v) ≡ d.held
  held_is = rw parts (held_of d.held.cost d.held.bound tail F.bound_small layout_mark (cond d.known 1 0))

  pub docket_again : docket_in (kept_numbers d v) (kept_rows d w) ≡ d
  unfolding docket_in
  docket_again = rw (problem_is, rows_are, held_is, parts) (ap (λ (k : Bool). record { known = k; problem = d.problem; held = d.held; rows = d.rows }) (known_again d.known))
