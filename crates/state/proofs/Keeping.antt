-- The four parts of a state's numbers, stored one after the other from the front, are the state's.
use Rattle.std.specs.Prelude.{None, Option, Some}
use mathlib.Core.Path.{◌≡◌, refl, ap, ◌∙◌}
use mathlib.Core.Bool.{Bool, true, false, cond}
use mir.Val.{bool_byte}
use mathlib.Core.List.{List, [], ◌++◌}
use Prim.Native.Nat.{ℕ}
use native.Mathlib.Omega.{arith}
use lib.ListN.{length, length-append}
use lib.Seq.{paste}
use Rattle.layout.specs.Numbers.{laid_out}
use Rattle.writer.specs.Written.{figure_of}
use Rattle.writer.specs.declared.Figure.{Figure}
use Rattle.writer.specs.declared.Figure.TheVariants.{Missing, Never, Number, Minus}
use Rattle.layout.proofs.Fronts.{front, front_more}
use Rattle.docket.specs.declared.Docket.{Docket}
use Rattle.docket.specs.declared.held.CostBy.{CostBy}
use Rattle.docket.specs.declared.held.HeldBound.{HeldBound}
use Rattle.docket.specs.declared.held.HeldBound.TheVariants as bound
use Rattle.state.specs.Layout.{head, cost_numbers, figure_numbers, held_bound_numbers, state_numbers}
use Rattle.state.specs.Kept.{kept_numbers}

pub cost_long : (h : Option CostBy) → length (cost_numbers h) ≡ 3
cost_long None = refl
cost_long (Some n) = refl

value_long : (f : Figure) (w : ℕ) → length (figure_numbers f w) ≡ 3
value_long Missing w = refl
value_long Never w = refl
value_long (Number n) w = refl
value_long (Minus n) w = refl

pub bound_long : (h : HeldBound) → length (held_bound_numbers h) ≡ 3
bound_long bound.Nothing = refl
bound_long (bound.Number n) = value_long (figure_of n.value) n.writer
bound_long (bound.Never n) = refl

module _ (d : Docket) where
  abbrev pub five : List ℕ
  five = head d ++ cost_numbers d.held.cost

  abbrev pub eight : List ℕ
  eight = five ++ held_bound_numbers d.held.bound

  pub five_long : length five ≡ 5
  five_long = omega (arith, length-append (head d) (cost_numbers d.held.cost), cost_long d.held.cost)

  pub eight_long : length eight ≡ 8
  eight_long = omega (arith, five_long, length-append five (held_bound_numbers d.held.bound), bound_long d.held.bound)

  pub stored_all : (v h c b p x y z u : List ℕ) → h ≡ head d → c ≡ cost_numbers d.held.cost → b ≡ held_bound_numbers d.held.bound → p ≡ laid_out d.problem
      → x ≡ paste v 0 h (length h) → y ≡ paste x 2 c (length c) → z ≡ paste y 5 b (length b) → u ≡ paste z 8 p (length p) → u ≡ kept_numbers d v
  unfolding kept_numbers state_numbers
  stored_all v h c b p x y z u eh ec eb ep ex ey ez eu =
      let fx : x ≡ front (head d) v = ex ∙ ap (λ (l : List ℕ). paste v 0 l (length l)) eh ∙ front_more [] v v (head d) 0 refl refl in
      let fy : y ≡ front five v = ey ∙ ap (λ (l : List ℕ). paste x 2 l (length l)) ec ∙ front_more (head d) v x (cost_numbers d.held.cost) 2 fx refl in
      let fz : z ≡ front eight v = ez ∙ ap (λ (l : List ℕ). paste y 5 l (length l)) eb ∙ front_more five v y (held_bound_numbers d.held.bound) 5 fy five_long in
      eu ∙ ap (λ (l : List ℕ). paste z 8 l (length l)) ep ∙ front_more eight v z (laid_out d.problem) 8 fz eight_long

pub known_byte : (b : Bool) → bool_byte b ≡ cond b 1 0
known_byte true = refl
known_byte false = refl
