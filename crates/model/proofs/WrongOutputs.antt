-- Document 01, Wrong turns: outputs that are not the best one, computed. Each stands beside the unit's least value over all
-- rows, for one period and a unit that may as well be off.
use mathlib.Core.Path.{◌≡◌, refl}
use mathlib.Core.Bool.{true}
use mathlib.Core.List.{[], ◌∷◌}
use Prim.Native.Nat.{ℕ, ◌*◌, ◌-◌, ◌/◌, min, max}
use native.Mathlib.Omega.{arith}
use lib.Dec.{T}
use lib.IntN.{ℤ, pos, negsuc}
use lib.Signed.{lt_z}
use Rattle.model.specs.declared.generator.Generator.{Generator}
use Rattle.model.specs.Ranges.{GoodUnit, in_range, costs_in_range, outputs_in_range, times_in_range, midnight_ordered, ordered}
use Rattle.model.specs.Rules.{Within}
use Rattle.model.specs.Cost.{row_cost}
use Rattle.model.specs.Above.{free}
use Rattle.model.specs.Leaf.{revenue, value, unit_least}
use Rattle.model.specs.Walk.{plus, lesser, back, walk}
use Rattle.model.specs.Prices.{on_value, best_at, best_output, price_walk, offset}
use Rattle.model.proofs.RangeTests.{good_unit}
use Rattle.model.proofs.PriceWalks.{unit_least_is}

-- a unit with these costs and limits, on before, whose stop costs nothing
abbrev unit : ℕ → ℕ → ℕ → ℕ → Generator
unit b c pL pU = record { a = 0; b = b; c = c; pL = pL; pU = pU; TU = 1; TD = 1; on = true; since = 1; DR = 1; UR = 1; Hsc = 0; Csc = 0; Tcold = 0; Dc = 0; p0 = pL }

-- q - b divided by 2c, rounded down
abbrev vertex : Generator → ℕ → ℕ
vertex g q = (q - g.b) / (2 * g.c)

abbrev brought_back : Generator → ℕ → ℕ
brought_back g p = max g.pL (min g.pU p)

-- one period on at p, and the least, at the price q
abbrev at_output : Generator → ℕ → ℕ → ℤ
at_output g q p = value 1 (λ t. q) (λ t. 0) g (p ∷ [])

abbrev least_at : Generator → ℕ → ℤ
least_at g q = unit_least 1 (λ t. q) (λ t. 0) g (λ t. free)

-- ---- rounded down, without the next one up: 1, which gives -5; the next one, 2, gives -6

abbrev curved : Generator
curved = unit 1 2 1 50

curved_good : GoodUnit curved
unfolding in_range costs_in_range outputs_in_range times_in_range ordered midnight_ordered
curved_good = good_unit curved tt tt

curved_least : least_at curved 8 ≡ negsuc 5
unfolding price_walk offset walk back plus lesser on_value best_at
curved_least = unit_least_is 1 (λ t. 8) (λ t. 0) curved curved_good (λ t. free) 394 refl

pub best_curved : best_output curved 8 ≡ 2
unfolding best_at
best_curved = refl

pub rounded_down : T (lt_z (least_at curved 8) (at_output curved 8 (brought_back curved (vertex curved 8))))
unfolding value row_cost revenue
rounded_down = rw curved_least tt

-- ---- not brought back to pL .. pU: below pL neither 2 nor the next one up is allowed by (4), and above pU neither 249 nor 250;
-- each would give less than any row does

abbrev high_start : Generator
high_start = unit 1 2 4 50

high_start_good : GoodUnit high_start
unfolding in_range costs_in_range outputs_in_range times_in_range ordered midnight_ordered
high_start_good = good_unit high_start tt tt

high_start_least : least_at high_start 9 ≡ pos 0
unfolding price_walk offset walk back plus lesser on_value best_at
high_start_least = unit_least_is 1 (λ t. 9) (λ t. 0) high_start high_start_good (λ t. free) 450 refl

pub below_pL : T (lt_z (at_output high_start 9 (vertex high_start 9)) (least_at high_start 9)) × (Within high_start (vertex high_start 9) → ⊥)
unfolding value row_cost revenue
below_pL = (rw high_start_least tt, λ w. omega (arith, w tt))

curved_dear : least_at curved 1000 ≡ negsuc 44949
unfolding price_walk offset walk back plus lesser on_value best_at
curved_dear = unit_least_is 1 (λ t. 1000) (λ t. 0) curved curved_good (λ t. free) 5050 refl

-- brought back to pU
pub best_dear : best_output curved 1000 ≡ 50
unfolding best_at
best_dear = refl

pub above_pU : T (lt_z (at_output curved 1000 (vertex curved 1000)) (least_at curved 1000)) × (Within curved (vertex curved 1000) → ⊥)
unfolding value row_cost revenue
above_pU = (rw curved_dear tt, λ w. omega (arith, w tt))

-- ---- with c = 0: a quotient by 0 is 0 here, brought back to 20, which gives -200; 80 gives -800

abbrev flat : Generator
flat = unit 10 0 20 80

flat_good : GoodUnit flat
unfolding in_range costs_in_range outputs_in_range times_in_range ordered midnight_ordered
flat_good = good_unit flat tt tt

flat_least : least_at flat 20 ≡ negsuc 799
unfolding price_walk offset walk back plus lesser on_value best_at
flat_least = unit_least_is 1 (λ t. 20) (λ t. 0) flat flat_good (λ t. free) 800 refl

pub best_flat : best_output flat 20 ≡ 80
unfolding best_at
best_flat = refl

pub divided_by_zero : T (lt_z (least_at flat 20) (at_output flat 20 (brought_back flat (vertex flat 20))))
unfolding value row_cost revenue
divided_by_zero = rw flat_least tt
