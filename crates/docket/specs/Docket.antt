-- Document 01, The docket and its report: what a docket holds.
use Rattle.std.specs.Prelude.{Bool, true, false, ◌&&◌, ℕ, ltb, ℤ, pos, negsuc, replicate, None, Option, Some}
use Rattle.std.specs.Int.Signed.{lt_z}
use Rattle.model.specs.declared.arrays.Problem.{Problem}
use Rattle.model.specs.Held.{blank_problem, valid_problem}
use Rattle.docket.specs.declared.Docket.{Docket}
use Rattle.docket.specs.declared.held.Held.{Held}
use Rattle.docket.specs.declared.held.CostBy.{CostBy}
use Rattle.docket.specs.declared.held.HeldBound.{HeldBound}
use Rattle.docket.specs.declared.held.HeldBound.TheVariants as bound

-- a cost with its writer, or none
abbrev pub HeldCost : Type 0
HeldCost = Option CostBy

abbrev pub nothing_held : Held
nothing_held = record { cost = None; bound = bound.Nothing }

-- a fresh docket holds nothing
abbrev pub fresh_docket : Docket
fresh_docket = record { known = false; problem = blank_problem; held = nothing_held; rows = replicate 1536 0 }

-- ---- a test of a value of the struct, which carries no promise of its own: every docket that lodging makes passes

-- 2^61: a sum or difference of two such figures fits an i64
abbrev pub size_limit : ℕ
size_limit = 2305843009213693952

-- above -2^61 - 1 and below 2^61
abbrev pub small_number : ℤ → Bool
small_number z = lt_z (negsuc size_limit) z && lt_z z (pos size_limit)

abbrev pub small_cost : Option CostBy → Bool
small_cost None = true
small_cost (Some n) = ltb n.cost size_limit

abbrev pub small_bound : HeldBound → Bool
small_bound bound.Nothing = true
small_bound (bound.Number n) = small_number n.value
small_bound (bound.Never n) = true

abbrev pub no_cost : Option CostBy → Bool
no_cost None = true
no_cost (Some n) = false

abbrev pub no_bound : HeldBound → Bool
no_bound bound.Nothing = true
no_bound (bound.Number n) = false
no_bound (bound.Never n) = false

-- under a known problem, which is valid, the figures are small; where none is known nothing is held
abbrev pub sound_by : Bool → Problem → Held → Bool
sound_by true p h = valid_problem p && (small_cost h.cost && small_bound h.bound)
sound_by false p h = no_cost h.cost && no_bound h.bound

unfoldable pub sound : Docket → Bool
sound d = sound_by d.known d.problem d.held
