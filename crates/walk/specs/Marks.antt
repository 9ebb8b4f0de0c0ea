-- What stands above a node (document 01, Rules for a leaf; document 02, [1]), as bytes. One for each status: 1 fixes off, 2 fixes on, any other
-- byte fixes nothing. Then one for each period's upper count and one for each period's lower count.
use Rattle.std.specs.Prelude.{Bool, true, false, cond, ◌&&◌, List, ℕ, zero, suc, ◌+◌, ◌*◌, eqb, ltb, leb, length}
use Rattle.std.proofs.Math.Option.{Option, none, some}
use Rattle.model.specs.Instance.{Instance, ◌at◌}
use Rattle.model.specs.Above.{Mark, free, fixed, Marks, Above}

-- a status that is asked about: 0 free, 1 fixed off, 2 fixed on
abbrev pub is_status : ℕ → Bool
is_status b = leb b 2

unfoldable pub mark_of : ℕ → Mark
mark_of x = cond (eqb x 1) (fixed false) (cond (eqb x 2) (fixed true) free)

-- one unit's marks, a byte for each period
abbrev pub marks_of : List ℕ → ℕ → Mark
marks_of bytes t = mark_of (bytes at t)

-- all units' marks: the n bytes of unit u begin at u·n
abbrev pub all_marks : ℕ → List ℕ → Marks
all_marks n bytes u t = mark_of (bytes at (u * n + t))

-- the marks that the bytes hold for I units in T periods; beyond these nothing is fixed
unfoldable pub marks_in : ℕ → ℕ → List ℕ → Marks
marks_in I T bytes u t = cond (ltb u I && ltb t T) (all_marks T bytes u t) free

-- where the upper counts begin, after the statuses of 32 units in 48 periods; where the lower ones do, 48 later; and how many bytes there are
abbrev pub upper_begin : ℕ
upper_begin = 1536

abbrev pub lower_begin : ℕ
lower_begin = 1584

abbrev pub above_length : ℕ
above_length = 1632

-- an upper count: 0 for none, else one more than the count
abbrev pub most_of : ℕ → Option ℕ
most_of zero = none
most_of (suc K) = some K

-- the counts that the bytes hold for T periods, a lower one as it is; beyond these none stands
unfoldable pub most_in : ℕ → List ℕ → ℕ → Option ℕ
most_in T bytes t = cond (ltb t T) (most_of (bytes at (upper_begin + t))) none

unfoldable pub least_in : ℕ → List ℕ → ℕ → ℕ
least_in T bytes t = cond (ltb t T) (bytes at (lower_begin + t)) 0

-- what stands above a node, as the bytes hold it for a problem
abbrev pub above_of : Instance → List ℕ → Above
above_of P bytes = record { marks = marks_in (length P.units) P.periods bytes; most = most_in P.periods bytes; least = least_in P.periods bytes }
