-- The tests of one line of a tree by what stands above it, in document 01's order, as the code follows them.
use Rattle.std.specs.Prelude.{Bool, true, false, not, cond, ◌&&◌, List, [], ◌∷◌, ℕ, suc, ◌+◌, pred, eqb, ltb, length}
use Rattle.std.proofs.Math.Option.{Option, none, some}
use Rattle.model.specs.Instance.{Instance, ◌at◌}
use Rattle.model.specs.Above.{Mark, free, fixed, Above}
use Rattle.model.specs.Leaf.{available, stuck_at, any_stuck}
use Rattle.model.specs.Tree.{ramped}
use Rattle.leaves.specs.LeafLeasts.{crowd_at}
use Rattle.text.specs.Lines.{Line, bytes_of, begins}
use Rattle.text.specs.Forms.{Form, numbers_of, form_tests}
use Rattle.text.specs.Tests.{Test, ◌if◌}
use Rattle.tree.specs.Rendering.{split_key, count_key, short_key, crowd_key, stuck_key, rampprice_key}
use Rattle.tree.specs.Places.{Part, priced, ramp_priced, with_steps, with_ups}
use Rattle.tree.specs.Refusals.{LineKind, split_line, count_line, short_line, crowd_line, stuck_line, price_line, ramp_line, node_form, part_form}

-- ---- what a line is due to be

-- the keys of node lines but the last, each with its kind
abbrev pub node_keys : List (List ℕ × LineKind)
node_keys = (split_key, split_line) ∷ (count_key, count_line) ∷ (short_key, short_line) ∷ (crowd_key, crowd_line) ∷ (stuck_key, stuck_line) ∷ (rampprice_key, ramp_line) ∷ []

-- the kind whose key these bytes begin with; bytes with no node's key are no price line either
abbrev pub kind_among : List (List ℕ × LineKind) → List ℕ → LineKind
kind_among [] b = price_line
kind_among (k ∷ ks) b = cond (begins k.0 b) k.1 (kind_among ks b)

unfoldable pub line_kind_of : Line → LineKind
line_kind_of l = kind_among node_keys (bytes_of l)

-- a unit or a period that a line names, from 0
abbrev pub named : Form → Line → ℕ → ℕ
named f l i = pred (numbers_of f l at i)

-- the count that a line has after its period
abbrev pub counted : Form → Line → ℕ
counted f l = numbers_of f l at 1

-- ---- the tests that a kind of node line has after those of its form, in document 01's order; d is its depth, and A stands above it

abbrev pub is_fixed : Mark → Bool
is_fixed free = false
is_fixed (fixed b) = true

abbrev pub below_most : ℕ → Option ℕ → Bool
below_most K none = true
below_most K (some H) = ltb K H

-- whether K is not below the lower count and below the upper
abbrev pub narrows : ℕ → Option ℕ → ℕ → Bool
narrows low high K = not (ltb K low) && below_most K high

unfoldable pub kind_tests : Instance → Above → ℕ → LineKind → Line → List Test
-- 31: a split on a status that is fixed already; 32: a split deeper than 63
kind_tests P A d split_line l =
    let f = node_form P split_line in
    31 if is_fixed (A.marks (named f l 0) (named f l 1)) ∷ 32 if ltb 63 d ∷ []
-- 32 likewise; 37: a count that is no narrower than those that stand
kind_tests P A d count_line l =
    let f = node_form P count_line in
    32 if ltb 63 d ∷ 37 if not (narrows (A.least (named f l 0)) (A.most (named f l 0)) (counted f l)) ∷ []
-- 33: what is available reaches D + R
kind_tests P A d short_line l =
    let t = named (node_form P short_line) l 0 in
    33 if not (ltb (available P A t) (P.demand at t + P.spare at t)) ∷ []
-- 36: the units fixed on are no more than the upper count, and those not fixed off no fewer than the lower
kind_tests P A d crowd_line l = 36 if not (crowd_at P A (named (node_form P crowd_line) l 0)) ∷ []
-- 34: a run of the unit's statuses obeys and agrees
kind_tests P A d stuck_line l = 34 if not (stuck_at P.periods P.units A.marks (named (node_form P stuck_line) l 0)) ∷ []
kind_tests P A d price_line l = []
kind_tests P A d ramp_line l = []

abbrev pub node_tests : Instance → Above → ℕ → LineKind → Line → List Test
node_tests P A d k l = form_tests (node_form P k) l (kind_tests P A d k l)

-- ---- a later line of a leaf

-- whether it is the leaf's last: the reserve line, where no unit has lines of its own; else the down line of the last
abbrev pub is_last : Instance → Part → Bool
is_last P (priced q) = true
is_last P (ramp_priced q) = eqb (ramped P) 0
is_last P (with_steps q s l) = false
is_last P (with_ups q s l x) = eqb (ramped P) (suc (length l))

-- 35: at its last line a leaf is refused where a unit is stuck
unfoldable pub leaf_tests : Instance → Above → Part → List Test
leaf_tests P A p = 35 if (is_last P p && any_stuck P.periods P.units A.marks) ∷ []

abbrev pub part_tests : Instance → Above → Part → Line → List Test
part_tests P A p l = form_tests (part_form P p) l (leaf_tests P A p)
