-- What the ranges of document 01, and those of p0, are for: each law that uses one has, without it, a counterexample that keeps the others.
use mathlib.Core.Path.{◌≡◌, refl}
use mathlib.Core.Bool.{Bool, true, false, not}
use mathlib.Core.List.{List, [], ◌∷◌}
use Prim.Native.Nat.{ℕ, zero, suc, ◌*◌, ◌≤◌, ◌<◌}
use native.Mathlib.Omega.{arith}
use lib.Dec.{T, lit<, lit≤}
use lib.ListN.{length}
use lib.IntN.{pos}
use lib.Signed.{◌<ℤ◌}
use Rattle.model.specs.declared.generator.Generator.{Generator}
use Rattle.model.specs.Instance.{Tini, ◌at◌}
use Rattle.model.specs.Rules.{on, if_on, statuses, Within, keeps, Row, FirstRamp}
use Rattle.source.specs.Source.{nth, Letter, Bits, UnitSource, u_row, Printed15, Sentence15, Charges}
use Rattle.source.specs.Midnight.{UnitMidnight}
use Rattle.source.specs.Sentences.{start_cost, stop_cost, printed_cost}
use Rattle.source.proofs.Ranged.{Ranged, RangedMidnight}
use Rattle.source.proofs.Rows.{source→row, source_status, source_same}
use Rattle.source.proofs.Midnight.{ramp→midnight}

-- ---- pL from 1 and Tini not 0 (refusal 13): that outputs which solve (4) to (12) are a row of the model

abbrev RowsOf : (Generator → Type 0) → Type 0
RowsOf Q = (n : ℕ) (g : Generator) (u : ℕ → ℕ) (r : List ℕ) → Q g → length r ≡ n → UnitSource n g u (nth r) → Row n g r

pub ranged_rows : RowsOf Ranged
ranged_rows n g u r R e S =
    source→row n g r R.started e (source_same n g u (u_row r) (source_status n g u (nth r) R S) (nth r) (nth r) (λ t l m. refl) S)

-- TU = 2, TD + Tcold = TD, and p0 as given ..
abbrev midnight_unit : ℕ → ℕ → Bool → ℕ → ℕ → ℕ → ℕ → Generator
midnight_unit l d b k h c p0 =
    record { a = 7; b = 1; c = 0; pL = l; pU = 9; TU = 2; TD = d; on = b; since = k; DR = 9; UR = 9; Hsc = h; Csc = c; Tcold = 0; Dc = 0; p0 = p0 }

-- .. or as refusal 15 leaves it
abbrev unit : ℕ → ℕ → Bool → ℕ → ℕ → ℕ → Generator
unit l d b k h c = midnight_unit l d b k h c (if_on b 5)

-- one period of output 0, with a constant status, after no time off
idle_source : (g : Generator) (v : ℕ) → v ≤ 1 → v * g.pL ≤ 0 → (Tini g <ℤ pos 0 → ⊥) → (pos 0 <ℤ Tini g → v ≡ 1)
    → UnitSource 1 g (λ t. v) (nth (0 ∷ []))
idle_source g v b l f h = record {
  eq4 = λ t i m. (omega (arith, none t), omega (arith, none t));
  eq5_10 = record {
    eq5 = λ k t i j m. absurd (f k);
    eq6 = λ k t i j m. h k;
    eq7 = λ t i m j k e q. absurd (omega arith);
    eq8 = λ k j i e q. absurd (f k);
    eq9 = λ t i m j k e q. absurd (omega arith);
    eq10 = λ k j i e q. absurd (omega arith);
  };
  eq11 = λ t i m. absurd (omega arith);
  eq12 = λ t i m. absurd (omega arith);
  eq22 = λ t i m. b;
}
  where
    none : (t : ℕ) → nth (0 ∷ []) t ≡ 0
    none zero = refl
    none (suc zero) = refl
    none (suc (suc t)) = refl

-- with Tini = 0 the paper asks nothing of period 1, whatever went before
pub started_needed : RowsOf (λ g. (1 ≤ g.pL) × (1 ≤ g.TD) × (g.Hsc ≤ g.Csc)) → ⊥
started_needed f =
    let g = unit 1 1 true 0 10 20 in
    (f 1 g (λ t. 0) (0 ∷ []) (lit≤ tt, lit≤ tt, lit≤ tt) refl (idle_source g 0 (lit≤ tt) (omega arith) (λ h. h.lt) (λ h. absurd h.lt))).updown

-- with pL = 0 a unit may be on at output 0, and the outputs do not tell the statuses: this one has to stay on
pub low_needed : RowsOf (λ g. (1 ≤ g.since) × (1 ≤ g.TD) × (g.Hsc ≤ g.Csc)) → ⊥
low_needed f =
    let g = unit 0 1 true 1 10 20 in
    (f 1 g (λ t. 1) (0 ∷ []) (lit≤ tt, lit≤ tt, lit≤ tt) refl (idle_source g 1 (lit≤ tt) (omega arith) (λ h. h.lt) (λ h. refl))).updown

-- ---- Hsc at most Csc (refusal 15): that the costs of the paper's words satisfy (13) to (20). (14) has Hsc for a start that costs Csc

pub hot_cold_needed : ((n : ℕ) (g : Generator) (u : ℕ → ℕ) → (1 ≤ g.since) × (1 ≤ g.pL) × (1 ≤ g.TD) → Bits n u
    → Charges Sentence15 n g u (start_cost g u) (stop_cost g u)) → ⊥
hot_cold_needed f =
    let C = f 1 (unit 1 1 false 5 20 10) (λ t. 1) (lit≤ tt, lit≤ tt, lit≤ tt) (λ t l m. lit≤ tt) in
    omega (arith, C.eq14 (record { lt = tt }) (lit≤ tt))

-- ---- TD from 1 (refusal 13): that (15) as printed charges starts alone. With TD + Tcold = 0 its sum is empty, and it has Csc for every period on

pub down_needed : ((n : ℕ) (g : Generator) (u : ℕ → ℕ) → (1 ≤ g.since) × (1 ≤ g.pL) × (g.Hsc ≤ g.Csc) → Bits n u
    → Charges Printed15 n g u (printed_cost g u) (stop_cost g u)) → ⊥
down_needed f =
    let C = f 1 (unit 1 0 true 1 10 20) (λ t. 1) (lit≤ tt, lit≤ tt, lit≤ tt) (λ t l m. lit≤ tt) in
    omega (arith, C.eq15 1 (lit< tt) (lit≤ tt))

-- ---- p0 at most pU after periods on, 0 after periods off (refusal 15): that a row which keeps the ramp of period 1 solves (11) and (12) at t = 1

abbrev FirstOf : (Generator → Type 0) → Type 0
FirstOf Q = (n : ℕ) (g : Generator) (r : List ℕ) → Q g → Row n g r → FirstRamp g r → UnitMidnight n g (u_row r) (nth r)

pub ranged_first : FirstOf RangedMidnight
ranged_first n g r M R f = ramp→midnight n g r M (λ l. R.limits 0 l) f

one_row : (g : Generator) (p : ℕ) → Within g p → T (keeps g g.on g.since (on p ∷ [])) → Row 1 g (p ∷ [])
one_row g p w k = record { long = refl; limits = limits; updown = k; ramps = λ t m. absurd (omega arith) }
  where
    limits : (t : ℕ) → t < 1 → Within g ((p ∷ []) at t)
    limits zero m = w
    limits (suc t) m = absurd (omega arith)

-- on or off for two periods before period 1, and in the other ranges whatever p0 is
abbrev at_midnight : Bool → ℕ → Generator
at_midnight b p0 = midnight_unit 1 1 b 2 10 20 p0

at_midnight_ranged : (b : Bool) (p0 : ℕ) → Ranged (at_midnight b p0)
at_midnight_ranged b p0 = record { started = lit≤ tt; low = lit≤ tt; down = lit≤ tt; hot_cold = lit≤ tt }

-- pU = DR = 9: from 19 the printed (11) would not let a unit go off
pub most_needed : FirstOf (λ g. Ranged g × (T (not g.on) → g.p0 ≡ 0)) → ⊥
most_needed f =
    let g = at_midnight true 19 in
    omega (arith, (f 1 g (0 ∷ []) (at_midnight_ranged true 19, λ t. absurd t) (one_row g 0 (λ t. absurd t) tt) (λ t t'. absurd t')).eq11 (lit≤ tt))

-- a unit that was off, and gave 5: (11) has no DR for it, and would not let it begin below 5
pub none_needed : FirstOf (λ g. Ranged g × (T g.on → g.p0 ≤ g.pU)) → ⊥
none_needed f =
    let g = at_midnight false 5 in
    let R = one_row g 1 (λ t. (lit≤ tt, lit≤ tt)) tt in
    omega (arith, (f 1 g (1 ∷ []) (at_midnight_ranged false 5, λ t. absurd t) R (λ t. absurd t)).eq11 (lit≤ tt))

-- ---- past T: a start in the last period, with TU = 2. The model permits it ..

pub late_keeps : T (keeps (unit 1 1 false 5 10 20) false 5 (statuses (5 ∷ [])))
late_keeps = tt

-- .. and (8) to the letter forbids it, if a status past T counts as 0
pub zero_past : Letter 1 (unit 1 1 false 5 10 20) (u_row (5 ∷ [])) → ⊥
zero_past L = omega (arith, L.eq8 (record { lt = tt }) 1 (lit≤ tt) (lit≤ tt) tt)
