-- (15) as printed is its sentence and a surcharge: its sum, one short, is 0 already where the downtime is TD + Tcold. So each start past
-- period TD + Tcold after exactly TD + Tcold periods off costs Csc in place of Hsc, and nothing else costs more.
use mathlib.Core.Path.{◌≡◌, refl, sym, ◌∙◌, ap, ap₂, subst}
use mathlib.Core.Bool.{Bool, true, false, not, cond, ◌&&◌}
use mathlib.Core.List.{List, [], ◌∷◌}
use Prim.Native.Nat.{ℕ, zero, suc, ◌+◌, ◌*◌, ◌-◌, ◌≤◌, ◌<◌}
use native.Mathlib.Omega.{arith}
use lib.Dec.{T, leb, ltb, eqb, leb→le, nleb→lt, ltb→lt, nltb→le, eqb→eq, eqb_refl}
use lib.ListN.{length}
use Rattle.model.specs.declared.generator.Generator.{Generator}
use Rattle.model.specs.Instance.{Instance, Schedule, sum_units}
use Rattle.model.specs.Ranges.{WellFormed}
use Rattle.model.specs.Rules.{MeetsPrinted}
use Rattle.model.specs.Cost.{row_cost, cost}
use Rattle.model.proofs.Sums.{sum_add}
use Rattle.source.specs.Source.{Bits, Σ₁, Σᵢ, nth, from, downtime, Printed15, Sentence15, Charges, term, u_row, p_of}
use Rattle.source.specs.Sentences.{starting, start_cost, stop_cost, too_soon, surcharge, printed_cost, surcharges}
use Rattle.source.specs.Least.{LeastWith}
use Rattle.source.proofs.Indices.{Σ₁_same, Shape}
use Rattle.source.proofs.Downtime.{prev_off, sum15}
use Rattle.source.proofs.Charges.{charges_map, cold_if, charges_allowed, start_below, downtime_same, from_same, start_same}
use Rattle.source.proofs.Objective.{LeastStart, unit_value}
use Rattle.source.proofs.CostOfRows.{row_value, value_is, least_is}

-- it asks no less than its sentence
pub printed→sentence : (n : ℕ) (g : Generator) (u cu : ℕ → ℕ) → Printed15 n g u cu → Sentence15 n g u cu
printed→sentence n g u cu H t l m e h = omega (arith, rw (e, (sum15 g u t l).1 (omega arith)) at (H t l m))

-- ---- the surcharged costs satisfy it

-- a start past TD + Tcold after TD + Tcold periods off or more
soon_le : (g : Generator) → g.Hsc ≤ g.Csc → (t v d w : ℕ) → v ≡ 0 → w ≡ 1 → g.TD + g.Tcold < t → g.TD + g.Tcold ≤ d
    → g.Csc ≤ starting g v d w + too_soon g t v d w * (g.Csc - g.Hsc)
soon_le g H t v d w e f l h =
    rw (e, f) (go (leb d N) (ltb N t) (eqb d N) (λ c. leb→le d N c) (λ c. nltb→le N t c) (λ k. subst (λ (z : ℕ). T (eqb z N)) (sym k) (eqb_refl N)))
  where
    N : ℕ
    N = g.TD + g.Tcold

    go : (a b c : Bool) → (T a → d ≤ N) → (T (not b) → t ≤ N) → (d ≡ N → T c)
        → g.Csc ≤ cond a g.Hsc g.Csc + cond (b && c) 1 0 * (g.Csc - g.Hsc)
    go false b c i j k = omega arith
    go true false c i j k = absurd (omega (arith, j tt))
    go true true true i j k = omega arith
    go true true false i j k = let q : d ≤ N = i tt in absurd (k (omega arith))

module _ (n : ℕ) (g : Generator) (u : ℕ → ℕ) (H : g.Hsc ≤ g.Csc) (D : 1 ≤ g.TD) (bits : Bits n u) where
  printed_15 : (t : ℕ) → g.TD + g.Tcold < t → u t ≡ 1 → g.TD + g.Tcold ≤ downtime g u t → g.Csc ≤ printed_cost g u t
  printed_15 zero l e h = absurd (omega arith)
  printed_15 (suc t) l e h = soon_le g H (suc t) (from g u t) (downtime g u (suc t)) (u (suc t)) (prev_off g u t (omega arith)) e l h

  pub printed_allowed : Charges Printed15 n g u (printed_cost g u) (stop_cost g u)
  printed_allowed = let C = charges_allowed n g u H bits in record {
    eq13 = λ t l m. omega (arith, C.eq13 t l m);
    eq14 = λ h l. omega (arith, C.eq14 h l);
    eq15 = λ t l m. cold_if (u t) (Σ₁ (g.TD + g.Tcold) (λ j. u (t - j))) g.Csc (printed_cost g u t) (bits t (omega arith) m)
        (λ e f. printed_15 t l e ((sum15 g u t l).0 f));
    eq16 = λ h t l r k m. omega (arith, C.eq16 h t l r k m);
    eq18 = C.eq18;
    eq19 = C.eq19;
  }

-- ---- and nothing smaller does

pub printed_below : (n : ℕ) (g : Generator) (u cu cd : ℕ → ℕ) → 1 ≤ g.since → Bits n u → Charges Printed15 n g u cu cd
    → (t : ℕ) → 1 ≤ t → t ≤ n → printed_cost g u t ≤ cu t
printed_below n g u cu cd f bits K zero l m = absurd (omega arith)
printed_below n g u cu cd f bits K (suc t) l m = go (from g u t) (u (suc t)) refl refl low
  where
    N : ℕ
    N = g.TD + g.Tcold

    d : ℕ
    d = downtime g u (suc t)

    low : starting g (from g u t) d (u (suc t)) ≤ cu (suc t)
    low = start_below n g u cu cd (charges_map Printed15 Sentence15 n g u cu cd (printed→sentence n g u cu) K) f bits (suc t) l m

    cold : u (suc t) ≡ 1 → N < suc t → d ≡ N → g.Csc ≤ cu (suc t)
    cold e k q = omega (arith, rw (e, (sum15 g u (suc t) k).1 (omega arith)) at (K.eq15 (suc t) k m))

    start : (a b c : Bool) → (T (not a) → N < d) → (T b → N < suc t) → (T c → d ≡ N) → u (suc t) ≡ 1 → cond a g.Hsc g.Csc ≤ cu (suc t)
        → cond a g.Hsc g.Csc + cond (b && c) 1 0 * (g.Csc - g.Hsc) ≤ cu (suc t)
    start a false c i j k e h = omega arith
    start a true false i j k e h = omega arith
    start true true true i j k e h = omega (arith, cold e (j tt) (k tt))
    start false true true i j k e h = absurd (omega (arith, i tt, k tt))

    go : (v w : ℕ) → from g u t ≡ v → u (suc t) ≡ w → starting g (from g u t) d (u (suc t)) ≤ cu (suc t)
        → starting g v d w + too_soon g (suc t) v d w * (g.Csc - g.Hsc) ≤ cu (suc t)
    go v zero e i h = omega arith
    go (suc v) (suc w) e i h = omega arith
    go zero (suc (suc w)) e i h = absurd (omega (arith, bits (suc t) l m))
    go zero (suc zero) e i h =
        start (leb d N) (ltb N (suc t)) (eqb d N) (λ c. nleb→lt d N c) (λ c. ltb→lt N (suc t) c) (λ c. eqb→eq d N c) i (rw (e, i) at h)

printed_same : (n : ℕ) (g : Generator) (u v : ℕ → ℕ) → ((t : ℕ) → 1 ≤ t → t ≤ n → u t ≡ v t) → (t : ℕ) → 1 ≤ t → t ≤ n
    → printed_cost g u t ≡ printed_cost g v t
printed_same n g u v e zero l m = refl
printed_same n g u v e (suc t) l m =
    ap₂ ◌+◌ (start_same g n u v e (suc t) l m) (rw (from_same g n u v e t (omega arith), downtime_same g n u v e t (omega arith), e (suc t) l m))

pub printed_least : LeastStart Printed15 printed_cost
printed_least = record {
  allowed = λ n g u R bits. printed_allowed n g u R.hot_cold R.down bits;
  below = λ n g u cu cd R bits C. printed_below n g u cu cd R.started bits C;
  same = printed_same;
}

-- ---- of a schedule

row_printed : (n : ℕ) (g : Generator) (r : List ℕ) → length r ≡ n → unit_value printed_cost n g (nth r) ≡ row_cost n g r + Σ₁ n (surcharge g (u_row r))
row_printed n g r e =
    Σ₁_same n (λ t. term g (u_row r t) (nth r t) (printed_cost g (u_row r) t) (stop_cost g (u_row r) t)) (λ t. v t + surcharge g (u_row r) t)
    (λ t l m. omega arith)
    ∙ sym (sum_add n (λ t. v (suc t)) (λ t. surcharge g (u_row r) (suc t)))
    ∙ ap (λ (k : ℕ). k + Σ₁ n (surcharge g (u_row r))) (row_value n g r e)
  where
    v : ℕ → ℕ
    v t = term g (u_row r t) (nth r t) (start_cost g (u_row r) t) (stop_cost g (u_row r) t)

units_add : (F F' : Generator → List ℕ → ℕ) (gs : List Generator) (s : Schedule)
    → sum_units (λ g r. F g r + F' g r) gs s ≡ sum_units F gs s + sum_units F' gs s
units_add F F' [] s = refl
units_add F F' (g ∷ gs) [] = refl
units_add F F' (g ∷ gs) (r ∷ s) = omega (arith, units_add F F' gs s)

pub printed_value : (P : Instance) (s : Schedule) → Shape P s
    → Σᵢ (λ i g. unit_value printed_cost P.periods g (p_of s i)) P.units ≡ cost P s + surcharges P s
unfolding cost surcharges
printed_value P s w =
    value_is printed_cost (λ g r. row_cost P.periods g r + Σ₁ P.periods (surcharge g (u_row r))) P s w (row_printed P.periods)
    ∙ units_add (row_cost P.periods) (λ g r. Σ₁ P.periods (surcharge g (u_row r))) P.units s

-- with (15) as printed, the least objective with a schedule's outputs is its cost and its surcharges
pub printed_is_least : (P : Instance) → WellFormed P → (s : Schedule) → MeetsPrinted P s → LeastWith Printed15 P (p_of s) (cost P s + surcharges P s)
printed_is_least P = least_is Printed15 printed_cost printed_least P (λ s. cost P s + surcharges P s) (printed_value P)
