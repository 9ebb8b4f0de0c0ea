-- The ramp of period 1 is (11) and (12) as printed, read at t = 1: with the status before period 1 and p0 they are two outputs in a row, as
-- those of any other period. A unit off before is held by (4) alone, and one that goes off in period 1 by nothing.
use mathlib.Core.Path.{◌≡◌}
use mathlib.Core.Logic.{◌⊎◌, inl, inr, ◌↔◌}
use mathlib.Core.List.{List, []}
use Prim.Native.Nat.{ℕ, zero, suc, ◌+◌, ◌*◌, ◌≤◌}
use native.Mathlib.Omega.{arith}
use lib.ListN.{length, get_or}
use lib.IntN.{pos}
use lib.Signed.{◌<ℤ◌}
use Rattle.model.specs.declared.generator.Generator.{Generator}
use Rattle.model.specs.Instance.{Instance, Schedule, Tini, ◌at◌, Each}
use Rattle.model.specs.Ranges.{WellFormed, Shaped}
use Rattle.model.specs.Rules.{Within, FirstRamp, Meets}
use Rattle.model.specs.Cost.{cost}
use Rattle.model.proofs.Tests.{T_true}
use Rattle.source.specs.Source.{nth, UnitSource, Source, Printed15, Repaired15, Sentence15, u_row, p_of, u_of}
use Rattle.source.specs.Midnight.{UnitMidnight, FromMidnight, AllFromMidnight}
use Rattle.source.specs.Sentences.{start_cost, printed_cost, surcharges}
use Rattle.source.specs.Least.{LeastObjective, LeastCost}
use Rattle.source.proofs.Indices.{every_map, every_both, each→every, every→each, Shape, shape_of}
use Rattle.source.proofs.Ranged.{Ranged, formed→ranged, RangedMidnight, formed→midnight}
use Rattle.source.proofs.Before.{off_of, on_above, either_of}
use Rattle.source.proofs.Rows.{eq4→within, Eq11, Eq12, ramp→eq, eq→ramp}
use Rattle.source.proofs.Schedules.{Same, problem_same, meets→source, source→meets, Reading, reading_is, reading_some}
use Rattle.source.proofs.Objective.{sentence_least}
use Rattle.source.proofs.CostOfRows.{cost_value}
use Rattle.source.proofs.Printed.{printed_least, printed_value}
use Rattle.source.proofs.Repaired.{repaired_least}
use Rattle.source.proofs.Solutions.{optimum}

-- ---- one unit

pub ramp→midnight : (n : ℕ) (g : Generator) (r : List ℕ) → RangedMidnight g → (1 ≤ n → Within g (r at 0)) → FirstRamp g r
    → UnitMidnight n g (u_row r) (nth r)
ramp→midnight n g r R w f = record { eq11 = λ l. (both l).0; eq12 = λ l. (both l).1 }
  where
    both : 1 ≤ n → Eq11 g g.on g.p0 (r at 0) × Eq12 g g.on g.p0 (r at 0)
    both l = ramp→eq g g.on g.p0 (r at 0) R.most R.none (w l) f

midnight→ramp : (n : ℕ) (g : Generator) (r : List ℕ) → 1 ≤ g.since → 1 ≤ n → (pos 0 <ℤ Tini g → UnitMidnight n g (u_row r) (nth r))
    → FirstRamp g r
midnight→ramp n g r started l h t =
    let S = h (on_above g (T_true g.on t) started) in eq→ramp g g.on g.p0 (r at 0) (S.eq11 l) (S.eq12 l) t

-- (11) and (12) at t = 1 look at u and p in period 1 only
unit_same : (n : ℕ) (g : Generator) (u v p q : ℕ → ℕ) → ((t : ℕ) → 1 ≤ t → t ≤ n → u t ≡ v t) → ((t : ℕ) → 1 ≤ t → t ≤ n → p t ≡ q t)
    → UnitMidnight n g u p → UnitMidnight n g v q
unit_same n g u v p q e f S = record {
  eq11 = λ l. rw (← e 1 (omega arith) l, ← f 1 (omega arith) l) (S.eq11 l);
  eq12 = λ l. rw (← f 1 (omega arith) l) (S.eq12 l);
}

-- of a unit off before, with u 0 = 0 and p 0 = 0, they say no more than (4): an output not below 0, and at most pU
pub off_midnight : (n : ℕ) (g : Generator) (u p : ℕ → ℕ) → RangedMidnight g → Tini g <ℤ pos 0 → UnitSource n g u p → UnitMidnight n g u p
off_midnight n g u p R h S = record {
  eq11 = λ l. omega (arith, R.none (rw (off_of g h).state tt));
  eq12 = λ l. rw (off_of g h).state (omega (arith, most (u 1) (S.eq22 1 (omega arith) l), (S.eq4 1 (omega arith) l).1));
}
  where
    most : (v : ℕ) → v ≤ 1 → g.pU * v ≤ g.pU
    most zero l = omega arith
    most (suc zero) l = omega arith
    most (suc (suc v)) l = absurd (omega arith)

-- of a unit that goes off in period 1 they say nothing: (11) lets it fall by pU and DR
pub stop_midnight : (n : ℕ) (g : Generator) (u p : ℕ → ℕ) → g.p0 ≤ g.pU → u 1 ≡ 0 → p 1 ≡ 0 → UnitMidnight n g u p
stop_midnight n g u p m e f = record { eq11 = λ l. rw e (omega arith); eq12 = λ l. omega arith }

-- ---- a problem

midnight_same : (P : Instance) (u v p q : ℕ → ℕ → ℕ) → Same P u v → Same P p q → FromMidnight P u p → FromMidnight P v q
midnight_same P u v p q e f h =
    every_map _ (λ i g. pos 0 <ℤ Tini g → UnitMidnight P.periods g (v i) (q i)) P.units
    (λ i g h b. unit_same P.periods g (u i) (v i) (p i) (q i) h.0 h.1.0 (h.1.1 b))
    (every_both _ _ P.units e (every_both _ _ P.units f h))

module _ (P : Instance) (W : WellFormed P) where
  ramps→midnight : (s : Schedule) → Source P (u_of s) (p_of s) → Each FirstRamp P.units s → FromMidnight P (u_of s) (p_of s)
  ramps→midnight s S h =
      each→every P.units s (λ i g. RangedMidnight g × UnitSource P.periods g (u_of s i) (p_of s i))
      (λ i g. pos 0 <ℤ Tini g → UnitMidnight P.periods g (u_of s i) (p_of s i)) FirstRamp
      (λ i g k f b. let r = get_or s i [] in ramp→midnight P.periods g r k.0
      (λ l. eq4→within g (r at 0) (k.1.eq4 1 (omega arith) l).0 (k.1.eq4 1 (omega arith) l).1) f)
      (every_both _ _ P.units (formed→midnight P W) S.eq4_12) h

  midnight→ramps : (s : Schedule) → Shape P s → FromMidnight P (u_of s) (p_of s) → Each FirstRamp P.units s
  midnight→ramps s w h =
      every→each P.units s (λ i g. Ranged g × (pos 0 <ℤ Tini g → UnitMidnight P.periods g (u_of s i) (p_of s i)))
      (λ g r. length r ≡ P.periods) FirstRamp
      (λ i g e k. midnight→ramp P.periods g (get_or s i []) k.0.started W.periods_in.0 k.1) w
      (every_both _ _ P.units (formed→ranged P W) h)

  midnight_reading : Reading P (λ u p. Source P u p × FromMidnight P u p) (Meets P)
  midnight_reading = record {
    source = λ u p h. h.0;
    same = λ u v p q e f h. (problem_same P u v p q e f h.0, midnight_same P u v p q e f h.1);
    shape = λ s m. shape_of P s m.printed;
    solves = λ s m. let S = meets→source P s m.printed in (S, ramps→midnight s S m.midnight);
    meets = λ s w h. record { printed = source→meets P s (formed→ranged P W) w h.0; midnight = midnight→ramps s w h.1 };
  }

-- ---- the theorems

-- the rules are (2) to (12), with (11) and (12) at t = 1 too, u being 1 exactly where the output is above 0 ..
pub midnight_is : (P : Instance) (s : Schedule) → WellFormed P
    → Meets P s ↔ (Shaped P s × (Source P (u_of s) (p_of s) × FromMidnight P (u_of s) (p_of s)))
midnight_is P s W = reading_is P (λ u p. Source P u p × FromMidnight P u p) (Meets P) (midnight_reading P W) s

-- .. and with any u at all
pub midnight_some : (P : Instance) (s : Schedule) → WellFormed P
    → Meets P s ↔ (Shaped P s × ((u : ℕ → ℕ → ℕ) × (Source P u (p_of s) × FromMidnight P u (p_of s))))
midnight_some P s W =
    reading_some P (λ u p. Source P u p × FromMidnight P u p) (Meets P) (midnight_reading P W) s (formed→ranged P W)

-- it makes no difference whether the two are asked of the units on before period 1 or of every unit
pub midnight_all : (P : Instance) (u p : ℕ → ℕ → ℕ) → WellFormed P → Source P u p → FromMidnight P u p ↔ AllFromMidnight P u p
midnight_all P u p W S = (
  λ h. every_map _ (λ i g. UnitMidnight P.periods g (u i) (p i)) P.units (λ i g k. go i g k.0.0.started k.0.1 k.1.0 k.1.1)
      (every_both _ _ P.units (every_both _ _ P.units (formed→ranged P W) (formed→midnight P W)) (every_both _ _ P.units S.eq4_12 h)),
  λ h. every_map _ (λ i g. pos 0 <ℤ Tini g → UnitMidnight P.periods g (u i) (p i)) P.units (λ i g k b. k) h,
)
  where
    go : (i : ℕ) (g : Generator) → 1 ≤ g.since → RangedMidnight g → UnitSource P.periods g (u i) (p i)
        → (pos 0 <ℤ Tini g → UnitMidnight P.periods g (u i) (p i)) → UnitMidnight P.periods g (u i) (p i)
    go i g started R S f = pick (either_of g started)
      where
        pick : (Tini g <ℤ pos 0) ⊎ (pos 0 <ℤ Tini g) → UnitMidnight P.periods g (u i) (p i)
        pick (inl b) = off_midnight P.periods g (u i) (p i) R b S
        pick (inr b) = f b

-- the least cost under the rules is the least objective with the two at t = 1 beside (2) to (12), for each form of (15)
module _ (P : Instance) (W : WellFormed P) where
  pub optimum_midnight : (v : ℕ) → LeastCost (Meets P) (cost P) v ↔ LeastObjective (λ u p. Source P u p × FromMidnight P u p) Sentence15 P v
  optimum_midnight = optimum Sentence15 start_cost sentence_least P (formed→ranged P W) (cost P) (cost_value P) _ (Meets P) (midnight_reading P W)

  pub optimum_midnight_repaired : (v : ℕ) → LeastCost (Meets P) (cost P) v ↔ LeastObjective (λ u p. Source P u p × FromMidnight P u p) Repaired15 P v
  optimum_midnight_repaired = optimum Repaired15 start_cost repaired_least P (formed→ranged P W) (cost P) (cost_value P) _ (Meets P) (midnight_reading P W)

  pub optimum_midnight_printed : (v : ℕ)
      → LeastCost (Meets P) (λ s. cost P s + surcharges P s) v ↔ LeastObjective (λ u p. Source P u p × FromMidnight P u p) Printed15 P v
  optimum_midnight_printed =
      optimum Printed15 printed_cost printed_least P (formed→ranged P W) (λ s. cost P s + surcharges P s) (printed_value P) _ (Meets P) (midnight_reading P W)
