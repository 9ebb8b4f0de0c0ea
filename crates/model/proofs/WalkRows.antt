-- The walk over rows of outputs, whatever an output costs in a period: with the least cost of each period on, it is at most
-- what any row costs, and one row costs just that. A row's statuses are a run; a run gets the best output in each period on.
use mathlib.Core.Path.{◌≡◌, refl, sym, ◌∙◌, ap, ap₂}
use mathlib.Core.Bool.{Bool, true, false}
use mathlib.Core.List.{List, [], ◌∷◌}
use Prim.Native.Nat.{ℕ, zero, suc, ◌+◌, ◌≤◌, ◌<◌}
use native.Mathlib.Nat.{suc_inj}
use native.Mathlib.Omega.{arith}
use lib.ListN.{length, length-map}
use Rattle.model.specs.declared.generator.Generator.{Generator}
use Rattle.model.specs.Instance.{◌at◌, sum}
use Rattle.model.specs.Rules.{on, if_on, statuses, Within, spent}
use Rattle.model.specs.Cost.{switch_costs}
use Rattle.model.specs.Above.{Mark}
use Rattle.model.specs.Walk.{walk}
use Rattle.model.specs.RunWalk.{row_of}
use Rattle.model.specs.Agreement.{Candidate}
use Rattle.model.proofs.WalkRuns.{later, run_total, obeys→obeying, obeying→obeys, walk_below_run, walk_attained_run}

-- what a row costs, the output p (0: off) costing c t p in period t, with its starts and stops, after k periods in b
abbrev pub row_total : ℕ → Generator → (ℕ → ℕ → ℕ) → Bool → ℕ → List ℕ → ℕ
row_total n g c b k r = sum n (λ t. c t (r at t)) + switch_costs g b k (statuses r)

-- w is the least cost of a period by its status: off, that of 0; on, the least of pL .. pU, which the output p has
pub record Cheapest (g : Generator) (c : ℕ → ℕ) (w : Bool → ℕ) (p : ℕ) : Type 0 where
  pub off : w false ≡ c 0
  pub on : w true ≡ c p
  pub low : g.pL ≤ p
  pub high : p ≤ g.pU
  pub least : (p' : ℕ) → g.pL ≤ p' → p' ≤ g.pU → c p ≤ c p'

-- ---- a row costs no less than its statuses

module _ (g : Generator) where
  pub status_below : (c : ℕ → ℕ) (w : Bool → ℕ) (o : ℕ) → Cheapest g c w o → (p : ℕ) → Within g p → w (on p) ≤ c p
  status_below c w o h zero l = omega (arith, h.off)
  status_below c w o h (suc p) l = omega (arith, h.on, h.least (suc p) (l tt).0 (l tt).1)

  pub statuses_below : (n : ℕ) (c : ℕ → ℕ → ℕ) (w : ℕ → Bool → ℕ) (o : ℕ → ℕ) → ((t : ℕ) → Cheapest g (c t) (w t) (o t)) → (b : Bool) (k : ℕ)
      (r : List ℕ) → length r ≡ n → ((t : ℕ) → t < n → Within g (r at t)) → run_total g w b k (statuses r) ≤ row_total n g c b k r
  statuses_below zero c w o h b k [] e l = omega arith
  statuses_below zero c w o h b k (p ∷ r) e l = absurd (omega arith)
  statuses_below (suc n) c w o h b k [] e l = absurd (omega arith)
  statuses_below (suc n) c w o h b k (p ∷ r) e l =
      omega (
        arith,
        status_below (c 0) (w 0) (o 0) (h 0) p (l 0 (omega arith)),
        statuses_below n (later c) (later w) (later o) (λ t. h (suc t)) (on p) (spent b k (on p)) r (suc_inj e) (λ t i. l (suc t) (omega arith)),
      )

-- ---- the row of a run

pub row_of_long : (o : ℕ → ℕ) (run : List Bool) → length (row_of o run) ≡ length run
row_of_long o [] = refl
row_of_long o (d ∷ run) = ap suc (row_of_long (later o) run)

pub row_of_within : (g : Generator) (o : ℕ → ℕ) → ((t : ℕ) → (g.pL ≤ o t) × (o t ≤ g.pU)) → (run : List Bool) (t : ℕ) → Within g (row_of o run at t)
row_of_within g o h [] t i = absurd i
row_of_within g o h (true ∷ run) zero i = h 0
row_of_within g o h (false ∷ run) zero i = absurd i
row_of_within g o h (d ∷ run) (suc t) i = row_of_within g (later o) (λ t. h (suc t)) run t i

module _ (g : Generator) (positive : 0 < g.pL) where
  if_on_on : (d : Bool) (p : ℕ) → g.pL ≤ p → on (if_on d p) ≡ d
  if_on_on true zero l = absurd (omega arith)
  if_on_on true (suc p) l = refl
  if_on_on false p l = refl

  pub row_of_statuses : (o : ℕ → ℕ) → ((t : ℕ) → g.pL ≤ o t) → (run : List Bool) → statuses (row_of o run) ≡ run
  row_of_statuses o h [] = refl
  row_of_statuses o h (d ∷ run) = ap₂ ◌∷◌ (if_on_on d (o 0) (h 0)) (row_of_statuses (later o) (λ t. h (suc t)) run)

  row_of_costs : (c : ℕ → ℕ → ℕ) (w : ℕ → Bool → ℕ) (o : ℕ → ℕ) → ((t : ℕ) → Cheapest g (c t) (w t) (o t)) → (b : Bool) (k : ℕ)
      (run : List Bool) → sum (length run) (λ t. c t (row_of o run at t)) + switch_costs g b k run ≡ run_total g w b k run
  row_of_costs c w o h b k [] = refl
  row_of_costs c w o h b k (d ∷ run) =
      omega (arith, one d, row_of_costs (later c) (later w) (later o) (λ t. h (suc t)) d (spent b k d) run)
    where
      one : (d : Bool) → c 0 (if_on d (o 0)) ≡ w 0 d
      one true = sym (h 0).on
      one false = sym (h 0).off

  pub row_of_total : (n : ℕ) (c : ℕ → ℕ → ℕ) (w : ℕ → Bool → ℕ) (o : ℕ → ℕ) → ((t : ℕ) → Cheapest g (c t) (w t) (o t)) → (b : Bool) (k : ℕ)
      (run : List Bool) → length run ≡ n → row_total n g c b k (row_of o run) ≡ run_total g w b k run
  row_of_total n c w o h b k run e = rw (row_of_statuses o (λ t. (h t).low) run, ← e) (row_of_costs c w o h b k run)

-- ---- the walk

module _ (g : Generator) (positive : 0 < g.pL) (n : ℕ) (m : ℕ → Mark) (c : ℕ → ℕ → ℕ) (w : ℕ → Bool → ℕ) (o : ℕ → ℕ)
    (cheapest : (t : ℕ) → Cheapest g (c t) (w t) (o t)) where
  -- no row costs less
  pub walk_below : (r : List ℕ) → Candidate n g m r
      → (0 < walk n g m w g.on g.since) × (walk n g m w g.on g.since ≤ suc (row_total n g c g.on g.since r))
  walk_below r C =
      omega (
        arith,
        statuses_below g n c w o cheapest g.on g.since r C.long C.limits,
        walk_below_run n g m w g.on g.since (statuses r) (obeys→obeying (length-map r on ∙ C.long) C.run),
      )

  -- and the row of a run costs just that
  pub walk_attained : 0 < walk n g m w g.on g.since
      → (r : List ℕ) × Candidate n g m r × (walk n g m w g.on g.since ≡ suc (row_total n g c g.on g.since r))
  walk_attained h =
      let a = walk_attained_run n g m w g.on g.since h in
      let run : List Bool = a.0 in
      let e : statuses (row_of o run) ≡ run = row_of_statuses g positive o (λ t. (cheapest t).low) run in
      let l : length run ≡ n = a.1.long in (
        row_of o run,
        record {
          long = row_of_long o run ∙ l;
          limits = λ t i. row_of_within g o (λ t. ((cheapest t).low, (cheapest t).high)) run t;
          run = rw e (obeying→obeys a.1);
        },
        a.2 ∙ ap suc (sym (row_of_total g positive n c w o cheapest g.on g.since run l)),
      )
