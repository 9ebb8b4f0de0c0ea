-- The walk over runs of statuses: it is at most what any run costs that obeys and agrees, and one such run costs just that.
-- By induction on the periods left: the first status of a run takes one of the two branches.
use mathlib.Core.Path.{◌≡◌, refl, ap}
use mathlib.Core.Bool.{Bool, true, false, cond, ◌&&◌}
use mathlib.Core.Logic.{◌⊎◌, inl, inr}
use mathlib.Core.List.{List, [], ◌∷◌}
use Prim.Native.Nat.{ℕ, zero, suc, ◌+◌, ◌≤◌, ◌<◌}
use native.Mathlib.Nat.{suc_inj}
use native.Mathlib.Omega.{arith}
use lib.Dec.{T}
use lib.ListN.{length}
use Rattle.model.specs.declared.generator.Generator.{Generator}
use Rattle.model.specs.Rules.{permits, spent, keeps}
use Rattle.model.specs.Cost.{switch_cost}
use Rattle.model.specs.Above.{Mark, allows, agrees, obeys}
use Rattle.model.specs.Walk.{plus, move, back, walk}
use Rattle.model.proofs.Tests.{T_and, T_and_l, T_and_r}
use Rattle.model.proofs.Coded.{plus_some, plus_inv, lesser_left, lesser_right, lesser_one}

-- from the next period on
abbrev pub later : {A : Type 0} → (ℕ → A) → ℕ → A
later f t = f (suc t)

-- what a run costs, period t costing w t d in the status d, with its starts and stops, after k periods in b
abbrev pub run_total : Generator → (ℕ → Bool → ℕ) → Bool → ℕ → List Bool → ℕ
run_total g w b k [] = 0
run_total g w b k (d ∷ run) = switch_cost g b k d + w 0 d + run_total g (later w) d (spent b k d) run

-- a run of n statuses that obeys (5) to (10), after k periods in b, and agrees with the marks
pub record Obeying (n : ℕ) (g : Generator) (m : ℕ → Mark) (b : Bool) (k : ℕ) (run : List Bool) : Type 0 where
  pub long : length run ≡ n
  pub times : T (keeps g b k run)
  pub marked : T (agrees m run)

-- from the state before period 1 it is a run that `obeys`
module _ {n : ℕ} {g : Generator} {m : ℕ → Mark} {run : List Bool} where
  pub obeys→obeying : length run ≡ n → T (obeys g m run) → Obeying n g m g.on g.since run
  obeys→obeying e t = record {
    long = e;
    times = T_and_l (keeps g g.on g.since run) (agrees m run) t;
    marked = T_and_r (keeps g g.on g.since run) (agrees m run) t;
  }

  pub obeying→obeys : Obeying n g m g.on g.since run → T (obeys g m run)
  obeying→obeys o = T_and (keeps g g.on g.since run) (agrees m run) o.times o.marked

module _ {n : ℕ} {g : Generator} {m : ℕ → Mark} {b : Bool} {k : ℕ} {d : Bool} {run : List Bool} where
  pub obeying_first : Obeying (suc n) g m b k (d ∷ run) → T (permits g b k d && allows (m 0) d)
  obeying_first o =
      T_and (permits g b k d) (allows (m 0) d) (T_and_l (permits g b k d) (keeps g d (spent b k d) run) o.times)
      (T_and_l (allows (m 0) d) (agrees (later m) run) o.marked)

  pub obeying_rest : Obeying (suc n) g m b k (d ∷ run) → Obeying n g (later m) d (spent b k d) run
  obeying_rest o = record {
    long = suc_inj o.long;
    times = T_and_r (permits g b k d) (keeps g d (spent b k d) run) o.times;
    marked = T_and_r (allows (m 0) d) (agrees (later m) run) o.marked;
  }

  pub obeying_cons : T (permits g b k d && allows (m 0) d) → Obeying n g (later m) d (spent b k d) run → Obeying (suc n) g m b k (d ∷ run)
  obeying_cons t o = record {
    long = ap suc o.long;
    times = T_and (permits g b k d) (keeps g d (spent b k d) run) (T_and_l (permits g b k d) (allows (m 0) d) t) o.times;
    marked = T_and (allows (m 0) d) (agrees (later m) run) (T_and_r (permits g b k d) (allows (m 0) d) t) o.marked;
  }

-- ---- at most what any run costs

move_below : (c : Bool) (v X z : ℕ) → T c → (0 < X) × (X ≤ suc z) → (0 < cond c (plus v X) 0) × (cond c (plus v X) 0 ≤ suc (v + z))
move_below true v X z t h = omega (arith, plus_some v X h.0)
move_below false v X z t h = absurd t

pub walk_below_run : (n : ℕ) (g : Generator) (m : ℕ → Mark) (w : ℕ → Bool → ℕ) (b : Bool) (k : ℕ) (run : List Bool)
    → Obeying n g m b k run → (0 < walk n g m w b k) × (walk n g m w b k ≤ suc (run_total g w b k run))
unfolding walk back
walk_below_run zero g m w b k [] o = omega arith
walk_below_run zero g m w b k (d ∷ run) o = absurd (omega (arith, o.long))
walk_below_run (suc n) g m w b k [] o = absurd (omega (arith, o.long))
walk_below_run (suc n) g m w b k (d ∷ run) o =
    branch d
    (move_below (permits g b k d && allows (m 0) d) (switch_cost g b k d + w 0 d) (X d) (run_total g (later w) d (spent b k d) run)
    (obeying_first o) (walk_below_run n g (later m) (later w) d (spent b k d) run (obeying_rest o)))
  where
    X : Bool → ℕ
    X d = walk n g (later m) (later w) d (spent b k d)

    M : Bool → ℕ
    M d = move g (m 0) (w 0 d) b k d (X d)

    Z : ℕ
    Z = suc (switch_cost g b k d + w 0 d + run_total g (later w) d (spent b k d) run)

    branch : (d : Bool) → (0 < M d) × (M d ≤ Z) → (0 < walk (suc n) g m w b k) × (walk (suc n) g m w b k ≤ Z)
    branch false h = omega (arith, lesser_left (M false) (M true) h.0)
    branch true h = omega (arith, lesser_right (M false) (M true) h.0)

-- ---- attained by a run

pub move_inv : (c : Bool) (v X : ℕ) → 0 < cond c (plus v X) 0 → T c × (0 < X) × (cond c (plus v X) 0 ≡ v + X)
move_inv true v X h = let p : 0 < X = plus_inv v X h in (tt, p, plus_some v X p)
move_inv false v X h = absurd (omega arith)

pub walk_attained_run : (n : ℕ) (g : Generator) (m : ℕ → Mark) (w : ℕ → Bool → ℕ) (b : Bool) (k : ℕ)
    → 0 < walk n g m w b k → (run : List Bool) × Obeying n g m b k run × (walk n g m w b k ≡ suc (run_total g w b k run))
unfolding walk back
walk_attained_run zero g m w b k h = ([], record { long = refl; times = tt; marked = tt }, refl)
walk_attained_run (suc n) g m w b k h =
    branch (λ d p. walk_attained_run n g (later m) (later w) d (spent b k d) p) (lesser_one (M false) (M true))
  where
    X : Bool → ℕ
    X d = walk n g (later m) (later w) d (spent b k d)

    M : Bool → ℕ
    M d = move g (m 0) (w 0 d) b k d (X d)

    Later : Type 0
    Later = (d : Bool) → 0 < X d → (run : List Bool) × Obeying n g (later m) d (spent b k d) run × (X d ≡ suc (run_total g (later w) d (spent b k d) run))

    by : Later → (d : Bool) → walk (suc n) g m w b k ≡ M d
        → (run : List Bool) × Obeying (suc n) g m b k run × (walk (suc n) g m w b k ≡ suc (run_total g w b k run))
    by ih d e =
        let i = move_inv (permits g b k d && allows (m 0) d) (switch_cost g b k d + w 0 d) (X d) (rw e at h) in
        let r = ih d i.1 in
        (d ∷ r.0, obeying_cons i.0 r.1, omega (arith, e, i.2, r.2))

    branch : Later → (walk (suc n) g m w b k ≡ M false) ⊎ (walk (suc n) g m w b k ≡ M true)
        → (run : List Bool) × Obeying (suc n) g m b k run × (walk (suc n) g m w b k ≡ suc (run_total g w b k run))
    branch ih (inl e) = by ih false e
    branch ih (inr e) = by ih true e
