-- A schedule of the right shape meets the rules exactly when it breaks none: the rules compare numbers and tests, so one that
-- cannot fail holds; and a run of statuses with no first barred period keeps (5) to (10) one period after the other.
use mathlib.Core.Path.{◌≡◌, refl, ap, subst}
use mathlib.Core.Bool.{Bool, true, false, not}
use mathlib.Core.List.{List, [], ◌∷◌}
use Prim.Native.Nat.{ℕ, zero, suc, ◌≤◌, ◌<◌}
use native.Mathlib.Nat.{suc_inj}
use native.Mathlib.Omega.{arith}
use lib.Dec.{T, leb, leb→le, nleb→lt}
use lib.ListN.{length, take, length-map}
use lib.Seq.{take-length}
use Rattle.model.specs.declared.generator.Generator.{Generator}
use Rattle.model.specs.Instance.{Instance, Schedule, ◌at◌, Each}
use Rattle.model.specs.Ranges.{All, Shaped}
use Rattle.model.specs.Rules.{on, statuses, Within, permits, spent, keeps, Ramp, Row, MeetsPrinted, FirstRamp, Meets}
use Rattle.model.specs.Breach.{Breach}
use Rattle.model.proofs.Tests.{T_and, T_and_l, T_and_r}
use Rattle.model.proofs.OneUnit.{each_not}
use Rattle.model.specs.Broken.{Of, FirstBarred, OffRamp, Broken, limits, demand, spare, updown, ramps, midnight}

-- ---- a schedule that meets the rules breaks none

-- a run that keeps (5) to (10) keeps them up to any period
pub keeps_take : (g : Generator) (b : Bool) (k : ℕ) (run : List Bool) (t : ℕ) → T (keeps g b k run) → T (keeps g b k (take t run))
keeps_take g b k run zero h = tt
keeps_take g b k [] (suc t) h = tt
keeps_take g b k (d ∷ run) (suc t) h =
    T_and (permits g b k d) (keeps g d (spent b k d) (take t run)) (T_and_l (permits g b k d) (keeps g d (spent b k d) run) h)
    (keeps_take g d (spent b k d) run t (T_and_r (permits g b k d) (keeps g d (spent b k d) run) h))

pub meets_unbroken : (P : Instance) (s : Schedule) → Meets P s → (b : Breach) → Broken P s b → ⊥
meets_unbroken P s M b (limits u t l h) = each_not _ _ (λ g r R w. w (R.limits t l)) u P.units s M.printed.rows h
meets_unbroken P s M b (demand t l h) = omega (arith, M.printed.meets_demand t l)
meets_unbroken P s M b (spare t l h) = omega (arith, M.printed.meets_spare t l)
meets_unbroken P s M b (updown u t l h) =
    each_not _ _ (λ g r R w. w.barred (keeps_take g g.on g.since (statuses r) (suc t) R.updown))
    u P.units s M.printed.rows h
meets_unbroken P s M b (ramps u t l h) =
    each_not _ _ (λ g r R w. w.off (R.ramps t l w.on_before w.on_then)) u P.units s M.printed.rows h
meets_unbroken P s M b (midnight u l h) =
    each_not _ _ (λ g r R w. w.off (R w.on_before w.on_then)) u P.units s M.midnight h

-- ---- one that breaks none meets the rules

pub not_below : (a b : ℕ) → (a < b → ⊥) → b ≤ a
not_below a b h = go (leb b a) (λ t. leb→le b a t) (λ t. nleb→lt b a t)
  where
    go : (c : Bool) → (T c → b ≤ a) → (T (not c) → a < b) → b ≤ a
    go true f k = f tt
    go false f k = absurd (h (k tt))

-- what cannot fail holds, of an order
pub le_stable : (a b : ℕ) → ((a ≤ b → ⊥) → ⊥) → a ≤ b
le_stable a b h = not_below b a (λ l. h (λ k. omega arith))

-- a run without a first barred period
keeps_from : (g : Generator) (run : List Bool) → ((t : ℕ) → t < length run → FirstBarred g run t → ⊥) → (t : ℕ) → t ≤ length run
    → T (keeps g g.on g.since (take t run))
keeps_from g run n zero l = tt
keeps_from g run n (suc t) l = go (keeps g g.on g.since (take (suc t) run)) (λ k. k) (keeps_from g run n t (omega arith))
  where
    go : (c : Bool) → (T (keeps g g.on g.since (take (suc t) run)) → T c)
        → T (keeps g g.on g.since (take t run)) → T c
    go true f k = tt
    go false f k = n t (omega arith) (record { before = k; barred = f })

keeps_all : (g : Generator) (run : List Bool) → ((t : ℕ) → t < length run → FirstBarred g run t → ⊥)
    → T (keeps g g.on g.since run)
keeps_all g run n =
    subst (λ (l : List Bool). T (keeps g g.on g.since l)) (take-length run)
    (keeps_from g run n (length run) (omega arith))

-- a ramp that is not broken is kept
pub ramp_kept : (g : Generator) (b : Bool) (p p' : ℕ) → (OffRamp g b p p' → ⊥) → T b → T (on p') → Ramp g p p'
ramp_kept g b p p' n k k' = record {
  rise = le_stable _ _ (λ f. n (record { on_before = k; on_then = k'; off = λ R. f R.rise }));
  fall = le_stable _ _ (λ f. n (record { on_before = k; on_then = k'; off = λ R. f R.fall }));
}

-- one row
pub row_meets : (n : ℕ) (g : Generator) (r : List ℕ) → length r ≡ n → ((t : ℕ) → t < n → (Within g (r at t) → ⊥) → ⊥)
    → ((t : ℕ) → t < n → FirstBarred g (statuses r) t → ⊥) → ((t : ℕ) → suc t < n → OffRamp g (on (r at t)) (r at t) (r at suc t) → ⊥) → Row n g r
row_meets n g r e a b c = record {
  long = e;
  limits = λ t l k. (le_stable _ _ (λ f. a t l (λ w. f (w k).0)), le_stable _ _ (λ f. a t l (λ w. f (w k).1)));
  updown = keeps_all g (statuses r) (λ t l. b t (omega (arith, length-map r on)));
  ramps = λ t l. ramp_kept g (on (r at t)) (r at t) (r at suc t) (c t l);
}

-- all rows
pub rows_meet : (n : ℕ) (gs : List Generator) (s : Schedule) → length s ≡ length gs → All (λ r. length r ≡ n) s
    → ((u t : ℕ) → t < n → Of u (λ g r. Within g (r at t) → ⊥) gs s → ⊥)
    → ((u t : ℕ) → t < n → Of u (λ g r. FirstBarred g (statuses r) t) gs s → ⊥)
    → ((u t : ℕ) → suc t < n → Of u (λ g r. OffRamp g (on (r at t)) (r at t) (r at suc t)) gs s → ⊥) → Each (Row n) gs s
rows_meet n [] [] e w a b c = tt
rows_meet n [] (r ∷ s) e w a b c = absurd (omega arith)
rows_meet n (g ∷ gs) [] e w a b c = absurd (omega arith)
rows_meet n (g ∷ gs) (r ∷ s) e w a b c = (
  row_meets n g r w.0 (a 0) (b 0) (c 0),
  rows_meet n gs s (suc_inj e) w.1 (λ u. a (suc u)) (λ u. b (suc u)) (λ u. c (suc u)),
)

-- the ramps of period 1, where there is one; a row without a period has none
pub first_ramps_meet : (n : ℕ) (gs : List Generator) (s : Schedule) → length s ≡ length gs → All (λ r. length r ≡ n) s
    → ((u : ℕ) → 0 < n → Of u (λ g r. OffRamp g g.on g.p0 (r at 0)) gs s → ⊥) → Each FirstRamp gs s
first_ramps_meet n [] [] e w c = tt
first_ramps_meet n [] (r ∷ s) e w c = absurd (omega arith)
first_ramps_meet n (g ∷ gs) [] e w c = absurd (omega arith)
first_ramps_meet n (g ∷ gs) (r ∷ s) e w c = (
  one r w.0 (c 0),
  first_ramps_meet n gs s (suc_inj e) w.1 (λ u. c (suc u)),
)
  where
    one : (r : List ℕ) → length r ≡ n → (0 < n → OffRamp g g.on g.p0 (r at 0) → ⊥) → FirstRamp g r
    one [] e n k k' = absurd k'
    one (p ∷ r) e n k k' = ramp_kept g g.on g.p0 p (n (omega (arith, e))) k k'

-- the rules include the shape
pub printed_shaped : (P : Instance) (s : Schedule) → MeetsPrinted P s → Shaped P s
printed_shaped P s M = go P.units s M.rows
  where
    go : (gs : List Generator) (s : Schedule) → Each (Row P.periods) gs s
        → (length s ≡ length gs) × All (λ r. length r ≡ P.periods) s
    go [] [] e = (refl, tt)
    go [] (r ∷ s) e = absurd e
    go (g ∷ gs) [] e = absurd e
    go (g ∷ gs) (r ∷ s) e = let h = go gs s e.1 in (ap suc h.0, (e.0.long, h.1))

pub meets_shaped : (P : Instance) (s : Schedule) → Meets P s → Shaped P s
meets_shaped P s M = printed_shaped P s M.printed

pub unbroken_meets : (P : Instance) (s : Schedule) → Shaped P s → ((b : Breach) → Broken P s b → ⊥) → Meets P s
unbroken_meets P s w n = record {
  printed = record {
    rows =
        rows_meet P.periods P.units s w.0 w.1
        (λ u t l h. n _ (limits u t l h)) (λ u t l h. n _ (updown u t l h)) (λ u t l h. n _ (ramps u t l h));
    meets_demand = λ t l. not_below _ _ (λ h. n _ (demand t l h));
    meets_spare = λ t l. not_below _ _ (λ h. n _ (spare t l h));
  };
  midnight = first_ramps_meet P.periods P.units s w.0 w.1 (λ u l h. n _ (midnight u l h));
}
