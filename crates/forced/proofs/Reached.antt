-- How far the lists reach after t periods, and how large their values are: a period takes every state one place on at most, and adds a start or stop and what the
-- period costs.
use mathlib.Core.Path.{◌≡◌, refl}
use mathlib.Core.Logic.{◌⊎◌, inl, inr}
use mathlib.Core.Bool.{Bool, true, false, cond, ◌&&◌, beq}
use mathlib.Core.List.{List}
use Prim.Native.Nat.{ℕ, zero, suc, ◌+◌, ◌*◌, ◌-◌, ◌≤◌}
use native.Mathlib.Omega.{arith}
use Rattle.model.specs.declared.generator.Generator.{Generator}
use Rattle.model.specs.Instance.{◌at◌}
use Rattle.model.specs.Ranges.{GoodUnit}
use Rattle.model.specs.Rules.{permits}
use Rattle.model.specs.Cost.{switch_cost}
use Rattle.model.specs.Above.{Mark, allows}
use Rattle.model.specs.Walk.{plus, move}
use Rattle.model.specs.Table.{kept}
use Rattle.model.specs.ForcedWalk.{least_upto}
use Rattle.model.proofs.Coded.{plus_most, lesser_most}
use Rattle.model.proofs.WalkSizes.{switch_cost_fits}
use Rattle.walk.specs.Limits.{GoodValue}
use Rattle.forced.specs.Forward.{Beyond, of_status, Shifted, started, stopped, own_into, Stepped}
use Rattle.forced.proofs.Leasts.{upto_most}
use Rattle.forced.proofs.Shifts.{shift_from, Entered, KeptFrom}

-- ---- how far

pub beyond_next : {old new : List ℕ} {entered : ℕ} {allowed : Bool} {v : ℕ} (t : ℕ) → Shifted old new entered allowed v → Beyond t old → Beyond (suc t) new
beyond_next {old} {new} t S B k l = go (new at k) refl
  where
    none : Entered S k ⊎ KeptFrom S k → new at k ≡ 0
    none (inl e) = absurd (omega (arith, e.0))
    none (inr e) = absurd (omega (arith, e.3, B e.0 (omega (arith, e.4))))

    go : (x : ℕ) → new at k ≡ x → new at k ≡ 0
    go zero e = e
    go (suc x) e = none (shift_from S k (omega (arith, e)))

-- ---- how large

-- the most after t periods
abbrev pub most : ℕ → ℕ
most t = 1 + t * 1_000_001_000_000_000

pub most_good : (t v : ℕ) → t ≤ 48 → v ≤ most t → GoodValue v
most_good t v l h = (omega arith, omega arith)

kept_most : (c : Bool) (v x M : ℕ) → x ≤ M → cond c (plus v x) 0 ≤ v + M
kept_most true v x M h = plus_most v x M h
kept_most false v x M h = omega arith

shift_most : {old new : List ℕ} {entered : ℕ} {allowed : Bool} {v : ℕ} → Shifted old new entered allowed v → (M N : ℕ) → entered ≤ N → v + M ≤ N
    → ((k : ℕ) → old at k ≤ M) → (k : ℕ) → new at k ≤ N
shift_most {old} {new} S M N e l h k = go (new at k) refl
  where
    either : Entered S k ⊎ KeptFrom S k → new at k ≤ N
    either (inl i) = omega (arith, i.1, e)
    either (inr i) = omega (arith, i.5, h i.0, l)

    go : (x : ℕ) → new at k ≡ x → new at k ≤ N
    go zero i = omega (arith, i)
    go (suc x) i = either (shift_from S k (omega (arith, i)))

module _ {g : Generator} (good : GoodUnit g) {m : Mark} {w : Bool → ℕ} {k own own' : ℕ} {ons offs ons' offs' : List ℕ}
    (cheap : (d : Bool) → w d ≤ 1_000_000_000_000_000) (S : Stepped g m w k own ons offs ons' offs')
    (next : own' ≡ move g m (w g.on) g.on k g.on own) (t : ℕ)
    (small : (d : Bool) (i : ℕ) → of_status ons offs d at i ≤ most t) (small_own : own ≤ most t) where
  move_small : (d : Bool) → move g m (w d) g.on k d own ≤ most (suc t)
  move_small d =
      omega (
        arith,
        kept_most (permits g g.on k d && allows m d) (switch_cost g g.on k d + w d) own (most t) small_own,
        switch_cost_fits g good g.on k d,
        cheap d,
      )

  into_small : (d : Bool) → own_into g m (w d) k d own ≤ most (suc t)
  into_small d = go (beq g.on d)
    where
      go : (c : Bool) → cond c 0 (move g m (w d) g.on k d own) ≤ most (suc t)
      go true = omega arith
      go false = move_small d

  -- what the lists bring to a status
  kept_small : (c d : Bool) (v x : ℕ) → v ≤ 1_000_000_000 → x ≤ most t → kept c (v + w d) x ≤ most (suc t)
  kept_small c d v x l h = omega (arith, kept_most c (v + w d) x (most t) h, l, cheap d)

  started_small : started g m (w true) offs ≤ most (suc t)
  started_small =
      lesser_most hot cold (most (suc t))
      (kept_small (allows m true) true g.Hsc least good.in_range.Hsc_in.1 (upto_most (suc g.Tcold) hots (most t) (λ i. small false (g.TD - 1 + i))))
      (kept_small (allows m true) true g.Csc (offs at (g.TD + g.Tcold)) good.in_range.Csc_in.1 (small false (g.TD + g.Tcold)))
    where
      hots : ℕ → ℕ
      hots i = offs at (g.TD - 1 + i)

      least : ℕ
      least = least_upto (suc g.Tcold) hots

      hot : ℕ
      hot = kept (allows m true) (g.Hsc + w true) least

      cold : ℕ
      cold = kept (allows m true) (g.Csc + w true) (offs at (g.TD + g.Tcold))

  stopped_small : stopped g m (w false) ons ≤ most (suc t)
  stopped_small = kept_small (allows m false) false g.Dc (ons at (g.TU - 1)) good.in_range.Dc_in.1 (small true (g.TU - 1))

  pub small_next : (d : Bool) (i : ℕ) → of_status ons' offs' d at i ≤ most (suc t)
  small_next true i =
      let e = lesser_most (started g m (w true) offs) (own_into g m (w true) k true own) (most (suc t)) started_small (into_small true) in
      shift_most S.of_on (most t) (most (suc t)) e (omega (arith, cheap true)) (small true) i
  small_next false i =
      let e = lesser_most (stopped g m (w false) ons) (own_into g m (w false) k false own) (most (suc t)) stopped_small (into_small false) in
      shift_most S.of_off (most t) (most (suc t)) e (omega (arith, cheap false)) (small false) i

  pub own_small_next : own' ≤ most (suc t)
  own_small_next = omega (arith, next, move_small g.on)
