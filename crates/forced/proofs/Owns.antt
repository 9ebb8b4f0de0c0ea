-- The run that has not changed its status: its value stands at one state, and what it brings to the other status enters that.
use mathlib.Core.Path.{◌≡◌, refl, sym, ◌∙◌, ap, subst}
use mathlib.Core.Logic.{◌⊎◌, inl, inr}
use mathlib.Core.Bool.{Bool, true, false, cond, ◌&&◌, beq}
use Prim.Native.Nat.{ℕ, suc, ◌+◌, ◌<◌}
use native.Mathlib.Omega.{arith}
use borrow.Author.Tests.{eqb-true, eq-eqb}
use lib.Dec.{eqb}
use Rattle.model.specs.declared.generator.Generator.{Generator}
use Rattle.model.specs.Rules.{permits, spent}
use Rattle.model.specs.Cost.{switch_cost}
use Rattle.model.specs.Above.{Mark, allows}
use Rattle.model.specs.Walk.{move}
use Rattle.model.specs.Ends.{capped}
use Rattle.model.specs.ForcedWalk.{may}
use Rattle.model.proofs.Tests.{T_true, beq_refl}
use Rattle.model.proofs.WalkRuns.{move_inv}
use Rattle.forced.specs.Forward.{own_at, own_into}

-- two statuses are the same, or the other is one period old
pub same_or : (b d : Bool) → (b ≡ d) ⊎ ((beq b d ≡ false) × ((k : ℕ) → spent b k d ≡ 1))
same_or true true = inl refl
same_or true false = inr (refl, λ k. refl)
same_or false true = inr (refl, λ k. refl)
same_or false false = inl refl

pub spent_same : (b : Bool) (k : ℕ) → spent b k b ≡ suc k
spent_same true k = refl
spent_same false k = refl

pub beq_same : (b d : Bool) → beq b d ≡ true → b ≡ d
beq_same true true e = refl
beq_same true false e = sym e
beq_same false true e = e
beq_same false false e = refl

-- its value stands at its state, and at no other
pub own_here : (g : Generator) (k own : ℕ) → own_at g k own g.on (capped g g.on k) ≡ own
own_here g k own = rw (T_true (beq g.on g.on) (beq_refl g.on), eq-eqb (capped g g.on k) (capped g g.on k) refl)

pub own_only : (g : Generator) (k own : ℕ) (b : Bool) (i : ℕ) → 0 < own_at g k own b i → (b ≡ g.on) × (i ≡ capped g g.on k) × (own_at g k own b i ≡ own)
own_only g k own b i h = go (beq b g.on) (eqb i (capped g b k)) refl refl h
  where
    go : (c c' : Bool) → beq b g.on ≡ c → eqb i (capped g b k) ≡ c' → 0 < cond c (cond c' own 0) 0
        → (b ≡ g.on) × (i ≡ capped g g.on k) × (cond c (cond c' own 0) 0 ≡ own)
    go true true e e' p =
        let s = beq_same b g.on e in
        (s, eqb-true i (capped g b k) e' ∙ ap (λ (x : Bool). capped g x k) s, refl)
    go true false e e' p = absurd (omega arith)
    go false c' e e' p = absurd (omega arith)

-- what it brings to the other status
pub own_into_from : (g : Generator) (m : Mark) (v k : ℕ) (d : Bool) (own : ℕ) → 0 < own_into g m v k d own
    → (spent g.on k d ≡ 1) × may g m g.on k d × (0 < own) × (own_into g m v k d own ≡ switch_cost g g.on k d + v + own)
own_into_from g m v k d own h = go (same_or g.on d)
  where
    go : (g.on ≡ d) ⊎ ((beq g.on d ≡ false) × ((k : ℕ) → spent g.on k d ≡ 1))
        → (spent g.on k d ≡ 1) × may g m g.on k d × (0 < own) × (own_into g m v k d own ≡ switch_cost g g.on k d + v + own)
    go (inl e) =
        let z : beq g.on d ≡ true = subst (λ (x : Bool). beq g.on x ≡ true) e (T_true (beq g.on g.on) (beq_refl g.on)) in
        let none : own_into g m v k d own ≡ 0 = rw z in
        absurd (omega (arith, none))
    go (inr e) =
        let is : own_into g m v k d own ≡ move g m v g.on k d own = rw e.0 in
        let i = move_inv (permits g g.on k d && allows m d) (switch_cost g g.on k d + v) own (omega (arith, is, h)) in
        (e.1 k, i.0, i.1, is ∙ i.2)
