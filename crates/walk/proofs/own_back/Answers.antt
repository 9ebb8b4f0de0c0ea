-- `own_back` meets its contract: each way through it is one case of the state, one period back.
use mathlib.Core.Path.{sym, ◌∙◌, ap, ap₂}
use mathlib.Core.Bool.{Bool}
use Prim.Native.Nat.{ℕ, suc, ◌+◌}
use Rattle.model.specs.Walk.{lesser, back}
use Rattle.model.specs.Table.{kept}
use Rattle.walk.specs.Marks.{mark_of}
use Rattle.walk.specs.GoingBack.{by_status}
use Rattle.walk.proofs.StatusMarks.{allows_on, allows_off}
use Rattle.walk.proofs.Walks.{on_held, on_free, off_held, off_hot, off_cold}
use Rattle.walk.proofs.own_back.Goals as goal

pub returns-then-k-g : goal.returns-then-k-g
returns-then-k-g c X h₁ h₂ h₃ =
    let a = c.args in
    let b = sym c.if-g.true in
    let stay = ap₂ (λ (p : Bool) (y : ℕ). kept p a.on y) (allows_on a.mark) (ap (λ (d : Bool). X d (suc a.k)) b ∙ h₃) in
    let case = on_held a.unit.generator (mark_of a.mark) (by_status a.on a.off) X a.k c.if-k-g.true in
    c.kept_value-staying.ensures ∙ sym (case ∙ stay)
    ∙ ap (λ (d : Bool). back a.unit.generator (mark_of a.mark) (by_status a.on a.off) X d a.k) b

pub returns-then-g : goal.returns-then-g
returns-then-g c X h₁ h₂ h₃ =
    let a = c.args in
    let b = sym c.if-g.true in
    let stay = ap₂ (λ (p : Bool) (y : ℕ). kept p a.on y) (allows_on a.mark) (ap (λ (d : Bool). X d (suc a.k)) b ∙ h₃) in
    let case = on_free a.unit.generator (mark_of a.mark) (by_status a.on a.off) X a.k c.if-k-g.false in
    let leave = ap₂ (λ (p : Bool) (y : ℕ). kept p (a.unit.generator.Dc + a.off) y) (allows_off a.mark) h₂ in
    c.lesser_value.ensures ∙ ap₂ lesser (c.kept_value.ensures ∙ sym leave) (c.kept_value-staying.ensures ∙ sym stay) ∙ sym case
    ∙ ap (λ (d : Bool). back a.unit.generator (mark_of a.mark) (by_status a.on a.off) X d a.k) b

pub returns-then-k-g-2 : goal.returns-then-k-g-2
returns-then-k-g-2 c X h₁ h₂ h₃ =
    let a = c.args in
    let b = sym c.if-g.false in
    let stay = ap₂ (λ (p : Bool) (y : ℕ). kept p a.off y) (allows_off a.mark) (ap (λ (d : Bool). X d (suc a.k)) b ∙ h₃) in
    let case = off_held a.unit.generator (mark_of a.mark) (by_status a.on a.off) X a.k c.if-k-g-2.true in
    c.kept_value-staying-2.ensures ∙ sym (case ∙ stay)
    ∙ ap (λ (d : Bool). back a.unit.generator (mark_of a.mark) (by_status a.on a.off) X d a.k) b

pub returns-then-k-g-3 : goal.returns-then-k-g-3
returns-then-k-g-3 c X h₁ h₂ h₃ =
    let a = c.args in
    let b = sym c.if-g.false in
    let stay = ap₂ (λ (p : Bool) (y : ℕ). kept p a.off y) (allows_off a.mark) (ap (λ (d : Bool). X d (suc a.k)) b ∙ h₃) in
    let case = off_hot a.unit.generator (mark_of a.mark) (by_status a.on a.off) X a.k c.if-k-g-2.false c.if-k-g-3.true in
    let leave = ap₂ (λ (p : Bool) (y : ℕ). kept p (a.unit.generator.Hsc + a.on) y) (allows_on a.mark) h₁ in
    c.lesser_value-then-k-g-3.ensures ∙ ap₂ lesser (c.kept_value-then-k-g-3.ensures ∙ sym leave) (c.kept_value-staying-2.ensures ∙ sym stay) ∙ sym case
    ∙ ap (λ (d : Bool). back a.unit.generator (mark_of a.mark) (by_status a.on a.off) X d a.k) b

pub returns : goal.returns
returns c X h₁ h₂ h₃ =
    let a = c.args in
    let b = sym c.if-g.false in
    let stay = ap₂ (λ (p : Bool) (y : ℕ). kept p a.off y) (allows_off a.mark) (ap (λ (d : Bool). X d (suc a.k)) b ∙ h₃) in
    let case = off_cold a.unit.generator (mark_of a.mark) (by_status a.on a.off) X a.k c.if-k-g-3.false in
    let leave = ap₂ (λ (p : Bool) (y : ℕ). kept p (a.unit.generator.Csc + a.on) y) (allows_on a.mark) h₁ in
    c.lesser_value-2.ensures ∙ ap₂ lesser (c.kept_value-2.ensures ∙ sym leave) (c.kept_value-staying-2.ensures ∙ sym stay) ∙ sym case
    ∙ ap (λ (d : Bool). back a.unit.generator (mark_of a.mark) (by_status a.on a.off) X d a.k) b
