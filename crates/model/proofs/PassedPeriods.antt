-- The table of the periods passed, period by period: before the first one it holds the unit's state alone; and what a period forward makes of a table that means
-- what it should means what it should, since a run of t + 1 statuses is one of t and its last.
use mathlib.Core.Path.{◌≡◌, refl, sym, ◌∙◌, ap, ap₂, subst}
use mathlib.Core.Bool.{Bool, ◌&&◌}
use mathlib.Core.List.{List, [], ◌∷◌, ◌++◌}
use Prim.Native.Nat.{ℕ, suc, ◌+◌, ◌≤◌, ◌<◌}
use native.Mathlib.Omega.{arith}
use lib.Dec.{T}
use Rattle.model.specs.declared.generator.Generator.{Generator}
use Rattle.model.specs.Ranges.{GoodUnit}
use Rattle.model.specs.Rules.{permits, spent}
use Rattle.model.specs.Cost.{switch_cost}
use Rattle.model.specs.Above.{Mark, allows}
use Rattle.model.specs.Walk.{Values}
use Rattle.model.specs.Ends.{lasted, capped}
use Rattle.model.specs.ForcedWalk.{may, Ahead}
use Rattle.model.proofs.WalkRuns.{Obeying}
use Rattle.model.proofs.Passed.{end_status, end_count, cost_of, Passed}
use Rattle.model.proofs.RunParts.{last_snoc, lasted_snoc, total_snoc, obeying_snoc, obeying_last}
use Rattle.model.proofs.StateEnds.{permits_capped, switch_capped, spent_capped, end_state}

-- ---- before the first period

pub passed_start : {g : Generator} {m : ℕ → Mark} {w : ℕ → Bool → ℕ} (X : Values) → X g.on (capped g g.on g.since) ≡ 1
    → ((b : Bool) (k : ℕ) → 0 < X b k → (b ≡ g.on) × (k ≡ capped g g.on g.since))
    → Passed g m w 0 X
passed_start {g} {m} {w} X one only = record { below = below; attained = attained }
  where
    below : (run : List Bool) → Obeying 0 g m g.on g.since run
        → (0 < X (end_status g run) (end_count g run)) × (X (end_status g run) (end_count g run) ≤ suc (cost_of g w run))
    below [] o = omega (arith, one)
    below (d ∷ run) o = absurd (omega (arith, o.long))

    attained : (b : Bool) (k : ℕ) → 0 < X b k
        → (run : List Bool) × Obeying 0 g m g.on g.since run × (end_status g run ≡ b) × (end_count g run ≡ k) × (X b k ≡ suc (cost_of g w run))
    attained b k h =
        let e = only b k h in
        ([], record { long = refl; times = tt; marked = tt }, sym e.0, sym e.1, ap₂ X e.0 e.1 ∙ one)

-- ---- one period forward

module _ {g : Generator} {m : ℕ → Mark} {w : ℕ → Bool → ℕ} {t : ℕ} {X Y : Values} (good : GoodUnit g) (passed : Passed g m w t X)
    (ahead : Ahead g (m t) (w t) X Y) where
  -- for how many periods the last status of a run has lasted
  abbrev count : List Bool → ℕ
  count r = lasted g.on g.since r

  -- a coded value that is there and at most z
  abbrev Cheap : ℕ → ℕ → Type 0
  Cheap y z = (0 < y) × (y ≤ suc z)

  -- a run that ends in a state and costs what the table says
  abbrev Found : Bool → ℕ → Type 0
  Found d k = (run : List Bool) × Obeying (suc t) g m g.on g.since run × (end_status g run ≡ d) × (end_count g run ≡ k) × (Y d k ≡ suc (cost_of g w run))

  -- the state after one status more
  snoc_end : {A : Type 0} (f : Bool → ℕ → A) (r : List Bool) (d : Bool)
      → f (end_status g (r ++ (d ∷ []))) (end_count g (r ++ (d ∷ []))) ≡ f d (capped g d (spent (end_status g r) (count r) d))
  snoc_end f r d = ap₂ (λ (x : Bool) (n : ℕ). f x (capped g x n)) (last_snoc g.on r d) (lasted_snoc g.on g.since r d)

  -- no run of one status more costs less
  snoc_below : (r : List Bool) (d : Bool) → Obeying t g m g.on g.since r → may g (m t) (end_status g r) (count r) d
      → Cheap (Y d (capped g d (spent (end_status g r) (count r) d))) (cost_of g w (r ++ (d ∷ [])))
  snoc_below r d o p =
      let p' : may g (m t) b (capped g b k) d = subst (λ (x : Bool). T (x && allows (m t) d)) (sym (permits_capped g b k d)) p in
      let x = passed.below r o in
      let y = ahead.below b (capped g b k) d (end_state good r) x.0 p' in
      let same : Y d (capped g d (spent b (capped g b k) d)) ≡ Y d (capped g d (spent b k d)) = ap (Y d) (spent_capped g b k d) in
      omega (arith, x, y, same, switch_capped g b k d, total_snoc g w g.on g.since t r d o.long)
    where
      b : Bool
      b = end_status g r

      k : ℕ
      k = count r

  next_below : (run : List Bool) → Obeying (suc t) g m g.on g.since run → Cheap (Y (end_status g run) (end_count g run)) (cost_of g w run)
  next_below run o =
      let z = obeying_last t g m g.on g.since run o in
      let r = z.0 in
      let d = z.1 in
      subst (λ (x : List Bool). Cheap (Y (end_status g x) (end_count g x)) (cost_of g w x)) (sym z.2)
      (subst (λ (y : ℕ). Cheap y (cost_of g w (r ++ (d ∷ [])))) (sym (snoc_end Y r d)) (snoc_below r d z.3 z.4))

  -- and one costs just that
  next_attained : (d : Bool) (k : ℕ) → 0 < Y d k → Found d k
  next_attained d k h =
      let a = ahead.attained d k h in
      let z = passed.attained a.0 a.1 a.3 in
      by a.0 a.1 a.4 a.5 a.6 z.0 z.1 z.2 z.3 z.4
    where
      by : (b : Bool) (i : ℕ) → may g (m t) b i d → capped g d (spent b i d) ≡ k → Y d k ≡ switch_cost g b i d + w t d + X b i → (r : List Bool)
          → Obeying t g m g.on g.since r → end_status g r ≡ b → end_count g r ≡ i → X b i ≡ suc (cost_of g w r)
          → Found d k
      by b i p to y r o eb ei x = (
        r ++ (d ∷ []),
        obeying_snoc t g m g.on g.since r d o p',
        last_snoc g.on r d,
        snoc_end (λ (c : Bool) (n : ℕ). n) r d ∙ sym (spent_capped g B K d) ∙ at (λ (c : Bool) (n : ℕ). capped g d (spent c n d)) ∙ to,
        omega (arith, y, x, cost, total_snoc g w g.on g.since t r d o.long),
      )
        where
          B : Bool
          B = end_status g r

          K : ℕ
          K = count r

          at : {A : Type 0} (f : Bool → ℕ → A) → f B (capped g B K) ≡ f b i
          at f = ap₂ f eb ei

          cost : switch_cost g B K d ≡ switch_cost g b i d
          cost = sym (switch_capped g B K d) ∙ at (λ (c : Bool) (n : ℕ). switch_cost g c n d)

          p' : may g (m t) B K d
          p' =
              subst (λ (x : Bool). T (x && allows (m t) d)) (permits_capped g B K d)
              (subst T (sym (at (λ (c : Bool) (n : ℕ). permits g c n d && allows (m t) d))) p)

  pub passed_next : Passed g m w (suc t) Y
  passed_next = record { below = next_below; attained = next_attained }
