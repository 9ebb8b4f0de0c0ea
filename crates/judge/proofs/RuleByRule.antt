-- The judgement, rule by rule: a rule that is broken nowhere is passed over, the first that is broken anywhere is the answer.
use mathlib.Core.Path.{◌≡◌, refl, ap, ◌∙◌}
use mathlib.Core.Option.{Option, none, some}
use Prim.Native.Nat.{ℕ}
use native.Mathlib.Omega.{arith}
use Rattle.model.specs.Instance.{Instance, Schedule}
use Rattle.model.specs.Cost.{cost}
use Rattle.model.specs.Breach.{Breach, numbered, first_breach, place21, place22, place23, place24, place25}
use Rattle.model.specs.Breach as breach
use Rattle.judge.specs.declared.Broken.{Broken}
use Rattle.std.specs.Prelude.{Ok, Err}
use Rattle.judge.specs.Judgement.{place_found, rule_kept, breach_or_cost, judgement}

module _ (k : ℕ) (y : Option Breach) (c : ℕ) where
  pub broken : (o : Option (breach.Place)) (b : Broken) → rule_kept k (place_found o) ≡ Err b → breach_or_cost (numbered k o y) c ≡ Err b
  broken none b e = let z : ◌≡◌ {A = ℕ} 0 1 = cc in absurd (omega arith)
  broken (some x) b e =
      let r : record { number = k; place = record { unit = x.unit; period = x.period } } ≡ b = cc in ap Err r

  pub kept : (o : Option (breach.Place)) → rule_kept k (place_found o) ≡ Ok tt → breach_or_cost (numbered k o y) c ≡ breach_or_cost y c
  kept none e = refl
  kept (some b) e = let z : ◌≡◌ {A = ℕ} 0 1 = cc in absurd (omega arith)

-- ---- a judgement taken apart

module _ (P : Instance) (s : Schedule) where
  -- a schedule is refused by its first breach ..
  pub refused_is : (b : Broken) → judgement P s ≡ Err b
      → first_breach P s ≡ some (record { number = b.number; unit = b.place.unit; period = b.place.period })
  unfolding judgement
  refused_is b = go (first_breach P s)
    where
      go : (o : Option Breach) → breach_or_cost o (cost P s) ≡ Err b
          → o ≡ some (record { number = b.number; unit = b.place.unit; period = b.place.period })
      go none e = let z : ◌≡◌ {A = ℕ} 0 1 = cc in absurd (omega arith)
      go (some x) e =
          let r : record { number = x.number; place = record { unit = x.unit; period = x.period } } ≡ b = cc in
          ap (λ (y : Broken). some (record { number = y.number; unit = y.place.unit; period = y.place.period })) r

  -- .. and, if it has none, answered with its cost
  pub accepted_is : (k : ℕ) → judgement P s ≡ Ok k → (first_breach P s ≡ none) × (cost P s ≡ k)
  unfolding judgement
  accepted_is k = go (first_breach P s)
    where
      go : (o : Option Breach) → breach_or_cost o (cost P s) ≡ Ok k → (o ≡ none) × (cost P s ≡ k)
      go none e = (refl, cc)
      go (some x) e = let z : ◌≡◌ {A = ℕ} 0 1 = cc in absurd (omega arith)

-- ---- rule by rule

module _ (P : Instance) (s : Schedule) where
  -- what is left to judge, from a rule on
  unfoldable pub from25 : Option Breach
  from25 = numbered 25 (place25 P s) none

  unfoldable pub from24 : Option Breach
  from24 = numbered 24 (place24 P s) from25

  unfoldable pub from23 : Option Breach
  from23 = numbered 23 (place23 P s) from24

  unfoldable pub from22 : Option Breach
  from22 = numbered 22 (place22 P s) from23

  -- the judgement is that of what is left
  abbrev pub Left : Option Breach → Type 0
  Left o = judgement P s ≡ breach_or_cost o (cost P s)

  pub breaks21 : (b : Broken) → rule_kept 21 (place_found (place21 P s)) ≡ Err b → judgement P s ≡ Err b
  unfolding judgement first_breach
  breaks21 b e = broken 21 _ (cost P s) (place21 P s) b e

  pub keeps21 : rule_kept 21 (place_found (place21 P s)) ≡ Ok tt → Left from22
  unfolding judgement first_breach from22 from23 from24 from25
  keeps21 e = kept 21 from22 (cost P s) (place21 P s) e

  pub breaks22 : Left from22 → (b : Broken) → rule_kept 22 (place_found (place22 P s)) ≡ Err b → judgement P s ≡ Err b
  unfolding from22
  breaks22 l b e = l ∙ broken 22 from23 (cost P s) (place22 P s) b e

  pub keeps22 : Left from22 → rule_kept 22 (place_found (place22 P s)) ≡ Ok tt → Left from23
  unfolding from22
  keeps22 l e = l ∙ kept 22 from23 (cost P s) (place22 P s) e

  pub breaks23 : Left from23 → (b : Broken) → rule_kept 23 (place_found (place23 P s)) ≡ Err b → judgement P s ≡ Err b
  unfolding from23
  breaks23 l b e = l ∙ broken 23 from24 (cost P s) (place23 P s) b e

  pub keeps23 : Left from23 → rule_kept 23 (place_found (place23 P s)) ≡ Ok tt → Left from24
  unfolding from23
  keeps23 l e = l ∙ kept 23 from24 (cost P s) (place23 P s) e

  pub breaks24 : Left from24 → (b : Broken) → rule_kept 24 (place_found (place24 P s)) ≡ Err b → judgement P s ≡ Err b
  unfolding from24
  breaks24 l b e = l ∙ broken 24 from25 (cost P s) (place24 P s) b e

  pub keeps24 : Left from24 → rule_kept 24 (place_found (place24 P s)) ≡ Ok tt → Left from25
  unfolding from24
  keeps24 l e = l ∙ kept 24 from25 (cost P s) (place24 P s) e

  pub breaks25 : Left from25 → (b : Broken) → rule_kept 25 (place_found (place25 P s)) ≡ Err b → judgement P s ≡ Err b
  unfolding from25
  breaks25 l b e = l ∙ broken 25 none (cost P s) (place25 P s) b e

  pub costs : Left from25 → rule_kept 25 (place_found (place25 P s)) ≡ Ok tt → judgement P s ≡ Ok (cost P s)
  unfolding from25
  costs l e = l ∙ kept 25 none (cost P s) (place25 P s) e
