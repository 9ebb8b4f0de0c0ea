-- Under which problem a docket answers a question: of every value its own, where it judges by that, and else none; after a list of texts the problem that they gave.
use mathlib.Core.Path.{◌≡◌, refl, ap, subst, ◌∙◌}
use mathlib.Core.Bool.{Bool, true, false, cond}
use mathlib.Core.List.{List}
use mathlib.Core.Option.{Option, none, some}
use Prim.Native.Nat.{ℕ}
use native.Mathlib.Omega.{arith}
use Rattle.model.specs.Instance.{Instance}
use Rattle.model.specs.Held.{view}
use Rattle.docket.specs.declared.Docket.{Docket}
use Rattle.docket.specs.Docket.{fresh_docket, sound}
use Rattle.docket.specs.Verdicts.{Verdict}
use Rattle.docket.specs.Texts.{Are}
use Rattle.docket.specs.Lodging.{trusted, lodge_of}
use Rattle.docket.specs.Demand3.{Holding}
use Rattle.docket.specs.Promised.{after, given, Long, KnownSound, JudgesBy, its_own, no_problem}
use Rattle.docket.proofs.Lists.{reached_sound}
use Rattle.docket.proofs.Demand3.{demand3}
use Rattle.docket.proofs.Determined.{holds_then}
use Rattle.docket.proofs.EachText.{is_held}
use Rattle.docket.proofs.AnyDocket.{known_sound_is}
use Rattle.docket.proofs.HoldingAnswers.{knows_none, itself}

-- ---- of every docket value

module _ (d : Docket) (long : Long d) where
  pub its_known : KnownSound d → (trusted d).known ≡ true
  its_known k = ap (λ (x : Docket). x.known) (itself d ((known_sound_is d long k.known).1 k)) ∙ k.known

  pub none_known : (KnownSound d → ⊥) → (trusted d).known ≡ false
  none_known n = go (sound d) d.known refl refl
    where
      go : (s k : Bool) → sound d ≡ s → d.known ≡ k → (cond s d fresh_docket).known ≡ false
      go true true e k = absurd (n ((known_sound_is d long k).0 e))
      go true false e k = k
      go false k e q = refl

  pub judged_known : (P : Instance) → JudgesBy d (some P) → ((trusted d).known ≡ true) × (view d.problem ≡ P)
  judged_known P j = go (some P) j refl
    where
      go : (o : Option Instance) → JudgesBy d o → o ≡ some P → ((trusted d).known ≡ true) × (view d.problem ≡ P)
      go _ (its_own k) e = (its_known k, let h : view d.problem ≡ P = cc in h)
      go _ (no_problem n) e = absurd (let z : ◌≡◌ {A = ℕ} 0 1 = cc in omega arith)

-- ---- after a list of texts

module _ (texts : List (List ℕ)) (vs : List Verdict) (are : Are none texts vs) where
  pub given_known : (P : Instance) → given vs ≡ some P → ((trusted (after texts)).known ≡ true) × (view (after texts).problem ≡ P)
  given_known P e =
      let h = is_held texts vs are P e in
      (ap (λ (x : Docket). x.known) (itself (after texts) (reached_sound texts)) ∙ h.0, h.1)

  pub none_given : given vs ≡ none → (trusted (after texts)).known ≡ false
  none_given e =
      let fresh : after texts ≡ fresh_docket = subst (λ (o : Option Instance). Holding o vs (after texts)) e (holds_then lodge_of demand3 texts vs are) in
      knows_none (after texts) (ap (λ (x : Docket). x.known) fresh)
