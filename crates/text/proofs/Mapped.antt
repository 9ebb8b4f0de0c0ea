-- What is known of a result whose error `map_err` has turned into another, by what it is after that.
use native.Mathlib.Omega.{arith}
use Prim.Native.Nat.{ℕ}
use mathlib.Core.Path.{◌≡◌, refl, ap, subst, ◌∙◌}
use Rattle.std.specs.Prelude.{Result, Ok, Err}
use Rattle.std.specs.Result.{IsErrAnd, MatchResult}

-- what was wrong, of which d was made
pub record Was {T E D : Type 0} (before : Result T E) (made : E → D → Type 0) (d : D) : Type 0 where
  pub fault : E
  pub was : before ≡ Err fault
  pub met : made fault d

module _ {T E D : Type 0} (before : Result T E) (after : Result T D) (made : E → D → Type 0)
    (cases : MatchResult before (λ x. after ≡ Ok x) (λ e. IsErrAnd after (made e))) where
  pub mapped_err : {d : D} → after ≡ Err d → Was before made d
  mapped_err {d} e = go before refl cases
    where
      go : (x : Result T E) → before ≡ x → MatchResult x (λ x. after ≡ Ok x) (λ e. IsErrAnd after (made e)) → Was before made d
      go (Ok x) p h = absurd (let z : ◌≡◌ {A = ℕ} 0 1 = cc in omega arith)
      go (Err w) p h = record { fault = w; was = p; met = subst (λ (z : Result T D). IsErrAnd z (made w)) e h }

  -- what was good stays as it is
  pub mapped_ok : {x : T} → after ≡ Ok x → before ≡ Ok x
  mapped_ok {x} e = go before refl cases
    where
      go : (y : Result T E) → before ≡ y → MatchResult y (λ x. after ≡ Ok x) (λ e. IsErrAnd after (made e)) → before ≡ Ok x
      go (Ok y) p h = let q : y ≡ x = cc in p ∙ ap (λ (z : T). Ok z) q
      go (Err w) p h = absurd (subst (λ (z : Result T D). IsErrAnd z (made w)) e h)
