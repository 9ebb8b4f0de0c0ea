-- Values joined by commas and bytes cut at commas: each undoes the other.
use Prim.Native.Nat.{ℕ, ◌<◌}
use native.Mathlib.Omega.{arith}
use mathlib.Core.Path.{◌≡◌, refl, sym, ap, ◌∙◌}
use mathlib.Core.Bool.{Bool, true, false, not, ◌&&◌}
use mathlib.Core.List.{List, [], ◌∷◌, ◌++◌}
use lib.ListN.{length}
use lib.Dec.{eqb}
use borrow.Author.Tests.{eqb-true, not-true}
use Rattle.text.specs.Forms.{by_comma, cut_values}
use Rattle.text.specs.Rendering.{comma_joined}
use Rattle.text.proofs.Cuts.{and_both}

-- there is a value, if only an empty one
pub values_some : (b : List ℕ) → 0 < length (cut_values b)
values_some [] = omega arith
values_some (c ∷ b) = go (eqb c 44) (cut_values b)
  where
    go : (t : Bool) (fs : List (List ℕ)) → 0 < length (by_comma t c fs)
    go true fs = omega arith
    go false [] = omega arith
    go false (f ∷ fs) = omega arith

join_comma : (fs : List (List ℕ)) → 0 < length fs → comma_joined ([] ∷ fs) ≡ 44 ∷ comma_joined fs
join_comma [] h = absurd (omega arith)
join_comma (f ∷ fs) h = refl

join_byte : (c : ℕ) (fs : List (List ℕ)) → 0 < length fs → comma_joined (by_comma false c fs) ≡ c ∷ comma_joined fs
join_byte c [] h = absurd (omega arith)
join_byte c (f ∷ []) h = refl
join_byte c (f ∷ g ∷ fs) h = refl

pub joined_cut : (b : List ℕ) → comma_joined (cut_values b) ≡ b
joined_cut [] = refl
joined_cut (c ∷ b) = go (eqb c 44) refl (joined_cut b)
  where
    go : (t : Bool) → eqb c 44 ≡ t → comma_joined (cut_values b) ≡ b → comma_joined (by_comma t c (cut_values b)) ≡ c ∷ b
    go true u h = join_comma (cut_values b) (values_some b) ∙ (λ i. sym (eqb-true c 44 u) i ∷ h i)
    go false u h = join_byte c (cut_values b) (values_some b) ∙ ap (λ (l : List ℕ). c ∷ l) h

-- no byte is a comma
abbrev pub no_comma : List ℕ → Bool
no_comma [] = true
no_comma (b ∷ f) = not (eqb b 44) && no_comma f

abbrev pub no_commas : List (List ℕ) → Bool
no_commas [] = true
no_commas (f ∷ fs) = no_comma f && no_commas fs

cut_one : (f : List ℕ) → no_comma f ≡ true → cut_values f ≡ f ∷ []
cut_one [] e = refl
cut_one (b ∷ f) e =
    let p = and_both (not (eqb b 44)) (no_comma f) e in
    ap (λ (t : Bool). by_comma t b (cut_values f)) (not-true (eqb b 44) p.0) ∙ ap (by_comma false b) (cut_one f p.1)

cut_more : (f t : List ℕ) → no_comma f ≡ true → cut_values (f ++ (44 ∷ t)) ≡ f ∷ cut_values t
cut_more [] t e = refl
cut_more (b ∷ f) t e =
    let p = and_both (not (eqb b 44)) (no_comma f) e in
    ap (λ (x : Bool). by_comma x b (cut_values (f ++ (44 ∷ t)))) (not-true (eqb b 44) p.0) ∙ ap (by_comma false b) (cut_more f t p.1)

pub cut_joined : (f : List ℕ) (fs : List (List ℕ)) → no_commas (f ∷ fs) ≡ true → cut_values (comma_joined (f ∷ fs)) ≡ f ∷ fs
cut_joined f [] e = cut_one f (and_both (no_comma f) true e).0
cut_joined f (g ∷ fs) e =
    let p = and_both (no_comma f) (no_commas (g ∷ fs)) e in
    cut_more f (comma_joined (g ∷ fs)) p.0 ∙ ap (λ (l : List (List ℕ)). f ∷ l) (cut_joined g fs p.1)
