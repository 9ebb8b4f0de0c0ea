-- What the searches for a breach find: over the units the first, over the periods the first period's first, and over the
-- numbers the lowest that has a place. Each is by induction on what is searched, one step being: it is here, or it is later.
use mathlib.Core.Path.{◌≡◌, refl}
use mathlib.Core.Bool.{Bool, true, false, not, cond}
use mathlib.Core.Option.{Option, none, some}
use mathlib.Core.Logic.{◌⊎◌, inl, inr}
use mathlib.Core.List.{List, [], ◌∷◌}
use Prim.Native.Nat.{ℕ, zero, suc, ◌-◌, ◌≤◌, ◌<◌}
use native.Mathlib.Omega.{arith}
use lib.Dec.{T, T_not}
use Rattle.model.specs.declared.generator.Generator.{Generator}
use Rattle.model.specs.Instance.{Schedule}
use Rattle.model.specs.Breach.{Breach, Place, next_unit, first_unit, here_or_later, first_place, no_unit, numbered}
use Rattle.model.proofs.OneUnit.{Counted, counted_none}
use Rattle.model.specs.Broken.{Of, Lower, Earliest}

-- ---- over the units

-- the units whose rows pass a test
abbrev pub Passing : (Generator → List ℕ → Bool) → List Generator → Schedule → ℕ → Type 0
Passing p gs rows = Counted (λ u. Of u (λ g r. T (p g r)) gs rows)

pub unit_earliest : (p : Generator → List ℕ → Bool) (gs : List Generator) (rows : Schedule)
    → Earliest ◌<◌ (Passing p gs rows) (first_unit p gs rows)
unit_earliest p [] rows = counted_none _ (λ u h. h)
unit_earliest p (g ∷ gs) [] = counted_none _ (λ u h. h)
unit_earliest p (g ∷ gs) (r ∷ rows) =
    go (p g r) (first_unit p gs rows) (λ k. k) (λ k. T_not (p g r) k) (unit_earliest p gs rows)
  where
    later : (u : ℕ) → Passing p gs rows u → Passing p (g ∷ gs) (r ∷ rows) (suc u)
    later zero h = absurd h
    later (suc u) h = h

    none_before : (m v : ℕ) → (T (p g r) → ⊥) → ((w : ℕ) → w < m → Passing p gs rows w → ⊥) → v < suc m
        → Passing p (g ∷ gs) (r ∷ rows) v → ⊥
    none_before m zero n e l h = h
    none_before m (suc zero) n e l h = n h
    none_before m (suc (suc v)) n e l h = e (suc v) (omega arith) h

    before_one : (v : ℕ) → v < 1 → Passing p (g ∷ gs) (r ∷ rows) v → ⊥
    before_one zero l h = h
    before_one (suc v) l h = omega arith

    go : (c : Bool) (x : Option ℕ) → (T c → T (p g r)) → (T (not c) → T (p g r) → ⊥) → Earliest ◌<◌ (Passing p gs rows) x
        → Earliest ◌<◌ (Passing p (g ∷ gs) (r ∷ rows)) (cond c (some 1) (next_unit x))
    go true x y n e = (y tt, before_one)
    go false none y n e = λ v h. none_before v v (n tt) (λ w l. e w) (omega arith) h
    go false (some u) y n e = (later u e.0, λ v l h. none_before u v (n tt) e.1 l h)

-- a rule of a whole period
abbrev pub Nameless : Bool → ℕ → Type 0
Nameless c v = (v ≡ 0) × T c

pub no_unit_earliest : (c : Bool) → Earliest ◌<◌ (Nameless c) (no_unit c)
no_unit_earliest true = ((refl, tt), λ v l h. omega arith)
no_unit_earliest false = λ v h. h.1

-- ---- over the periods

-- the place's period is one of the first n, and its unit is one that H has there
pub record Spot (n : ℕ) (H : ℕ → ℕ → Type 0) (x : Place) : Type 0 where
  pub t : ℕ
  pub period_is : x.period ≡ suc t
  pub inside : t < n
  pub hit : H t x.unit

pub spot : {n : ℕ} {H : ℕ → ℕ → Type 0} {v : ℕ} (t : ℕ) → t < n → H t v → Spot n H (record { unit = v; period = suc t })
spot t l h = record { t = t; period_is = refl; inside = l; hit = h }

-- lowest period, then lowest unit
abbrev pub Sooner : Place → Place → Type 0
Sooner x y = (x.period < y.period) ⊎ ((x.period ≡ y.period) × (x.unit < y.unit))

-- the same place, counted from the second period
abbrev back : Place → Place
back x = record { unit = x.unit; period = x.period - 1 }

spot_cases : (n : ℕ) (H : ℕ → ℕ → Type 0) (x : Place) → Spot (suc n) H x
    → ((x.period ≡ 1) × H 0 x.unit) ⊎ ((1 < x.period) × Spot n (λ t. H (suc t)) (back x))
spot_cases n H x h = go h.t h.period_is h.inside h.hit
  where
    go : (t : ℕ) → x.period ≡ suc t → t < suc n → H t x.unit
        → ((x.period ≡ 1) × H 0 x.unit) ⊎ ((1 < x.period) × Spot n (λ t. H (suc t)) (back x))
    go zero e l k = inl (e, k)
    go (suc t) e l k = inr (omega arith, record { t = t; period_is = omega arith; inside = omega arith; hit = k })

pub place_earliest : (n : ℕ) (f : ℕ → Option ℕ) (H : ℕ → ℕ → Type 0) → ((t : ℕ) → Earliest ◌<◌ (H t) (f t))
    → Earliest Sooner (Spot n H) (first_place n f)
place_earliest zero f H e = λ x h. omega (arith, h.inside)
place_earliest (suc n) f H e =
    go (f 0) (first_place n (λ t. f (suc t))) (e 0) (place_earliest n (λ t. f (suc t)) (λ t. H (suc t)) (λ t. e (suc t)))
  where
    sooner : (x y : Place) → 1 < x.period → Sooner x (record { unit = y.unit; period = suc y.period }) → Sooner (back x) y
    sooner x y l (inl h) = inl (omega arith)
    sooner x y l (inr h) = inr (omega (arith, h.0), h.1)

    in_first : (u : ℕ) (x : Place) → ((v : ℕ) → v < u → H 0 v → ⊥) → Sooner x (record { unit = u; period = 1 })
        → ((x.period ≡ 1) × H 0 x.unit) ⊎ ((1 < x.period) × Spot n (λ t. H (suc t)) (back x)) → ⊥
    in_first u x a (inl l) (inl h) = omega (arith, h.0)
    in_first u x a (inl l) (inr h) = omega (arith, h.0)
    in_first u x a (inr l) (inl h) = a x.unit l.1 h.1
    in_first u x a (inr l) (inr h) = omega (arith, h.0, l.0)

    in_later : (x : Place) → ((v : ℕ) → H 0 v → ⊥) → (1 < x.period → Spot n (λ t. H (suc t)) (back x) → ⊥)
        → ((x.period ≡ 1) × H 0 x.unit) ⊎ ((1 < x.period) × Spot n (λ t. H (suc t)) (back x)) → ⊥
    in_later x a b (inl h) = a x.unit h.1
    in_later x a b (inr h) = b h.0 h.1

    go : (x : Option ℕ) (y : Option Place) → Earliest ◌<◌ (H 0) x → Earliest Sooner (Spot n (λ t. H (suc t))) y
        → Earliest Sooner (Spot (suc n) H) (here_or_later x y)
    go (some u) y a b = (spot 0 (omega arith) a.0, λ c l h. in_first u c a.1 l (spot_cases n H c h))
    go none none a b = λ c h. in_later c a (λ l k. b (back c) k) (spot_cases n H c h)
    go none (some y) a b = (
      record {
        t = suc b.0.t;
        period_is = omega (arith, b.0.period_is);
        inside = omega (arith, b.0.inside);
        hit = b.0.hit;
      },
      λ c l h. in_later c a (λ j k. b.1 (back c) (sooner c y j l) k) (spot_cases n H c h),
    )

-- ---- over the numbers

-- the breaches with the number k at the places of Q, and those of C
abbrev pub Joined : ℕ → (Place → Type 0) → (Breach → Type 0) → Breach → Type 0
Joined k Q C b = ((b.number ≡ k) × Q (record { unit = b.unit; period = b.period })) ⊎ C b

-- y is the first of C, whose numbers are k or above
pub record FirstFrom (k : ℕ) (C : Breach → Type 0) (y : Option Breach) : Type 0 where
  pub earliest : Earliest Lower C y
  pub from : (b : Breach) → C b → k ≤ b.number

pub numbered_first : (k : ℕ) (Q : Place → Type 0) {C : Breach → Type 0} {y : Option Breach} (x : Option Place)
    → Earliest Sooner Q x → FirstFrom (suc k) C y → FirstFrom k (Joined k Q C) (numbered k x y)
numbered_first k Q {C} {y} x a e = record { earliest = go x y a e.earliest; from = from }
  where
    from : (b : Breach) → Joined k Q C b → k ≤ b.number
    from b (inl h) = omega (arith, h.0)
    from b (inr h) = omega (arith, e.from b h)

    go : (x : Option Place) (y : Option Breach) → Earliest Sooner Q x → Earliest Lower C y
        → Earliest Lower (Joined k Q C) (numbered k x y)
    go none none a f = either
      where
        either : (b : Breach) → Joined k Q C b → ⊥
        either b (inl h) = a _ h.1
        either b (inr h) = f b h
    go none (some b) a f = (inr f.0, either)
      where
        either : (c : Breach) → Lower c b → Joined k Q C c → ⊥
        either c l (inl h) = a _ h.1
        either c l (inr h) = f.1 c l h
    go (some x) y a f = (inl (refl, a.0), either)
      where
        either : (c : Breach) → Lower c (record { number = k; unit = x.unit; period = x.period }) → Joined k Q C c → ⊥
        either c (inl l) (inl h) = omega (arith, h.0)
        either c (inr l) (inl h) = a.1 _ l.1 h.1
        either c (inl l) (inr h) = omega (arith, e.from c h)
        either c (inr l) (inr h) = omega (arith, e.from c h, l.0)
