-- The order of breaches, by number, period and unit: of two, one is lower or they are one. So a first one is the only first.
use mathlib.Core.Path.{◌≡◌, sym, ap}
use mathlib.Core.Bool.{Bool, true, false, not}
use mathlib.Core.Option.{Option, none, some}
use mathlib.Core.Logic.{◌⊎◌, inl, inr}
use Prim.Native.Nat.{ℕ, ◌≤◌, ◌<◌}
use native.Mathlib.Nat.{eq-or-lt_of_le}
use lib.Dec.{T, leb, leb→le, nleb→lt}
use Rattle.model.specs.Breach.{Breach}
use Rattle.model.specs.Broken.{Lower, Earliest}

-- a breach is its three numbers
pub breach_is : (b : Breach) {k u t : ℕ} → b.number ≡ k → b.unit ≡ u → b.period ≡ t
    → b ≡ record { number = k; unit = u; period = t }
breach_is b {k} {u} {t} e e' e'' = parts b.number b.unit b.period e e' e''
  where
    parts : (k' u' t' : ℕ) → k' ≡ k → u' ≡ u → t' ≡ t
        → ◌≡◌ {A = Breach} (record { number = k'; unit = u'; period = t' }) (record { number = k; unit = u; period = t })
    parts k' u' t' e e' e'' = cc

pub compare : (m n : ℕ) → (m < n) ⊎ ((m ≡ n) ⊎ (n < m))
compare m n = go (leb m n) (λ t. leb→le m n t) (λ t. nleb→lt m n t)
  where
    equal : (m ≡ n) ⊎ (m < n) → (m < n) ⊎ ((m ≡ n) ⊎ (n < m))
    equal (inl e) = inr (inl e)
    equal (inr l) = inl l

    go : (c : Bool) → (T c → m ≤ n) → (T (not c) → n < m) → (m < n) ⊎ ((m ≡ n) ⊎ (n < m))
    go true f h = equal (eq-or-lt_of_le (f tt))
    go false f h = inr (inr (h tt))

-- of two breaches one is lower, or they are one
pub lower_or_same : (b c : Breach) → Lower b c ⊎ ((b ≡ c) ⊎ Lower c b)
lower_or_same b c = number (compare b.number c.number)
  where
    unit : b.number ≡ c.number → b.period ≡ c.period → (b.unit < c.unit) ⊎ ((b.unit ≡ c.unit) ⊎ (c.unit < b.unit))
        → Lower b c ⊎ ((b ≡ c) ⊎ Lower c b)
    unit e e' (inl l) = inl (inr (e, inr (e', l)))
    unit e e' (inr (inl e'')) = inr (inl (breach_is b e e'' e'))
    unit e e' (inr (inr l)) = inr (inr (inr (sym e, inr (sym e', l))))

    period : b.number ≡ c.number → (b.period < c.period) ⊎ ((b.period ≡ c.period) ⊎ (c.period < b.period))
        → Lower b c ⊎ ((b ≡ c) ⊎ Lower c b)
    period e (inl l) = inl (inr (e, inl l))
    period e (inr (inl e')) = unit e e' (compare b.unit c.unit)
    period e (inr (inr l)) = inr (inr (inr (sym e, inl l)))

    number : (b.number < c.number) ⊎ ((b.number ≡ c.number) ⊎ (c.number < b.number)) → Lower b c ⊎ ((b ≡ c) ⊎ Lower c b)
    number (inl l) = inl (inl l)
    number (inr (inl e)) = period e (compare b.period c.period)
    number (inr (inr l)) = inr (inr (inl l))

-- what is of the kind B, none lower being so, is what a search for the first of B answers
pub only_first : (B : Breach → Type 0) (b : Breach) → B b → ((c : Breach) → Lower c b → B c → ⊥)
    → (x : Option Breach) → Earliest Lower B x → x ≡ some b
only_first B b h n none e = absurd (e b h)
only_first B b h n (some c) e = go (lower_or_same b c)
  where
    go : Lower b c ⊎ ((b ≡ c) ⊎ Lower c b) → some c ≡ some b
    go (inl l) = absurd (e.1 b l h)
    go (inr (inl p)) = ap some (sym p)
    go (inr (inr l)) = absurd (n c l e.0)

-- the first of F is the first of B, where every B is an F and the first F is a B
pub firsts : (F B : Breach → Type 0) → ((b : Breach) → B b → F b)
    → ((b : Breach) → F b → ((c : Breach) → Lower c b → F c → ⊥) → B b)
    → (x : Option Breach) → Earliest Lower F x → Earliest Lower B x
firsts F B f g none e = λ b h. e b (f b h)
firsts F B f g (some b) e = (g b e.0 e.1, λ c l h. e.1 c l (f c h))
