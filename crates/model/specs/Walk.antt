-- What the code follows for one unit's least value: a walk over the periods left, in naturals. It is the true minimum over all
-- rows (proofs/WalkRows), whatever a period costs on and off: a price leaf is one use (specs/Prices).
use Rattle.std.specs.Prelude.{◌≡◌, Bool, true, false, cond, ◌&&◌, ℕ, zero, suc, ◌+◌, ◌≤◌, min}
use Rattle.model.specs.declared.generator.Generator.{Generator}
use Rattle.model.specs.Rules.{permits, spent}
use Rattle.model.specs.Cost.{switch_cost}
use Rattle.model.specs.Above.{Mark, allows}

-- ---- coded values: 0 where there is none, v + 1 for the value v

-- k more than a coded value
unfoldable pub plus : ℕ → ℕ → ℕ
plus k zero = 0
plus k (suc v) = k + suc v

-- the lesser of two
unfoldable pub lesser : ℕ → ℕ → ℕ
lesser zero y = y
lesser (suc x) zero = suc x
lesser (suc x) (suc y) = min (suc x) (suc y)

-- ---- the walk

-- a coded value for each state: k periods in the status b
abbrev pub Values : Type 0
Values = Bool → ℕ → ℕ

-- after k periods in b, one in d that costs v, where the rules and the mark let it be; X is the value after it
abbrev pub move : Generator → Mark → ℕ → Bool → ℕ → Bool → ℕ → ℕ
move g m v b k d X = cond (permits g b k d && allows m d) (plus (switch_cost g b k d + v) X) 0

-- one period back: from the values after it to those before it. It costs w d in the status d
unfoldable pub back : Generator → Mark → (Bool → ℕ) → Values → Values
back g m w X b k =
    lesser (move g m (w false) b k false (X false (spent b k false))) (move g m (w true) b k true (X true (spent b k true)))

-- the least value of the n periods left, period t of them costing w t d in the status d
unfoldable pub walk : ℕ → Generator → (ℕ → Mark) → (ℕ → Bool → ℕ) → Values
walk zero g m w b k = 1
walk (suc n) g m w b k = back g (m 0) (w 0) (walk n g (λ t. m (suc t)) (λ t. w (suc t))) b k

-- more periods in a status than these make no difference: TU on, TD + Tcold + 1 off
abbrev pub cap : Generator → Bool → ℕ
cap g true = g.TU
cap g false = g.TD + g.Tcold + 1

-- from the caps on the values are the same
abbrev pub Settled : Generator → Values → Type 0
Settled g X = (b : Bool) (k k' : ℕ) → cap g b ≤ k → cap g b ≤ k' → X b k ≡ X b k'
