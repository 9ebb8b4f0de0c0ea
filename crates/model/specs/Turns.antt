-- Document 02, [2]: the order in which `short` takes units, and how many it takes.
use Rattle.std.specs.Prelude.{◌≡◌, List, [], ◌∷◌, ℕ, zero, suc, ◌-◌, ◌≤◌, ◌<◌, length, take}
use Rattle.std.proofs.Math.Option.{Option, none, some}
use Rattle.model.specs.Instance.{Instance}
use Rattle.model.specs.Above.{Above}
use Rattle.model.specs.Largest.{total, falling}
use Rattle.model.specs.Leaf.{usable}

-- members as they stand; where an upper count K stands the largest first, K of them at most
abbrev pub turned : Option ℕ → List ℕ → List ℕ
turned none l = l
turned (some K) l = take K (falling l)

-- the pU that `short` sums in period t with A above, in the order in which they are taken: by unit number, or the largest first
unfoldable pub in_turn : Instance → Above → ℕ → List ℕ
in_turn P A t = turned (A.most t) (usable P.units A.marks t)

-- how many of l, from its front, are taken until their sum reaches d; all of them if it does not
unfoldable pub took : List ℕ → ℕ → ℕ
took [] d = 0
took (x ∷ l) zero = 0
took (x ∷ l) (suc d) = suc (took l (suc d - x))

-- ---- what that is, without taking one after the other

-- n is the length of the shortest beginning of l that sums to at least d, or of l if it sums to less
pub record Fewest (l : List ℕ) (d n : ℕ) : Type 0 where
  pub fewer : (k : ℕ) → k < n → total (take k l) < d
  pub enough : d ≤ total l → d ≤ total (take n l)
  pub all : total l < d → n ≡ length l
