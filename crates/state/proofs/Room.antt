-- Slices that are long enough for a state have so many numbers and rows.
use mathlib.Core.Path.{◌≡◌, refl}
use mathlib.Core.Bool.{Bool, true, false, cond}
use mathlib.Core.List.{List}
use Prim.Native.Nat.{ℕ, ◌≤◌}
use native.Mathlib.Omega.{arith}
use lib.Dec.{ltb, leb}
use lib.ListN.{length}
use borrow.Author.Tests.{ltb-false, leb-true, le-ltb, le-leb}
use Rattle.state.specs.Kept.{long}

pub clash : {A : Type 0} → false ≡ true → A
clash e = absurd (let z : ◌≡◌ {A = ℕ} 0 1 = cc in omega arith)

module _ (v w : List ℕ) where
  pub long_room : long v w ≡ true → (618 ≤ length v) × (1536 ≤ length w)
  long_room e = go (ltb (length v) 618) refl e
    where
      go : (t : Bool) → ltb (length v) 618 ≡ t → cond t false (leb 1536 (length w)) ≡ true → (618 ≤ length v) × (1536 ≤ length w)
      go true h k = clash k
      go false h k = (ltb-false (length v) 618 h, leb-true 1536 (length w) k)

  pub room_long : 618 ≤ length v → 1536 ≤ length w → long v w ≡ true
  room_long h k = rw (le-ltb (length v) 618 h, le-leb 1536 (length w) k) refl
