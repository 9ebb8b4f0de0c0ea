-- The statuses above a leaf, as the bytes of a question: there are as many as are asked for, each is in its range, and read back they are the marks. And the leaves of a tree
-- within the limits are within theirs.
use mathlib.Core.Path.{◌≡◌, refl, sym, ap, ◌∙◌}
use mathlib.Core.Bool.{true, false}
use mathlib.Core.List.{List, [], ◌∷◌, ◌++◌, map}
use mathlib.Core.Logic.{inl, inr}
use Prim.Native.Nat.{ℕ, zero, suc, ◌+◌, ◌*◌, ◌≤◌, ◌<◌}
use native.Mathlib.Omega.{arith}
use lib.ListN.{length, length-append, get_or-append}
use lib.Seq.{get_or-append-add}
use Rattle.model.specs.Instance.{Instance, ◌at◌}
use Rattle.model.specs.Ranges.{All}
use Rattle.model.specs.Above.{side, Mark, free, fixed, Marks, rest, Above}
use Rattle.model.specs.Agreement.{LeafOf, leaf_at}
use Rattle.model.specs.Leaf.{range}
use Rattle.model.specs.Tree.{Tree, leaf, fork, GoodLeaf, Limits}
use Rattle.model.proofs.Extents.{SameMarks}
use Rattle.walk.specs.Marks.{mark_of}
use Rattle.walk.proofs.AboveMarks.{marks_same}
use Rattle.runs.specs.Drafts.{marks_asked}
use Rattle.runs.proofs.PeriodLists.{periods_long, periods_at}
use Rattle.docket.specs.Requested.{status_byte, status_bytes}

-- ---- the bytes

mark_again : (x : Mark) → mark_of (status_byte x) ≡ x
unfolding mark_of
mark_again free = refl
mark_again (fixed true) = refl
mark_again (fixed false) = refl

byte_few : (x : Mark) → status_byte x ≤ 2
byte_few free = omega arith
byte_few (fixed true) = omega arith
byte_few (fixed false) = omega arith

module _ (n : ℕ) where
  pub bytes_long : (I : ℕ) (m : Marks) → length (status_bytes I n m) ≡ I * n
  bytes_long zero m = omega arith
  bytes_long (suc I) m =
      let row = map (λ t. status_byte (m 0 t)) (range 0 n) in
      omega (arith, length-append row (status_bytes I n (rest m)), periods_long (λ t. status_byte (m 0 t)) n, bytes_long I (rest m))

  pub bytes_at : (I : ℕ) (m : Marks) (u t : ℕ) → u < I → t < n → status_bytes I n m at (u * n + t) ≡ status_byte (m u t)
  bytes_at zero m u t h l = absurd (omega arith)
  bytes_at (suc I) m zero t h l =
      let f : ℕ → ℕ = λ t. status_byte (m 0 t) in
      let e : 0 * n + t ≡ t = omega arith in
      rw e (get_or-append (map f (range 0 n)) (status_bytes I n (rest m)) 0 t (omega (arith, periods_long f n)) ∙ periods_at f n t l)
  bytes_at (suc I) m (suc u) t h l =
      let f : ℕ → ℕ = λ t. status_byte (m 0 t) in
      let e : suc u * n + t ≡ length (map f (range 0 n)) + (u * n + t) = omega (arith, periods_long f n) in
      rw e (get_or-append-add (map f (range 0 n)) (status_bytes I n (rest m)) (u * n + t) 0 ∙ bytes_at I (rest m) u t (omega arith) l)

  pub all_bytes : (I : ℕ) (m : Marks) → All (λ b. b ≤ 2) (status_bytes I n m)
  all_bytes zero m = tt
  all_bytes (suc I) m = before (range 0 n) (all_bytes I (rest m))
    where
      before : (l : List ℕ) → All (λ b. b ≤ 2) (status_bytes I n (rest m)) → All (λ b. b ≤ 2) (map (λ t. status_byte (m 0 t)) l ++ status_bytes I n (rest m))
      before [] h = h
      before (t ∷ l) h = (byte_few (m 0 t), before l h)

-- read back as a question's
pub bytes_same : (P : Instance) (m : Marks) → SameMarks (length P.units) P.periods (marks_asked P (status_bytes (length P.units) P.periods m)) m
bytes_same P m u h v l =
    let bytes = status_bytes (length P.units) P.periods m in
    sym (marks_same (length P.units) P.periods bytes u h v l) ∙ ap mark_of (bytes_at P.periods (length P.units) m u v h l) ∙ mark_again (m u v)

-- ---- a leaf of a tree within the limits

pub good_leaf : (P : Instance) (A : Above) (d : ℕ) (t : Tree) → Limits P A d t → (i : LeafOf t) → GoodLeaf P (leaf_at t i)
unfolding Limits
good_leaf P A d (leaf l) h i = h
good_leaf P A d (fork f x y) h (inl i) = good_leaf P (side f false A) (suc d) x h.2 i
good_leaf P A d (fork f x y) h (inr i) = good_leaf P (side f true A) (suc d) y h.3 i
