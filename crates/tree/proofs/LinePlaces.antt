-- Each line of a tree stands at one place and at no other.
use mathlib.Core.Path.{◌≡◌, refl, sym, ap, subst, ◌∙◌}
use mathlib.Core.Bool.{Bool, true, false}
use mathlib.Core.List.{List, [], ◌∷◌, ◌++◌, append_assoc}
use Prim.Native.Nat.{ℕ, zero, suc, ◌+◌, ◌-◌, ◌≤◌, ◌<◌}
use native.Mathlib.Omega.{arith}
use lib.Dec.{ltb}
use lib.ListN.{length, length-append}
use borrow.Author.Tests.{ltb-true, ltb-false}
use Rattle.model.specs.Above.{Above, side}
use Rattle.model.specs.Ramps.{RampPrices}
use Rattle.model.specs.Tree.{Leaf, short, crowd, stuck, price, ramp, Tree, leaf, fork}
use Rattle.tree.specs.Rendering.{step_lines, leaf_lines, node_lines}
use Rattle.tree.specs.Places.{Part, priced, ramp_priced, with_steps, with_ups, PartAt, reserve_line, ramp_reserve_line, up_line, down_line, LinePlace, node_at, part_at, LineAt, first_line, later_line, in_first, in_second}
use Rattle.tree.proofs.StepLines.{one_longer, step_lines_both, steps_long}

-- ---- a leaf

pub leaf_line : (l : Leaf) → 1 ≤ length (leaf_lines l)
leaf_line (short t) = omega arith
leaf_line (crowd t) = omega arith
leaf_line (stuck U) = omega arith
leaf_line (price q s) = omega arith
leaf_line (ramp q s l) = omega arith

-- the lines of a leaf's units, those of a unit among them
split_at : {l : List RampPrices} (k : List RampPrices) (x : RampPrices) (m : List RampPrices) → l ≡ k ++ (x ∷ m)
    → length (step_lines l) ≡ length (step_lines k) + (2 + length (step_lines m))
split_at k x m e =
    ap (λ (j : List RampPrices). length (step_lines j)) e
    ∙ omega (arith, ap (λ (ls : List (List ℕ)). length ls) (step_lines_both k (x ∷ m)), length-append (step_lines k) (step_lines (x ∷ m)))

-- a later line is not the first, and is among the leaf's lines
part_among : {l : Leaf} {k : ℕ} {p : Part} → PartAt l k p → (1 ≤ k) × (k < length (leaf_lines l))
part_among reserve_line = (omega arith, omega arith)
part_among ramp_reserve_line = (omega arith, omega arith)
part_among (up_line k x m e) = (omega arith, omega (arith, split_at k x m e))
part_among (down_line k x m e) = (omega arith, omega (arith, split_at k x m e))

-- line i of the units m, which stand behind the units k
step_placed : (q s : List ℕ) (l k m : List RampPrices) (i : ℕ) → i < length (step_lines m) → l ≡ k ++ m
    → (p : Part) × PartAt (ramp q s l) (length (leaf_lines (ramp q s k)) + i) p
step_placed q s l k [] i h e = absurd (omega arith)
step_placed q s l k (x ∷ m) zero h e = (with_steps q s k, subst (λ (j : ℕ). PartAt (ramp q s l) j (with_steps q s k)) (omega arith) (up_line k x m e))
step_placed q s l k (x ∷ m) (suc zero) h e = (with_ups q s k x.up, subst (λ (j : ℕ). PartAt (ramp q s l) j (with_ups q s k x.up)) (omega arith) (down_line k x m e))
step_placed q s l k (x ∷ m) (suc (suc i)) h e =
    let r = step_placed q s l (k ++ (x ∷ [])) m i (omega arith) (e ∙ sym (append_assoc k (x ∷ []) m)) in
    (r.0, subst (λ (j : ℕ). PartAt (ramp q s l) j r.0) (omega (arith, steps_long (k ++ (x ∷ [])), steps_long k, one_longer k x)) r.1)

part_placed : (l : Leaf) (k : ℕ) → suc k < length (leaf_lines l) → (p : Part) × PartAt l (suc k) p
part_placed (short t) k h = absurd (omega arith)
part_placed (crowd t) k h = absurd (omega arith)
part_placed (stuck U) k h = absurd (omega arith)
part_placed (price q s) zero h = (priced q, reserve_line)
part_placed (price q s) (suc k) h = absurd (omega arith)
part_placed (ramp q s l) zero h = (ramp_priced q, ramp_reserve_line)
part_placed (ramp q s l) (suc i) h = let r = step_placed q s l [] l i (omega arith) refl in (r.0, subst (λ (j : ℕ). PartAt (ramp q s l) j r.0) (omega arith) r.1)

-- two lists that are one, cut at one place
same_front : (k k' : List RampPrices) (x x' : RampPrices) (m m' : List RampPrices) → k ++ (x ∷ m) ≡ k' ++ (x' ∷ m') → length k ≡ length k' → (k ≡ k') × (x ≡ x')
same_front [] [] x x' m m' e n = (refl, cc)
same_front [] (y ∷ k') x x' m m' e n = absurd (omega arith)
same_front (y ∷ k) [] x x' m m' e n = absurd (omega arith)
same_front (y ∷ k) (y' ∷ k') x x' m m' e n =
    let h : y ≡ y' = cc in
    let t : k ++ (x ∷ m) ≡ k' ++ (x' ∷ m') = cc in
    let r = same_front k k' x x' m m' t (omega arith) in
    ((λ i. h i ∷ r.0 i), r.1)

part_once : {l : Leaf} {k j : ℕ} {p r : Part} → PartAt l k p → PartAt l j r → k ≡ j → p ≡ r
part_once reserve_line reserve_line e = refl
part_once ramp_reserve_line ramp_reserve_line e = refl
part_once ramp_reserve_line (up_line k x m f) e = absurd (omega arith)
part_once ramp_reserve_line (down_line k x m f) e = absurd (omega arith)
part_once (up_line k x m f) ramp_reserve_line e = absurd (omega arith)
part_once (up_line {q} {s} k x m f) (up_line k' x' m' f') e = ap (with_steps q s) (same_front k k' x x' m m' (sym f ∙ f') (omega (arith, steps_long k, steps_long k'))).0
part_once (up_line k x m f) (down_line k' x' m' f') e = absurd (omega (arith, steps_long k, steps_long k'))
part_once (down_line k x m f) ramp_reserve_line e = absurd (omega arith)
part_once (down_line k x m f) (up_line k' x' m' f') e = absurd (omega (arith, steps_long k, steps_long k'))
part_once (down_line {q} {s} k x m f) (down_line k' x' m' f') e =
    let r = same_front k k' x x' m m' (sym f ∙ f') (omega (arith, steps_long k, steps_long k')) in
    λ i. with_ups q s (r.0 i) (r.1 i).up

-- ---- a tree

pub some_line : (x : Tree) → 1 ≤ length (node_lines x)
unfolding node_lines
some_line (leaf l) = leaf_line l
some_line (fork f x y) = omega arith

-- among the tree's lines
pub line_among : {A : Above} {d : ℕ} {x : Tree} {k : ℕ} {w : LinePlace} → LineAt A d x k w → k < length (node_lines x)
unfolding node_lines
line_among {x = x} first_line = some_line x
line_among (later_line a) = (part_among a).1
line_among {x = fork f x y} (in_first a) = let h = line_among a in omega (arith, length-append (node_lines x) (node_lines y))
line_among {x = fork f x y} (in_second a) = let h = line_among a in omega (arith, length-append (node_lines x) (node_lines y))

pub line_placed : (A : Above) (d : ℕ) (x : Tree) (k : ℕ) → k < length (node_lines x) → (w : LinePlace) × LineAt A d x k w
unfolding node_lines
line_placed A d (leaf l) zero h = (node_at A d, first_line)
line_placed A d (leaf l) (suc k) h = let r = part_placed l k h in (part_at A r.0, later_line r.1)
line_placed A d (fork f x y) k h = go k h (line_placed (side f false A) (suc d) x) (line_placed (side f true A) (suc d) y)
  where
    below : (k : ℕ) → suc k < length (node_lines (fork f x y)) → (b : Bool) → ltb k (length (node_lines x)) ≡ b
        → ((j : ℕ) → j < length (node_lines x) → (w : LinePlace) × LineAt (side f false A) (suc d) x j w)
        → ((j : ℕ) → j < length (node_lines y) → (w : LinePlace) × LineAt (side f true A) (suc d) y j w)
        → (w : LinePlace) × LineAt A d (fork f x y) (suc k) w
    below k h true e F G = let r = F k (ltb-true k (length (node_lines x)) e) in (r.0, in_first r.1)
    below k h false e F G =
        let m = ltb-false k (length (node_lines x)) e in
        let r = G (k - length (node_lines x)) (omega (arith, length-append (node_lines x) (node_lines y))) in
        let q : length (node_lines x) + (k - length (node_lines x)) ≡ k = omega arith in
        (r.0, subst (λ (j : ℕ). LineAt A d (fork f x y) (suc j) r.0) q (in_second r.1))

    go : (k : ℕ) → k < length (node_lines (fork f x y))
        → ((j : ℕ) → j < length (node_lines x) → (w : LinePlace) × LineAt (side f false A) (suc d) x j w)
        → ((j : ℕ) → j < length (node_lines y) → (w : LinePlace) × LineAt (side f true A) (suc d) y j w)
        → (w : LinePlace) × LineAt A d (fork f x y) k w
    go zero h F G = (node_at A d, first_line)
    go (suc k) h F G = below k h (ltb k (length (node_lines x))) refl F G

pub line_once : {A : Above} {d : ℕ} {x : Tree} {k j : ℕ} {w v : LinePlace} → LineAt A d x k w → LineAt A d x j v → k ≡ j → w ≡ v
line_once first_line first_line e = refl
line_once first_line (later_line b) e = absurd (let h = (part_among b).0 in omega arith)
line_once first_line (in_first b) e = absurd (omega arith)
line_once first_line (in_second b) e = absurd (omega arith)
line_once (later_line a) first_line e = absurd (let h = (part_among a).0 in omega arith)
line_once {A} (later_line a) (later_line b) e = ap (part_at A) (part_once a b e)
line_once (in_first a) first_line e = absurd (omega arith)
line_once (in_first a) (in_first b) e = line_once a b (omega arith)
line_once (in_first a) (in_second b) e = absurd (let h = line_among a in omega arith)
line_once (in_second a) first_line e = absurd (omega arith)
line_once (in_second a) (in_first b) e = absurd (let h = line_among b in omega arith)
line_once (in_second a) (in_second b) e = line_once a b (omega arith)
