-- Later states are permitted more: where a state has a value, every later state of its status has one.
use mathlib.Core.Path.{◌≡◌, sym, ◌∙◌}
use mathlib.Core.Logic.{◌⊎◌, inl, inr}
use mathlib.Core.Bool.{Bool, true, false, not, cond, ◌&&◌}
use mathlib.Core.List.{List}
use Prim.Native.Nat.{ℕ, zero, suc, ◌-◌, ◌≤◌, ◌<◌}
use native.Mathlib.Omega.{arith}
use borrow.Author.Tests.{le-leb}
use lib.Dec.{T, leb, leb→le, eqb, eqb→eq}
use lib.ListN.{length, take}
use lib.Seq.{length-take-le, get_or-take}
use Rattle.model.specs.declared.generator.Generator.{Generator}
use Rattle.model.specs.Rules.{permits, spent}
use Rattle.model.specs.Above.{Mark, allows}
use Rattle.model.specs.Walk.{plus, lesser, Values, move, back, walk, cap}
use Rattle.model.specs.Table.{Tabled, values}
use Rattle.model.proofs.Coded.{plus_some, plus_inv, lesser_left, lesser_right, lesser_one}
use Rattle.model.proofs.Tests.{T_and, T_and_l, T_and_r}
use Rattle.walk.specs.GoingBack.{Known, Rising, is_open}

-- ---- one period back

-- a value with a cost, where it is allowed
allowed_some : (c d : Bool) (v w x y : ℕ) → (T c → T d) → (0 < x → 0 < y) → 0 < cond c (plus v x) 0 → 0 < cond d (plus w y) 0
allowed_some true true v w x y f h p =
    let there : 0 < y = h (plus_inv v x p) in
    rw (plus_some w y there) (omega arith)
allowed_some true false v w x y f h p = absurd (f tt)
allowed_some false d v w x y f h p = absurd (omega arith)

-- a test that more periods pass too
reached : (need k l : ℕ) → k ≤ l → T (leb need k) → T (leb need l)
reached need k l i p = let j : need ≤ l = omega (arith, leb→le need k p) in rw (le-leb need l j) tt

-- what is permitted after k periods is permitted after more
permits_more : (g : Generator) (b d : Bool) (k l : ℕ) → k ≤ l → T (permits g b k d) → T (permits g b l d)
permits_more g true true k l i p = tt
permits_more g true false k l i p = reached g.TU k l i p
permits_more g false true k l i p = reached g.TD k l i p
permits_more g false false k l i p = tt

-- where a state has a value every later one has
abbrev pub Later : Values → Type 0
Later X = (b : Bool) (k l : ℕ) → k ≤ l → 0 < X b k → 0 < X b l

-- after a period in d
spent_some : (X : Values) → Later X → (b d : Bool) (k l : ℕ) → k ≤ l → 0 < X d (spent b k d) → 0 < X d (spent b l d)
spent_some X h true true k l i p = h true (suc k) (suc l) (omega arith) p
spent_some X h true false k l i p = p
spent_some X h false true k l i p = p
spent_some X h false false k l i p = h false (suc k) (suc l) (omega arith) p

move_some : (g : Generator) (m : Mark) (v : ℕ) (X : Values) → Later X → (b d : Bool) (k l : ℕ) → k ≤ l
    → 0 < move g m v b k d (X d (spent b k d)) → 0 < move g m v b l d (X d (spent b l d))
move_some g m v X h b d k l i p =
    allowed_some (permits g b k d && allows m d) (permits g b l d && allows m d) _ _ _ _
    (λ t. T_and (permits g b l d) (allows m d) (permits_more g b d k l i (T_and_l (permits g b k d) (allows m d) t)) (T_and_r (permits g b k d) (allows m d) t))
    (spent_some X h b d k l i) p

-- the lesser of two is there if one is
lesser_some_of : (x y x' y' : ℕ) → (0 < x → 0 < x') → (0 < y → 0 < y') → 0 < lesser x y → 0 < lesser x' y'
lesser_some_of x y x' y' f h p = go (lesser_one x y)
  where
    go : (lesser x y ≡ x) ⊎ (lesser x y ≡ y) → 0 < lesser x' y'
    go (inl e) = (lesser_left x' y' (f (omega arith))).0
    go (inr e) = (lesser_right x' y' (h (omega arith))).0

back_later : (g : Generator) (m : Mark) (w : Bool → ℕ) (X : Values) → Later X → Later (back g m w X)
unfolding back
back_later g m w X h b k l i p =
    lesser_some_of _ _ _ _ (move_some g m (w false) X h b false k l i) (move_some g m (w true) X h b true k l i) p

-- ---- the walk

walk_later : (n : ℕ) (g : Generator) (m : ℕ → Mark) (w : ℕ → Bool → ℕ) → Later (walk n g m w)
unfolding walk
walk_later zero g m w b k l i p = omega arith
walk_later (suc n) g m w b k l i p = back_later g (m 0) (w 0) _ (walk_later n g (λ t. m (suc t)) (λ t. w (suc t))) b k l i p

values_later : (n : ℕ) (g : Generator) (m : ℕ → Mark) (w : ℕ → Bool → ℕ) (t : ℕ) → Later (values n g m w t)
unfolding values
values_later n g m w t = walk_later (n - t) g _ _

-- ---- lists of values

module _ (n : ℕ) (g : Generator) (m : ℕ → Mark) (w : ℕ → Bool → ℕ) (t : ℕ) (b : Bool) where
  pub known_rising : (r : ℕ) (l : List ℕ) → length l ≡ r → Known (values n g m w t) b r l → Rising l
  known_rising r l e A p k i =
      let first : 0 < values n g m w t b 1 = rw (sym (A 0 (omega arith))) p in
      rw (A k (omega arith)) (values_later n g m w t b 1 (suc k) (omega arith) first)

  -- the front of a list
  pub front_rising : (r a : ℕ) (l : List ℕ) → a ≡ r → a ≤ length l → Known (values n g m w t) b r l → Rising (take a l)
  front_rising r a l e h A =
      known_rising r (take a l) (length-take-le a l h ∙ e) (λ k i. get_or-take a l k 0 (omega arith) ∙ A k i)

  pub tabled_rising : (l : List ℕ) → Tabled g (values n g m w t) b l → Rising l
  tabled_rising l E = known_rising (cap g b) l E.long (λ k i. E.entry k i)

-- ---- nothing fixed and both values there

pub open_is : (mark x y : ℕ) → is_open mark x y ≡ true → (mark ≡ 0) × ((0 < x) × (0 < y))
open_is mark x y e = go (eqb mark 0) (λ p. eqb→eq mark 0 p) (rw e tt)
  where
    there : (v : ℕ) → T (not (eqb v 0)) → 0 < v
    there zero p = absurd p
    there (suc v) p = omega arith

    go : (c : Bool) → (T c → mark ≡ 0) → T (cond c (cond (eqb x 0) false (not (eqb y 0))) false) → (mark ≡ 0) × ((0 < x) × (0 < y))
    go false f p = absurd p
    go true f p = both (eqb x 0) (there x) p
      where
        both : (d : Bool) → (T (not d) → 0 < x) → T (cond d false (not (eqb y 0))) → (mark ≡ 0) × ((0 < x) × (0 < y))
        both true h q = absurd q
        both false h q = (f tt, (h tt, there y q))
