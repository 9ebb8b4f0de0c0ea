-- A loop that goes along a list c and takes those that pass a test p, each for its value f, until K are taken or their values reach d: what it has taken after i turns
-- is a beginning of the list of all their values, and at its end the fewest that reach d, or all.
use mathlib.Core.Path.{◌≡◌, refl, sym, ◌∙◌, ap, ap₂, subst}
use mathlib.Core.Bool.{Bool, true, false, cond}
use mathlib.Core.List.{List, [], ◌∷◌, map}
use Prim.Native.Nat.{ℕ, zero, suc, ◌+◌, ◌≤◌, ◌<◌, min}
--
use native.Mathlib.Omega.{arith}
use borrow.Author.Tests.{le-ltb}
use lib.Dec.{ltb}
use lib.ListN.{length, get_or, take, length-take, length-map}
use lib.Seq.{take_all, take-length, take-take, get_or-take}
use Rattle.model.specs.Above.{Mark, free, fixed}
use Rattle.model.specs.Largest.{total}
use Rattle.model.specs.Leaf.{unless_off, those}
use Rattle.model.specs.Turns.{took, Fewest}
use Rattle.model.proofs.Largest.{take_total}
use Rattle.model.proofs.Turns.{took_is, fewest_one}
use Rattle.layout.proofs.Ranks.{map_at}
--
use Rattle.leaves.specs.LeafLeasts.{taken_from}

-- whether a unit with this mark may be taken
abbrev pub may : Mark → Bool
may free = true
may (fixed b) = b

-- ---- the sum of the first numbers

first_more : (i : ℕ) (l : List ℕ) → i < length l → total (take (suc i) l) ≡ total (take i l) + get_or l i 0
first_more i [] h = absurd (omega arith)
first_more zero (x ∷ l) h = omega arith
first_more (suc i) (x ∷ l) h = omega (arith, first_more i l (omega arith))

first_below : (i n : ℕ) (l : List ℕ) → i ≤ n → total (take i l) ≤ total (take n l)
first_below i n l h = omega (arith, take_total i (take n l), ap total (take-take i n l h))

-- ---- those that pass, among the first i and among all

module _ (p : ℕ → Bool) where
  those_few : (l : List ℕ) → length (those p l) ≤ length l
  those_few [] = omega arith
  those_few (x ∷ l) = go (p x) (those_few l)
    where
      go : (b : Bool) → length (those p l) ≤ length l → length (cond b (x ∷ those p l) (those p l)) ≤ suc (length l)
      go true h = omega arith
      go false h = omega arith

  those_first : (c : List ℕ) (i : ℕ) → length (those p (take i c)) ≤ length (those p c)
  those_first c zero = omega arith
  those_first [] (suc i) = omega arith
  those_first (x ∷ c) (suc i) = go (p x) (those_first c i)
    where
      go : (b : Bool) → length (those p (take i c)) ≤ length (those p c)
          → length (cond b (x ∷ those p (take i c)) (those p (take i c))) ≤ length (cond b (x ∷ those p c) (those p c))
      go true h = omega arith
      go false h = h

  -- the next one does not pass
  those_left : (c : List ℕ) (i : ℕ) → i < length c → p (get_or c i 0) ≡ false → length (those p (take (suc i) c)) ≡ length (those p (take i c))
  those_left [] i h e = absurd (omega arith)
  those_left (x ∷ c) zero h e = rw e refl
  those_left (x ∷ c) (suc i) h e = go (p x) (those_left c i (omega arith) e)
    where
      go : (b : Bool) → length (those p (take (suc i) c)) ≡ length (those p (take i c))
          → length (cond b (x ∷ those p (take (suc i) c)) (those p (take (suc i) c))) ≡ length (cond b (x ∷ those p (take i c)) (those p (take i c)))
      go true k = ap suc k
      go false k = k

  -- it passes: it is the next of those that do
  record Next (c : List ℕ) (i : ℕ) : Type 0 where
    more : length (those p (take (suc i) c)) ≡ suc (length (those p (take i c)))
    inside : length (those p (take i c)) < length (those p c)
    here : get_or (those p c) (length (those p (take i c))) 0 ≡ get_or c i 0

  those_next : (c : List ℕ) (i : ℕ) → i < length c → p (get_or c i 0) ≡ true → Next c i
  those_next [] i h e = absurd (omega arith)
  those_next (x ∷ c) zero h e = record { more = rw e refl; inside = rw e (omega arith); here = rw e refl }
  those_next (x ∷ c) (suc i) h e = go (p x) refl (those_next c i (omega arith) e)
    where
      go : (b : Bool) → p x ≡ b → Next c i → Next (x ∷ c) (suc i)
      go true k n = record { more = rw k (ap suc n.more); inside = rw k (omega (arith, n.inside)); here = rw k n.here }
      go false k n = record { more = rw k n.more; inside = rw k n.inside; here = rw k n.here }

-- ---- the loop

-- the values of all that are taken if d is never reached
abbrev pub values : (ℕ → Bool) → (ℕ → ℕ) → List ℕ → ℕ → List ℕ
values p f c K = take K (map f (those p c))

module _ (p : ℕ → Bool) (f : ℕ → ℕ) (c : List ℕ) (K d : ℕ) where
  abbrev all_taken : List ℕ
  all_taken = values p f c K

  -- after i turns: k are taken, with the sum s, and with fewer it was below d
  pub record Passed (i k s : ℕ) : Type 0 where
    pub within : i ≤ length c
    pub many : k ≡ length (those p (take i c))
    pub room : k ≤ K
    pub sum : s ≡ total (take k all_taken)
    pub fewer : (j : ℕ) → j < k → total (take j all_taken) < d

  pub passed_none : Passed 0 0 0
  passed_none = record { within = omega arith; many = refl; room = omega arith; sum = refl; fewer = λ j h. absurd (omega arith) }

  counted : {i k k' s s' : ℕ} → k ≡ k' → s ≡ s' → Passed i k s → Passed i k' s'
  counted {i} {k} {k'} {s} {s'} e e' = subst (λ (j : ℕ). Passed i k s → Passed i j s') e (subst (λ (z : ℕ). Passed i k s → Passed i k z) e' (λ P. P))

  module _ (i k s : ℕ) (P : Passed i k s) where
    taken_long : length all_taken ≡ min K (length (those p c))
    taken_long = length-take K (map f (those p c)) ∙ ap (min K) (length-map (those p c) f)

    -- no more are taken than have been passed
    pub passed_few : k ≤ i
    passed_few = omega (arith, P.many, those_few p (take i c), length-take i c)

    passed_left : i < length c → p (get_or c i 0) ≡ false → Passed (suc i) k s
    passed_left h e = record { within = omega arith; many = P.many ∙ sym (those_left p c i h e); room = P.room; sum = P.sum; fewer = P.fewer }

    passed_taken : i < length c → k < K → s < d → p (get_or c i 0) ≡ true → Passed (suc i) (suc k) (s + f (get_or c i 0))
    passed_taken h r b e = record {
      within = omega arith;
      many = ap suc P.many ∙ sym n.more;
      room = omega arith;
      sum = sym (first_more k all_taken inside ∙ ap₂ ◌+◌ (sym P.sum) here);
      fewer = λ j l. omega (arith, first_below j k all_taken (omega arith), P.sum, b);
    }
      where
        n : Next p c i
        n = those_next p c i h e

        inside : k < length all_taken
        inside = omega (arith, taken_long, n.inside, P.many, r)

        -- the value of the next
        here : get_or all_taken k 0 ≡ f (get_or c i 0)
        here =
            get_or-take K (map f (those p c)) k 0 r
            ∙ map_at f (those p c) k 0 0 (omega (arith, n.inside, P.many))
            ∙ ap f (ap (λ (j : ℕ). get_or (those p c) j 0) P.many ∙ n.here)

    -- ---- a turn more, the next having this mark

    pub passed_more : (x : Mark) → i < length c → k < K → s < d → p (get_or c i 0) ≡ may x
        → Passed (suc i) (k + length (unless_off x 0 [])) (s + total (unless_off x (f (get_or c i 0)) []))
    passed_more free h r b e = counted (omega arith) (omega arith) (passed_taken h r b e)
    passed_more (fixed true) h r b e = counted (omega arith) (omega arith) (passed_taken h r b e)
    passed_more (fixed false) h r b e = counted (omega arith) (omega arith) (passed_left h e)

    -- ---- the end, whichever way

    ended : Fewest all_taken d k → ltb s d ≡ ltb (total all_taken) d → record { short = ltb s d; units = k } ≡ taken_from (values p f c K) d
    ended F e = ap₂ (λ (b : Bool) (n : ℕ). record { short = b; units = n }) e (fewest_one all_taken d k (took all_taken d) F (took_is all_taken d))

    whole : k ≡ length all_taken → record { short = ltb s d; units = k } ≡ taken_from (values p f c K) d
    whole e =
        let all : s ≡ total all_taken = P.sum ∙ ap (λ (j : ℕ). total (take j all_taken)) e ∙ ap total (take-length all_taken) in
        ended (record { fewer = P.fewer; enough = λ h. omega (arith, h, all, P.sum); all = λ h. e }) (ap (λ (x : ℕ). ltb x d) all)

    -- they reach d
    passed_enough : d ≤ s → record { short = ltb s d; units = k } ≡ taken_from (values p f c K) d
    passed_enough h =
        let most : s ≤ total all_taken = omega (arith, P.sum, take_total k all_taken) in
        ended (record { fewer = P.fewer; enough = λ j. omega (arith, h, P.sum); all = λ j. absurd (omega (arith, j, h, most)) })
        (le-ltb s d h ∙ sym (le-ltb (total all_taken) d (omega arith)))

    pub passed_reached : d ≤ s → record { short = false; units = k } ≡ taken_from (values p f c K) d
    passed_reached h = ap (λ (b : Bool). record { short = b; units = k }) (sym (le-ltb s d h)) ∙ passed_enough h

    -- K are taken
    pub passed_most : K ≤ k → record { short = ltb s d; units = k } ≡ taken_from (values p f c K) d
    passed_most h = whole (omega (arith, taken_long, P.room, P.many, those_first p c i))

    -- there are no more
    pub passed_all : length c ≤ i → record { short = ltb s d; units = k } ≡ taken_from (values p f c K) d
    passed_all h = whole (omega (arith, taken_long, P.room, P.many, ap (λ (l : List ℕ). length (those p l)) (take_all i c h)))
