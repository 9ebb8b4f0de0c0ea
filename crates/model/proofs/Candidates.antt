-- The rows over which a unit's least value is taken are just those of n outputs that obey (4), (5) to (10) and agree: membership
-- in the lists of all runs and all rows, read the other way than in Members.
use mathlib.Core.Path.{◌≡◌, refl, sym, ◌∙◌, ap, subst}
use mathlib.Core.Bool.{Bool, true, false, not, cond, ◌&&◌}
use mathlib.Core.Logic.{◌⊎◌, inl, inr, ◌↔◌}
use mathlib.Core.List.Memᴰ
use mathlib.Core.List.{List, [], ◌∷◌, map, Memᴰ}
use Prim.Native.Nat.{ℕ, zero, suc, ◌+◌, ◌-◌, ◌≤◌, ◌<◌}
use native.Mathlib.Omega.{arith}
use lib.Dec.{T}
use lib.ListN.{length, get_or}
use Rattle.model.specs.declared.generator.Generator.{Generator}
use Rattle.model.specs.Instance.{◌at◌}
use Rattle.model.specs.Rules.{on, statuses, Within}
use Rattle.model.specs.Above.{Mark, obeys}
use Rattle.model.specs.Leaf.{gather, words, those, none_of, range, outputs, runs, rows_of}
use Rattle.model.specs.Agreement.{Candidate}
use Rattle.model.proofs.Members.{mem_words, mem_those, mem_range}

-- ---- lists

module _ {A B : Type 0} where
  pub gather_inv : (f : A → List B) (l : List A) {b : B} → Memᴰ b (gather f l) → (a : A) × Memᴰ a l × Memᴰ b (f a)
  gather_inv f [] m = absurd (Memᴰ.not-nil m)
  gather_inv f (x ∷ l) {b} m = go (λ k. gather_inv f l k) (Memᴰ.append_cases (f x) m)
    where
      go : (Memᴰ b (gather f l) → (a : A) × Memᴰ a l × Memᴰ b (f a)) → Memᴰ b (f x) ⊎ Memᴰ b (gather f l)
          → (a : A) × Memᴰ a (x ∷ l) × Memᴰ b (f a)
      go ih (inl k) = (x, Memᴰ.head refl, k)
      go ih (inr k) = let r = ih k in (r.0, Memᴰ.tail r.1, r.2)

module _ {A : Type 0} where
  -- a member of those that pass a test is a member, and passes
  pub those_inv : (p : A → Bool) (l : List A) {x : A} → Memᴰ x (those p l) → Memᴰ x l × T (p x)
  those_inv p [] m = absurd (Memᴰ.not-nil m)
  those_inv p (y ∷ l) {x} m = go (p y) (λ t. t) (λ k. those_inv p l k) m
    where
      go : (c : Bool) → (T c → T (p y)) → (Memᴰ x (those p l) → Memᴰ x l × T (p x))
          → Memᴰ x (cond c (y ∷ those p l) (those p l)) → Memᴰ x (y ∷ l) × T (p x)
      go true f ih k = either (Memᴰ.cases_cons k)
        where
          either : (x ≡ y) ⊎ Memᴰ x (those p l) → Memᴰ x (y ∷ l) × T (p x)
          either (inl e) = (Memᴰ.head e, rw e (f tt))
          either (inr j) = let r = ih j in (Memᴰ.tail r.0, r.1)
      go false f ih k = let r = ih k in (Memᴰ.tail r.0, r.1)

  pub none_of_all : (p : A → Bool) (l : List A) → ((x : A) → Memᴰ x l → T (p x) → ⊥) → T (none_of p l)
  none_of_all p [] h = tt
  none_of_all p (y ∷ l) h = go (p y) (h y (Memᴰ.head refl)) (none_of_all p l (λ x m. h x (Memᴰ.tail m)))
    where
      go : (c : Bool) → (T c → ⊥) → T (none_of p l) → T (not c && none_of p l)
      go true f t = absurd (f tt)
      go false f t = t

  word_parts : (al : List A) (n : ℕ) (w : List A) → Memᴰ w (words al (suc n))
      → (a : A) × (v : List A) × Memᴰ a al × Memᴰ v (words al n) × (a ∷ v ≡ w)
  word_parts al n w m =
      let r = gather_inv (λ a. map (λ w. a ∷ w) (words al n)) al m in
      let k = Memᴰ.of_map (λ (w : List A). r.0 ∷ w) (words al n) r.2 in
      (r.0, k.0, r.1, k.1, k.2)

  pub words_inv : (al : List A) (d : A) (n : ℕ) (w : List A) → Memᴰ w (words al n) → (t : ℕ) → t < n → Memᴰ (get_or w t d) al
  words_inv al d zero w m t h = absurd (omega arith)
  words_inv al d (suc n) w m zero h =
      let r = word_parts al n w m in
      subst (λ (v : List A). Memᴰ (get_or v 0 d) al) r.4 r.2
  words_inv al d (suc n) w m (suc t) h =
      let r = word_parts al n w m in
      subst (λ (v : List A). Memᴰ (get_or v (suc t) d) al) r.4 (words_inv al d n r.1 r.3 t (omega arith))

  pub words_long : (al : List A) (n : ℕ) (w : List A) → Memᴰ w (words al n) → length w ≡ n
  words_long al zero w m = go (Memᴰ.cases_cons m)
    where
      go : (w ≡ []) ⊎ Memᴰ w [] → length w ≡ 0
      go (inl e) = ap length e
      go (inr k) = absurd (Memᴰ.not-nil k)
  words_long al (suc n) w m =
      let r = word_parts al n w m in
      sym (ap length r.4) ∙ ap suc (words_long al n r.1 r.3)

pub range_inv : (k m p : ℕ) → Memᴰ p (range k m) → (k ≤ p) × (p < k + m)
range_inv k zero p h = absurd (Memᴰ.not-nil h)
range_inv k (suc m) p h = go (λ j. range_inv (suc k) m p j) (Memᴰ.cases_cons h)
  where
    go : (Memᴰ p (range (suc k) m) → (suc k ≤ p) × (p < suc k + m)) → (p ≡ k) ⊎ Memᴰ p (range (suc k) m)
        → (k ≤ p) × (p < k + suc m)
    go ih (inl e) = omega arith
    go ih (inr j) = omega (arith, ih j)

-- ---- the outputs that (4) allows

pub output_inv : (g : Generator) (p : ℕ) → Memᴰ p (outputs g) → Within g p
output_inv g p m t = go (Memᴰ.cases_cons m)
  where
    go : (p ≡ 0) ⊎ Memᴰ p (range g.pL (suc g.pU - g.pL)) → (g.pL ≤ p) × (p ≤ g.pU)
    go (inl e) = absurd (subst (λ (x : ℕ). T (on x)) e t)
    go (inr k) = omega (arith, range_inv g.pL (suc g.pU - g.pL) p k)

pub output_mem : (g : Generator) (p : ℕ) → Within g p → Memᴰ p (outputs g)
output_mem g zero w = Memᴰ.head refl
output_mem g (suc p) w =
    Memᴰ.tail (mem_range g.pL (suc g.pU - g.pL) (suc p) (w tt).0 (omega (arith, (w tt).0, (w tt).1)))

-- ---- runs and rows

pub run_mem : (n : ℕ) (run : List Bool) → length run ≡ n → Memᴰ run (runs n)
run_mem n run e = mem_words (false ∷ (true ∷ [])) false n run e (λ t l. bit (get_or run t false))
  where
    bit : (b : Bool) → Memᴰ b (false ∷ (true ∷ []))
    bit false = Memᴰ.head refl
    bit true = Memᴰ.tail (Memᴰ.head refl)

pub run_long : (n : ℕ) (run : List Bool) → Memᴰ run (runs n) → length run ≡ n
run_long n run m = words_long (false ∷ (true ∷ [])) n run m

pub rows_of_are : (n : ℕ) (g : Generator) (m : ℕ → Mark) (r : List ℕ) → Memᴰ r (rows_of n g m) ↔ Candidate n g m r
unfolding rows_of
rows_of_are n g m r = (
  λ k. let j = those_inv (λ r. obeys g m (statuses r)) (words (outputs g) n) k in
      record {
        long = words_long (outputs g) n r j.0;
        limits = λ t l. output_inv g (r at t) (words_inv (outputs g) 0 n r j.0 t l);
        run = j.1;
      },
  λ c. mem_those (λ r. obeys g m (statuses r)) (words (outputs g) n)
      (mem_words (outputs g) 0 n r c.long (λ t l. output_mem g (r at t) (c.limits t l))) c.run,
)
