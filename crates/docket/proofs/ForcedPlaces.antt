-- The entries of all units in one list: where each entry stands in it, and that there is no other place.
use mathlib.Core.Path.{◌≡◌, sym, ap, ◌∙◌}
use mathlib.Core.Bool.{Bool, true, false}
use mathlib.Core.List.{List, [], ◌∷◌}
use mathlib.Core.Logic.{◌⊎◌, inl, inr}
use mathlib.Core.Option.{none}
use Prim.Native.Nat.{ℕ, zero, suc, ◌+◌, ◌*◌, ◌-◌, ◌<◌, ◌≤◌}
use native.Mathlib.Omega.{arith}
use lib.ListN.{length, get_or, get_or-append}
use lib.Seq.{ext_get_or, get_or-append-add}
use Rattle.model.specs.declared.generator.Generator.{Generator}
use Rattle.model.specs.Above.{Mark, Marks, rest}
use Rattle.model.specs.Leaf.{gather, range}
use Rattle.model.specs.Forced.{forced_least, forced_pair, forced_table, forced_tables}
use Rattle.model.proofs.Lowest.{compare}
use Rattle.forced.proofs.UnitEntries.{forced_table_long}
use Rattle.docket.specs.Requested.{place}

-- ---- places

module _ (n : ℕ) where
  -- the first unit's are below 2·n
  place_first : (t : ℕ) → t < n → (d : Bool) → place n 0 t d < 2 * n
  place_first t l true = omega arith
  place_first t l false = omega arith

  -- the next unit's are 2·n later, the next period's two
  place_next : (u t : ℕ) (d : Bool) → place n (suc u) t d ≡ 2 * n + place n u t d
  place_next u t true = omega arith
  place_next u t false = omega arith

  place_later : (t : ℕ) (d : Bool) → place n 0 (suc t) d ≡ suc (suc (place n 0 t d))
  place_later t true = omega arith
  place_later t false = omega arith

  -- all are inside
  pub place_inside : (I u : ℕ) → u < I → (t : ℕ) → t < n → (d : Bool) → place n u t d < 2 * (I * n)
  place_inside zero u h t l d = absurd (omega arith)
  place_inside (suc I) zero h t l d = omega (arith, place_first t l d)
  place_inside (suc I) (suc u) h t l d = omega (arith, place_next u t d, place_inside I u (omega arith) t l d)

  -- and every number inside is one
  half : (i : ℕ) → (t : ℕ) × (d : Bool) × (place n 0 t d ≡ i)
  half zero = (0, false, omega arith)
  half (suc zero) = (0, true, omega arith)
  half (suc (suc i)) = let h = half i in (suc h.0, h.1, place_later h.0 h.1 ∙ ap (λ (k : ℕ). suc (suc k)) h.2)

  half_inside : (t : ℕ) (d : Bool) → place n 0 t d < 2 * n → t < n
  half_inside t true h = omega arith
  half_inside t false h = omega arith

  abbrev Placed : ℕ → ℕ → Type 0
  Placed I i = (u : ℕ) × (u < I) × (t : ℕ) × (t < n) × (d : Bool) × (place n u t d ≡ i)

  pub placed : (I i : ℕ) → i < 2 * (I * n) → Placed I i
  placed zero i h = absurd (omega arith)
  placed (suc I) i h = go (λ j. placed I j) (compare i (2 * n))
    where
      later : ((j : ℕ) → j < 2 * (I * n) → Placed I j) → 2 * n ≤ i → Placed (suc I) i
      later before l =
          let p = before (i - 2 * n) (omega arith) in
          (suc p.0, omega (arith, p.1), p.2, p.3, p.4, omega (arith, place_next p.0 p.2 p.4, p.5))

      go : ((j : ℕ) → j < 2 * (I * n) → Placed I j) → (i < 2 * n) ⊎ ((i ≡ 2 * n) ⊎ (2 * n < i)) → Placed (suc I) i
      go before (inl l) = let k = half i in (0, omega arith, k.0, half_inside k.0 k.1 (omega (arith, k.2, l)), k.1, k.2)
      go before (inr (inl e)) = later before (omega arith)
      go before (inr (inr l)) = later before (omega arith)

  -- so lists that agree at each place are the same
  pub placed_same : {A : Type 0} (I : ℕ) (a : A) (x y : List A) → length x ≡ 2 * (I * n) → length y ≡ 2 * (I * n)
      → ((u : ℕ) → u < I → (t : ℕ) → t < n → (d : Bool) → get_or x (place n u t d) a ≡ get_or y (place n u t d) a) → x ≡ y
  placed_same I a x y ex ey h =
      ext_get_or a x y (ex ∙ sym ey)
      (λ i l.
      let p = placed I i (omega (arith, ex, l)) in
      ap (λ (k : ℕ). get_or x k a) (sym p.5) ∙ h p.0 p.1 p.2 p.3 p.4 ∙ ap (λ (k : ℕ). get_or y k a) p.5)

-- ---- one unit

module _ (n : ℕ) (q s : ℕ → ℕ) (g : Generator) (m : ℕ → Mark) where
  table_at : (t : ℕ) → t < n → (d : Bool) → get_or (forced_table n q s g m) (place n 0 t d) none ≡ forced_least n q s g m t d
  unfolding forced_table
  table_at t l d = let e : 0 + t ≡ t = omega arith in go 0 n t l d ∙ ap (λ (i : ℕ). forced_least n q s g m i d) e
    where
      go : (k r t : ℕ) → t < r → (d : Bool) → get_or (gather (forced_pair n q s g m) (range k r)) (place n 0 t d) none ≡ forced_least n q s g m (k + t) d
      go k zero t l d = absurd (omega arith)
      go k (suc r) zero l false = let e : place n 0 0 false ≡ 0 = omega arith in let f : k ≡ k + 0 = omega arith in rw e (ap (λ (i : ℕ). forced_least n q s g m i false) f)
      go k (suc r) zero l true = let e : place n 0 0 true ≡ 1 = omega arith in let f : k ≡ k + 0 = omega arith in rw e (ap (λ (i : ℕ). forced_least n q s g m i true) f)
      go k (suc r) (suc t) l d =
          let f : suc k + t ≡ k + suc t = omega arith in
          rw (place_later n t d) (go (suc k) r t (omega arith) d ∙ ap (λ (i : ℕ). forced_least n q s g m i d) f)

-- ---- all units

module _ (n : ℕ) (q s : ℕ → ℕ) where
  pub tables_at : (gs : List Generator) (m : Marks) (a : Generator) (u : ℕ) → u < length gs → (t : ℕ) → t < n → (d : Bool)
      → get_or (forced_tables n q s gs m) (place n u t d) none ≡ forced_least n q s (get_or gs u a) (m u) t d
  unfolding forced_tables
  tables_at [] m a u h t l d = absurd (omega arith)
  tables_at (g ∷ gs) m a zero h t l d =
      get_or-append (forced_table n q s g (m 0)) (forced_tables n q s gs (rest m)) none (place n 0 t d) (omega (arith, forced_table_long n q s g (m 0), place_first n t l d))
      ∙ table_at n q s g (m 0) t l d
  tables_at (g ∷ gs) m a (suc u) h t l d =
      let e : place n (suc u) t d ≡ length (forced_table n q s g (m 0)) + place n u t d = omega (arith, place_next n u t d, forced_table_long n q s g (m 0)) in
      rw e
      (get_or-append-add (forced_table n q s g (m 0)) (forced_tables n q s gs (rest m)) (place n u t d) none
      ∙ tables_at gs (rest m) a u (omega arith) t l d)
