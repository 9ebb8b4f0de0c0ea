-- What a turn of the reader of values does, by the value that it meets.
use Prim.Native.Nat.{ℕ, suc, ◌+◌, ◌≤◌, ◌<◌}
use native.Mathlib.Nat.{add_assoc}
use native.Mathlib.Omega.{arith}
use mathlib.Core.Path.{◌≡◌, refl, sym, ap, ◌∙◌}
use mathlib.Core.Bool.{Bool, true, false, ◌||◌, cond}
use mathlib.Core.List.{List, [], ◌∷◌}
use lib.ListN.{length, drop, set, drop_of_length-le}
use lib.Seq.{drop-drop}
use lib.Dec.{eqb}
use Rattle.std.specs.Prelude.{Some}
use Rattle.std.proofs.lemmas.Option.{same_Some}
use Rattle.text.specs.declared.Field.{Field}
use Rattle.text.specs.Forms.{has_minus, formed}
use Rattle.text.specs.Scan.{Scan, cut, last, more, by_byte, scan, magnitude, no_field, some_field, head_field, field_at, some_values, ValuesRead, wrong, reading}

-- ---- the values one by one

pub scan_tail : (t f : List ℕ) (g : Scan) → scan t ≡ more f g → scan (drop (length f + 1) t) ≡ g
scan_tail [] f g e = absurd (let z : ◌≡◌ {A = ℕ} 0 1 = cc in omega arith)
scan_tail (b ∷ t) f g e = go (eqb b 10) (eqb b 44) (scan t) refl (scan_tail t) e
  where
    go : (p q : Bool) (h : Scan) → scan t ≡ h → ((f : List ℕ) (g : Scan) → scan t ≡ more f g → scan (drop (length f + 1) t) ≡ g)
        → by_byte p q b h ≡ more f g → scan (drop (length f + 1) (b ∷ t)) ≡ g
    go true q h w rec e = absurd (let z : ◌≡◌ {A = ℕ} 0 1 = cc in omega arith)
    go false true h w rec e =
        let p : [] ≡ f = cc in
        let r : h ≡ g = cc in
        rw (← p) (w ∙ r)
    go false false cut w rec e = absurd (let z : ◌≡◌ {A = ℕ} 0 1 = cc in omega arith)
    go false false (last x) w rec e = absurd (let z : ◌≡◌ {A = ℕ} 0 1 = cc in omega arith)
    go false false (more x y) w rec e =
        let p : b ∷ x ≡ f = cc in
        let r : y ≡ g = cc in
        let n : suc (length x) + 1 ≡ suc (length x + 1) = omega arith in
        rw (← p, n) (rec x y w ∙ r)

-- what a turn of `read_values` does, by what the field is
module _ (m k : ℕ) (minus : Bool) (o : List ℕ) where
  broken : (g : Scan) (at : ℕ) → head_field (eqb (k + 1) m) g at ≡ no_field → reading m g at k minus o ≡ wrong o
  unfolding head_field reading
  broken cut at e = refl
  broken (last f) at e = go (formed (eqb (k + 1) m) f) e
    where
      go : (t : Bool) → cond t (some_field (magnitude f) (has_minus f) (at + length f + 1) true) no_field ≡ no_field
          → cond t (record { answer = some_values (k + 1) (at + length f + 1) (minus || has_minus f); out = set o k (magnitude f) }) (wrong o) ≡ wrong o
      go true e = absurd (let z : ◌≡◌ {A = ℕ} 0 1 = cc in omega arith)
      go false e = refl
  broken (more f g) at e = go (formed (eqb (k + 1) m) f) e
    where
      go : (t : Bool) → cond t (some_field (magnitude f) (has_minus f) (at + length f + 1) false) no_field ≡ no_field
          → cond t (reading m g (at + length f + 1) (k + 1) (minus || has_minus f) (set o k (magnitude f))) (wrong o) ≡ wrong o
      go true e = absurd (let z : ◌≡◌ {A = ℕ} 0 1 = cc in omega arith)
      go false e = refl

  ends_at : (g : Scan) (at : ℕ) (x : Field) → head_field (eqb (k + 1) m) g at ≡ Some x → x.last ≡ true
      → reading m g at k minus o ≡ record { answer = some_values (k + 1) x.next (minus || x.minus); out = set o k x.size }
  unfolding head_field reading
  ends_at cut at x q w = absurd (let z : ◌≡◌ {A = ℕ} 0 1 = cc in omega arith)
  ends_at (last f) at x q w = go (formed (eqb (k + 1) m) f) q
    where
      go : (t : Bool) → cond t (some_field (magnitude f) (has_minus f) (at + length f + 1) true) no_field ≡ Some x
          → cond t (record { answer = some_values (k + 1) (at + length f + 1) (minus || has_minus f); out = set o k (magnitude f) }) (wrong o) ≡ record { answer = some_values (k + 1) x.next (minus || x.minus); out = set o k x.size }
      go true q = let p = same_Some _ _ q in λ i. record { answer = some_values (k + 1) (p i).next (minus || (p i).minus); out = set o k (p i).size }
      go false q = absurd (let z : ◌≡◌ {A = ℕ} 0 1 = cc in omega arith)
  ends_at (more f g) at x q w = go (formed (eqb (k + 1) m) f) q
    where
      go : (t : Bool) → cond t (some_field (magnitude f) (has_minus f) (at + length f + 1) false) no_field ≡ Some x
          → cond t (reading m g (at + length f + 1) (k + 1) (minus || has_minus f) (set o k (magnitude f))) (wrong o) ≡ record { answer = some_values (k + 1) x.next (minus || x.minus); out = set o k x.size }
      go true q = absurd (let d : false ≡ true = ap (λ (y : Field). y.last) (same_Some _ _ q) ∙ w in let z : ◌≡◌ {A = ℕ} 0 1 = cc in omega arith)
      go false q = absurd (let z : ◌≡◌ {A = ℕ} 0 1 = cc in omega arith)

  goes_on : (g : Scan) (at : ℕ) (x : Field) (after : Scan) → head_field (eqb (k + 1) m) g at ≡ Some x → x.last ≡ false
      → ((f : List ℕ) (h : Scan) → g ≡ more f h → at + length f + 1 ≡ x.next → h ≡ after)
      → reading m g at k minus o ≡ reading m after x.next (k + 1) (minus || x.minus) (set o k x.size)
  unfolding head_field reading
  goes_on cut at x after q w r = absurd (let z : ◌≡◌ {A = ℕ} 0 1 = cc in omega arith)
  goes_on (last f) at x after q w r = go (formed (eqb (k + 1) m) f) q
    where
      go : (t : Bool) → cond t (some_field (magnitude f) (has_minus f) (at + length f + 1) true) no_field ≡ Some x
          → cond t (record { answer = some_values (k + 1) (at + length f + 1) (minus || has_minus f); out = set o k (magnitude f) }) (wrong o) ≡ reading m after x.next (k + 1) (minus || x.minus) (set o k x.size)
      go true q = absurd (let d : true ≡ false = ap (λ (y : Field). y.last) (same_Some _ _ q) ∙ w in let z : ◌≡◌ {A = ℕ} 0 1 = cc in omega arith)
      go false q = absurd (let z : ◌≡◌ {A = ℕ} 0 1 = cc in omega arith)
  goes_on (more f g) at x after q w r = go (formed (eqb (k + 1) m) f) q
    where
      go : (t : Bool) → cond t (some_field (magnitude f) (has_minus f) (at + length f + 1) false) no_field ≡ Some x
          → cond t (reading m g (at + length f + 1) (k + 1) (minus || has_minus f) (set o k (magnitude f))) (wrong o) ≡ reading m after x.next (k + 1) (minus || x.minus) (set o k x.size)
      go true q =
          let p = same_Some _ _ q in
          let p4 : g ≡ after = r f g refl (ap (λ (y : Field). y.next) p) in
          λ i. reading m (p4 i) (p i).next (k + 1) (minus || (p i).minus) (set o k (p i).size)
      go false q = absurd (let z : ◌≡◌ {A = ℕ} 0 1 = cc in omega arith)

-- a field ends after it begins
end_after : (signed : Bool) (g : Scan) (at : ℕ) (x : Field) → head_field signed g at ≡ Some x → at < x.next
unfolding head_field
end_after signed cut at x q = absurd (let z : ◌≡◌ {A = ℕ} 0 1 = cc in omega arith)
end_after signed (last f) at x q = go (formed signed f) q
  where
    go : (t : Bool) → cond t (some_field (magnitude f) (has_minus f) (at + length f + 1) true) no_field ≡ Some x → at < x.next
    go true q = let p3 : at + length f + 1 ≡ x.next = ap (λ (y : Field). y.next) (same_Some _ _ q) in omega arith
    go false q = absurd (let z : ◌≡◌ {A = ℕ} 0 1 = cc in omega arith)
end_after signed (more f g) at x q = go (formed signed f) q
  where
    go : (t : Bool) → cond t (some_field (magnitude f) (has_minus f) (at + length f + 1) false) no_field ≡ Some x → at < x.next
    go true q = let p3 : at + length f + 1 ≡ x.next = ap (λ (y : Field). y.next) (same_Some _ _ q) in omega arith
    go false q = absurd (let z : ◌≡◌ {A = ℕ} 0 1 = cc in omega arith)

-- what is read from the place i on, with k fields read
abbrev pub reading_at : List ℕ → ℕ → ℕ → ℕ → Bool → List ℕ → ValuesRead
reading_at s m i k minus o = reading m (scan (drop i s)) i k minus o

module _ (s : List ℕ) (m i k : ℕ) (minus : Bool) (o : List ℕ) where
  pub turn_end : length s ≤ i → reading_at s m i k minus o ≡ wrong o
  unfolding reading
  turn_end h = rw (drop_of_length-le s h) refl

  pub turn_broken : field_at s i (eqb (k + 1) m) ≡ no_field → reading_at s m i k minus o ≡ wrong o
  unfolding field_at
  turn_broken q = broken m k minus o (scan (drop i s)) i q

  module _ (x : Field) (q : field_at s i (eqb (k + 1) m) ≡ Some x) where
    pub turn_after : i < x.next
    unfolding field_at
    turn_after = end_after (eqb (k + 1) m) (scan (drop i s)) i x q

    pub turn_last : x.last ≡ true → reading_at s m i k minus o ≡ record { answer = some_values (k + 1) x.next (minus || x.minus); out = set o k x.size }
    unfolding field_at
    turn_last w = ends_at m k minus o (scan (drop i s)) i x q w

    pub turn_more : x.last ≡ false → reading_at s m i k minus o ≡ reading_at s m x.next (k + 1) (minus || x.minus) (set o k x.size)
    unfolding field_at
    turn_more w =
        goes_on m k minus o (scan (drop i s)) i x (scan (drop x.next s)) q w
        (λ f h w z. sym (scan_tail (drop i s) f h w) ∙ ap scan (drop-drop (length f + 1) i s ∙ ap (λ (n : ℕ). drop n s) (sym (add_assoc i (length f) 1) ∙ z)))
