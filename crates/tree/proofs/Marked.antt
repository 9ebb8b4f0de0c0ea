-- The bytes hold what stands above a node: nothing at the root, and under a fork a status or a count more, since no two of them have one place.
use mathlib.Core.Path.{◌≡◌, refl, sym, ap, ap₂, ◌∙◌}
use mathlib.Core.Bool.{Bool, true, false, cond, ◌&&◌}
use mathlib.Core.List.{List}
use mathlib.Core.Option.{Option, none, some}
use Prim.Native.Nat.{ℕ, zero, suc, ◌+◌, ◌*◌, ◌<◌}
use native.Mathlib.Nat.{mul-le-mul_right}
use native.Mathlib.Omega.{arith}
use native.Mathlib.Decide.{dec_lt}
use lib.Dec.{ltb, eqb}
use lib.ListN.{length, set, replicate, length-set}
use lib.Seq.{get_or-set_same, get_or-set_other, set-set, set-get_or}
use borrow.Author.Tests.{eqb-true, eqb-false, lt-ltb, ltb-true}
use Rattle.model.specs.Instance.{Instance, ◌at◌}
use Rattle.model.specs.Above.{free, fixed, root, mark, status, count, side}
use Rattle.model.specs.Ranges.{WellFormed}
use Rattle.decimal.proofs.Digits.{and_true}
use Rattle.walk.specs.Marks.{mark_of, marks_in, upper_begin, lower_begin, above_length, most_of, most_in, least_in, above_of}
use Rattle.tree.proofs.Places.{place_inside}

-- ---- the root

zeros_at : (n i : ℕ) → replicate n 0 at i ≡ 0
zeros_at zero i = refl
zeros_at (suc n) zero = refl
zeros_at (suc n) (suc i) = zeros_at n i

same_either : (b : Bool) → cond b free free ≡ free
same_either true = refl
same_either false = refl

zero_either : (b : Bool) → cond {A = ℕ} b 0 0 ≡ 0
zero_either true = refl
zero_either false = refl

none_either : (b : Bool) → cond {A = Option ℕ} b none none ≡ none
none_either true = refl
none_either false = refl

pub root_is : (P : Instance) → above_of P (replicate 1632 0) ≡ root
unfolding marks_in mark_of most_in least_in
root_is P = λ i. record { marks = λ u t. marks_are u t i; most = λ t. most_are t i; least = λ t. least_are t i }
  where
    marks_are : (u t : ℕ) → marks_in (length P.units) P.periods (replicate 1632 0) u t ≡ free
    marks_are u t =
        let b = ltb u (length P.units) && ltb t P.periods in
        ap (λ (x : ℕ). cond b (mark_of x) free) (zeros_at 1632 (u * P.periods + t)) ∙ same_either b

    most_are : (t : ℕ) → most_in P.periods (replicate 1632 0) t ≡ none
    most_are t = ap (λ (x : ℕ). cond (ltb t P.periods) (most_of x) none) (zeros_at 1632 (upper_begin + t)) ∙ none_either (ltb t P.periods)

    least_are : (t : ℕ) → least_in P.periods (replicate 1632 0) t ≡ 0
    least_are t = ap (λ (x : ℕ). cond (ltb t P.periods) x 0) (zeros_at 1632 (lower_begin + t)) ∙ zero_either (ltb t P.periods)

-- ---- a status

-- two statuses with one place are one
place_once : (T u v U t : ℕ) → v < T → t < T → u * T + v ≡ U * T + t → (u ≡ U) × (v ≡ t)
place_once T u v U t h k e = go (dec_lt u U) (dec_lt U u)
  where
    go : Dec (u < U) → Dec (U < u) → (u ≡ U) × (v ≡ t)
    go (yes a) d = absurd (omega (arith, mul-le-mul_right T a))
    go (no a) (yes b) = absurd (omega (arith, mul-le-mul_right T b))
    go (no a) (no b) =
        let q : u ≡ U = omega (arith, a, b) in
        let r : u * T ≡ U * T = ap (λ (x : ℕ). x * T) q in
        (q, omega arith)

module _ (I T : ℕ) (bytes : List ℕ) (U t code : ℕ) (b : Bool) (inside : U * T + t < length bytes) (k : U < I) (h : t < T) (is : mark_of code ≡ fixed b) where
  after_set : (u v : ℕ) → marks_in I T (set bytes (U * T + t) code) u v ≡ mark U t b (marks_in I T bytes) u v
  unfolding marks_in
  after_set u v = go (eqb U u) refl (eqb t v) refl (ltb u I && ltb v T) refl
    where
      other : (ltb u I && ltb v T) ≡ true → (u ≡ U → v ≡ t → ⊥) → set bytes (U * T + t) code at (u * T + v) ≡ bytes at (u * T + v)
      other l apart =
          get_or-set_other bytes (U * T + t) (u * T + v) code 0
          (λ e. let p = place_once T u v U t (ltb-true v T (and_true (ltb u I) (ltb v T) l).1) h e in apart p.0 p.1)

      go : (x : Bool) → eqb U u ≡ x → (y : Bool) → eqb t v ≡ y → (z : Bool) → (ltb u I && ltb v T) ≡ z
          → cond (ltb u I && ltb v T) (mark_of (set bytes (U * T + t) code at (u * T + v))) free
          ≡ cond (eqb U u && eqb t v) (fixed b) (cond (ltb u I && ltb v T) (mark_of (bytes at (u * T + v))) free)
      go true p true q z r =
          let e : U ≡ u = eqb-true U u p in
          let f : t ≡ v = eqb-true t v q in
          let l : (ltb u I && ltb v T) ≡ true = ap₂ (λ (x y : ℕ). ltb x I && ltb y T) (sym e) (sym f) ∙ ap₂ ◌&&◌ (lt-ltb U I k) (lt-ltb t T h) in
          let s : set bytes (U * T + t) code at (u * T + v) ≡ code =
          ap (λ (x : ℕ). set bytes (U * T + t) code at (x * T + v)) (sym e) ∙ ap (λ (x : ℕ). set bytes (U * T + t) code at (U * T + x)) (sym f)
          ∙ get_or-set_same bytes (U * T + t) code 0 inside in
          rw (p, q, l, s) is
      go true p false q true r = rw (p, q, r) (ap mark_of (other r (λ a c. eqb-false t v q (sym c))))
      go true p false q false r = rw (p, q, r) refl
      go false p y q true r = rw (p, r) (ap mark_of (other r (λ a c. eqb-false U u p (sym a))))
      go false p y q false r = rw (p, r) refl

-- ---- bytes of other places are as before

module _ (P : Instance) (bytes : List ℕ) (place code : ℕ) where
  marks_kept : ((u t : ℕ) → u < length P.units → t < P.periods → (u * P.periods + t ≡ place → ⊥)) → (above_of P (set bytes place code)).marks ≡ (above_of P bytes).marks
  unfolding marks_in
  marks_kept apart = λ i u t. go u t (ltb u (length P.units) && ltb t P.periods) refl i
    where
      go : (u t : ℕ) (b : Bool) → (ltb u (length P.units) && ltb t P.periods) ≡ b
          → cond (ltb u (length P.units) && ltb t P.periods) (mark_of (set bytes place code at (u * P.periods + t))) free
          ≡ cond (ltb u (length P.units) && ltb t P.periods) (mark_of (bytes at (u * P.periods + t))) free
      go u t true e =
          let l = and_true (ltb u (length P.units)) (ltb t P.periods) e in
          ap (λ (x : ℕ). cond (ltb u (length P.units) && ltb t P.periods) (mark_of x) free)
          (get_or-set_other bytes place (u * P.periods + t) code 0 (apart u t (ltb-true u (length P.units) l.0) (ltb-true t P.periods l.1)))
      go u t false e = rw e refl

  most_kept : ((t : ℕ) → t < P.periods → (upper_begin + t ≡ place → ⊥)) → (above_of P (set bytes place code)).most ≡ (above_of P bytes).most
  unfolding most_in
  most_kept apart = λ i t. go t (ltb t P.periods) refl i
    where
      go : (t : ℕ) (b : Bool) → ltb t P.periods ≡ b
          → cond (ltb t P.periods) (most_of (set bytes place code at (upper_begin + t))) none ≡ cond (ltb t P.periods) (most_of (bytes at (upper_begin + t))) none
      go t true e = ap (λ (x : ℕ). cond (ltb t P.periods) (most_of x) none) (get_or-set_other bytes place (upper_begin + t) code 0 (apart t (ltb-true t P.periods e)))
      go t false e = rw e refl

  least_kept : ((t : ℕ) → t < P.periods → (lower_begin + t ≡ place → ⊥)) → (above_of P (set bytes place code)).least ≡ (above_of P bytes).least
  unfolding least_in
  least_kept apart = λ i t. go t (ltb t P.periods) refl i
    where
      go : (t : ℕ) (b : Bool) → ltb t P.periods ≡ b
          → cond (ltb t P.periods) (set bytes place code at (lower_begin + t)) 0 ≡ cond (ltb t P.periods) (bytes at (lower_begin + t)) 0
      go t true e = ap (λ (x : ℕ). cond (ltb t P.periods) x 0) (get_or-set_other bytes place (lower_begin + t) code 0 (apart t (ltb-true t P.periods e)))
      go t false e = rw e refl

-- ---- one side of a fork

-- the byte of a status stands at its place, n being the periods
pub status_side : (P : Instance) → WellFormed P → (n : ℕ) (bytes : List ℕ) (U t code : ℕ) (b : Bool) → n ≡ P.periods → length bytes ≡ above_length → U < length P.units
    → t < P.periods → mark_of code ≡ fixed b → above_of P (set bytes (U * n + t) code) ≡ side (status U t) b (above_of P bytes)
status_side P W n bytes U t code b e long k h is =
    let low : U * P.periods + t < 1536 = place_inside P W P.periods U t refl k h in
    rw e (λ i. record {
      marks = λ u v. after_set (length P.units) P.periods bytes U t code b (omega (arith, low, long)) k h is u v i;
      most = most_kept P bytes (U * P.periods + t) code (λ v l q. omega (arith, low)) i;
      least = least_kept P bytes (U * P.periods + t) code (λ v l q. omega (arith, low)) i;
    })

module _ (P : Instance) (W : WellFormed P) (bytes : List ℕ) (long : length bytes ≡ above_length) (t K : ℕ) (h : t < P.periods) where
  -- the upper count K of period t is the byte K + 1
  pub upper_side : above_of P (set bytes (upper_begin + t) (suc K)) ≡ side (count t K) false (above_of P bytes)
  unfolding most_in
  upper_side = λ i. record {
    marks = marks_kept P bytes (upper_begin + t) (suc K) (λ u v k l q. omega (arith, place_inside P W P.periods u v refl k l)) i;
    most = λ v. go v (eqb t v) refl (ltb v P.periods) refl i;
    least = least_kept P bytes (upper_begin + t) (suc K) (λ v l q. omega (arith, W.periods_in)) i;
  }
    where
      go : (v : ℕ) (x : Bool) → eqb t v ≡ x → (y : Bool) → ltb v P.periods ≡ y
          → cond (ltb v P.periods) (most_of (set bytes (upper_begin + t) (suc K) at (upper_begin + v))) none
          ≡ cond (eqb t v) (some K) (cond (ltb v P.periods) (most_of (bytes at (upper_begin + v))) none)
      go v true p y q =
          let e : t ≡ v = eqb-true t v p in
          let l : ltb v P.periods ≡ true = ap (λ (x : ℕ). ltb x P.periods) (sym e) ∙ lt-ltb t P.periods h in
          let s : set bytes (upper_begin + t) (suc K) at (upper_begin + v) ≡ suc K =
          ap (λ (x : ℕ). set bytes (upper_begin + t) (suc K) at (upper_begin + x)) (sym e)
          ∙ get_or-set_same bytes (upper_begin + t) (suc K) 0 (omega (arith, long, W.periods_in)) in
          rw (p, l, s) refl
      go v false p true q =
          let s = get_or-set_other bytes (upper_begin + t) (upper_begin + v) (suc K) 0 (λ e. eqb-false t v p (omega arith)) in
          rw (p, q, s) refl
      go v false p false q = rw (p, q) refl

  -- and so is the lower count K + 1
  pub lower_side : above_of P (set bytes (lower_begin + t) (suc K)) ≡ side (count t K) true (above_of P bytes)
  unfolding least_in
  lower_side = λ i. record {
    marks = marks_kept P bytes (lower_begin + t) (suc K) (λ u v k l q. omega (arith, place_inside P W P.periods u v refl k l)) i;
    most = most_kept P bytes (lower_begin + t) (suc K) (λ v l q. omega (arith, W.periods_in)) i;
    least = λ v. go v (eqb t v) refl (ltb v P.periods) refl i;
  }
    where
      go : (v : ℕ) (x : Bool) → eqb t v ≡ x → (y : Bool) → ltb v P.periods ≡ y
          → cond (ltb v P.periods) (set bytes (lower_begin + t) (suc K) at (lower_begin + v)) 0
          ≡ cond (eqb t v) (suc K) (cond (ltb v P.periods) (bytes at (lower_begin + v)) 0)
      go v true p y q =
          let e : t ≡ v = eqb-true t v p in
          let l : ltb v P.periods ≡ true = ap (λ (x : ℕ). ltb x P.periods) (sym e) ∙ lt-ltb t P.periods h in
          let s : set bytes (lower_begin + t) (suc K) at (lower_begin + v) ≡ suc K =
          ap (λ (x : ℕ). set bytes (lower_begin + t) (suc K) at (lower_begin + x)) (sym e)
          ∙ get_or-set_same bytes (lower_begin + t) (suc K) 0 (omega (arith, long, W.periods_in)) in
          rw (p, l, s) refl
      go v false p true q =
          let s = get_or-set_other bytes (lower_begin + t) (lower_begin + v) (suc K) 0 (λ e. eqb-false t v p (omega arith)) in
          rw (p, q, s) refl
      go v false p false q = rw (p, q) refl

-- ---- a byte set and taken back

module _ {x : List ℕ} (bytes : List ℕ) (place code : ℕ) (e : x ≡ set bytes place code) where
  pub set_length : length x ≡ length bytes
  set_length = ap length e ∙ length-set bytes place code

  pub set_back : set x place (bytes at place) ≡ bytes
  set_back = ap (λ (l : List ℕ). set l place (bytes at place)) e ∙ set-set bytes place code (bytes at place) ∙ set-get_or bytes place 0
