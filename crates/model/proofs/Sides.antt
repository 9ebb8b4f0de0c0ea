-- A fork puts a schedule on one side: what agrees above a fork agrees with the side that the schedule takes, and what agrees with a side of a good fork
-- agrees above it and takes that side.
use mathlib.Core.Path.{◌≡◌, refl, subst}
use mathlib.Core.Bool.{Bool, true, false, cond, ◌&&◌}
use mathlib.Core.Logic.{◌↔◌}
use mathlib.Core.Option.{Option, none, some}
use Prim.Native.Nat.{ℕ, suc, ◌≤◌, ◌<◌}
use native.Mathlib.Omega.{arith}
use borrow.Author.Tests.{ltb-true, ltb-false, lt-ltb, le-ltb}
use lib.Dec.{T, eqb, eqb→eq, eqb_refl, ltb}
use Rattle.model.specs.Instance.{Instance, Schedule}
use Rattle.model.specs.Rules.{on}
use Rattle.model.specs.Above.{Mark, free, fixed, Marks, Above, root, mark, put, Fork, status, count, side, AtMost, BelowMost, allows}
use Rattle.model.specs.Tree.{GoodFork}
use Rattle.model.specs.Agreement.{out, Follows, running, Agrees, takes}
use Rattle.model.proofs.Tests.{T_and, T_and_l, T_and_r, beq_refl, beq_eq}

-- nothing stands above the root
pub agrees_root : (s : Schedule) → Agrees root s
agrees_root s = record { follows = λ u t. tt; enough = λ t. omega arith; few = λ t. tt }

-- ---- marks

same_place : (U t u v : ℕ) → T (eqb U u && eqb t v) → (U ≡ u) × (t ≡ v)
same_place U t u v k = (eqb→eq U u (T_and_l (eqb U u) (eqb t v) k), eqb→eq t v (T_and_r (eqb U u) (eqb t v) k))

-- the schedule's own status may be marked
mark_follows : (m : Marks) (s : Schedule) → Follows m s → (U t : ℕ) → Follows (mark U t (on (out s U t)) m) s
mark_follows m s h U t u v = go (eqb U u && eqb t v) same
  where
    same : T (eqb U u && eqb t v) → on (out s U t) ≡ on (out s u v)
    same k =
        let p = (same_place U t u v k).0 in
        let p' = (same_place U t u v k).1 in
        cc

    go : (c : Bool) → (T c → on (out s U t) ≡ on (out s u v)) → T (allows (cond c (fixed (on (out s U t))) (m u v)) (on (out s u v)))
    go true k = rw (k tt) (beq_refl (on (out s u v)))
    go false k = h u v

-- and what follows a mark put where none was, follows those before
mark_before : (m : Marks) (s : Schedule) (U t : ℕ) (b : Bool) → m U t ≡ free → Follows (mark U t b m) s → Follows m s
mark_before m s U t b e h u v = go (eqb U u && eqb t v) same (h u v)
  where
    same : T (eqb U u && eqb t v) → m u v ≡ free
    same k =
        let p = (same_place U t u v k).0 in
        let p' = (same_place U t u v k).1 in
        cc

    go : (c : Bool) → (T c → m u v ≡ free) → T (allows (cond c (fixed b) (m u v)) (on (out s u v))) → T (allows (m u v) (on (out s u v)))
    go true k a = rw (k tt) tt
    go false k a = a

mark_same : (m : Marks) (U t : ℕ) (b : Bool) → mark U t b m U t ≡ fixed b
mark_same m U t b = go (eqb U U && eqb t t) (T_and (eqb U U) (eqb t t) (eqb_refl U) (eqb_refl t))
  where
    go : (c : Bool) → T c → cond c (fixed b) (m U t) ≡ fixed b
    go true k = refl
    go false k = absurd k

-- and has that status
mark_takes : (m : Marks) (s : Schedule) (U t : ℕ) (b : Bool) → Follows (mark U t b m) s → on (out s U t) ≡ b
mark_takes m s U t b h = beq_eq b (on (out s U t)) (subst (λ (x : Mark). T (allows x (on (out s U t)))) (mark_same m U t b) (h U t))

-- ---- counts

-- what holds of a period's new value and of every value before holds with the value put there
put_all : {X : Type 0} (R : ℕ → X → Type 0) (t : ℕ) (x : X) (f : ℕ → X) → R t x → ((v : ℕ) → R v (f v)) → (v : ℕ) → R v (put t x f v)
put_all {X} R t x f a b v = go (eqb t v) (eqb→eq t v)
  where
    go : (c : Bool) → (T c → t ≡ v) → R v (cond c x (f v))
    go true k = subst (λ (w : ℕ). R w x) (k tt) a
    go false k = b v

-- and before it was put, if the new value says more
put_before : {X : Type 0} (R : ℕ → X → Type 0) (t : ℕ) (x : X) (f : ℕ → X) → (R t x → R t (f t)) → ((v : ℕ) → R v (put t x f v)) → (v : ℕ) → R v (f v)
put_before {X} R t x f a h v = go (eqb t v) (eqb→eq t v) (h v)
  where
    go : (c : Bool) → (T c → t ≡ v) → R v (cond c x (f v)) → R v (f v)
    go true k r = subst (λ (w : ℕ). R w x → R w (f w)) (k tt) a r
    go false k r = r

pub put_same : {X : Type 0} (t : ℕ) (x : X) (f : ℕ → X) → put t x f t ≡ x
put_same {X} t x f = go (eqb t t) (eqb_refl t)
  where
    go : (c : Bool) → T c → cond c x (f t) ≡ x
    go true k = refl
    go false k = absurd k

-- what is at most K is at most a count above K
wider : (K n : ℕ) (o : Option ℕ) → BelowMost K o → n ≤ K → AtMost n o
wider K n none b l = tt
wider K n (some H) b l = omega (arith, b, l)

-- ---- any fork

pub side_agrees : (A : Above) (s : Schedule) → Agrees A s → (f : Fork) → Agrees (side f (takes f s) A) s
side_agrees A s h (status U t) = record { follows = mark_follows A.marks s h.follows U t; enough = h.enough; few = h.few }
side_agrees A s h (count t K) = go (ltb K (running s t)) (ltb-true K (running s t)) (ltb-false K (running s t))
  where
    go : (b : Bool) → (b ≡ true → K < running s t) → (b ≡ false → running s t ≤ K) → Agrees (side (count t K) b A) s
    go true y n = record {
      follows = h.follows;
      enough = put_all (λ v x. x ≤ running s v) t (suc K) A.least (y refl) h.enough;
      few = h.few;
    }
    go false y n = record {
      follows = h.follows;
      enough = h.enough;
      few = put_all (λ v x. AtMost (running s v) x) t (some K) A.most (n refl) h.few;
    }

pub side_only : (P : Instance) (A : Above) (s : Schedule) (f : Fork) (b : Bool) → GoodFork P A f → Agrees (side f b A) s → Agrees A s × (takes f s ≡ b)
side_only P A s (status U t) b g h = (
  record { follows = mark_before A.marks s U t b g.2 h.follows; enough = h.enough; few = h.few },
  mark_takes A.marks s U t b h.follows,
)
side_only P A s (count t K) false g h =
    let k : running s t ≤ K = subst (λ (o : Option ℕ). AtMost (running s t) o) (put_same t (some K) A.most) (h.few t) in (
      record {
        follows = h.follows;
        enough = h.enough;
        few = put_before (λ v x. AtMost (running s v) x) t (some K) A.most (wider K (running s t) (A.most t) g.2.1) h.few;
      },
      le-ltb K (running s t) k,
    )
side_only P A s (count t K) true g h =
    let k : suc K ≤ running s t = subst (λ (x : ℕ). x ≤ running s t) (put_same t (suc K) A.least) (h.enough t) in (
      record {
        follows = h.follows;
        enough = put_before (λ v x. x ≤ running s v) t (suc K) A.least (λ z. omega (arith, g.2.0, k)) h.enough;
        few = h.few;
      },
      lt-ltb K (running s t) k,
    )

-- above the first tree of a good count are the schedules of those above it that run at most K units in the period, above its second the others
pub count_sides : (P : Instance) (A : Above) (t K : ℕ) → GoodFork P A (count t K) → (s : Schedule)
    → (Agrees (side (count t K) false A) s ↔ (Agrees A s × (running s t ≤ K))) × (Agrees (side (count t K) true A) s ↔ (Agrees A s × (K < running s t)))
count_sides P A t K g s = (
  (
    λ h. let o = side_only P A s (count t K) false g h in (o.0, ltb-false K (running s t) o.1),
    λ h. subst (λ (b : Bool). Agrees (side (count t K) b A) s) (le-ltb K (running s t) h.1) (side_agrees A s h.0 (count t K)),
  ),
  (
    λ h. let o = side_only P A s (count t K) true g h in (o.0, ltb-true K (running s t) o.1),
    λ h. subst (λ (b : Bool). Agrees (side (count t K) b A) s) (lt-ltb K (running s t) h.1) (side_agrees A s h.0 (count t K)),
  ),
)
