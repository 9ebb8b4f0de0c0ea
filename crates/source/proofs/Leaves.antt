-- The rules for a leaf in the paper's equations: a run obeys and agrees exactly if (5) to (10) hold for its statuses and they are those fixed.
-- All runs of T statuses are then all u.
use mathlib.Core.Path.{◌≡◌, refl, sym, ◌∙◌, ap, subst}
use mathlib.Core.Bool.{Bool, true, false, not, beq}
use mathlib.Core.Logic.{◌↔◌}
use mathlib.Core.List.{List, [], ◌∷◌, ◌++◌, map, Memᴰ}
use Prim.Native.Nat.{ℕ, zero, suc, ◌≤◌, ◌<◌}
use native.Mathlib.Omega.{arith}
use lib.Dec.{T, not_T}
use lib.ListN.{length, get_or, length-map}
use Rattle.model.specs.declared.generator.Generator.{Generator}
use Rattle.model.specs.Instance.{◌at◌}
use Rattle.model.specs.Rules.{on, statuses, keeps, Within}
use Rattle.model.specs.Above.{Mark, free, fixed, allows, agrees, obeys}
use Rattle.model.specs.Leaf.{gather, words, none_of, runs, is_stuck}
use Rattle.model.proofs.Tests.{T_and, T_and_l, T_and_r}
use Rattle.model.proofs.Members.{mem_words, none_of_not}
use Rattle.source.specs.Source.{ToT, Bits, bit, from, u_row}
use Rattle.source.specs.Leaves.{Fits, NoStatuses, LeafRow}
use Rattle.source.proofs.Indices.{from_one}
use Rattle.source.proofs.Stays.{num_le, Reads}
use Rattle.source.proofs.UpDown.{keeps→updown, updown→keeps}
use Rattle.source.proofs.Rows.{within→eq4, eq4→within, row_reads, row_bits}

-- ---- agreement

allows→same : (k : Mark) (b d : Bool) → k ≡ fixed b → T (allows k d) → bit d ≡ bit b
allows→same k b d e h = go b d (subst (λ (k : Mark). T (allows k d)) e h)
  where
    go : (b d : Bool) → T (beq b d) → bit d ≡ bit b
    go true true h = refl
    go true false h = absurd h
    go false true h = absurd h
    go false false h = refl

same→allows : (k : Mark) (d : Bool) → ((b : Bool) → k ≡ fixed b → bit d ≡ bit b) → T (allows k d)
same→allows free d h = tt
same→allows (fixed b) d h = go b d (h b refl)
  where
    go : (b d : Bool) → bit d ≡ bit b → T (beq b d)
    go true true e = tt
    go true false e = absurd (omega arith)
    go false true e = absurd (omega arith)
    go false false e = tt

agrees→fits : (m : ℕ → Mark) (run : List Bool) (u : ℕ → ℕ) → Reads u run → T (agrees m run) → Fits m (length run) u
agrees→fits m [] u r h t b l e = absurd (omega arith)
agrees→fits m (d ∷ run) u r h zero b l e =
    r 0 (omega arith) ∙ allows→same (m 0) b d e (T_and_l (allows (m 0) d) (agrees (λ t. m (suc t)) run) h)
agrees→fits m (d ∷ run) u r h (suc t) b l e =
    agrees→fits (λ t. m (suc t)) run (λ t. u (suc t)) (λ t l. r (suc t) (omega arith)) (T_and_r (allows (m 0) d) (agrees (λ t. m (suc t)) run) h) t b
    (omega arith) e

fits→agrees : (m : ℕ → Mark) (run : List Bool) (u : ℕ → ℕ) → Reads u run → Fits m (length run) u → T (agrees m run)
fits→agrees m [] u r h = tt
fits→agrees m (d ∷ run) u r h =
    T_and (allows (m 0) d) (agrees (λ t. m (suc t)) run) (same→allows (m 0) d (λ b e. sym (r 0 (omega arith)) ∙ h 0 b (omega arith) e))
    (fits→agrees (λ t. m (suc t)) run (λ t. u (suc t)) (λ t l. r (suc t) (omega arith)) (λ t b l e. h (suc t) b (omega arith) e))

-- ---- a run of T statuses, read by u

pub obeys_is : (n : ℕ) (g : Generator) (m : ℕ → Mark) (run : List Bool) (u : ℕ → ℕ) → 1 ≤ g.since → length run ≡ n → Bits n u → Reads (from g u) run
    → T (obeys g m run) ↔ (ToT n g u × Fits m n u)
obeys_is n g m run u f e bits r = (
  λ o. (keeps→updown n g u run e r (T_and_l K G o), subst (λ (k : ℕ). Fits m k u) e (agrees→fits m run u r (T_and_r K G o))),
  λ h. T_and K G (updown→keeps n g u run e r f bits h.0) (fits→agrees m run u r (subst (λ (k : ℕ). Fits m k u) (sym e) h.1)),
)
  where
    K : Bool
    K = keeps g g.on g.since run

    G : Bool
    G = agrees m run

-- ---- every u is a run, every run a u

run_of : ℕ → (ℕ → ℕ) → List Bool
run_of zero u = []
run_of (suc n) u = on (u 1) ∷ run_of n (λ t. u (suc t))

run_long : (n : ℕ) (u : ℕ → ℕ) → length (run_of n u) ≡ n
unfolding run_of
run_long zero u = refl
run_long (suc n) u = ap suc (run_long n (λ t. u (suc t)))

num_on : (v : ℕ) → v ≤ 1 → v ≡ bit (on v)
num_on zero l = refl
num_on (suc zero) l = refl
num_on (suc (suc v)) l = absurd (omega arith)

run_at : (n : ℕ) (u : ℕ → ℕ) → Bits n u → (t : ℕ) → t < n → u (suc t) ≡ bit (get_or (run_of n u) t false)
unfolding run_of
run_at zero u bits t l = absurd (omega arith)
run_at (suc n) u bits zero l = num_on (u 1) (bits 1 (omega arith) (omega arith))
run_at (suc n) u bits (suc t) l = run_at n (λ t. u (suc t)) (λ t i m. bits (suc t) (omega arith) (omega arith)) t (omega arith)

abbrev u_run : List Bool → ℕ → ℕ
u_run run zero = 0
u_run run (suc t) = bit (get_or run t false)

run_bits : (n : ℕ) (run : List Bool) → Bits n (u_run run)
run_bits n run = from_one n _ (λ t l. num_le (get_or run t false))

bool_mem : (b : Bool) → Memᴰ b (false ∷ (true ∷ []))
bool_mem true = Memᴰ.tail (Memᴰ.head refl)
bool_mem false = Memᴰ.head refl

-- ---- none of all words of n members, if none of those of length n

module _ {A : Type 0} where
  none_append : (p : A → Bool) (l k : List A) → T (none_of p l) → T (none_of p k) → T (none_of p (l ++ k))
  none_append p [] k h j = j
  none_append p (x ∷ l) k h j =
      T_and (not (p x)) (none_of p (l ++ k)) (T_and_l (not (p x)) (none_of p l) h) (none_append p l k (T_and_r (not (p x)) (none_of p l) h) j)

  none_map : {B : Type 0} (p : A → Bool) (f : B → A) (l : List B) → T (none_of (λ x. p (f x)) l) → T (none_of p (map f l))
  none_map p f [] h = tt
  none_map p f (x ∷ l) h =
      T_and (not (p (f x))) (none_of p (map f l)) (T_and_l (not (p (f x))) (none_of (λ x. p (f x)) l) h)
      (none_map p f l (T_and_r (not (p (f x))) (none_of (λ x. p (f x)) l) h))

  none_gather : {B : Type 0} (p : A → Bool) (f : B → List A) (l : List B) → ((x : B) → T (none_of p (f x))) → T (none_of p (gather f l))
  none_gather p f [] h = tt
  none_gather p f (x ∷ l) h = none_append p (f x) (gather f l) (h x) (none_gather p f l h)

none_words : {A : Type 0} (p : List A → Bool) (al : List A) (n : ℕ) → ((w : List A) → length w ≡ n → T (p w) → ⊥) → T (none_of p (words al n))
none_words p al zero h = T_and (not (p [])) true (not_T (p []) (h [] refl)) tt
none_words p al (suc n) h =
    none_gather p (λ a. map (λ w. a ∷ w) (words al n)) al
    (λ a. none_map p (λ w. a ∷ w) (words al n) (none_words (λ w. p (a ∷ w)) al n (λ w e. h (a ∷ w) (ap suc e))))

-- ---- the theorems

pub stuck_is : (n : ℕ) (g : Generator) (m : ℕ → Mark) → 1 ≤ g.since → T (is_stuck n g m) ↔ NoStatuses n g m
unfolding is_stuck
stuck_is n g m f = (
  λ h u bits S w. none_of_not (obeys g m) (runs n) h
      (mem_words (false ∷ (true ∷ [])) false n (run_of n u) (run_long n u) (λ t l. bool_mem (get_or (run_of n u) t false)))
      ((obeys_is n g m (run_of n u) u f (run_long n u) bits (λ t l. run_at n u bits t (omega (arith, run_long n u)))).1 (S, w)),
  λ h. none_words (obeys g m) (false ∷ (true ∷ [])) n (λ run e o.
      let w = (obeys_is n g m run (u_run run) f e (run_bits n run) (λ t l. refl)).0 o in
      h (u_run run) (run_bits n run) w.0 w.1),
)

-- what the rows of a price leaf have is (4), (5) to (10) and agreement
pub leaf_row_is : (n : ℕ) (g : Generator) (m : ℕ → Mark) (r : List ℕ) → 1 ≤ g.since
    → ((length r ≡ n) × ((t : ℕ) → t < n → Within g (r at t)) × T (obeys g m (statuses r))) ↔ LeafRow n g m r
leaf_row_is n g m r f = (
  λ h. let w = (obeys_is n g m (statuses r) (u_row r) f (length-map r on ∙ h.0) (row_bits n r) (row_reads g r)).0 h.2 in
      record { long = h.0; eq4 = from_one n _ (λ t l. within→eq4 g (r at t) (h.1 t l)); eq5_10 = w.0; fits = w.1 },
  λ R. (
    R.long,
    λ t l. eq4→within g (r at t) (R.eq4 (suc t) (omega arith) l).0 (R.eq4 (suc t) (omega arith) l).1,
    (obeys_is n g m (statuses r) (u_row r) f (length-map r on ∙ R.long) (row_bits n r) (row_reads g r)).1 (R.eq5_10, R.fits),
  ),
)
