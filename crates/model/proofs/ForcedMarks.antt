-- A status forced into a unit's marks: the runs that obey and agree with the marks so changed are those that obey, agree with the unit's own marks and have that
-- status in that period. A run's status in period t, counted from 0, is `get_or run t false`; agreeing is read period by period.
use mathlib.Core.Path.{◌≡◌, refl, sym, ◌∙◌, ap, subst, fun_ext}
use mathlib.Core.Bool.{Bool, true, false, cond, beq}
use mathlib.Core.List.{List, [], ◌∷◌}
use Prim.Native.Nat.{ℕ, zero, suc, ◌<◌}
use native.Mathlib.Omega.{arith}
use lib.Dec.{T, eqb, eqb→eq, eqb_refl}
use lib.ListN.{length, get_or}
use Rattle.model.specs.declared.generator.Generator.{Generator}
use Rattle.model.specs.Above.{Mark, fixed, allows, agrees}
use Rattle.model.specs.Forced.{force}
use Rattle.model.proofs.Tests.{T_and, T_and_l, T_and_r, beq_refl, beq_eq}
use Rattle.model.proofs.WalkRuns.{later, Obeying}

-- ---- agreeing, period by period

pub agrees_at : (m : ℕ → Mark) (run : List Bool) → T (agrees m run) → (i : ℕ) → i < length run → T (allows (m i) (get_or run i false))
agrees_at m [] a i l = absurd (omega arith)
agrees_at m (d ∷ run) a zero l = T_and_l (allows (m 0) d) (agrees (later m) run) a
agrees_at m (d ∷ run) a (suc i) l = agrees_at (later m) run (T_and_r (allows (m 0) d) (agrees (later m) run) a) i (omega arith)

pub agrees_all : (m : ℕ → Mark) (run : List Bool) → ((i : ℕ) → i < length run → T (allows (m i) (get_or run i false))) → T (agrees m run)
agrees_all m [] h = tt
agrees_all m (d ∷ run) h = T_and (allows (m 0) d) (agrees (later m) run) (h 0 (omega arith)) (agrees_all (later m) run (λ i l. h (suc i) (omega arith)))

-- so the marks allow the status that a run has in a period
pub obeying_allows : (n t : ℕ) → t < n → (g : Generator) (m : ℕ → Mark) (d b : Bool) (k : ℕ) (run : List Bool) → Obeying n g m b k run
    → get_or run t false ≡ d → T (allows (m t) d)
obeying_allows n t l g m d b k run o e = subst (λ (c : Bool). T (allows (m t) c)) e (agrees_at m run o.marked t (rw o.long l))

-- ---- the marks with a status forced

module _ (t : ℕ) (d : Bool) (m : ℕ → Mark) where
  -- in the period itself
  pub force_at : force t d m t ≡ fixed d
  force_at = go (eqb t t) (eqb_refl t)
    where
      go : (c : Bool) → T c → cond c (fixed d) (m t) ≡ fixed d
      go true k = refl
      go false k = absurd k

  -- a status that is fixed already changes nothing
  pub force_fixed : m t ≡ fixed d → force t d m ≡ m
  force_fixed e = fun_ext (λ i. go i (eqb t i) (λ k. eqb→eq t i k))
    where
      go : (i : ℕ) (c : Bool) → (T c → t ≡ i) → cond c (fixed d) (m i) ≡ m i
      go i true f = sym e ∙ ap m (f tt)
      go i false f = refl

-- ---- the runs that agree with them

-- a run with the status d in period t agrees with d forced there
pub obeying_forced : (n t : ℕ) (g : Generator) (m : ℕ → Mark) (d b : Bool) (k : ℕ) (run : List Bool)
    → Obeying n g m b k run → get_or run t false ≡ d → Obeying n g (force t d m) b k run
obeying_forced n t g m d b k run o e = record {
  long = o.long;
  times = o.times;
  marked = agrees_all (force t d m) run (λ i h. go i h (eqb t i) (λ j. eqb→eq t i j));
}
  where
    go : (i : ℕ) → i < length run → (c : Bool) → (T c → t ≡ i) → T (allows (cond c (fixed d) (m i)) (get_or run i false))
    go i h true f = subst (λ (c : Bool). T (beq d c)) (sym (subst (λ (j : ℕ). get_or run j false ≡ d) (f tt) e)) (beq_refl d)
    go i h false f = agrees_at m run o.marked i h

-- and one that agrees with d forced has it there, and agrees with the unit's own marks where they let d be
pub forced_obeying : (n t : ℕ) → t < n → (g : Generator) (m : ℕ → Mark) (d : Bool) → T (allows (m t) d) → (b : Bool) (k : ℕ) (run : List Bool)
    → Obeying n g (force t d m) b k run → Obeying n g m b k run × (get_or run t false ≡ d)
forced_obeying n t l g m d may b k run o = (
  record {
    long = o.long;
    times = o.times;
    marked = agrees_all m run (λ i h. go i (eqb t i) (λ j. eqb→eq t i j) (agrees_at (force t d m) run o.marked i h));
  },
  status,
)
  where
    status : get_or run t false ≡ d
    status =
        beq_eq d (get_or run t false)
        (subst (λ (a : Mark). T (allows a (get_or run t false))) (force_at t d m) (obeying_allows n t l g (force t d m) (get_or run t false) b k run o refl))

    here : T (allows (m t) (get_or run t false))
    here = subst (λ (c : Bool). T (allows (m t) c)) (sym status) may

    go : (i : ℕ) (c : Bool) → (T c → t ≡ i) → T (allows (cond c (fixed d) (m i)) (get_or run i false)) → T (allows (m i) (get_or run i false))
    go i true f a = subst (λ (j : ℕ). T (allows (m j) (get_or run j false))) (f tt) here
    go i false f a = a
