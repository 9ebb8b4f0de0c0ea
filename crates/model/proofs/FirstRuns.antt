-- The run that takes off wherever that is no worse: it has the walk's value, it is the earliest of all runs that have it, it sees no period past the last, and counts
-- past a cap make no difference to it. By induction on the periods left.
use mathlib.Core.Path.{◌≡◌, refl, sym, ◌∙◌, ap, ap₂}
use mathlib.Core.Bool.{Bool, true, false, not, cond, ◌&&◌}
use mathlib.Core.List.{List, [], ◌∷◌}
use Prim.Native.Nat.{ℕ, zero, suc, ◌+◌, ◌≤◌, ◌<◌, min}
use native.Mathlib.Omega.{arith}
use borrow.Author.Tests.{leb-true, leb-false}
use lib.Dec.{T, leb}
use lib.ListN.{get_or}
use Rattle.model.specs.declared.generator.Generator.{Generator}
use Rattle.model.specs.Rules.{permits, spent}
use Rattle.model.specs.Cost.{switch_cost}
use Rattle.model.specs.Above.{Mark, allows}
use Rattle.model.specs.Walk.{plus, lesser, back, walk, cap}
use Rattle.model.specs.RunWalk.{no_worse, branch, next_status, first_run}
use Rattle.model.proofs.Coded.{plus_some}
use Rattle.model.proofs.WalkRuns.{later, run_total, Obeying, obeying_first, obeying_rest, obeying_cons, walk_below_run, move_inv}
use Rattle.model.proofs.WalkPeriods.{walk_ext}
use Rattle.model.proofs.Caps.{walk_cap}

-- ---- two coded values

no_worse_yes : (x y : ℕ) → no_worse x y ≡ true → lesser x y ≡ x
unfolding lesser no_worse
no_worse_yes zero y e = absurd (let z : ◌≡◌ {A = ℕ} 0 1 = cc in omega arith)
no_worse_yes (suc x) zero e = refl
no_worse_yes (suc x) (suc y) e = let h = leb-true (suc x) (suc y) e in omega arith

-- the second is then the lesser, and less than the first if that is there
no_worse_no : (x y : ℕ) → no_worse x y ≡ false → (lesser x y ≡ y) × (0 < x → (0 < y) × (y < x))
unfolding lesser no_worse
no_worse_no zero y e = (refl, λ h. absurd (omega arith))
no_worse_no (suc x) zero e = absurd (let z : ◌≡◌ {A = ℕ} 0 1 = cc in omega arith)
no_worse_no (suc x) (suc y) e = let h = leb-false (suc x) (suc y) e in (omega arith, λ k. (omega arith, omega arith))

not_true : (c : Bool) → not c ≡ true → c ≡ false
not_true true e = absurd (let z : ◌≡◌ {A = ℕ} 0 1 = cc in omega arith)
not_true false e = refl

not_false : (c : Bool) → not c ≡ false → c ≡ true
not_false true e = refl
not_false false e = absurd (let z : ◌≡◌ {A = ℕ} 0 1 = cc in omega arith)

move_some : (c : Bool) (v X : ℕ) → T c → 0 < X → cond c (plus v X) 0 ≡ v + X
move_some true v X t h = plus_some v X h
move_some false v X t h = absurd t

-- ---- runs that have the walk's value

-- a run that obeys and agrees, and costs what the walk finds
pub record Reaches (n : ℕ) (g : Generator) (m : ℕ → Mark) (w : ℕ → Bool → ℕ) (b : Bool) (k : ℕ) (run : List Bool) : Type 0 where
  pub obeying : Obeying n g m b k run
  pub total : walk n g m w b k ≡ suc (run_total g w b k run)

module _ (n : ℕ) (g : Generator) (m : ℕ → Mark) (w : ℕ → Bool → ℕ) (b : Bool) (k : ℕ) where
  abbrev after : Bool → ℕ
  after d = walk n g (later m) (later w) d (spent b k d)

  -- the status that is taken is the walk's
  status_walk : (d : Bool) → next_status n g m w b k ≡ d → walk (suc n) g m w b k ≡ branch n g m w b k d
  unfolding walk back
  status_walk true e = (no_worse_no (branch n g m w b k false) (branch n g m w b k true) (not_true (no_worse (branch n g m w b k false) (branch n g m w b k true)) e)).0
  status_walk false e = no_worse_yes (branch n g m w b k false) (branch n g m w b k true) (not_false (no_worse (branch n g m w b k false) (branch n g m w b k true)) e)

  -- on is taken only where off has no value, or a larger one
  on_better : next_status n g m w b k ≡ true → 0 < branch n g m w b k false → (0 < branch n g m w b k true) × (branch n g m w b k true < branch n g m w b k false)
  on_better e = (no_worse_no (branch n g m w b k false) (branch n g m w b k true) (not_true (no_worse (branch n g m w b k false) (branch n g m w b k true)) e)).1

pub first_run_reaches : (n : ℕ) (g : Generator) (m : ℕ → Mark) (w : ℕ → Bool → ℕ) (b : Bool) (k : ℕ) → 0 < walk n g m w b k
    → Reaches n g m w b k (first_run n g m w b k)
unfolding walk first_run
first_run_reaches zero g m w b k h = record { obeying = record { long = refl; times = tt; marked = tt }; total = refl }
first_run_reaches (suc n) g m w b k h = go (next_status n g m w b k) refl (λ d p. first_run_reaches n g (later m) (later w) d (spent b k d) p)
  where
    go : (d : Bool) → next_status n g m w b k ≡ d
        → ((d : Bool) → 0 < after n g m w b k d → Reaches n g (later m) (later w) d (spent b k d) (first_run n g (later m) (later w) d (spent b k d)))
        → Reaches (suc n) g m w b k (d ∷ first_run n g (later m) (later w) d (spent b k d))
    go d e ih =
        let s = status_walk n g m w b k d e in
        let i = move_inv (permits g b k d && allows (m 0) d) (switch_cost g b k d + w 0 d) (after n g m w b k d) (rw s at h) in
        let r = ih d i.1 in
        record { obeying = obeying_cons i.0 r.obeying; total = omega (arith, s, i.2, r.total) }

-- off in the first period that differs, or the same run
pub data Earlier : List Bool → List Bool → Type 0 where
  ended : Earlier [] []
  off_first : {r r' : List Bool} → Earlier (false ∷ r) (true ∷ r')
  alike : {d : Bool} {r r' : List Bool} → Earlier r r' → Earlier (d ∷ r) (d ∷ r')

pub first_run_first : (n : ℕ) (g : Generator) (m : ℕ → Mark) (w : ℕ → Bool → ℕ) (b : Bool) (k : ℕ) (run : List Bool) → Reaches n g m w b k run
    → Earlier (first_run n g m w b k) run
unfolding first_run
first_run_first zero g m w b k [] a = ended
first_run_first zero g m w b k (d ∷ run) a = absurd (omega (arith, a.obeying.long))
first_run_first (suc n) g m w b k [] a = absurd (omega (arith, a.obeying.long))
first_run_first (suc n) g m w b k (d ∷ run) a =
    go (next_status n g m w b k) d refl a.obeying a.total (λ d' x. first_run_first n g (later m) (later w) d' (spent b k d') run x)
  where
    -- the rest has the value that is left, where the first status is the walk's
    rest : (d : Bool) → next_status n g m w b k ≡ d → Obeying (suc n) g m b k (d ∷ run) → walk (suc n) g m w b k ≡ suc (run_total g w b k (d ∷ run))
        → Reaches n g (later m) (later w) d (spent b k d) run
    rest d e o t =
        let below = walk_below_run n g (later m) (later w) d (spent b k d) run (obeying_rest o) in
        let s = status_walk n g m w b k d e in
        let i = move_some (permits g b k d && allows (m 0) d) (switch_cost g b k d + w 0 d) (after n g m w b k d) (obeying_first o) below.0 in
        record { obeying = obeying_rest o; total = omega (arith, s, i, t) }

    go : (c d : Bool) → next_status n g m w b k ≡ c → Obeying (suc n) g m b k (d ∷ run) → walk (suc n) g m w b k ≡ suc (run_total g w b k (d ∷ run))
        → ((d' : Bool) → Reaches n g (later m) (later w) d' (spent b k d') run → Earlier (first_run n g (later m) (later w) d' (spent b k d')) run)
        → Earlier (c ∷ first_run n g (later m) (later w) c (spent b k c)) (d ∷ run)
    go false true e o t ih = off_first
    go false false e o t ih = alike (ih false (rest false e o t))
    go true true e o t ih = alike (ih true (rest true e o t))
    go true false e o t ih =
        let below = walk_below_run n g (later m) (later w) false (spent b k false) run (obeying_rest o) in
        let s = status_walk n g m w b k true e in
        let i = move_some (permits g b k false && allows (m 0) false) (switch_cost g b k false + w 0 false) (after n g m w b k false) (obeying_first o) below.0 in
        let better = on_better n g m w b k e (omega (arith, i, below.0)) in
        absurd (omega (arith, s, i, t, below.1, better.1))

-- by period: where all before it are the same and it is on, so is the other
pub earlier_at : {r r' : List Bool} → Earlier r r' → (t : ℕ) → ((v : ℕ) → v < t → get_or r v false ≡ get_or r' v false) → T (get_or r t false) → T (get_or r' t false)
earlier_at ended t h o = absurd o
earlier_at off_first zero h o = absurd o
earlier_at off_first (suc t) h o = absurd (let e = h 0 (omega arith) in let z : ◌≡◌ {A = ℕ} 0 1 = cc in omega arith)
earlier_at (alike e) zero h o = o
earlier_at (alike e) (suc t) h o = earlier_at e t (λ v l. h (suc v) (omega arith)) o

-- ---- periods past the last, and counts past a cap

pub first_run_ext : (n : ℕ) (g : Generator) (m m' : ℕ → Mark) (w w' : ℕ → Bool → ℕ) → ((t : ℕ) → t < n → m t ≡ m' t) → ((t : ℕ) → t < n → (d : Bool) → w t d ≡ w' t d)
    → (b : Bool) (k : ℕ) → first_run n g m w b k ≡ first_run n g m' w' b k
unfolding first_run
first_run_ext zero g m m' w w' h i b k = refl
first_run_ext (suc n) g m m' w w' h i b k =
    ap₂ ◌∷◌ same
    (ap (λ (d : Bool). first_run n g (later m) (later w) d (spent b k d)) same
    ∙ first_run_ext n g (later m) (later m') (later w) (later w') (λ t l. h (suc t) (omega arith)) (λ t l. i (suc t) (omega arith)) (next_status n g m' w' b k) (spent b k (next_status n g m' w' b k)))
  where
    same : next_status n g m w b k ≡ next_status n g m' w' b k
    same =
        rw (
          h 0 (omega arith),
          i 0 (omega arith) false,
          i 0 (omega arith) true,
          walk_ext n g (later m) (later m') (later w) (later w') (λ t l. h (suc t) (omega arith)) (λ t l. i (suc t) (omega arith)) false (spent b k false),
          walk_ext n g (later m) (later m') (later w) (later w') (λ t l. h (suc t) (omega arith)) (λ t l. i (suc t) (omega arith)) true (spent b k true),
        )

leb_same : (a b c d : ℕ) → (a ≤ b → c ≤ d) → (c ≤ d → a ≤ b) → leb a b ≡ leb c d
leb_same a b c d f h = go (leb a b) (leb c d) refl refl
  where
    go : (x y : Bool) → leb a b ≡ x → leb c d ≡ y → x ≡ y
    go true true e i = refl
    go false false e i = refl
    go true false e i = absurd (omega (arith, leb-false c d i, f (leb-true a b e)))
    go false true e i = absurd (omega (arith, leb-false a b e, h (leb-true c d i)))

module _ (g : Generator) where
  -- what may follow k periods in a status, and what it costs, does not tell a count past the cap from the cap
  permits_cap : (b : Bool) (k : ℕ) (d : Bool) → permits g b (min k (cap g b)) d ≡ permits g b k d
  permits_cap true k true = refl
  permits_cap true k false = leb_same g.TU (min k g.TU) g.TU k (λ h. omega arith) (λ h. omega arith)
  permits_cap false k true = leb_same g.TD (min k (g.TD + g.Tcold + 1)) g.TD k (λ h. omega arith) (λ h. omega arith)
  permits_cap false k false = refl

  switch_cap : (b : Bool) (k : ℕ) (d : Bool) → switch_cost g b (min k (cap g b)) d ≡ switch_cost g b k d
  switch_cap true k true = refl
  switch_cap true k false = refl
  switch_cap false k true =
      ap (λ (c : Bool). cond c g.Hsc g.Csc) (leb_same (min k (g.TD + g.Tcold + 1)) (g.TD + g.Tcold) k (g.TD + g.Tcold) (λ h. omega arith) (λ h. omega arith))
  switch_cap false k false = refl

  -- nor, once capped again, does what is spent after it
  spent_cap : (b : Bool) (k : ℕ) (d : Bool) → min (spent b (min k (cap g b)) d) (cap g d) ≡ min (spent b k d) (cap g d)
  spent_cap true k true = omega arith
  spent_cap true k false = refl
  spent_cap false k true = refl
  spent_cap false k false = omega arith

  -- so the run from a capped state is the run from the state
  pub first_run_cap : (n : ℕ) (m : ℕ → Mark) (w : ℕ → Bool → ℕ) (b : Bool) (k : ℕ) → first_run n g m w b (min k (cap g b)) ≡ first_run n g m w b k
  unfolding first_run
  first_run_cap zero m w b k = refl
  first_run_cap (suc n) m w b k =
      ap₂ ◌∷◌ same
      (ap (λ (d : Bool). first_run n g (later m) (later w) d (spent b (min k (cap g b)) d)) same
      ∙ sym (first_run_cap n (later m) (later w) c (spent b (min k (cap g b)) c))
      ∙ ap (first_run n g (later m) (later w) c) (spent_cap b k c)
      ∙ first_run_cap n (later m) (later w) c (spent b k c))
    where
      after_cap : (d : Bool) → walk n g (later m) (later w) d (spent b (min k (cap g b)) d) ≡ walk n g (later m) (later w) d (spent b k d)
      after_cap d =
          sym (walk_cap n g (later m) (later w) d (spent b (min k (cap g b)) d)) ∙ ap (walk n g (later m) (later w) d) (spent_cap b k d)
          ∙ walk_cap n g (later m) (later w) d (spent b k d)

      branch_cap : (d : Bool) → branch n g m w b (min k (cap g b)) d ≡ branch n g m w b k d
      branch_cap d = rw (permits_cap b k d, switch_cap b k d, after_cap d)

      same : next_status n g m w b (min k (cap g b)) ≡ next_status n g m w b k
      same = ap₂ (λ (x y : ℕ). not (no_worse x y)) (branch_cap false) (branch_cap true)

      c : Bool
      c = next_status n g m w b k
