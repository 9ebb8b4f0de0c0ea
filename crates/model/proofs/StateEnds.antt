-- Capped counts: they permit, cost and lead on as the counts themselves do, so that the state in which a run ends is one of the table.
use mathlib.Core.Path.{◌≡◌, refl, sym, ◌∙◌, ap}
use mathlib.Core.Bool.{Bool, true, false, cond}
use mathlib.Core.List.{List, [], ◌∷◌}
use Prim.Native.Nat.{ℕ, ◌+◌, ◌≤◌, min}
use native.Mathlib.Omega.{arith}
use native.Mathlib.Decide.{dec_le}
use lib.Dec.{leb}
use borrow.Author.Tests.{le-leb, lt-leb}
use Rattle.model.specs.declared.generator.Generator.{Generator}
use Rattle.model.specs.Ranges.{GoodUnit}
use Rattle.model.specs.Rules.{permits, spent}
use Rattle.model.specs.Cost.{switch_cost}
use Rattle.model.specs.Walk.{cap}
use Rattle.model.specs.Ends.{lasted, capped}
use Rattle.model.specs.ForcedWalk.{State}
use Rattle.model.proofs.Passed.{end_status, end_count}

-- ---- a capped count does what the count does

leb_min : (n k c : ℕ) → n ≤ c → leb n (min k c) ≡ leb n k
leb_min n k c h = go (dec_le n k)
  where
    go : Dec (n ≤ k) → leb n (min k c) ≡ leb n k
    go (yes y) = le-leb n (min k c) (omega arith) ∙ sym (le-leb n k y)
    go (no y) = lt-leb n (min k c) (omega arith) ∙ sym (lt-leb n k (omega arith))

min_leb : (k n : ℕ) → leb (min k (n + 1)) n ≡ leb k n
min_leb k n = go (dec_le k n)
  where
    go : Dec (k ≤ n) → leb (min k (n + 1)) n ≡ leb k n
    go (yes y) = le-leb (min k (n + 1)) n (omega arith) ∙ sym (le-leb k n y)
    go (no y) = lt-leb (min k (n + 1)) n (omega arith) ∙ sym (lt-leb k n (omega arith))

pub permits_capped : (g : Generator) (b : Bool) (k : ℕ) (d : Bool) → permits g b (capped g b k) d ≡ permits g b k d
permits_capped g true k true = refl
permits_capped g true k false = leb_min g.TU k g.TU (omega arith)
permits_capped g false k true = leb_min g.TD k (g.TD + g.Tcold + 1) (omega arith)
permits_capped g false k false = refl

pub switch_capped : (g : Generator) (b : Bool) (k : ℕ) (d : Bool) → switch_cost g b (capped g b k) d ≡ switch_cost g b k d
switch_capped g true k true = refl
switch_capped g true k false = refl
switch_capped g false k true = ap (λ (c : Bool). cond c g.Hsc g.Csc) (min_leb k (g.TD + g.Tcold))
switch_capped g false k false = refl

pub spent_capped : (g : Generator) (b : Bool) (k : ℕ) (d : Bool) → capped g d (spent b (capped g b k) d) ≡ capped g d (spent b k d)
spent_capped g true k true = omega arith
spent_capped g true k false = refl
spent_capped g false k true = refl
spent_capped g false k false = omega arith

-- ---- the state in which a run ends

spent_pos : (b : Bool) (k : ℕ) (d : Bool) → 1 ≤ spent b k d
spent_pos true k true = omega arith
spent_pos true k false = omega arith
spent_pos false k true = omega arith
spent_pos false k false = omega arith

pub lasted_pos : (b : Bool) (k : ℕ) (run : List Bool) → 1 ≤ k → 1 ≤ lasted b k run
lasted_pos b k [] h = h
lasted_pos b k (d ∷ run) h = lasted_pos d (spent b k d) run (spent_pos b k d)

-- the table has a state of either status
pub cap_pos : {g : Generator} → GoodUnit g → (b : Bool) → 1 ≤ cap g b
cap_pos good true = good.in_range.TU_in.0
cap_pos good false = omega arith

pub capped_state : {g : Generator} → GoodUnit g → (b : Bool) (k : ℕ) → 1 ≤ k → State g b (capped g b k)
capped_state good b k h = let c = cap_pos good b in (omega arith, omega arith)

pub end_state : {g : Generator} → GoodUnit g → (run : List Bool) → State g (end_status g run) (end_count g run)
end_state {g} good run =
    capped_state good (end_status g run) (lasted g.on g.since run) (lasted_pos g.on g.since run good.in_range.since_in.0)
