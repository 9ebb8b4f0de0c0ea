-- The draft of a leaf by what is found of its units: the first that is stuck, or the runs; and the limits of a question that fits.
use mathlib.Core.Path.{◌≡◌, refl, sym, ap, ◌∙◌}
use mathlib.Core.Bool.{Bool, true, false, cond}
use mathlib.Core.List.{List, flatten}
use Prim.Native.Nat.{ℕ, suc, ◌+◌}
use native.Mathlib.Omega.{arith}
use lib.IntN.{ℤ}
use lib.ListN.{length}
use Rattle.std.specs.Prelude.{Result, Ok, Err}
use Rattle.model.specs.Instance.{Instance, ◌at◌}
use Rattle.model.specs.Ranges.{All, GoodUnit, WellFormed}
use Rattle.model.specs.Leaf.{any_stuck, leaf_value}
use Rattle.model.specs.Runs.{first_stuck, shortfalls}
use Rattle.least.specs.UnitLeasts.{Least}
use Rattle.std.specs.Prelude.{None, Some}
use Rattle.least.specs.Limits.{GoodPrices}
use Rattle.leaves.specs.LeafLeasts.{leaf_of}
use Rattle.leaves.proofs.Units.{said_stuck, said_value}
use Rattle.runs.specs.declared.drafting.NoRuns.{NoRuns}
use Rattle.runs.specs.declared.drafting.NoRuns.TheVariants.{Question, Stuck as StuckUnit}
use Rattle.runs.specs.declared.question.Unanswered.TheVariants.{Unfit}
use Rattle.runs.specs.Columns.{short_of}
use Rattle.runs.specs.Drafts.{FitQuestion, Drafted, unwritten, marks_asked, runs_asked, drafted, fits, draft_under}
use Rattle.runs.proofs.Columns.{short_is}
use Rattle.runs.proofs.AllRuns.{runs_shaped}

-- the multipliers of a question that fits
pub prices_good : (P : Instance) → WellFormed P → (q s fixed rows short : List ℕ) → FitQuestion P q s fixed rows short → GoodPrices P.periods q s
prices_good P W q s fixed rows short F = record { periods_in = W.periods_in; q_long = F.q_long; s_long = F.s_long; q_in = F.q_in; s_in = F.s_in }

-- ---- a question that fits

-- what comes back and what the slices hold is the draft
abbrev pub Drafts : Result ℤ NoRuns → List ℕ → List ℕ → Drafted → Type 0
Drafts answer rows short d = (answer ≡ d.answer) × ((rows ≡ d.rows) × (short ≡ d.short))

module _ (P : Instance) (q s fixed rows short : List ℕ) where
  abbrev stuck : Bool
  stuck = any_stuck P.periods P.units (marks_asked P fixed)

  abbrev found : Drafted
  found = record {
    answer = Ok (leaf_value P (marks_asked P fixed) (λ t. q at t) (λ t. s at t));
    rows = flatten (runs_asked P q s fixed rows short);
    short = shortfalls P (runs_asked P q s fixed rows short);
  }

  by_stuck : (b : Bool) → stuck ≡ b
      → drafted P q s fixed rows short ≡ cond b (unwritten rows short (Err (StuckUnit (suc (first_stuck P.periods P.units (marks_asked P fixed)))))) found
  unfolding drafted
  by_stuck b e = rw e refl

  -- what the leaf's value says
  abbrev leaf : Least
  leaf = leaf_of P (marks_asked P fixed) (λ t. q at t) (λ t. s at t)

  pub some_stuck : None ≡ leaf → stuck ≡ true
  some_stuck e = said_stuck stuck (leaf_value P (marks_asked P fixed) (λ t. q at t) (λ t. s at t)) e

  pub none_stuck : (v : ℤ) → Some v ≡ leaf → stuck ≡ false
  none_stuck v e = (said_value stuck (leaf_value P (marks_asked P fixed) (λ t. q at t) (λ t. s at t)) v e).0

  -- a unit is stuck: the first such, counted from 0, is k
  pub stuck_drafted : None ≡ leaf → (k : ℕ) → k ≡ first_stuck P.periods P.units (marks_asked P fixed)
      → Drafts (Err (StuckUnit (k + 1))) rows short (drafted P q s fixed rows short)
  stuck_drafted e k i =
      let d = sym (by_stuck true (some_stuck e)) in
      let next : k + 1 ≡ suc (first_stuck P.periods P.units (marks_asked P fixed)) = omega arith in
      (ap (λ (u : ℕ). Err (StuckUnit u)) next ∙ ap (λ (x : Drafted). x.answer) d, (ap (λ (x : Drafted). x.rows) d, ap (λ (x : Drafted). x.short) d))

  -- none is: the runs and the shortfalls are written; x is the value as the code has it
  pub runs_drafted : All GoodUnit P.units → (x v : ℤ) → x ≡ v → Some v ≡ leaf → (written short' : List ℕ) → written ≡ flatten (runs_asked P q s fixed rows short)
      → short' ≡ short_of P written → Drafts (Ok x) written short' (drafted P q s fixed rows short)
  runs_drafted good x v h e written short' i j =
      let d = sym (by_stuck false (none_stuck v e)) in
      let z = leaf_value P (marks_asked P fixed) (λ t. q at t) (λ t. s at t) in (
        ap Ok (h ∙ (said_value stuck z v e).1) ∙ ap (λ (x : Drafted). x.answer) d,
        (
          i ∙ ap (λ (x : Drafted). x.rows) d,
          j ∙ ap (short_of P) i ∙ short_is P (runs_asked P q s fixed rows short) (runs_shaped P good (λ t. q at t) (λ t. s at t) (marks_asked P fixed) (none_stuck v e))
              ∙ ap (λ (x : Drafted). x.short) d,
        ),
      )

  -- ---- any question

  pub fit_drafted : fits P q s fixed (length rows) (length short) ≡ true → drafted P q s fixed rows short ≡ draft_under P q s fixed rows short
  unfolding draft_under
  fit_drafted e = rw e refl

  pub unfit_drafted : fits P q s fixed (length rows) (length short) ≡ false → unwritten rows short (Err (Question Unfit)) ≡ draft_under P q s fixed rows short
  unfolding draft_under
  unfit_drafted e = rw e refl
