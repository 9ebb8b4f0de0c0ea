-- What the struct that reading gives says of the text: its answer is the answer to the text, and its array holds the rows.
use Prim.Native.Nat.{ℕ}
use native.Mathlib.Omega.{arith}
use mathlib.Core.Path.{◌≡◌, refl, ap}
use mathlib.Core.List.{List, flatten}
use lib.ListN.{replicate}
use Rattle.model.specs.Instance.{Instance, Schedule}
use Rattle.model.specs.Held.{pad}
use Rattle.refusal.specs.declared.Refusal.{Refusal}
use Rattle.schedule.specs.ReadAnswers.{Outcome, refused_by, accepted_as, schedule_outcome, in_arrays, schedule_read}
use Rattle.schedule.specs.declared.Priced.{Priced}
use Rattle.std.specs.Prelude.{Ok, Err}

-- ---- by the answer

refused_was : (r : Refusal) (o : Outcome) → (in_arrays o).answer ≡ Err r → (o ≡ refused_by r) × ((in_arrays o).rows ≡ replicate 1536 0)
unfolding in_arrays
refused_was r (refused_by x) e = (cc, refl)
refused_was r (accepted_as w c s) e = absurd (let z : ◌≡◌ {A = ℕ} 0 1 = cc in omega arith)

-- an answer with these rows, which the array holds
pub record Holds (a : Priced) (o : Outcome) : Type 0 where
  pub schedule : Schedule
  pub outcome : o ≡ accepted_as a.writer a.cost schedule
  pub array : (in_arrays o).rows ≡ pad 0 1536 (flatten schedule)

accepted_was : (a : Priced) (o : Outcome) → (in_arrays o).answer ≡ Ok a → Holds a o
unfolding in_arrays
accepted_was a (refused_by x) e = absurd (let z : ◌≡◌ {A = ℕ} 0 1 = cc in omega arith)
accepted_was a (accepted_as w c s) e =
    let p : record { writer = w; cost = c } ≡ a = cc in
    record {
      schedule = s;
      outcome = ap (λ (x : Priced). accepted_as x.writer x.cost s) p;
      array = refl;
    }

-- ---- of a text

module _ (P : Instance) (text : List ℕ) where
  -- refused: nothing is kept
  pub answer_refused : (r : Refusal) → (schedule_read P text).answer ≡ Err r
      → (schedule_outcome P text ≡ refused_by r) × ((schedule_read P text).rows ≡ replicate 1536 0)
  unfolding schedule_read
  answer_refused r e = refused_was r (schedule_outcome P text) e

  pub answer_accepted : (a : Priced) → (schedule_read P text).answer ≡ Ok a → Holds a (schedule_outcome P text)
  unfolding schedule_read
  answer_accepted a e = accepted_was a (schedule_outcome P text) e
