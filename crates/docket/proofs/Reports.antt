-- What a report shows: of a docket that lodging reaches, what it holds. And when 43 refuses it.
use Rattle.std.specs.Prelude.{Result}
use mathlib.Core.Path.{◌≡◌, refl, ap, ◌∙◌}
use mathlib.Core.Bool.{true, false}
use mathlib.Core.Logic.{◌↔◌, ◌⊎◌, inr}
use mathlib.Core.List.{List}
use Prim.Native.Nat.{ℕ, ◌+◌, ◌≤◌, ◌<◌}
use native.Mathlib.Omega.{arith}
use lib.ListN.{length, drop, length-drop}
use Rattle.report.specs.Report.{put_at, written_at, placed_at}
use Rattle.refusal.specs.declared.Refusal.{Refusal}
use Rattle.report.specs.StatedReports.{report_stated, refused, its_length}
use Rattle.report.proofs.Lines.{report_least}
use Rattle.report.proofs.Places.{no_room, with_room, refused_exactly, length_exactly}
use Rattle.docket.specs.declared.Docket.{Docket}
use Rattle.docket.specs.Docket.{fresh_docket, sound}
use Rattle.docket.specs.Lodging.{trusted, lodge_of}
use Rattle.docket.specs.Demand3.{docket_after}
use Rattle.docket.specs.Report.{figures_of, report_text, text_shown, report_of, buffer_of}
use Rattle.docket.proofs.Lists.{reached_sound}

-- ---- what is shown

pub trusted_sound : (d : Docket) → sound d ≡ true → trusted d ≡ d
trusted_sound d e = rw e refl

pub trusted_unsound : (d : Docket) → sound d ≡ false → trusted d ≡ fresh_docket
trusted_unsound d e = rw e refl

-- of a docket that lodging reaches from a fresh one, what it holds
pub shown_reached : (texts : List (List ℕ)) → text_shown (docket_after lodge_of fresh_docket texts) ≡ report_text (docket_after lodge_of fresh_docket texts).held
shown_reached texts = ap (λ (d : Docket). report_text d.held) (trusted_sound (docket_after lodge_of fresh_docket texts) (reached_sound texts))

-- ---- the lines of the figures shown, written from the place k on

pub reported : (d : Docket) (b : List ℕ) (k : ℕ) {l b₁ : List ℕ} {a : Result ℕ Refusal} → l ≡ text_shown d → a ≡ written_at b k l → b₁ ≡ placed_at b k l
    → (record { docket = d; answer = a } ≡ report_of d b k) × (b₁ ≡ buffer_of d b k)
unfolding report_of buffer_of
reported d b k e p q = (
  ap (λ (x : Result ℕ Refusal). record { docket = d; answer = x }) (p ∙ ap (written_at b k) e),
  q ∙ ap (placed_at b k) e,
)

-- ---- what is answered, and what the buffer then holds

module _ (d : Docket) (b : List ℕ) (k : ℕ) where
  -- the docket stays as it is
  pub docket_stays : (report_of d b k).docket ≡ d
  unfolding report_of
  docket_stays = refl

  -- document 01, Numbers that come from the docket: 43 says that the lines have no room from the place on, and only that
  pub report_refused : (report_stated (report_of d b k).answer ≡ refused 43 0 0 0) ↔ ((length b < k) ⊎ (length (drop k b) < length (text_shown d)))
  unfolding report_of
  report_refused = refused_exactly b k (text_shown d)

  -- else the report's length is the answer
  pub report_length_exactly : (n : ℕ) → (report_stated (report_of d b k).answer ≡ its_length n) ↔ ((k + length (text_shown d) ≤ length b) × (n ≡ length (text_shown d)))
  unfolding report_of
  report_length_exactly = length_exactly b k (text_shown d)

  -- where 43 refuses, the buffer stays as it is
  pub refused_stays : length b < k + length (text_shown d) → buffer_of d b k ≡ b
  unfolding buffer_of
  refused_stays h = (no_room b k (text_shown d) h).1

  -- else the report stands at the place, and the bytes outside stay
  pub written_there : k + length (text_shown d) ≤ length b → buffer_of d b k ≡ put_at b k (text_shown d)
  unfolding buffer_of
  written_there h = (with_room b k (text_shown d) h).1

-- a place equal to the buffer's length: no byte follows it, and a report has some
pub end_refused : (d : Docket) (b : List ℕ) → report_stated (report_of d b (length b)).answer ≡ refused 43 0 0 0
end_refused d b = (report_refused d b (length b)).1 (inr (omega (arith, length-drop (length b) b, report_least (figures_of (trusted d).held))))

-- ---- after a list of lodgings from a fresh docket, a report speaks of what is then held

module _ (texts : List (List ℕ)) (b : List ℕ) (k : ℕ) where
  pub answer_reached : (report_of (docket_after lodge_of fresh_docket texts) b k).answer ≡ written_at b k (report_text (docket_after lodge_of fresh_docket texts).held)
  unfolding report_of
  answer_reached = ap (written_at b k) (shown_reached texts)

  pub buffer_reached : buffer_of (docket_after lodge_of fresh_docket texts) b k ≡ placed_at b k (report_text (docket_after lodge_of fresh_docket texts).held)
  unfolding buffer_of
  buffer_reached = ap (placed_at b k) (shown_reached texts)
