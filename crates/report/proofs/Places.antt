-- From the place that the caller gives: what is answered, and what the buffer then holds.
use Prim.Native.Nat.{ℕ, ◌+◌, ◌-◌, ◌≤◌, ◌<◌}
use native.Mathlib.Omega.{arith}
use native.Mathlib.Decide.{dec_lt}
use mathlib.Core.Path.{◌≡◌, refl, sym, ap, ◌∙◌}
use mathlib.Core.Logic.{◌↔◌, ◌⊎◌, inl, inr}
use mathlib.Core.List.{List, ◌++◌}
use lib.ListN.{length, take, drop, length-drop}
use lib.Seq.{length-take-le, take_at, drop_at, drop-drop}
use borrow.Author.Tests.{le-leb, lt-leb}
use Rattle.refusal.specs.Refusals.{refusal_of, carries_line, carries_unit, carries_period}
use Rattle.writer.specs.Written.{over}
use Rattle.writer.proofs.Parts.{part_tail, put_tail}
use Rattle.report.specs.Report.{put_at, written_at, placed_at}
use Rattle.report.specs.StatedReports.{report_stated, refused, its_length}
use Rattle.std.specs.Prelude.{Ok, Err}
use Rattle.report.proofs.Stages.{refilled}

module _ (b : List ℕ) (k : ℕ) (l : List ℕ) where
  -- 43, and nothing changes
  pub no_room : length b < k + length l → (written_at b k l ≡ Err (refusal_of 43 0 0 0)) × (placed_at b k l ≡ b)
  unfolding written_at placed_at
  no_room h = (simp (lt-leb (k + length l) (length b) h), simp (lt-leb (k + length l) (length b) h))

  module _ (h : k + length l ≤ length b) where
    pub with_room : (written_at b k l ≡ Ok (length l)) × (placed_at b k l ≡ put_at b k l)
    unfolding written_at placed_at
    with_room = (simp (le-leb (k + length l) (length b) h), simp (le-leb (k + length l) (length b) h))

    pub part_room : length l ≤ length (take (length b - k) (drop k b))
    part_room = omega (arith, ap length (part_tail b k), length-drop k b)

    -- l was written at the front of the part from k on, which came back as ys
    pub in_part : (ys : List ℕ) → ys ≡ over l (take (length b - k) (drop k b)) → refilled b k ys ≡ placed_at b k l
    in_part ys q =
        put_tail b ys k
        ∙ ap (λ (x : List ℕ). take k b ++ x) (q ∙ ap (over l) (part_tail b k) ∙ ap (λ (x : List ℕ). l ++ x) (drop-drop (length l) k b))
        ∙ sym with_room.1

-- ---- the bytes outside stay

module _ (b : List ℕ) (k : ℕ) (l : List ℕ) (h : k + length l ≤ length b) where
  front : length (take k b) ≡ k
  front = length-take-le k b (omega arith)

  pub before_stay : take k (put_at b k l) ≡ take k b
  before_stay = take_at (take k b) (l ++ drop (k + length l) b) k front

  from_place : drop k (put_at b k l) ≡ l ++ drop (k + length l) b
  from_place = drop_at (take k b) (l ++ drop (k + length l) b) k front

  pub there : take (length l) (drop k (put_at b k l)) ≡ l
  there = ap (take (length l)) from_place ∙ take_at l (drop (k + length l) b) (length l) refl

  pub after_stay : drop (k + length l) (put_at b k l) ≡ drop (k + length l) b
  after_stay =
      sym (drop-drop (length l) k (put_at b k l)) ∙ ap (drop (length l)) from_place ∙ drop_at l (drop (k + length l) b) (length l) refl

-- ---- document 01, Numbers that come from the docket: the number, as it is stated

module _ (b : List ℕ) (k : ℕ) (l : List ℕ) where
  states_43 : length b < k + length l → report_stated (written_at b k l) ≡ refused 43 0 0 0
  unfolding refusal_of carries_line carries_unit carries_period
  states_43 h = ap report_stated (no_room b k l h).0

  states_length : k + length l ≤ length b → report_stated (written_at b k l) ≡ its_length (length l)
  states_length h = ap report_stated (with_room b k l h).0

  -- 43 exactly where the place is beyond the buffer's end or fewer bytes follow it than l has
  pub refused_exactly : (report_stated (written_at b k l) ≡ refused 43 0 0 0) ↔ ((length b < k) ⊎ (length (drop k b) < length l))
  refused_exactly = ((λ e. beyond (dec_lt (length b) k) e), back)
    where
      few : (length b < k → ⊥) → Dec (length (drop k b) < length l) → report_stated (written_at b k l) ≡ refused 43 0 0 0 → (length b < k) ⊎ (length (drop k b) < length l)
      few g (yes s) e = inr s
      few g (no s) e =
          let w = states_length (omega (arith, g, s, length-drop k b)) in
          absurd (let z : ◌≡◌ {A = ℕ} 0 1 = cc in omega arith)

      beyond : Dec (length b < k) → report_stated (written_at b k l) ≡ refused 43 0 0 0 → (length b < k) ⊎ (length (drop k b) < length l)
      beyond (yes s) e = inl s
      beyond (no s) e = few s (dec_lt (length (drop k b)) (length l)) e

      back : (length b < k) ⊎ (length (drop k b) < length l) → report_stated (written_at b k l) ≡ refused 43 0 0 0
      back (inl s) = states_43 (omega arith)
      back (inr s) = states_43 (omega (arith, length-drop k b))

  -- else the length
  pub length_exactly : (n : ℕ) → (report_stated (written_at b k l) ≡ its_length n) ↔ ((k + length l ≤ length b) × (n ≡ length l))
  length_exactly n = ((λ e. forth (dec_lt (length b) (k + length l)) e), (λ p. states_length p.0 ∙ ap its_length (sym p.1)))
    where
      own : its_length n ≡ its_length (length l) → n ≡ length l
      own e = cc

      forth : Dec (length b < k + length l) → report_stated (written_at b k l) ≡ its_length n → (k + length l ≤ length b) × (n ≡ length l)
      forth (yes s) e = let w = states_43 s in absurd (let z : ◌≡◌ {A = ℕ} 0 1 = cc in omega arith)
      forth (no s) e = let h : k + length l ≤ length b = omega (arith, s) in (h, own (sym e ∙ states_length h))
