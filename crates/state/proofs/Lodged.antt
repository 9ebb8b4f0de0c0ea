-- A sound docket that is kept in slices is held by them. A text that is not held leaves the slices.
use mathlib.Core.Path.{◌≡◌, refl, sym}
use mathlib.Core.Bool.{true, false}
use mathlib.Core.List.{List}
use Prim.Native.Nat.{ℕ, ◌≤◌}
use native.Mathlib.Omega.{arith}
use lib.ListN.{length, drop, length-append, length-drop}
use Rattle.model.specs.Instance.{◌at◌}
use Rattle.layout.specs.Numbers.{laid_out}
use Rattle.layout.proofs.Places.{laid_long}
use Rattle.writer.specs.Written.{over}
use Rattle.answer.specs.declared.Answer.{Answer}
use Rattle.answer.specs.declared.Answer.TheVariants as answer
use Rattle.answer.specs.StatedAnswers.{stated}
use Rattle.docket.specs.declared.Docket.{Docket}
use Rattle.docket.specs.declared.Lodged.{Lodged}
use Rattle.docket.specs.Docket.{sound}
use Rattle.docket.specs.Demand3.{Unheld}
use Rattle.state.specs.Layout.{layout_mark, state_numbers}
use Rattle.state.specs.Kept.{long, holds, kept_numbers, kept_rows, is_held, lodged_numbers, lodged_rows, HoldsDocket}
use Rattle.state.proofs.Fits.{Fits}
use Rattle.state.proofs.Room.{clash, long_room, room_long}
use Rattle.state.proofs.Keeping.{eight, eight_long}
use Rattle.state.proofs.Again.{docket_again}

-- ---- a docket kept in slices is held by them

over_long : (l b : List ℕ) → length l ≤ length b → length (over l b) ≡ length b
over_long l b h = omega (arith, h, length-append l (drop (length l) b), length-drop (length l) b)

module _ (v w : List ℕ) (d : Docket) (r : long v w ≡ true) (F : Fits d) where
  pub numbers_long : length (state_numbers d) ≡ 618
  unfolding state_numbers
  numbers_long = omega (arith, eight_long d, laid_long d.problem F.demand_long F.spare_long F.units_long, length-append (eight d) (laid_out d.problem))

  kept_long : length (kept_numbers d v) ≡ length v
  unfolding kept_numbers
  kept_long = over_long (state_numbers d) v (omega (arith, numbers_long, (long_room v w r).0))

  kept_rows_long : length (kept_rows d w) ≡ length w
  unfolding kept_rows
  kept_rows_long = over_long d.rows w (omega (arith, F.rows_long, (long_room v w r).1))

  kept_room : long (kept_numbers d v) (kept_rows d w) ≡ true
  kept_room =
      room_long (kept_numbers d v) (kept_rows d w) (omega (arith, kept_long, (long_room v w r).0)) (omega (arith, kept_rows_long, (long_room v w r).1))

  kept_mark : kept_numbers d v at 0 ≡ layout_mark
  unfolding kept_numbers state_numbers
  kept_mark = refl

  kept_is : sound d ≡ true → holds (kept_numbers d v) (kept_rows d w) ≡ true
  unfolding holds
  kept_is e = rw (kept_mark, docket_again d F v w, e) refl

  pub kept_holds : sound d ≡ true → HoldsDocket (record { numbers = kept_numbers d v; rows = kept_rows d w }) d
  kept_holds e = record { room = kept_room; is = kept_is e; docket_is = docket_again d F v w }

-- ---- a text that is refused or passed leaves the slices, whatever they hold; and only such a text's answer is not held

pub held_or_not : (a : Answer) → is_held a ≡ false → Unheld (stated a)
held_or_not (answer.Refused r) e = tt
held_or_not answer.TextHeld e = clash (sym e)
held_or_not (answer.ScheduleHeld c) e = clash (sym e)
held_or_not (answer.SchedulePassed c) e = tt
held_or_not (answer.TreeHeld f) e = clash (sym e)
held_or_not (answer.TreePassed f) e = tt

unheld_not : (a : Answer) → Unheld (stated a) → is_held a ≡ false
unheld_not (answer.Refused r) u = refl
unheld_not answer.TextHeld u = absurd u
unheld_not (answer.ScheduleHeld c) u = absurd u
unheld_not (answer.SchedulePassed c) u = refl
unheld_not (answer.TreeHeld f) u = absurd u
unheld_not (answer.TreePassed f) u = refl

pub unheld_leaves : (l : Lodged) (v w : List ℕ) → Unheld (stated l.answer) → (lodged_numbers l v ≡ v) × (lodged_rows l w ≡ w)
unfolding lodged_numbers lodged_rows
unheld_leaves l v w u = let e = unheld_not l.answer u in (rw e refl, rw e refl)
