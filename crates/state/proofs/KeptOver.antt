-- A docket kept over another leaves nothing of it: the state after texts is the docket's own numbers, and behind them what the slices held.
use mathlib.Core.Path.{◌≡◌, refl, sym, ap, ◌∙◌}
use mathlib.Core.Bool.{Bool, true, false, cond}
use mathlib.Core.List.{List, [], ◌∷◌, ◌++◌}
use Prim.Native.Nat.{ℕ}
use lib.ListN.{length, drop}
use lib.Seq.{drop_at}
use Rattle.writer.specs.Written.{over}
use Rattle.docket.specs.declared.Docket.{Docket}
use Rattle.docket.specs.Docket.{fresh_docket}
use Rattle.docket.specs.Lodging.{lodge_of}
use Rattle.docket.specs.Demand3.{docket_after}
use Rattle.docket.specs.Promised.{after}
use Rattle.docket.proofs.Demand3.{unheld_unchanged}
use Rattle.state.specs.Layout.{state_numbers}
use Rattle.state.specs.Kept.{long, kept_numbers, kept_rows, is_held, lodged_numbers, lodged_rows, State, docket_kept, state_next}
use Rattle.state.proofs.Fits.{Fits}
use Rattle.state.proofs.Again.{docket_again}
use Rattle.state.proofs.ReachedFits.{reached_fits}
use Rattle.state.proofs.Lodged.{numbers_long, held_or_not}

over_over : (a b v : List ℕ) → length a ≡ length b → over a (over b v) ≡ over a v
over_over a b v e = ap (λ (x : List ℕ). a ++ x) (drop_at b (drop (length b) v) (length a) (sym e) ∙ ap (λ (n : ℕ). drop n v) (sym e))

module _ (v w : List ℕ) (r : long v w ≡ true) (d d' : Docket) (F : Fits d) (F' : Fits d') where
  numbers_over : kept_numbers d (kept_numbers d' v) ≡ kept_numbers d v
  unfolding kept_numbers
  numbers_over = over_over (state_numbers d) (state_numbers d') v (numbers_long v w d r F ∙ sym (numbers_long v w d' r F'))

  rows_over : kept_rows d (kept_rows d' w) ≡ kept_rows d w
  unfolding kept_rows
  rows_over = over_over d.rows d'.rows w (F.rows_long ∙ sym F'.rows_long)

module _ (v w : List ℕ) (r : long v w ≡ true) (d : Docket) (F : Fits d) (text : List ℕ) (F' : Fits (lodge_of d text).docket) where
  next_by : (t : Bool) → is_held (lodge_of d text).answer ≡ t
      → ◌≡◌ {A = State} (record { numbers = cond t (kept_numbers (lodge_of d text).docket (kept_numbers d v)) (kept_numbers d v); rows = cond t (kept_rows (lodge_of d text).docket (kept_rows d w)) (kept_rows d w) })
      (docket_kept (lodge_of d text).docket v w)
  next_by true t = rw (numbers_over v w r (lodge_of d text).docket d F' F, rows_over v w r (lodge_of d text).docket d F' F) refl
  next_by false t = ap (λ (x : Docket). docket_kept x v w) (sym (unheld_unchanged d text (held_or_not (lodge_of d text).answer t)))

  next_is : state_next (docket_kept d v w) text ≡ docket_kept (lodge_of d text).docket v w
  unfolding lodged_numbers lodged_rows
  next_is = rw (docket_again d F v w) (next_by (is_held (lodge_of d text).answer) refl)

after_more : (d : Docket) (past texts : List (List ℕ)) → docket_after lodge_of d (past ++ texts) ≡ docket_after lodge_of (docket_after lodge_of d past) texts
after_more d [] texts = refl
after_more d (text ∷ past) texts = after_more (lodge_of d text).docket past texts

-- one text more
pub next_kept : (v w : List ℕ) → long v w ≡ true → (texts : List (List ℕ)) (text : List ℕ)
    → state_next (docket_kept (after texts) v w) text ≡ docket_kept (after (texts ++ (text ∷ []))) v w
next_kept v w r texts text =
    let e = after_more fresh_docket texts (text ∷ []) in
    let F : Fits (lodge_of (after texts) text).docket = rw (← e) (reached_fits (texts ++ (text ∷ []))) in
    next_is v w r (after texts) (reached_fits texts) text F ∙ ap (λ (x : Docket). docket_kept x v w) (sym e)
