-- The state after calls, whole: that of the docket after the texts that were heard, and behind it what the slices held before.
use mathlib.Core.Path.{◌≡◌, refl, sym, ap, ◌∙◌}
use mathlib.Core.Bool.{Bool, true, false, cond}
use mathlib.Core.List.{List, [], ◌∷◌, ◌++◌, append-nil, append_assoc}
use Prim.Native.Nat.{ℕ}
use lib.ListN.{length, take, drop}
use lib.Seq.{take_at, drop_at}
use Rattle.writer.specs.Written.{over}
use Rattle.docket.specs.Promised.{after}
use Rattle.docket.proofs.Lists.{reached_sound}
use Rattle.state.specs.Layout.{state_numbers}
use Rattle.state.specs.Kept.{long, kept_numbers, kept_rows, State, docket_kept, HoldsDocket}
use Rattle.state.proofs.ReachedFits.{reached_fits}
use Rattle.state.proofs.Lodged.{numbers_long, kept_holds}
use Rattle.state.proofs.KeptOver.{next_kept}
use Rattle.docket_host.specs.Calls.{lends, fresh_answer, fresh_numbers, fresh_rows}
use Rattle.docket_host.specs.Lending.{Lending, heard, fresh_state, called, after_calls}
use Rattle.docket_host.proofs.Calls.{lodge_short}
use Rattle.docket_host.proofs.Hosted.{called_is}

module _ (v w : List ℕ) (r : long v w ≡ true) where
  abbrev here : List (List ℕ) → State
  here texts = docket_kept (after texts) v w

  here_holds : (texts : List (List ℕ)) → HoldsDocket (here texts) (after texts)
  here_holds texts = kept_holds v w (after texts) r (reached_fits texts) (reached_sound texts)

  -- a call that is lent too little leaves the state
  short_leaves : (s : State) (c : Lending) → lends c.line c.values ≡ false → called s c ≡ s
  short_leaves s c e =
      let t = lodge_short s.numbers s.rows c.text c.line c.values (rw e (never_both (long s.numbers s.rows))) in
      rw (← t.1.0, ← t.1.1.0) refl
    where
      never_both : (t : Bool) → cond t false false ≡ false
      never_both true = refl
      never_both false = refl

  heard_one : (past : List (List ℕ)) (c : Lending) (cs : List Lending) → ((p : List (List ℕ)) → after_calls (here p) cs ≡ here (p ++ heard cs))
      → (t : Bool) → lends c.line c.values ≡ t → after_calls (called (here past) c) cs ≡ here (past ++ cond t (c.text ∷ heard cs) (heard cs))
  heard_one past c cs more true e =
      ap (λ (s : State). after_calls s cs) (called_is (here past) (after past) (here_holds past) c e ∙ next_kept v w r past c.text)
      ∙ more (past ++ (c.text ∷ []))
      ∙ ap here (append_assoc past (c.text ∷ []) (heard cs))
  heard_one past c cs more false e = ap (λ (s : State). after_calls s cs) (short_leaves (here past) c e) ∙ more past

  heard_from : (past : List (List ℕ)) (cs : List Lending) → after_calls (here past) cs ≡ here (past ++ heard cs)
  heard_from past [] = ap here (sym (append-nil past))
  heard_from past (c ∷ cs) = heard_one past c cs (λ p. heard_from p cs) (lends c.line c.values) refl

  begun_is : fresh_state v w ≡ here []
  unfolding fresh_numbers fresh_rows
  begun_is = rw r refl

  pub state_is : (cs : List Lending) → after_calls (fresh_state v w) cs ≡ docket_kept (after (heard cs)) v w
  state_is cs = ap (λ (s : State). after_calls s cs) begun_is ∙ heard_from [] cs

  pub holds_heard : (cs : List Lending) → HoldsDocket (after_calls (fresh_state v w) cs) (after (heard cs))
  holds_heard cs = rw (state_is cs) (here_holds (heard cs))

  pub fresh_begins : fresh_answer v w ≡ 0
  unfolding fresh_answer
  fresh_begins = rw r refl

  -- what lies behind a state stays
  pub rest_stays : (cs : List Lending) → (drop 618 (after_calls (fresh_state v w) cs).numbers ≡ drop 618 v) × (drop 1536 (after_calls (fresh_state v w) cs).rows ≡ drop 1536 w)
  unfolding kept_numbers kept_rows
  rest_stays cs =
      let d = after (heard cs) in
      let F = reached_fits (heard cs) in
      let n = numbers_long v w d r F in
      rw (state_is cs) (
        drop_at (state_numbers d) (drop (length (state_numbers d)) v) 618 n ∙ ap (λ (k : ℕ). drop k v) n,
        drop_at d.rows (drop (length d.rows) w) 1536 F.rows_long ∙ ap (λ (k : ℕ). drop k w) F.rows_long,
      )

-- moved into other slices, a state is the one that the same calls make there
pub moved : (v w : List ℕ) → long v w ≡ true → (v' w' : List ℕ) → long v' w' ≡ true → (cs : List Lending)
    → (over (take 618 (after_calls (fresh_state v w) cs).numbers) v' ≡ (after_calls (fresh_state v' w') cs).numbers)
    × (over (take 1536 (after_calls (fresh_state v w) cs).rows) w' ≡ (after_calls (fresh_state v' w') cs).rows)
unfolding kept_numbers kept_rows
moved v w r v' w' r' cs =
    let d = after (heard cs) in
    let F = reached_fits (heard cs) in
    rw (state_is v w r cs, state_is v' w' r' cs) (
      ap (λ (l : List ℕ). over l v') (take_at (state_numbers d) (drop (length (state_numbers d)) v) 618 (numbers_long v w d r F)),
      ap (λ (l : List ℕ). over l w') (take_at d.rows (drop (length d.rows) w) 1536 F.rows_long),
    )
