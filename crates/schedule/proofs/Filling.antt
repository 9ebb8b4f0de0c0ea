-- An array that fills up row by row: the rows that are cut out of it are those that were stored, one after the other.
use Prim.Native.Nat.{ℕ, suc, ◌+◌, ◌-◌, ◌*◌, ◌≤◌}
use native.Mathlib.Nat.{zero-mul}
use native.Mathlib.Omega.{arith}
use mathlib.Core.Path.{◌≡◌, refl, sym, ap, ◌∙◌}
use mathlib.Core.List.{List, [], ◌∷◌, ◌++◌, append_assoc, flatten}
use lib.ListN.{length, take, drop, replicate, length-append}
use lib.Seq.{drop-drop, take_at, drop_at, length-take-le, paste, take-paste}
use Rattle.model.specs.Instance.{Instance, Schedule}
use Rattle.model.specs.Ranges.{All, GoodOutput, Shaped}
use Rattle.model.specs.Held.{pad}
use Rattle.model.proofs.Held.{length_pad}
use Rattle.text.proofs.Plain.{drop_replicate}
use Rattle.judge.specs.Rows.{cut_rows}
use Rattle.judge.proofs.Rows.{row, all_append}
use Rattle.schedule.specs.Storing.{Filled}
use Rattle.schedule.proofs.CutRows.{cut_take, joined_front, cut_last, cut_front}

-- ---- storing a row

pub filled_none : (T : ℕ) → Filled 0 T (replicate 1536 0)
unfolding pad
filled_none T = record { zeros_after = rw zero-mul refl; long = rw zero-mul refl; outputs_in = rw zero-mul tt }

module _ (k T : ℕ) (l values : List ℕ) (filled : Filled k T l) (fits : suc k * T ≤ length l) (given : T ≤ length values) where
  -- the rows before, the row that is stored, and the array with it
  abbrev front : List ℕ
  front = take (k * T) l

  abbrev new : List ℕ
  new = take T values

  abbrev after : List ℕ
  after = paste l (k * T) values T

  front_after : take (suc k * T) after ≡ front ++ new
  front_after =
      let e : suc k * T ≡ k * T + T = omega arith in
      rw e (take-paste l (k * T) values T (omega arith) given)

  -- zeros stood there before
  zeros : drop (k * T + T) l ≡ replicate (1536 - (k * T + T)) 0
  unfolding pad
  zeros =
      let e : drop (k * T) l ≡ replicate (1536 - k * T) 0 =
      ap (drop (k * T)) filled.zeros_after
      ∙ drop_at front (replicate (1536 - length front) 0) (k * T) filled.long
      ∙ ap (λ (m : ℕ). replicate (1536 - m) 0) filled.long in
      let m : (1536 - k * T) - T ≡ 1536 - (k * T + T) = omega arith in
      sym (drop-drop T (k * T) l) ∙ ap (drop T) e ∙ drop_replicate 0 (1536 - k * T) T ∙ ap (λ (m : ℕ). replicate m 0) m

  front_long : length (front ++ new) ≡ k * T + T
  front_long =
      length-append front new ∙ ap (λ (m : ℕ). m + length new) filled.long ∙ ap (λ (m : ℕ). k * T + m) (length-take-le T values given)

  pub filled_more : All GoodOutput new → Filled (suc k) T after
  unfolding pad
  filled_more good =
      let e : k * T + T ≡ suc k * T = omega arith in
      record {
        zeros_after = rw front_after (ap (λ (r : List ℕ). front ++ new ++ r) (zeros ∙ ap (λ (m : ℕ). replicate (1536 - m) 0) (sym front_long)));
        long = ap length front_after ∙ front_long ∙ e;
        outputs_in = rw front_after (all_append GoodOutput front new filled.outputs_in good);
      }

  -- the rows so far, and the one that is stored
  pub cut_more : cut_rows (suc k) T after ≡ cut_rows k T l ++ (new ∷ [])
  cut_more =
      let a : after ≡ front ++ (new ++ drop (k * T + T) l) = append_assoc front new (drop (k * T + T) l) in
      let before : cut_rows k T after ≡ cut_rows k T l =
      sym (cut_take k T after) ∙ ap (cut_rows k T) (ap (take (k * T)) a ∙ take_at front _ (k * T) filled.long) ∙ cut_take k T l in
      let here : row T after k ≡ new =
      ap (take T) (ap (drop (k * T)) a ∙ drop_at front _ (k * T) filled.long) ∙ take_at new _ T (length-take-le T values given) in
      cut_last k T after ∙ ap (λ (s : Schedule). s ++ (row T after k ∷ [])) before ∙ ap (λ (r : List ℕ). cut_rows k T l ++ (r ∷ [])) here

-- ---- the array that is filled

pub filled_length : (k T : ℕ) (l : List ℕ) → Filled k T l → k * T ≤ 1536 → length l ≡ 1536
filled_length k T l f h = ap length f.zeros_after ∙ length_pad 0 1536 (take (k * T) l) (omega (arith, f.long))

-- it is the rows, joined, and zeros
pub filled_joined : (k T : ℕ) (l : List ℕ) → Filled k T l → pad 0 1536 (flatten (cut_rows k T l)) ≡ l
filled_joined k T l f = ap (pad 0 1536) (joined_front k T l) ∙ sym f.zeros_after

-- the array of an accepted schedule gives its rows back
pub rows_held : (P : Instance) (s : Schedule) → Shaped P s → cut_rows (length P.units) P.periods (pad 0 1536 (flatten s)) ≡ s
unfolding pad
rows_held P s h = rw (← h.0) (cut_front P.periods s (replicate (1536 - length (flatten s)) 0) h.1)
