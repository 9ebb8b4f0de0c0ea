-- The listing after some pieces: the docket that they leave, a line for each of their answers at the front of the output, and room for
-- the rest. A piece with something after it has five bytes and gives a line of at most 64.
use Prim.Native.Nat.{ℕ, ◌+◌, ◌*◌, ◌-◌, ◌≤◌, ◌<◌}
use native.Mathlib.Omega.{arith}
use mathlib.Core.Path.{◌≡◌, refl, sym, ap, ◌∙◌}
use mathlib.Core.Bool.{true}
use mathlib.Core.List.{List, [], ◌∷◌, ◌++◌, append_assoc, append-nil}
use lib.ListN.{length, take, drop, length-append}
use lib.Seq.{take_at, drop_at, drop-drop}
use Rattle.pieces.specs.Pieces.{pieces, piece_after}
use Rattle.pieces.proofs.Places.{pieces_none, piece_there, piece_moves, piece_within, piece_long}
use Rattle.writer.specs.Written.{over}
use Rattle.writer.proofs.Parts as parts
use Rattle.writer.proofs.Parts.{kept, next}
use borrow.Rule.Slice.PartMut.{put_mid}
use Rattle.report.specs.Report.{put_at}
use Rattle.answer.specs.declared.Answer.{Answer}
use Rattle.answer.specs.StatedAnswers.{stated}
use Rattle.answer.specs.AnswerLines.{answer_line}
use Rattle.docket.specs.declared.Docket.{Docket}
use Rattle.docket.specs.declared.Lodged.{Lodged}
use Rattle.docket.specs.Docket.{fresh_docket, sound}
use Rattle.docket.specs.Lodging.{lodge_of}
use Rattle.docket.specs.Demand3.{docket_after, answers_to}
use Rattle.docket.specs.Report.{report_text}
use Rattle.docket.proofs.Lists.{reached_sound}
use Rattle.docket.proofs.Reports.{shown_reached}
use Rattle.docket.proofs.ReportSizes.{reached_most}
use Rattle.list.specs.Listing.{answer_lines, listed}
use Rattle.list.proofs.ListSizes.{reached_fits}

-- ---- one text more

docket_more : (d : Docket) (past : List (List ℕ)) (text : List ℕ)
    → docket_after lodge_of d (past ++ (text ∷ [])) ≡ (lodge_of (docket_after lodge_of d past) text).docket
docket_more d [] text = refl
docket_more d (t ∷ past) text = docket_more (lodge_of d t).docket past text

answers_more : (d : Docket) (past : List (List ℕ)) (text : List ℕ)
    → answers_to lodge_of d (past ++ (text ∷ [])) ≡ answers_to lodge_of d past ++ ((lodge_of (docket_after lodge_of d past) text).answer ∷ [])
answers_more d [] text = refl
answers_more d (t ∷ past) text = ap (λ (l : List Answer). (lodge_of d t).answer ∷ l) (answers_more (lodge_of d t).docket past text)

lines_more : (l : List Answer) (a : Answer) → answer_lines (l ++ (a ∷ [])) ≡ answer_lines l ++ answer_line (stated a)
lines_more [] a = append-nil (answer_line (stated a))
lines_more (x ∷ l) a =
    ap (λ (t : List ℕ). answer_line (stated x) ++ t) (lines_more l a)
    ∙ sym (append_assoc (answer_line (stated x)) (answer_lines l) (answer_line (stated a)))

-- ---- what is written and left

-- the docket after the texts, and the lines of their answers
abbrev pub docket_of_texts : List (List ℕ) → Docket
docket_of_texts past = docket_after lodge_of fresh_docket past

abbrev pub lines_of_texts : List (List ℕ) → List ℕ
lines_of_texts past = answer_lines (answers_to lodge_of fresh_docket past)

-- the line of the answer to one more text
abbrev pub line_of : List (List ℕ) → List ℕ → List ℕ
line_of past text = answer_line (stated (lodge_of (docket_of_texts past) text).answer)

lines_after : (past : List (List ℕ)) (text : List ℕ) → lines_of_texts (past ++ (text ∷ [])) ≡ lines_of_texts past ++ line_of past text
lines_after past text =
    ap answer_lines (answers_more fresh_docket past text)
    ∙ lines_more (answers_to lodge_of fresh_docket past) (lodge_of (docket_of_texts past) text).answer

pub record SoFar (input room : List ℕ) (d : Docket) (n place : ℕ) (output : List ℕ) : Type 0 where
  pub past : List (List ℕ)
  pub cut : past ++ pieces (drop place input) ≡ pieces input
  pub docket_is : d ≡ docket_of_texts past
  pub written : output ≡ over (lines_of_texts past) room
  pub many : n ≡ length (lines_of_texts past)
  pub within : place ≤ length input
  pub fits : place < length input → 5 * n ≤ 64 * place
  pub fits_last : 5 * n ≤ 64 * place + 256

pub nothing_yet : (input room : List ℕ) → SoFar input room fresh_docket 0 0 room
nothing_yet input room = record {
  past = [];
  cut = refl;
  docket_is = refl;
  written = refl;
  many = refl;
  within = omega arith;
  fits = λ h. omega arith;
  fits_last = omega arith;
}

pub good_so_far : {input room : List ℕ} {d : Docket} {n place : ℕ} {output : List ℕ} → SoFar input room d n place output → sound d ≡ true
good_so_far s = ap sound s.docket_is ∙ reached_sound s.past

-- the text that stands at the place
abbrev pub text_at : List ℕ → ℕ → List ℕ
text_at input place = take (piece_after input place - place) (drop place input)

module _ (input room : List ℕ) (limit : length input ≤ 65536) (large : 1048576 ≤ length room)
    (d : Docket) (n place : ℕ) (output : List ℕ) (s : SoFar input room d n place output) (h : place < length input) where
  short : length (line_of s.past (text_at input place)) ≤ 64
  short = reached_fits s.past (text_at input place)

  fit : length (lines_of_texts s.past) + length (line_of s.past (text_at input place)) ≤ length room
  fit = omega (arith, short, s.fits h, s.many)

  -- one text more was lodged, and the line of its answer written
  one_more : (d' : Docket) (n' : ℕ) (output' : List ℕ) → d' ≡ (lodge_of d (text_at input place)).docket
      → n' ≡ n + length (line_of s.past (text_at input place)) → output' ≡ over (lines_of_texts s.past ++ line_of s.past (text_at input place)) room
      → SoFar input room d' n' (piece_after input place) output'
  one_more d' n' output' ed en eo =
      let l = lines_after s.past (text_at input place) in record {
        past = s.past ++ (text_at input place ∷ []);
        cut =
            append_assoc s.past (text_at input place ∷ []) (pieces (drop (piece_after input place) input))
            ∙ ap (λ (ps : List (List ℕ)). s.past ++ ps) (sym (piece_there input place h))
            ∙ s.cut;
        docket_is = ed ∙ ap (λ (x : Docket). (lodge_of x (text_at input place)).docket) s.docket_is ∙ sym (docket_more fresh_docket s.past (text_at input place));
        written = eo ∙ ap (λ (x : List ℕ). over x room) (sym l);
        many = en ∙ omega (arith, s.many, ap length l, length-append (lines_of_texts s.past) (line_of s.past (text_at input place)));
        within = piece_within input place h;
        fits = λ k. omega (arith, short, s.fits h, piece_long input place h k);
        fits_last = omega (arith, short, s.fits h, piece_moves input place h);
      }

  pub before_end : (end : ℕ) → end ≡ piece_after input place → (place < end) × (end ≤ length input)
  before_end end e = (omega (arith, e, piece_moves input place h), omega (arith, e, piece_within input place h))

-- after the text at the place was lodged, before the line of its answer is written
pub record Turn (input room : List ℕ) (n : ℕ) (output : List ℕ) (end : ℕ) (l : Lodged) : Type 0 where
  pub fits : n + length (answer_line (stated l.answer)) ≤ length output
  pub few : n + length (answer_line (stated l.answer)) ≤ 1048576
  pub part : length (answer_line (stated l.answer)) ≤ length (take (length output - n) (drop n output))
  pub after : (k : ℕ) (ys : List ℕ) → k ≡ length (answer_line (stated l.answer))
      → ys ≡ over (answer_line (stated l.answer)) (take (length output - n) (drop n output))
      → SoFar input room l.docket (n + k) end (put_mid n (length output - n) output ys)

module _ (input room : List ℕ) (limit : length input ≤ 65536) (large : 1048576 ≤ length room)
    (d : Docket) (n place : ℕ) (output : List ℕ) (s : SoFar input room d n place output) (h : place < length input)
    (end : ℕ) (e : end ≡ piece_after input place) (l : Lodged) (el : l ≡ lodge_of d (take (end - place) (drop place input))) where
  lodged_is : l ≡ lodge_of d (text_at input place)
  lodged_is = el ∙ ap (λ (k : ℕ). lodge_of d (take (k - place) (drop place input))) e

  line_is : answer_line (stated l.answer) ≡ line_of s.past (text_at input place)
  line_is =
      ap (λ (x : Lodged). answer_line (stated x.answer)) lodged_is
      ∙ ap (λ (x : Docket). answer_line (stated (lodge_of x (text_at input place)).answer)) s.docket_is

  pub turn : Turn input room n output end l
  turn =
      let lines = lines_of_texts s.past in
      let line = line_of s.past (text_at input place) in
      let f = fit input room limit large d n place output s h in
      record {
        fits = omega (arith, s.many, ap length line_is, f, kept room output lines n s.written s.many (omega (arith, f)));
        few = omega (arith, ap length line_is, short input room limit large d n place output s h, s.fits h);
        part = rw line_is (parts.room room output lines n s.written s.many line f);
        after = λ k ys ek ey. rw e (one_more input room limit large d n place output s h l.docket (n + k) (put_mid n (length output - n) output ys)
            (ap (λ (x : Lodged). x.docket) lodged_is)
            (ap (λ (x : ℕ). n + x) (ek ∙ ap length line_is))
            (next room output lines n s.written s.many line ys (ey ∙ ap (λ (x : List ℕ). over x (take (length output - n) (drop n output))) line_is)));
      }

-- ---- all of it

-- l after what is written
pub place_on : (done l room : List ℕ) → put_at (over done room) (length done) l ≡ over (done ++ l) room
place_on done l room =
    (λ i. take_at done (drop (length done) room) (length done) refl i ++ (l ++ drop (length done + length l) (over done room)))
    ∙ ap (λ (r : List ℕ). done ++ (l ++ r)) (sym (drop-drop (length l) (length done) (over done room)) ∙ ap (drop (length l)) (drop_at done (drop (length done) room) (length done) refl)
    ∙ drop-drop (length l) (length done) room ∙ ap (λ (k : ℕ). drop k room) (sym (length-append done l)))
    ∙ sym (append_assoc done l (drop (length (done ++ l)) room))

-- after all texts, before the report is written
pub record Done (input room : List ℕ) (d : Docket) (n : ℕ) (output : List ℕ) : Type 0 where
  pub good : sound d ≡ true
  pub same : length output ≡ length room
  pub fits : n + length (report_text d.held) ≤ length output
  pub many : n + length (report_text d.held) ≡ length (listed (pieces input))
  pub written : put_at output n (report_text d.held) ≡ over (listed (pieces input)) room

module _ (input room : List ℕ) (limit : length input ≤ 65536) (large : 1048576 ≤ length room)
    (d : Docket) (n place : ℕ) (output : List ℕ) (s : SoFar input room d n place output) (h : length input ≤ place) where
  all_past : s.past ≡ pieces input
  all_past = sym (append-nil s.past) ∙ ap (λ (ps : List (List ℕ)). s.past ++ ps) (sym (pieces_none input place h)) ∙ s.cut

  listed_is : lines_of_texts s.past ++ report_text d.held ≡ listed (pieces input)
  listed_is =
      ap (λ (x : Docket). lines_of_texts s.past ++ report_text x.held) s.docket_is
      ∙ ap listed all_past

  pub done : Done input room d n output
  done =
      let lines = lines_of_texts s.past in
      let report = report_text d.held in
      let r = ap (λ (x : Docket). length (report_text x.held)) s.docket_is in
      let k = kept room output lines n s.written s.many (omega (arith, s.fits_last, s.within, s.many)) in
      record {
        good = good_so_far s;
        same = k;
        fits = omega (arith, r, ap length (shown_reached s.past), reached_most s.past, s.fits_last, s.within, k);
        many = omega (arith, s.many, ap length listed_is, length-append lines report);
        written =
            ap (λ (x : List ℕ). put_at x n report) s.written
            ∙ ap (λ (x : ℕ). put_at (over lines room) x report) s.many
            ∙ place_on lines report room
            ∙ ap (λ (x : List ℕ). over x room) listed_is;
      }
