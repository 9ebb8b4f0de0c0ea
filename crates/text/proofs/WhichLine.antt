-- Which line of a text is refused, over any kind of text and any way to judge it line by line. Where the lines that pass are exactly those that begin the text of
-- a value within the limits, and the first test that holds of a line is the number that refuses it there, a text is refused as Courses.antt says exactly where it
-- is refused as LineRefused.antt says; and with the refused line the lines begin no text.
use Prim.Native.Nat.{ℕ, suc, ◌+◌, ◌<◌}
use native.Mathlib.Omega.{arith}
use mathlib.Core.Path.{◌≡◌, refl, sym, ap₂, subst, ◌∙◌}
use mathlib.Core.Bool.{Bool}
use mathlib.Core.List.{List, [], ◌∷◌, ◌++◌}
use mathlib.Core.Logic.{◌↔◌, ◌⊎◌}
use mathlib.Core.Option.{Option, none, some}
use lib.ListN.{length}
use Rattle.text.specs.Lines.{Line, ended, due}
use Rattle.text.specs.Forms.{Form, form_tests, word_tests, nothing_tests}
use Rattle.text.specs.Tests.{Test, ◌if◌, FirstTrue, this, after, None, Passed, none_yet, one_more, tests_before, StopsAt}
use Rattle.text.specs.LineRefused.{Unfit, Beginning, Refuses, at_numbers, at_last, behind_last, LineRefused}
use Rattle.text.proofs.Unfit.{Fits, numbers_first, word_first, nothing_first}

-- two ways to cut lines after as many are one
pub same_cut : (a b c d : List Line) → length a ≡ length b → a ++ c ≡ b ++ d → (a ≡ b) × (c ≡ d)
same_cut [] [] c d e q = (refl, q)
same_cut [] (y ∷ b) c d e q = absurd (omega (arith, e))
same_cut (x ∷ a) [] c d e q = absurd (omega (arith, e))
same_cut (x ∷ a) (y ∷ b) c d e q =
    let heads : x ≡ y = cc in
    let tails : a ++ c ≡ b ++ d = cc in
    let r = same_cut a b c d (omega (arith, e)) tails in
    (ap₂ ◌∷◌ heads r.0, r.1)

none_first : (n : ℕ) (ts : List Test) → None ts → FirstTrue n ts → ⊥
none_first n [] h x = elim x [ ]
none_first n (m if b ∷ ts) h (this e) = let k = h.0 in let z : ◌≡◌ {A = ℕ} 0 1 = cc in omega arith
none_first n (m if b ∷ ts) h (after e f) = none_first n ts h.1 f

module _ {S R : Type 0} (tests : S → Line → List Test) (next_due : S → Line → S) (end : S → Option R) where
  -- what is due after lines that pass is one thing
  pub passed_once : {s t t' : S} (ls : List Line) → Passed tests next_due s ls t → Passed tests next_due s ls t' → t ≡ t'
  passed_once [] none_yet none_yet = refl
  passed_once {s} {t} {t'} (x ∷ ls) (one_more {s' = u} n e p) (one_more {s' = u'} n' e' p') =
      passed_once {s = u'} ls (subst (λ (v : S). Passed tests next_due v ls t) (sym e ∙ e') p) p'

  pub passed_parts : {s t : S} (a b : List Line) → Passed tests next_due s (a ++ b) t → (u : S) × Passed tests next_due s a u × Passed tests next_due u b t
  passed_parts {s} [] b p = (s, none_yet, p)
  passed_parts {s} {t} (x ∷ a) b (one_more {s' = u} n e p) = let r = passed_parts {s = u} a b p in (r.0, one_more n e r.1, r.2)

  module _ {Value : Type 0} (lines : Value → List (List ℕ)) (last : List ℕ) (InLimits : Value → ℕ → Type 0) (Breaks : Value → ℕ → Line → ℕ → Type 0) where
    -- the way to judge follows the texts: s is due where line k of v is (`Stands`), lines that begin a text pass and end there, lines that pass begin one, and
    -- the numbers there are the same
    pub record Faithful (start : S) (Stands : Value → ℕ → S → Type 0) : Type 0 where
      pub passes : (v : Value) (ls : List Line) → Beginning lines InLimits ls v → (s : S) × Stands v (length ls) s × Passed tests next_due start ls s
      pub begins : (s : S) (ls : List Line) → Passed tests next_due start ls s → (v : Value) × Beginning lines InLimits ls v
      pub refuses : (v : Value) (k : ℕ) (s : S) → Stands v k s → (left : List Line) (n : ℕ)
          → FirstTrue n (tests_before tests next_due end s left) ↔ Refuses lines last InLimits Breaks v k left n

    module _ {start : S} {Stands : Value → ℕ → S → Type 0} (F : Faithful start Stands) (n m : ℕ) (ls : List Line) where
      by_lines : StopsAt tests next_due end n m 2 start ls → LineRefused lines last InLimits Breaks n m ls
      by_lines r =
          let b = F.begins r.stands r.before r.passed in
          let p = F.passes b.0 r.before b.1 in
          let e = passed_once r.before r.passed p.2 in
          record {
            value = b.0;
            before = r.before;
            left = r.rest;
            parts = r.parts;
            begins = b.1;
            place = r.place;
            refuses = (F.refuses b.0 (length r.before) p.0 p.1 r.rest n).0 (subst (λ (s : S). FirstTrue n (tests_before tests next_due end s r.rest)) e r.first);
          }

      by_tests : LineRefused lines last InLimits Breaks n m ls → StopsAt tests next_due end n m 2 start ls
      by_tests r =
          let p = F.passes r.value r.before r.begins in
          record {
            before = r.before;
            rest = r.left;
            stands = p.0;
            parts = r.parts;
            passed = p.2;
            place = r.place;
            first = (F.refuses r.value (length r.before) p.0 p.1 r.left n).1 r.refuses;
          }

      pub line_refused_is : StopsAt tests next_due end n m 2 start ls ↔ LineRefused lines last InLimits Breaks n m ls
      line_refused_is = (by_lines, by_tests)

      -- with the refused line the lines begin no text
      pub with_it_none : (r : LineRefused lines last InLimits Breaks n m ls) (x : Line) (rest : List Line) → r.left ≡ x ∷ rest
          → (v : Value) → Beginning lines InLimits (r.before ++ (x ∷ [])) v → ⊥
      unfolding by_tests
      with_it_none r x rest e v b =
          let t = by_tests r in
          let p = F.passes v (r.before ++ (x ∷ [])) b in
          let q = passed_parts r.before (x ∷ []) p.2 in
          let same = passed_once r.before q.1 t.passed in
          refuted (subst (λ (s : S). Passed tests next_due s (x ∷ []) p.0) same q.2)
          (subst (λ (l : List Line). FirstTrue n (tests_before tests next_due end t.stands l)) e t.first)
        where
          refuted : {s u : S} → Passed tests next_due s (x ∷ []) u → FirstTrue n (tests s x) → ⊥
          refuted {s} (one_more h k p) f = none_first n (tests s x) h f

      -- where lines that begin v stand before, it is the number of v's next line that refuses the line after them, and no other value's
      pub refused_there : (v : Value) (before left : List Line) → ls ≡ before ++ left → Beginning lines InLimits before v → m ≡ 2 + length before
          → LineRefused lines last InLimits Breaks n m ls ↔ Refuses lines last InLimits Breaks v (length before) left n
      refused_there v before left parts b place = (
        forth,
        λ r. record { value = v; before = before; left = left; parts = parts; begins = b; place = place; refuses = r },
      )
        where
          forth : LineRefused lines last InLimits Breaks n m ls → Refuses lines last InLimits Breaks v (length before) left n
          forth r =
              let t = by_tests r in
              let cut = same_cut t.before before t.rest left (omega (arith, t.place, place)) (sym t.parts ∙ parts) in
              let p = F.passes v before b in
              let passed = subst (λ (l : List Line). Passed tests next_due start l t.stands) cut.0 t.passed in
              let first = subst (λ (l : List Line). FirstTrue n (tests_before tests next_due end t.stands l)) cut.1 t.first in
              (F.refuses v (length before) p.0 p.1 left n).0
              (subst (λ (s : S). FirstTrue n (tests_before tests next_due end s left)) (passed_once before passed p.2) first)

    -- ---- the number where line k of v is due, by what is due there: a line of numbers, which may have other tests; the last line; nothing

    module _ (v : Value) (k : ℕ) (s : S) (left : List Line) (n : ℕ) where
      pub numbers_refuse : (f : Form) (more : Line → List Test) → end s ≡ none → ((l : Line) → tests s l ≡ form_tests f l (more l)) → suc k < length (lines v)
          → ((l : Line) → Breaks v k l n ↔ (Unfit f l n ⊎ (((neg : Bool) × (vs : List ℕ) × Fits f l neg vs) × FirstTrue n (more l))))
          → FirstTrue n (tests_before tests next_due end s left) ↔ Refuses lines last InLimits Breaks v k left n
      numbers_refuse f more e same inside b = (
        λ t. at_numbers ((b (due left)).1 ((numbers_first tests next_due end s f more e same left n).0 t)),
        λ r. (numbers_first tests next_due end s f more e same left n).1 ((b (due left)).0 (back n r)),
      )
        where
          back : (n : ℕ) → Refuses lines last InLimits Breaks v k left n → Breaks v k (due left) n
          back n (at_numbers h) = h
          back n (at_last l never) = absurd (omega (arith, inside, l))
          back n (behind_last l never) = absurd (omega (arith, inside, l))

      pub last_refuses : end s ≡ none → ((l : Line) → tests s l ≡ word_tests last l) → suc k ≡ length (lines v) → ((l : Line) → Breaks v k l n → ⊥)
          → FirstTrue n (tests_before tests next_due end s left) ↔ Refuses lines last InLimits Breaks v k left n
      last_refuses e same l no_numbers = (forth, λ r. (word_first tests next_due end s last e same left n).1 (back n no_numbers r))
        where
          forth : FirstTrue n (tests_before tests next_due end s left) → Refuses lines last InLimits Breaks v k left n
          forth t =
              let w = (word_first tests next_due end s last e same left n).0 t in
              subst (Refuses lines last InLimits Breaks v k left) (sym w.0) (at_last l w.1)

          back : (n : ℕ) → ((l : Line) → Breaks v k l n → ⊥) → Refuses lines last InLimits Breaks v k left n → (n ≡ 12) × (due left ≡ ended last → ⊥)
          back n none_there (at_numbers h) = absurd (none_there (due left) h)
          back n none_there (at_last q other) = (refl, other)
          back n none_there (behind_last q some_left) = absurd (omega (arith, l, q))

      pub end_refuses : (r : R) → end s ≡ some r → ((l : Line) → tests s l ≡ nothing_tests) → k ≡ length (lines v) → ((l : Line) → Breaks v k l n → ⊥)
          → FirstTrue n (tests_before tests next_due end s left) ↔ Refuses lines last InLimits Breaks v k left n
      end_refuses r e same l no_numbers = (forth, λ h. (nothing_first tests next_due end s r e same left n).1 (back n no_numbers h))
        where
          forth : FirstTrue n (tests_before tests next_due end s left) → Refuses lines last InLimits Breaks v k left n
          forth t =
              let w = (nothing_first tests next_due end s r e same left n).0 t in
              subst (Refuses lines last InLimits Breaks v k left) (sym w.0) (behind_last l w.1)

          back : (n : ℕ) → ((l : Line) → Breaks v k l n → ⊥) → Refuses lines last InLimits Breaks v k left n → (n ≡ 12) × (left ≡ [] → ⊥)
          back n none_there (at_numbers h) = absurd (none_there (due left) h)
          back n none_there (at_last q other) = absurd (omega (arith, l, q))
          back n none_there (behind_last q some_left) = (refl, some_left)
