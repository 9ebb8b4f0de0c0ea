-- The tests 12, 14, 13 of a line where a line of numbers is due, said by renderings: n is the first that holds exactly where the line is unfit by n, and none
-- holds exactly where it shows as many values as are due, each in its range. So too where a word is due, and where nothing is.
use Prim.Native.Nat.{ℕ}
use native.Mathlib.Omega.{arith}
use mathlib.Core.Path.{◌≡◌, refl, sym, ap, subst, ◌∙◌}
use mathlib.Core.Bool.{Bool, true, false, not, ◌&&◌}
use mathlib.Core.List.{List, [], ◌∷◌}
use mathlib.Core.Option.{Option, none, some}
use mathlib.Core.Logic.{◌↔◌, ◌⊎◌, inl, inr}
use lib.Dec.{leb, eqb}
use lib.ListN.{length}
use borrow.Author.Tests.{not-true, not-false, leb-true, le-leb, eqb-true, eq-eqb}
use Rattle.text.specs.Lines.{Line, missing, ended, due, is_line}
use Rattle.text.specs.Forms.{Form, all_within, malformed, wrong_count, outside_range, form_tests, word_tests, nothing_tests}
use Rattle.text.specs.Tests.{Test, ◌if◌, FirstTrue, this, after, None, tests_of_missing, tests_before}
use Rattle.text.specs.LineRefused.{Renders, InRanges, Unfit, shows_none, miscounted, out_of_range}
use Rattle.text.proofs.Cuts.{and_both}
use Rattle.text.proofs.Tests.{first_every}
use Rattle.text.proofs.Words.{word_is, same_self}
use Rattle.text.proofs.Partition.{twelve_is, fourteen_is, thirteen_is}

pub true_not_false : {A : Type 0} (b : Bool) → b ≡ true → b ≡ false → A
true_not_false b e k = absurd (let z : ◌≡◌ {A = ℕ} 0 1 = cc in omega arith)

pub otherwise : (b : Bool) → (b ≡ false → ⊥) → b ≡ true
otherwise true h = refl
otherwise false h = absurd (h refl)

both_and : (a b : Bool) → a ≡ true → b ≡ true → (a && b) ≡ true
both_and a b e k = rw (e, k) refl

ranges_true : (vs ls hs : List ℕ) → all_within vs ls hs ≡ true → InRanges vs ls hs
ranges_true [] ls hs e = tt
ranges_true (v ∷ vs) [] hs e = true_not_false false e refl
ranges_true (v ∷ vs) (l ∷ ls) [] e = true_not_false false e refl
ranges_true (v ∷ vs) (l ∷ ls) (h ∷ hs) e =
    let p = and_both (leb l v) (leb v h && all_within vs ls hs) e in
    let q = and_both (leb v h) (all_within vs ls hs) p.1 in
    (leb-true l v p.0, (leb-true v h q.0, ranges_true vs ls hs q.1))

true_ranges : (vs ls hs : List ℕ) → InRanges vs ls hs → all_within vs ls hs ≡ true
true_ranges [] ls hs r = refl
true_ranges (v ∷ vs) [] hs r = absurd r
true_ranges (v ∷ vs) (l ∷ ls) [] r = absurd r
true_ranges (v ∷ vs) (l ∷ ls) (h ∷ hs) r =
    both_and (leb l v) (leb v h && all_within vs ls hs) (le-leb l v r.0) (both_and (leb v h) (all_within vs ls hs) (le-leb v h r.1.0) (true_ranges vs ls hs r.1.1))

twelve_alone : (n : ℕ) → FirstTrue n (12 if true ∷ []) → n ≡ 12
twelve_alone n (this p) = refl
twelve_alone n (after p h) = true_not_false true refl p

-- ---- a line of numbers

-- the line shows as many values as are due, each in its range
pub record Fits (f : Form) (l : Line) (neg : Bool) (vs : List ℕ) : Type 0 where
  pub renders : Renders f l neg vs
  pub count : length vs ≡ length f.lows
  pub range : InRanges vs f.lows f.highs

module _ (f : Form) (l : Line) where
  pub fits_passes : (neg : Bool) (vs : List ℕ) → Fits f l neg vs → None (form_tests f l [])
  fits_passes neg vs t =
      let r = t.renders in (
        (twelve_is f l).1 (neg, vs, r),
        (
          fourteen_is f l neg vs r ∙ ap not (eq-eqb (length vs) (length f.lows) t.count),
          (thirteen_is f l neg vs r ∙ ap not (true_ranges vs f.lows f.highs t.range), tt),
        ),
      )

  pub passes_fits : None (form_tests f l []) → (neg : Bool) × (vs : List ℕ) × Fits f l neg vs
  passes_fits h =
      let r = (twelve_is f l).0 h.0 in
      let c = sym (fourteen_is f l r.0 r.1 r.2) ∙ h.1.0 in
      let g = sym (thirteen_is f l r.0 r.1 r.2) ∙ h.1.1.0 in (
        r.0,
        r.1,
        record {
          renders = r.2;
          count = eqb-true (length r.1) (length f.lows) (not-false (eqb (length r.1) (length f.lows)) c);
          range = ranges_true r.1 f.lows f.highs (not-false (all_within r.1 f.lows f.highs) g);
        },
      )

  module _ (ts : List Test) where
    abbrev Judged : ℕ → Type 0
    Judged n = Unfit f l n ⊎ (((neg : Bool) × (vs : List ℕ) × Fits f l neg vs) × FirstTrue n ts)

    ranged : (neg : Bool) (vs : List ℕ) → Renders f l neg vs → length vs ≡ length f.lows → (n : ℕ) → FirstTrue n (13 if outside_range f l ∷ ts) → Judged n
    ranged neg vs r c n (this e) =
        inl (out_of_range neg vs r c (λ k. true_not_false (outside_range f l) e (thirteen_is f l neg vs r ∙ ap not (true_ranges vs f.lows f.highs k))))
    ranged neg vs r c n (after g h) =
        let k = ranges_true vs f.lows f.highs (not-false (all_within vs f.lows f.highs) (sym (thirteen_is f l neg vs r) ∙ g)) in
        inr ((neg, vs, record { renders = r; count = c; range = k }), h)

    counted : (neg : Bool) (vs : List ℕ) → Renders f l neg vs → (n : ℕ) → FirstTrue n (14 if wrong_count f l ∷ 13 if outside_range f l ∷ ts) → Judged n
    counted neg vs r n (this e) =
        inl (miscounted neg vs r (λ k. true_not_false (wrong_count f l) e (fourteen_is f l neg vs r ∙ ap not (eq-eqb (length vs) (length f.lows) k))))
    counted neg vs r n (after c h) =
        ranged neg vs r (eqb-true (length vs) (length f.lows) (not-false (eqb (length vs) (length f.lows)) (sym (fourteen_is f l neg vs r) ∙ c))) n h

    -- the first number is one by which the line is unfit, or the line fits and it is the first of the other tests
    first_unfit : (n : ℕ) → FirstTrue n (form_tests f l ts) → Judged n
    first_unfit n (this e) = inl (shows_none (λ neg vs r. true_not_false (malformed f l) e ((twelve_is f l).1 (neg, vs, r))))
    first_unfit n (after m h) = let r = (twelve_is f l).0 m in counted r.0 r.1 r.2 n h

    pub unfit_first : (n : ℕ) → Unfit f l n → FirstTrue n (form_tests f l ts)
    unfit_first n (shows_none never) = this (otherwise (malformed f l) (λ e. let h = (twelve_is f l).0 e in never h.0 h.1 h.2))
    unfit_first n (miscounted neg vs r never) =
        after ((twelve_is f l).1 (neg, vs, r))
        (this (otherwise (wrong_count f l) (λ e. never (eqb-true (length vs) (length f.lows) (not-false (eqb (length vs) (length f.lows)) (sym (fourteen_is f l neg vs r) ∙ e))))))
    unfit_first n (out_of_range neg vs r c never) =
        after ((twelve_is f l).1 (neg, vs, r))
        (after (fourteen_is f l neg vs r ∙ ap not (eq-eqb (length vs) (length f.lows) c))
        (this (otherwise (outside_range f l) (λ e. never (ranges_true vs f.lows f.highs (not-false (all_within vs f.lows f.highs) (sym (thirteen_is f l neg vs r) ∙ e)))))))

    pub fits_first : (neg : Bool) (vs : List ℕ) (n : ℕ) → Fits f l neg vs → FirstTrue n ts → FirstTrue n (form_tests f l ts)
    fits_first neg vs n t h = let p = fits_passes neg vs t in after p.0 (after p.1.0 (after p.1.1.0 h))

    pub first_is : (n : ℕ) → FirstTrue n (form_tests f l ts) ↔ (Unfit f l n ⊎ (((neg : Bool) × (vs : List ℕ) × Fits f l neg vs) × FirstTrue n ts))
    first_is n = (first_unfit n, back)
      where
        back : Unfit f l n ⊎ (((neg : Bool) × (vs : List ℕ) × Fits f l neg vs) × FirstTrue n ts) → FirstTrue n (form_tests f l ts)
        back (inl u) = unfit_first n u
        back (inr (t, h)) = fits_first t.0 t.1 n t.2 h

-- ---- what is left where something is due: a line that is missing is 12, unless the text may end there

module _ {S R : Type 0} (tests : S → Line → List Test) (next_due : S → Line → S) (end : S → Option R) (s : S) where
  -- a line of numbers
  pub numbers_first : (f : Form) (more : Line → List Test) → end s ≡ none → ((l : Line) → tests s l ≡ form_tests f l (more l)) → (left : List Line) (n : ℕ)
      → FirstTrue n (tests_before tests next_due end s left)
      ↔ (Unfit f (due left) n ⊎ (((neg : Bool) × (vs : List ℕ) × Fits f (due left) neg vs) × FirstTrue n (more (due left))))
  numbers_first f more e same [] n = (λ h. inl (missing_forth h), λ h. missing_back h)
    where
      no_line : (neg : Bool) (vs : List ℕ) → Renders f missing neg vs → ⊥
      no_line neg vs r = let q = r.line in let z : ◌≡◌ {A = ℕ} 0 1 = cc in omega arith

      missing_forth : FirstTrue n (tests_of_missing tests next_due end (end s)) → Unfit f missing n
      missing_forth h =
          let q = twelve_alone n (subst (λ (o : Option R). FirstTrue n (tests_of_missing tests next_due end o)) e h) in
          subst (Unfit f missing) (sym q) (shows_none no_line)

      only_twelve : (n : ℕ) → Unfit f missing n → n ≡ 12
      only_twelve n (shows_none never) = refl
      only_twelve n (miscounted neg vs r never) = absurd (no_line neg vs r)
      only_twelve n (out_of_range neg vs r c never) = absurd (no_line neg vs r)

      missing_back : Unfit f missing n ⊎ (((neg : Bool) × (vs : List ℕ) × Fits f missing neg vs) × FirstTrue n (more missing)) → FirstTrue n (tests_of_missing tests next_due end (end s))
      missing_back (inl u) = rw (e, only_twelve n u) (this refl)
      missing_back (inr (t, h)) = absurd (no_line t.0 t.1 t.2.renders)
  numbers_first f more e same (x ∷ left) n = rw (same x) (first_is f x (more x) n)

  -- a word
  pub word_first : (w : List ℕ) → end s ≡ none → ((l : Line) → tests s l ≡ word_tests w l) → (left : List Line) (n : ℕ)
      → FirstTrue n (tests_before tests next_due end s left) ↔ ((n ≡ 12) × (due left ≡ ended w → ⊥))
  word_first w e same [] n = (forth, back)
    where
      forth : FirstTrue n (tests_of_missing tests next_due end (end s)) → (n ≡ 12) × (missing ≡ ended w → ⊥)
      forth h = (twelve_alone n (subst (λ (o : Option R). FirstTrue n (tests_of_missing tests next_due end o)) e h), λ q. let z : ◌≡◌ {A = ℕ} 0 1 = cc in omega arith)

      back : (n ≡ 12) × (missing ≡ ended w → ⊥) → FirstTrue n (tests_of_missing tests next_due end (end s))
      back h = rw (e, h.0) (this refl)
  word_first w e same (x ∷ left) n = rw (same x) (forth n, back)
    where
      forth : (n : ℕ) → FirstTrue n (word_tests w x) → (n ≡ 12) × (x ≡ ended w → ⊥)
      forth n (this p) = (refl, λ q. true_not_false (is_line w x) (ap (is_line w) q ∙ same_self w) (not-true (is_line w x) p))
      forth n (after e p) = elim p [ ]

      back : (n ≡ 12) × (x ≡ ended w → ⊥) → FirstTrue n (word_tests w x)
      back h = rw h.0 (this (otherwise (not (is_line w x)) (λ p. h.1 (word_is w x (not-false (is_line w x) p)))))

  -- nothing
  pub nothing_first : (v : R) → end s ≡ some v → ((l : Line) → tests s l ≡ nothing_tests) → (left : List Line) (n : ℕ)
      → FirstTrue n (tests_before tests next_due end s left) ↔ ((n ≡ 12) × (left ≡ [] → ⊥))
  nothing_first v e same [] n = (forth, λ h. absurd (h.1 refl))
    where
      forth : FirstTrue n (tests_of_missing tests next_due end (end s)) → (n ≡ 12) × (◌≡◌ {A = List Line} [] [] → ⊥)
      forth h = absurd (first_every (λ _. ⊥) n [] tt (subst (λ (o : Option R). FirstTrue n (tests_of_missing tests next_due end o)) e h))
  nothing_first v e same (x ∷ left) n = rw (same x) (
    λ h. (twelve_alone n h, λ q. let z : ◌≡◌ {A = ℕ} 0 1 = cc in omega arith),
    λ h. rw h.0 (this refl),
  )
