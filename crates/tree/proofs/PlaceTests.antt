-- What the tests say where a node's first line or a later line of a leaf is due, by renderings and the rules for forks and leaves: n is the first number whose test
-- holds exactly where n refuses the line there.
use mathlib.Core.Path.{◌≡◌, refl, sym, ap, subst, transport, ◌∙◌}
use mathlib.Core.Bool.{Bool, true, false, not}
use mathlib.Core.List.{List, [], ◌∷◌, ◌++◌}
use mathlib.Core.Logic.{◌↔◌, ◌⊎◌, inl, inr}
use Prim.Native.Nat.{ℕ, suc, pred, ◌+◌, ◌-◌, ◌≤◌, ◌<◌}
use native.Mathlib.Omega.{arith}
use lib.Dec.{T, ltb}
use lib.ListN.{length}
use borrow.Author.Tests.{lt-ltb, ltb-true, le-ltb, ltb-false, not-true, not-false, eqb-true, eq-eqb}
use Rattle.model.specs.Instance.{Instance, ◌at◌}
use Rattle.model.specs.Above.{free, Above, status, count}
use Rattle.model.specs.Leaf.{available, stuck_at, any_stuck}
use Rattle.model.specs.Tree.{Leaf, short, crowd, stuck, price, ramp, Narrows, ramped, GoodLeaf, LeafHolds}
use Rattle.leaves.specs.LeafLeasts.{crowd_at}
use Rattle.leaves.proofs.Crowds.{crowd_is}
use Rattle.text.specs.Lines.{Line, missing, ended, due}
use Rattle.text.specs.Forms.{Form, malformed, numbers_of, form_tests}
use Rattle.text.specs.Forms as forms
use Rattle.text.specs.Rendering.{plain_line}
use Rattle.text.specs.Tests.{Test, ◌if◌, FirstTrue, this, after, tests_before}
use Rattle.text.specs.LineRefused.{Renders, Unfit, shows_none, miscounted, out_of_range}
use Rattle.text.proofs.Accepted.{Fits, rendered_line, rendered_good, rendered_numbers}
use Rattle.text.proofs.Cuts.{and_both}
use Rattle.text.proofs.Tests.{first_every}
use Rattle.text.proofs.Unfit as unfit_laws
use Rattle.text.proofs.Unfit.{true_not_false, otherwise, first_is, unfit_first, fits_passes, numbers_first}
use Rattle.text.proofs.Plain.{plain_was}
use Rattle.text.proofs.Verdicts.{form_passes}
use Rattle.tree.specs.Rendering.{short_key, crowd_key, stuck_key, reserve_key, down_key, fork_line}
use Rattle.tree.specs.Places.{Part, priced, ramp_priced, with_steps, with_ups}
use Rattle.tree.specs.NodeLines.{line_kind_of, named, counted, is_fixed, narrows, kind_tests, node_tests, is_last, leaf_tests, part_tests}
use Rattle.tree.specs.Refusals as refusals
use Rattle.tree.specs.Refusals.{NodeBreaks, no_node, unfit, again, Ends, price_ends, ramp_ends, steps_end, PartBreaks, unfit_part, some_stuck, LineKind, split_line, count_line, short_line, crowd_line, stuck_line, price_line, ramp_line, node_form, part_form}
use Rattle.tree.specs.Course.{Pending, pending, nodes_due, part_due, tests, next_due, end}
use Rattle.tree.specs.Acceptance.{Bounded}
use Rattle.tree.proofs.Lines.{many_fit, were_many, multipliers_fit, was_multipliers, one_fits, was_one}
use Rattle.tree.proofs.StepLines.{two_periods}
use Rattle.tree.proofs.NodeLines.{T_is, is_T, T_not, not_T, free_mark, narrows_is, split_fits, was_split, count_fits, was_count}

-- of a good line the other tests are left
good_first : (f : Form) (l : Line) (ts : List Test) (n : ℕ) → forms.good_line f l ≡ true → FirstTrue n ts → FirstTrue n (form_tests f l ts)
good_first f l ts n g h = let p = (form_passes f l []).1 (g, tt) in after p.0 (after p.1.0 (after p.1.1.0 h))

-- ---- a node

module _ (P : Instance) (A : Above) (d : ℕ) where
  -- values after a node's key say its kind
  kind_shown : (k : LineKind) (l : Line) (neg : Bool) (vs : List ℕ) → Renders (node_form P k) l neg vs → line_kind_of l ≡ k
  unfolding line_kind_of
  kind_shown split_line l neg vs r = ap line_kind_of r.line
  kind_shown count_line l neg vs r = ap line_kind_of r.line
  kind_shown short_line l neg vs r = ap line_kind_of r.line
  kind_shown crowd_line l neg vs r = ap line_kind_of r.line
  kind_shown stuck_line l neg vs r = ap line_kind_of r.line
  kind_shown price_line l neg vs r = ap line_kind_of r.line
  kind_shown ramp_line l neg vs r = ap line_kind_of r.line

  -- ---- from tests to refusals

  unfit_breaks : (k : LineKind) (l : Line) → line_kind_of l ≡ k → (n : ℕ) → Unfit (node_form P k) l n → NodeBreaks P A d l n
  unfit_breaks k l e n (shows_none never) =
      no_node (λ j. shows_none (λ neg vs r. never neg vs (subst (λ (i : LineKind). Renders (node_form P i) l neg vs) (sym (kind_shown j l neg vs r) ∙ e) r)))
  unfit_breaks k l e n (miscounted neg vs r c) = unfit k neg vs r (miscounted neg vs r c)
  unfit_breaks k l e n (out_of_range neg vs r c h) = unfit k neg vs r (out_of_range neg vs r c h)

  -- 32 of a split line that fits its form, on a status that is free
  deep_breaks : (l : Line) → forms.good_line (node_form P split_line) l ≡ true
      → is_fixed (A.marks (named (node_form P split_line) l 0) (named (node_form P split_line) l 1)) ≡ false
      → (n : ℕ) → FirstTrue n (32 if ltb 63 d ∷ []) → NodeBreaks P A d l n
  deep_breaks l g m n (this e) =
      let w = was_split P l g in
      refusals.deeper (named (node_form P split_line) l 0) (named (node_form P split_line) l 1) (w.unit, w.period, free_mark _ m) w.line (ltb-true 63 d e)
  deep_breaks l g m n (after _ x) = elim x [ ]

  -- 37 of a count line that fits its form, not too deep
  count_breaks : (l : Line) → forms.good_line (node_form P count_line) l ≡ true → ltb 63 d ≡ false
      → (n : ℕ) → FirstTrue n (37 if not (narrows (A.least (named (node_form P count_line) l 0)) (A.most (named (node_form P count_line) l 0)) (counted (node_form P count_line) l)) ∷ [])
      → NodeBreaks P A d l n
  count_breaks l g b n (this e) =
      let w = was_count P l g in
      let t = named (node_form P count_line) l 0 in
      let K = counted (node_form P count_line) l in
      refusals.no_narrower t K w.period w.few (ltb-false 63 d b) w.line (λ h. true_not_false _ ((narrows_is A t K).1 h) (not-true _ e))
  count_breaks l g b n (after _ x) = elim x [ ]

  -- 31 to 34, 36, 37 of a line that fits its form
  kind_breaks : (l : Line) (k : LineKind) → forms.good_line (node_form P k) l ≡ true → (n : ℕ) → FirstTrue n (kind_tests P A d k l) → NodeBreaks P A d l n
  unfolding kind_tests GoodLeaf LeafHolds
  kind_breaks l short_line g n (after _ h) = elim h [ ]
  kind_breaks l crowd_line g n (after _ h) = elim h [ ]
  kind_breaks l stuck_line g n (after _ h) = elim h [ ]
  kind_breaks l ramp_line g n h = elim h [ ]
  kind_breaks l split_line g n (this e) =
      let w = was_split P l g in
      again (named (node_form P split_line) l 0) (named (node_form P split_line) l 1) w.unit w.period w.line (λ q. true_not_false _ e (ap is_fixed q))
  kind_breaks l split_line g n (after m h) = deep_breaks l g m n h
  kind_breaks l count_line g n (this e) =
      let w = was_count P l g in
      refusals.deeper_count (named (node_form P count_line) l 0) (counted (node_form P count_line) l) w.period w.few w.line (ltb-true 63 d e)
  kind_breaks l count_line g n (after b h) = count_breaks l g b n h
  kind_breaks l short_line g n (this e) =
      let w = was_one short_key P.periods l g in
      refusals.short_fails (named (node_form P short_line) l 0) w.range w.line (λ h. true_not_false _ (lt-ltb _ _ h.1) (not-true _ e))
  kind_breaks l crowd_line g n (this e) =
      let w = was_one crowd_key P.periods l g in
      let t = named (node_form P crowd_line) l 0 in
      refusals.crowd_fails t w.range w.line (λ h. true_not_false _ ((crowd_is P A t).1 h.1) (not-true _ e))
  kind_breaks l stuck_line g n (this e) =
      let w = was_one stuck_key (length P.units) l g in
      let b = stuck_at P.periods P.units A.marks (named (node_form P stuck_line) l 0) in
      refusals.stuck_fails (named (node_form P stuck_line) l 0) w.range w.line (λ h. true_not_false b (T_is b h) (not-true b e))
  kind_breaks l price_line g n h = absurd (first_every (λ _. ⊥) n [] tt h)

  first_breaks : (l : Line) (n : ℕ) → FirstTrue n (node_tests P A d (line_kind_of l) l) → NodeBreaks P A d l n
  first_breaks l n h = go (line_kind_of l) refl ((first_is (node_form P (line_kind_of l)) l (kind_tests P A d (line_kind_of l) l) n).0 h)
    where
      go : (k : LineKind) → line_kind_of l ≡ k
          → Unfit (node_form P k) l n ⊎ (((neg : Bool) × (vs : List ℕ) × unfit_laws.Fits (node_form P k) l neg vs) × FirstTrue n (kind_tests P A d k l))
          → NodeBreaks P A d l n
      go k e (inl u) = unfit_breaks k l e n u
      go k e (inr (t, f)) =
          let p = fits_passes (node_form P k) l t.0 t.1 t.2 in
          kind_breaks l k ((form_passes (node_form P k) l []).0 p).0 n f

  -- ---- from refusals to tests

  module _ (U t : ℕ) (h : U < length P.units) (k : t < P.periods) where
    abbrev on_split : Line
    on_split = ended (fork_line (status U t))

    on_split_good : forms.good_line (node_form P split_line) on_split ≡ true
    on_split_good = rendered_good (node_form P split_line) false (suc U ∷ suc t ∷ []) (split_fits P U t h k)

    split_mark : is_fixed (A.marks (named (node_form P split_line) on_split 0) (named (node_form P split_line) on_split 1)) ≡ is_fixed (A.marks U t)
    split_mark =
        let n = rendered_numbers (node_form P split_line) false (suc U ∷ suc t ∷ []) (split_fits P U t h k) in
        let u : named (node_form P split_line) on_split 0 ≡ U = ap (λ (vs : List ℕ). pred (vs at 0)) n ∙ omega arith in
        let v : named (node_form P split_line) on_split 1 ≡ t = ap (λ (vs : List ℕ). pred (vs at 1)) n ∙ omega arith in
        rw (u, v) refl

    again_first : (A.marks U t ≡ free → ⊥) → FirstTrue 31 (node_tests P A d (line_kind_of on_split) on_split)
    unfolding line_kind_of kind_tests
    again_first f = good_first (node_form P split_line) on_split (kind_tests P A d split_line on_split) 31 on_split_good (this (split_mark ∙ otherwise _ (λ e. f (free_mark _ e))))

    deep_first : A.marks U t ≡ free → 63 < d → FirstTrue 32 (node_tests P A d (line_kind_of on_split) on_split)
    unfolding line_kind_of kind_tests
    deep_first f b =
        good_first (node_form P split_line) on_split (kind_tests P A d split_line on_split) 32 on_split_good (after (split_mark ∙ ap is_fixed f) (this (lt-ltb 63 d b)))

  module _ (t K : ℕ) (h : t < P.periods) (k : K ≤ length P.units - 1) where
    abbrev on_count : Line
    on_count = ended (fork_line (count t K))

    on_count_good : forms.good_line (node_form P count_line) on_count ≡ true
    on_count_good = rendered_good (node_form P count_line) false (suc t ∷ K ∷ []) (count_fits P t K h k)

    deep_count_first : 63 < d → FirstTrue 32 (node_tests P A d (line_kind_of on_count) on_count)
    unfolding line_kind_of kind_tests
    deep_count_first b = good_first (node_form P count_line) on_count (kind_tests P A d count_line on_count) 32 on_count_good (this (lt-ltb 63 d b))

    narrower_first : d ≤ 63 → (Narrows A t K → ⊥) → FirstTrue 37 (node_tests P A d (line_kind_of on_count) on_count)
    unfolding line_kind_of kind_tests
    narrower_first b f =
        let n = rendered_numbers (node_form P count_line) false (suc t ∷ K ∷ []) (count_fits P t K h k) in
        let i = named (node_form P count_line) on_count 0 in
        let j = counted (node_form P count_line) on_count in
        let u : i ≡ t = ap (λ (vs : List ℕ). pred (vs at 0)) n ∙ omega arith in
        let v : j ≡ K = ap (λ (vs : List ℕ). vs at 1) n in
        let r : not (narrows (A.least i) (A.most i) j) ≡ true = rw (u, v) (otherwise _ (λ e. f ((narrows_is A t K).0 (not-false _ e)))) in
        good_first (node_form P count_line) on_count (kind_tests P A d count_line on_count) 37 on_count_good (after (le-ltb 63 d b) (this r))

  short_first : (t : ℕ) → GoodLeaf P (short t) → (LeafHolds P A (short t) → ⊥)
      → FirstTrue 33 (node_tests P A d (line_kind_of (ended (plain_line short_key (suc t ∷ [])))) (ended (plain_line short_key (suc t ∷ []))))
  unfolding line_kind_of kind_tests GoodLeaf LeafHolds
  short_first t h f =
      let l = ended (plain_line short_key (suc t ∷ [])) in
      let w = one_fits short_key P.periods t h in
      let i = named (node_form P short_line) l 0 in
      let v : i ≡ t = ap (λ (vs : List ℕ). pred (vs at 0)) (rendered_numbers (node_form P short_line) false (suc t ∷ []) w) ∙ omega arith in
      let r : not (ltb (available P A i) (P.demand at i + P.spare at i)) ≡ true =
      rw v (otherwise _ (λ e. f (h, ltb-true _ _ (not-false _ e)))) in
      good_first (node_form P short_line) l (kind_tests P A d short_line l) 33 (rendered_good (node_form P short_line) false (suc t ∷ []) w) (this r)

  crowd_first : (t : ℕ) → GoodLeaf P (crowd t) → (LeafHolds P A (crowd t) → ⊥)
      → FirstTrue 36 (node_tests P A d (line_kind_of (ended (plain_line crowd_key (suc t ∷ [])))) (ended (plain_line crowd_key (suc t ∷ []))))
  unfolding line_kind_of kind_tests GoodLeaf LeafHolds
  crowd_first t h f =
      let l = ended (plain_line crowd_key (suc t ∷ [])) in
      let w = one_fits crowd_key P.periods t h in
      let i = named (node_form P crowd_line) l 0 in
      let v : i ≡ t = ap (λ (vs : List ℕ). pred (vs at 0)) (rendered_numbers (node_form P crowd_line) false (suc t ∷ []) w) ∙ omega arith in
      let r : not (crowd_at P A i) ≡ true = rw v (otherwise _ (λ e. f (h, (crowd_is P A t).0 (not-false _ e)))) in
      good_first (node_form P crowd_line) l (kind_tests P A d crowd_line l) 36 (rendered_good (node_form P crowd_line) false (suc t ∷ []) w) (this r)

  stuck_first : (U : ℕ) → GoodLeaf P (stuck U) → (LeafHolds P A (stuck U) → ⊥)
      → FirstTrue 34 (node_tests P A d (line_kind_of (ended (plain_line stuck_key (suc U ∷ [])))) (ended (plain_line stuck_key (suc U ∷ []))))
  unfolding line_kind_of kind_tests GoodLeaf LeafHolds
  stuck_first U h f =
      let l = ended (plain_line stuck_key (suc U ∷ [])) in
      let w = one_fits stuck_key (length P.units) U h in
      let i = named (node_form P stuck_line) l 0 in
      let v : i ≡ U = ap (λ (vs : List ℕ). pred (vs at 0)) (rendered_numbers (node_form P stuck_line) false (suc U ∷ []) w) ∙ omega arith in
      let r : not (stuck_at P.periods P.units A.marks i) ≡ true =
      rw v (otherwise _ (λ e. let b = stuck_at P.periods P.units A.marks U in f (is_T b (not-false b e)))) in
      good_first (node_form P stuck_line) l (kind_tests P A d stuck_line l) 34 (rendered_good (node_form P stuck_line) false (suc U ∷ []) w) (this r)

  breaks_first : (l : Line) (n : ℕ) → NodeBreaks P A d l n → FirstTrue n (node_tests P A d (line_kind_of l) l)
  breaks_first l n (no_node h) = unfit_first (node_form P (line_kind_of l)) l (kind_tests P A d (line_kind_of l) l) 12 (h (line_kind_of l))
  breaks_first l n (unfit k neg vs r u) =
      subst (λ (i : LineKind). FirstTrue n (node_tests P A d i l)) (sym (kind_shown k l neg vs r)) (unfit_first (node_form P k) l (kind_tests P A d k l) n u)
  breaks_first l n (again U t h k e f) = subst (λ (x : Line). FirstTrue 31 (node_tests P A d (line_kind_of x) x)) (sym e) (again_first U t h k f)
  breaks_first l n (refusals.deeper U t g e b) = subst (λ (x : Line). FirstTrue 32 (node_tests P A d (line_kind_of x) x)) (sym e) (deep_first U t g.0 g.1 g.2 b)
  breaks_first l n (refusals.deeper_count t K h k e b) = subst (λ (x : Line). FirstTrue 32 (node_tests P A d (line_kind_of x) x)) (sym e) (deep_count_first t K h k b)
  breaks_first l n (refusals.short_fails t h e f) = subst (λ (x : Line). FirstTrue 33 (node_tests P A d (line_kind_of x) x)) (sym e) (short_first t h f)
  breaks_first l n (refusals.stuck_fails U h e f) = subst (λ (x : Line). FirstTrue 34 (node_tests P A d (line_kind_of x) x)) (sym e) (stuck_first U h f)
  breaks_first l n (refusals.crowd_fails t h e f) = subst (λ (x : Line). FirstTrue 36 (node_tests P A d (line_kind_of x) x)) (sym e) (crowd_first t h f)
  breaks_first l n (refusals.no_narrower t K h k b e f) = subst (λ (x : Line). FirstTrue 37 (node_tests P A d (line_kind_of x) x)) (sym e) (narrower_first t K h k b f)

  pub node_first : (F : Bounded) (ps : List Pending) (left : List Line) (n : ℕ)
      → FirstTrue n (tests_before (tests P) (next_due P) end (nodes_due F (pending A d ∷ ps)) left) ↔ NodeBreaks P A d (due left) n
  unfolding tests malformed
  node_first F ps [] n = (forth, λ b. alone (breaks_first missing n b))
    where
      forth : {n : ℕ} → FirstTrue n (12 if true ∷ []) → NodeBreaks P A d missing n
      forth (this e) = first_breaks missing 12 (this refl)
      forth (after e h) = true_not_false true refl e

      alone : {n : ℕ} {ts : List Test} → FirstTrue n (12 if true ∷ ts) → FirstTrue n (12 if true ∷ [])
      alone (this e) = this e
      alone (after e h) = true_not_false true refl e
  node_first F ps (x ∷ left) n = (first_breaks x n, breaks_first x n)

-- ---- a later line of a leaf

module _ (P : Instance) (some : 1 ≤ P.periods) (A : Above) where
  abbrev Tested : Part → Line → ℕ → Type 0
  Tested p l n = Unfit (part_form P p) l n ⊎ (((neg : Bool) × (vs : List ℕ) × unfit_laws.Fits (part_form P p) l neg vs) × FirstTrue n (leaf_tests P A p))

  abbrev stuck_there : Bool
  stuck_there = any_stuck P.periods P.units A.marks

  -- the leaf that a last line ends, where it fits its form
  ended_leaf : (p : Part) (l : Line) → forms.good_line (part_form P p) l ≡ true → is_last P p ≡ true
      → (x : Leaf) × Ends P l p x × ((LeafHolds P A x → ⊥) ≡ ((T (not stuck_there)) → ⊥))
  unfolding LeafHolds
  ended_leaf (priced q) l g e =
      let w = plain_was reserve_key P.periods 0 1000000000 l g in
      let s = numbers_of (part_form P (priced q)) l in
      (price q s, price_ends q s (was_multipliers P reserve_key l w) w.line, refl)
  ended_leaf (ramp_priced q) l g e =
      let w = plain_was reserve_key P.periods 0 1000000000 l g in
      let s = numbers_of (part_form P (ramp_priced q)) l in
      (ramp q s [], ramp_ends q s (eqb-true (ramped P) 0 e) (was_multipliers P reserve_key l w) w.line, refl)
  ended_leaf (with_steps q s k) l g e = absurd (let z : ◌≡◌ {A = ℕ} 0 1 = cc in omega arith)
  ended_leaf (with_ups q s k x) l g e =
      let w = plain_was down_key (pred P.periods) 0 1000000000 l g in
      let y = numbers_of (part_form P (with_ups q s k x)) l in
      (ramp q s (k ++ (record { up = x; down = y } ∷ [])), steps_end q s k x y (eqb-true (ramped P) (suc (length k)) e) (were_many (pred P.periods) down_key l w) w.line, refl)

  -- 35 of a line that fits its form
  leaf_breaks : (p : Part) (l : Line) → forms.good_line (part_form P p) l ≡ true → (n : ℕ) → FirstTrue n (leaf_tests P A p) → PartBreaks P A l p n
  unfolding leaf_tests
  leaf_breaks p l g n (this e) =
      let both = and_both (is_last P p) stuck_there e in
      let r = ended_leaf p l g both.0 in
      some_stuck r.0 r.1 (transport (sym r.2) (λ h. true_not_false stuck_there both.1 (T_not stuck_there h)))
  leaf_breaks p l g n (after _ x) = elim x [ ]

  judged_breaks : (p : Part) (l : Line) (n : ℕ) → Tested p l n → PartBreaks P A l p n
  judged_breaks p l n (inl u) = unfit_part u
  judged_breaks p l n (inr (t, f)) = leaf_breaks p l ((form_passes (part_form P p) l []).0 (fits_passes (part_form P p) l t.0 t.1 t.2)).0 n f

  -- 35 refuses a last line where a unit is stuck
  last_refused : (p : Part) (vs : List ℕ) → Fits (part_form P p) false vs → is_last P p ≡ true → (T (not stuck_there) → ⊥)
      → FirstTrue 35 (part_tests P A p (rendered_line (part_form P p) false vs))
  unfolding leaf_tests
  last_refused p vs w e f =
      good_first (part_form P p) (rendered_line (part_form P p) false vs) (leaf_tests P A p) 35 (rendered_good (part_form P p) false vs w)
      (this (rw (e, otherwise stuck_there (λ e. f (not_T stuck_there e))) refl))

  stuck_refused : (p : Part) (l : Line) (x : Leaf) → Ends P l p x → (LeafHolds P A x → ⊥) → FirstTrue 35 (part_tests P A p l)
  unfolding LeafHolds
  stuck_refused p l x (price_ends q s m e) f =
      subst (λ (y : Line). FirstTrue 35 (part_tests P A p y)) (sym e) (last_refused (priced q) s (multipliers_fit P reserve_key some s m) refl f)
  stuck_refused p l x (ramp_ends q s n m e) f =
      subst (λ (y : Line). FirstTrue 35 (part_tests P A p y)) (sym e) (last_refused (ramp_priced q) s (multipliers_fit P reserve_key some s m) (eq-eqb (ramped P) 0 n) f)
  stuck_refused p l x (steps_end q s k u y n m e) f =
      let w = many_fit (pred P.periods) down_key (two_periods P some (omega (arith, n))) y m in
      subst (λ (z : Line). FirstTrue 35 (part_tests P A p z)) (sym e) (last_refused (with_ups q s k u) y w (eq-eqb (ramped P) (suc (length k)) n) f)

  -- no leaf ends with a line that is missing
  none_ends : (p : Part) (x : Leaf) → Ends P missing p x → ⊥
  none_ends p x (price_ends q s m e) = absurd (let z : ◌≡◌ {A = ℕ} 0 1 = cc in omega arith)
  none_ends p x (ramp_ends q s n m e) = absurd (let z : ◌≡◌ {A = ℕ} 0 1 = cc in omega arith)
  none_ends p x (steps_end q s k u y n m e) = absurd (let z : ◌≡◌ {A = ℕ} 0 1 = cc in omega arith)

  pub part_first : (F : Bounded) (ps : List Pending) (p : Part) (left : List Line) (n : ℕ)
      → FirstTrue n (tests_before (tests P) (next_due P) end (part_due F A p ps) left) ↔ PartBreaks P A (due left) p n
  unfolding tests
  part_first F ps p left n = (λ h. judged_breaks p (due left) n ((law p left n).0 h), back p left n)
    where
      law : (p : Part) (left : List Line) (n : ℕ) → FirstTrue n (tests_before (tests P) (next_due P) end (part_due F A p ps) left) ↔ Tested p (due left) n
      law p = numbers_first (tests P) (next_due P) end (part_due F A p ps) (part_form P p) (λ l. leaf_tests P A p) refl (λ l. refl)

      back : (p : Part) (left : List Line) (n : ℕ) → PartBreaks P A (due left) p n → FirstTrue n (tests_before (tests P) (next_due P) end (part_due F A p ps) left)
      back p left n (unfit_part u) = (law p left n).1 (inl u)
      back p [] n (some_stuck x e f) = absurd (none_ends p x e)
      back p (y ∷ left) n (some_stuck x e f) = stuck_refused p y x e f
