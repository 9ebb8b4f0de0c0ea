-- The line of a fork within the limits is good at its place, so are the lines of a leaf whose rule holds, and a good line is so written: one law each
-- way for any fork and any leaf.
use mathlib.Core.Path.{◌≡◌, refl, sym, ap, subst, ◌∙◌}
use mathlib.Core.Bool.{Bool, true, false, not, cond, ◌&&◌}
use mathlib.Core.List.{List, [], ◌∷◌, ◌++◌, map}
use mathlib.Core.Logic.{◌↔◌, ◌⊎◌, inl, inr}
use mathlib.Core.Option as option
use Prim.Native.Nat.{ℕ, suc, pred, ◌+◌, ◌-◌, ◌≤◌, ◌<◌}
use native.Mathlib.Omega.{arith}
use lib.Dec.{T, eqb, ltb}
use lib.ListN.{length}
use borrow.Author.Tests.{lt-ltb, ltb-true, le-ltb, ltb-false, not-false, eqb-true}
use Rattle.model.specs.Instance.{Instance, ◌at◌}
use Rattle.model.specs.Above.{Mark, free, fixed, Above, Fork, status, count, BelowMost}
use Rattle.model.specs.Ranges.{All}
use Rattle.model.specs.Leaf.{available, stuck_at, any_stuck}
use Rattle.model.specs.Ramps.{RampPrices}
use Rattle.model.specs.Tree.{Leaf, short, crowd, stuck, price, ramp, Narrows, GoodFork, Multipliers, StepMultipliers, ramped, GoodLeaf, LeafHolds}
use Rattle.leaves.specs.LeafLeasts.{crowd_at}
use Rattle.leaves.proofs.Crowds.{crowd_is}
use Rattle.text.specs.Lines.{Line, ended}
use Rattle.text.specs.Forms.{numbers_of}
use Rattle.text.specs.Forms as forms
use Rattle.text.specs.Course.{good}
use Rattle.text.specs.Rendering.{plain_line}
use Rattle.text.specs.Tests.{None, Passed, none_yet}
use Rattle.text.proofs.Accepted.{Fits, rendered_line, rendered_good, rendered_numbers}
use Rattle.text.proofs.Courses.{good_more}
use Rattle.text.proofs.Tests.{none_good, good_none}
use Rattle.text.proofs.Cuts.{and_both}
use Rattle.text.proofs.Plain.{plain_was, plain_passed}
use Rattle.text.proofs.Verdicts.{form_passes}
use Rattle.tree.specs.Rendering.{split_key, count_key, short_key, crowd_key, stuck_key, price_key, reserve_key, rampprice_key, up_key, down_key, fork_line, leaf_lines}
use Rattle.tree.specs.Places.{Part, priced, ramp_priced, with_steps, with_ups}
use Rattle.tree.specs.NodeLines.{line_kind_of, named, counted, is_fixed, below_most, narrows, kind_tests, node_tests, is_last, leaf_tests, part_tests}
use Rattle.tree.specs.Refusals.{LineKind, split_line, count_line, short_line, crowd_line, stuck_line, price_line, ramp_line, node_form, part_form}
use Rattle.tree.specs.Course.{Pending, pending, Due, nodes_due, part_due, after_fork, after_leaf, after_numbers, tests, next_due, after_node, after_part, judge, end}
use Rattle.tree.specs.Acceptance.{Bounded}
use Rattle.tree.proofs.StepLines.{one_longer, steps_behind, ramp_passes}
use Rattle.tree.proofs.Lines.{multipliers_fit, were_many, was_multipliers, one_fits, was_one, two_fits, was_two}

-- ---- tests and facts

pub T_is : (b : Bool) → T b → b ≡ true
T_is true h = refl
T_is false h = absurd h

pub is_T : (b : Bool) → b ≡ true → T b
is_T b e = rw e tt

pub T_not : (b : Bool) → T (not b) → b ≡ false
T_not true h = absurd h
T_not false h = refl

pub not_T : (b : Bool) → b ≡ false → T (not b)
not_T b e = rw e tt

pub free_mark : (m : Mark) → is_fixed m ≡ false → m ≡ free
free_mark free e = refl
free_mark (fixed b) e = absurd (let z : ◌≡◌ {A = ℕ} 0 1 = cc in omega arith)

-- a count's test says what the definition does (37)
pub narrows_is : (A : Above) (t K : ℕ) → (narrows (A.least t) (A.most t) K ≡ true) ↔ Narrows A t K
narrows_is A t K = (forth, back)
  where
    below : (H : option.Option ℕ) → (below_most K H ≡ true) ↔ BelowMost K H
    below option.none = ((λ e. tt), (λ h. refl))
    below (option.some H) = ((λ e. ltb-true K H e), (λ h. lt-ltb K H h))

    forth : narrows (A.least t) (A.most t) K ≡ true → Narrows A t K
    forth e =
        let p = and_both (not (ltb K (A.least t))) (below_most K (A.most t)) e in
        (ltb-false K (A.least t) (T_not (ltb K (A.least t)) (is_T (not (ltb K (A.least t))) p.0)), (below (A.most t)).0 p.1)

    back : Narrows A t K → narrows (A.least t) (A.most t) K ≡ true
    back (h, k) = rw (le-ltb K (A.least t) h, (below (A.most t)).1 k) refl

suc_pred : (n : ℕ) → 1 ≤ n → suc (pred n) ≡ n
suc_pred n h = omega arith

-- ---- a split line

module _ (P : Instance) where
  pub split_fits : (U t : ℕ) → U < length P.units → t < P.periods → Fits (node_form P split_line) false (suc U ∷ suc t ∷ [])
  split_fits U t h k = two_fits split_key 1 (length P.units) 1 P.periods (suc U) (suc t) (omega arith) h (omega arith) k

  pub record WasSplit (l : Line) : Type 0 where
    pub line : l ≡ ended (plain_line split_key (suc (named (node_form P split_line) l 0) ∷ suc (named (node_form P split_line) l 1) ∷ []))
    pub first : 1 ≤ numbers_of (node_form P split_line) l at 0
    pub second : 1 ≤ numbers_of (node_form P split_line) l at 1
    pub unit : named (node_form P split_line) l 0 < length P.units
    pub period : named (node_form P split_line) l 1 < P.periods

  pub was_split : (l : Line) → forms.good_line (node_form P split_line) l ≡ true → WasSplit l
  was_split l p =
      let w = was_two split_key 1 (length P.units) 1 P.periods l p in
      let f = node_form P split_line in
      let m : suc (named f l 0) ≡ numbers_of f l at 0 = suc_pred (numbers_of f l at 0) w.first.0 in
      let n : suc (named f l 1) ≡ numbers_of f l at 1 = suc_pred (numbers_of f l at 1) w.second.0 in
      record {
        line = rw (m, n) w.line;
        first = w.first.0;
        second = w.second.0;
        unit = omega (arith, m, w.first.1);
        period = omega (arith, n, w.second.1);
      }

-- ---- a count line

module _ (P : Instance) where
  pub count_fits : (t K : ℕ) → t < P.periods → K ≤ length P.units - 1 → Fits (node_form P count_line) false (suc t ∷ K ∷ [])
  count_fits t K h k = two_fits count_key 1 P.periods 0 (length P.units - 1) (suc t) K (omega arith) h (omega arith) k

  pub record WasCount (l : Line) : Type 0 where
    pub line : l ≡ ended (plain_line count_key (suc (named (node_form P count_line) l 0) ∷ counted (node_form P count_line) l ∷ []))
    pub first : 1 ≤ numbers_of (node_form P count_line) l at 0
    pub period : named (node_form P count_line) l 0 < P.periods
    pub few : counted (node_form P count_line) l ≤ length P.units - 1

  pub was_count : (l : Line) → forms.good_line (node_form P count_line) l ≡ true → WasCount l
  was_count l p =
      let w = was_two count_key 1 P.periods 0 (length P.units - 1) l p in
      let f = node_form P count_line in
      let m : suc (named f l 0) ≡ numbers_of f l at 0 = suc_pred (numbers_of f l at 0) w.first.0 in
      record {
        line = rw m w.line;
        first = w.first.0;
        period = omega (arith, m, w.first.1);
        few = w.second.1;
      }

-- ---- what a part of a leaf has

-- the lines of it
abbrev pub part_lines : Part → List (List ℕ)
part_lines (priced q) = plain_line price_key q ∷ []
part_lines (ramp_priced q) = plain_line rampprice_key q ∷ []
part_lines (with_steps q s k) = leaf_lines (ramp q s k)
part_lines (with_ups q s k x) = leaf_lines (ramp q s k) ++ (plain_line up_key x ∷ [])

-- the multipliers of these units' steps in range
abbrev pub GoodSteps : Instance → List RampPrices → Type 0
GoodSteps P k = All (λ x. StepMultipliers P x.up × StepMultipliers P x.down) k

-- its numbers in range
abbrev pub GoodPart : Instance → Part → Type 0
GoodPart P (priced q) = Multipliers P q
GoodPart P (ramp_priced q) = Multipliers P q
GoodPart P (with_steps q s k) = Multipliers P q × Multipliers P s × GoodSteps P k
GoodPart P (with_ups q s k x) = Multipliers P q × Multipliers P s × GoodSteps P k × StepMultipliers P x

pub good_more_steps : (P : Instance) (k : List RampPrices) (x : RampPrices) → GoodSteps P k → StepMultipliers P x.up → StepMultipliers P x.down → GoodSteps P (k ++ (x ∷ []))
good_more_steps P [] x g u d = ((u, d), tt)
good_more_steps P (y ∷ k) x g u d = (g.0, good_more_steps P k x g.1 u d)

module _ (P : Instance) (F : Bounded) (A : Above) (d : ℕ) (ps : List Pending) where
  -- what stands at the place, judged
  abbrev pub At : Line → Due → Type 0
  At l s = judge P (nodes_due F (pending A d ∷ ps)) l ≡ good s

  -- ---- the lines of a fork and of a leaf within the limits and with its rule are good

  pub fork_good : (f : Fork) → GoodFork P A f → d ≤ 63 → At (ended (fork_line f)) (after_fork F (pending A d) ps f)
  unfolding judge tests next_due line_kind_of after_node kind_tests
  fork_good (status U t) g b =
      let f = node_form P split_line in
      let l = ended (fork_line (status U t)) in
      let w = split_fits P U t g.0 g.1 in
      let p = rendered_good f false (suc U ∷ suc t ∷ []) w in
      let n = rendered_numbers f false (suc U ∷ suc t ∷ []) w in
      let u : named f l 0 ≡ U = ap (λ (vs : List ℕ). pred (vs at 0)) n ∙ omega arith in
      let v : named f l 1 ≡ t = ap (λ (vs : List ℕ). pred (vs at 1)) n ∙ omega arith in
      let r : is_fixed (A.marks (named f l 0) (named f l 1)) ≡ false = rw (u, v, g.2) refl in
      none_good (after_node P F (pending A d) ps split_line l) (node_tests P A d split_line l)
      ((form_passes f l (kind_tests P A d split_line l)).1 (p, (r, (le-ltb 63 d b, tt))))
      ∙ rw (u, v) refl
  fork_good (count t K) g b =
      let f = node_form P count_line in
      let l = ended (fork_line (count t K)) in
      let w = count_fits P t K g.0 g.1 in
      let p = rendered_good f false (suc t ∷ K ∷ []) w in
      let n = rendered_numbers f false (suc t ∷ K ∷ []) w in
      let u : named f l 0 ≡ t = ap (λ (vs : List ℕ). pred (vs at 0)) n ∙ omega arith in
      let v : counted f l ≡ K = ap (λ (vs : List ℕ). vs at 1) n in
      let r : not (narrows (A.least (named f l 0)) (A.most (named f l 0)) (counted f l)) ≡ false = rw (u, v) (ap not ((narrows_is A t K).1 g.2)) in
      none_good (after_node P F (pending A d) ps count_line l) (node_tests P A d count_line l)
      ((form_passes f l (kind_tests P A d count_line l)).1 (p, (le-ltb 63 d b, (r, tt))))
      ∙ rw (u, v) refl

  pub short_good : (t : ℕ) → LeafHolds P A (short t) → At (ended (plain_line short_key (suc t ∷ []))) (after_leaf P F A ps (short t))
  unfolding judge tests next_due line_kind_of after_node kind_tests LeafHolds
  short_good t h =
      let f = node_form P short_line in
      let l = ended (plain_line short_key (suc t ∷ [])) in
      let w = one_fits short_key P.periods t h.0 in
      let p = rendered_good f false (suc t ∷ []) w in
      let v : named f l 0 ≡ t = ap (λ (vs : List ℕ). pred (vs at 0)) (rendered_numbers f false (suc t ∷ []) w) ∙ omega arith in
      let r : not (ltb (available P A (named f l 0)) (P.demand at (named f l 0) + P.spare at (named f l 0))) ≡ false =
      rw v (ap not (lt-ltb _ _ h.1))
      in
      none_good (after_node P F (pending A d) ps short_line l) (node_tests P A d short_line l)
      ((form_passes f l (kind_tests P A d short_line l)).1 (p, (r, tt)))
      ∙ ap (λ (i : ℕ). good (after_leaf P F A ps (short i))) v

  pub crowd_good : (t : ℕ) → LeafHolds P A (crowd t) → At (ended (plain_line crowd_key (suc t ∷ []))) (after_leaf P F A ps (crowd t))
  unfolding judge tests next_due line_kind_of after_node kind_tests LeafHolds
  crowd_good t h =
      let f = node_form P crowd_line in
      let l = ended (plain_line crowd_key (suc t ∷ [])) in
      let w = one_fits crowd_key P.periods t h.0 in
      let p = rendered_good f false (suc t ∷ []) w in
      let v : named f l 0 ≡ t = ap (λ (vs : List ℕ). pred (vs at 0)) (rendered_numbers f false (suc t ∷ []) w) ∙ omega arith in
      let r : not (crowd_at P A (named f l 0)) ≡ false = rw v (ap not ((crowd_is P A t).1 h.1)) in
      none_good (after_node P F (pending A d) ps crowd_line l) (node_tests P A d crowd_line l)
      ((form_passes f l (kind_tests P A d crowd_line l)).1 (p, (r, tt)))
      ∙ ap (λ (i : ℕ). good (after_leaf P F A ps (crowd i))) v

  pub stuck_good : (U : ℕ) → GoodLeaf P (stuck U) → LeafHolds P A (stuck U) → At (ended (plain_line stuck_key (suc U ∷ []))) (after_leaf P F A ps (stuck U))
  unfolding judge tests next_due line_kind_of after_node kind_tests GoodLeaf LeafHolds
  stuck_good U h k =
      let f = node_form P stuck_line in
      let l = ended (plain_line stuck_key (suc U ∷ [])) in
      let w = one_fits stuck_key (length P.units) U h in
      let p = rendered_good f false (suc U ∷ []) w in
      let v : named f l 0 ≡ U = ap (λ (vs : List ℕ). pred (vs at 0)) (rendered_numbers f false (suc U ∷ []) w) ∙ omega arith in
      let r : not (stuck_at P.periods P.units A.marks (named f l 0)) ≡ false = rw v (ap not (T_is (stuck_at P.periods P.units A.marks U) k)) in
      none_good (after_node P F (pending A d) ps stuck_line l) (node_tests P A d stuck_line l)
      ((form_passes f l (kind_tests P A d stuck_line l)).1 (p, (r, tt)))
      ∙ ap (λ (i : ℕ). good (after_leaf P F A ps (stuck i))) v

  pub price_good : 1 ≤ P.periods → (q : List ℕ) → Multipliers P q → At (ended (plain_line price_key q)) (part_due F A (priced q) ps)
  unfolding judge tests next_due line_kind_of after_node kind_tests
  price_good some q m =
      let f = node_form P price_line in
      let l = ended (plain_line price_key q) in
      let w = multipliers_fit P price_key some q m in
      let p = rendered_good f false q w in
      none_good (after_node P F (pending A d) ps price_line l) (node_tests P A d price_line l)
      ((form_passes f l (kind_tests P A d price_line l)).1 (p, tt))
      ∙ ap (λ (vs : List ℕ). good (part_due F A (priced vs) ps)) (rendered_numbers f false q w)

  pub ramp_good : 1 ≤ P.periods → (q : List ℕ) → Multipliers P q → At (ended (plain_line rampprice_key q)) (part_due F A (ramp_priced q) ps)
  unfolding judge tests next_due line_kind_of after_node kind_tests
  ramp_good some q m =
      let f = node_form P ramp_line in
      let l = ended (plain_line rampprice_key q) in
      let w = multipliers_fit P rampprice_key some q m in
      let p = rendered_good f false q w in
      none_good (after_node P F (pending A d) ps ramp_line l) (node_tests P A d ramp_line l)
      ((form_passes f l (kind_tests P A d ramp_line l)).1 (p, tt))
      ∙ ap (λ (vs : List ℕ). good (part_due F A (ramp_priced vs) ps)) (rendered_numbers f false q w)

  -- a later line of a leaf, which is not the last or whose leaf has no stuck unit
  pub part_good : (p : Part) (vs : List ℕ) → Fits (part_form P p) false vs → (is_last P p && any_stuck P.periods P.units A.marks) ≡ false
      → judge P (part_due F A p ps) (rendered_line (part_form P p) false vs) ≡ good (after_numbers P F A p ps vs)
  unfolding judge tests next_due after_part leaf_tests
  part_good p vs w e =
      let f = part_form P p in
      let l = rendered_line f false vs in
      none_good (next_due P (part_due F A p ps) l) (part_tests P A p l)
      ((form_passes f l (leaf_tests P A p)).1 (rendered_good f false vs w, (e, tt)))
      ∙ ap (λ (ws : List ℕ). good (after_numbers P F A p ps ws)) (rendered_numbers f false vs w)

  pub reserve_good : 1 ≤ P.periods → (q s : List ℕ) → Multipliers P s → LeafHolds P A (price q s)
      → judge P (part_due F A (priced q) ps) (ended (plain_line reserve_key s)) ≡ good (after_leaf P F A ps (price q s))
  unfolding LeafHolds
  reserve_good some q s m k = part_good (priced q) s (multipliers_fit P reserve_key some s m) (T_not _ k)

  -- where a line is not the last, or no unit is stuck, 35 does not refuse it
  unstuck : (c : Bool) → (c ≡ false) ⊎ (any_stuck P.periods P.units A.marks ≡ false) → (c && any_stuck P.periods P.units A.marks) ≡ false
  unstuck true (inl e) = absurd (let z : ◌≡◌ {A = ℕ} 0 1 = cc in omega arith)
  unstuck true (inr f) = f
  unstuck false o = refl

  part_none : (p : Part) (vs : List ℕ) → Fits (part_form P p) false vs → (is_last P p && any_stuck P.periods P.units A.marks) ≡ false
      → None (tests P (part_due F A p ps) (rendered_line (part_form P p) false vs))
  unfolding judge
  part_none p vs w e = (good_none _ _ (tests P (part_due F A p ps) (rendered_line (part_form P p) false vs)) (part_good p vs w e)).0

  pub leaf_good : 1 ≤ P.periods → (x : Leaf) → GoodLeaf P x → LeafHolds P A x
      → Passed (tests P) (next_due P) (nodes_due F (pending A d ∷ ps)) (map ended (leaf_lines x)) (after_leaf P F A ps x)
  unfolding judge GoodLeaf LeafHolds
  leaf_good some (short t) g h = good_more (tests P) (next_due P) end (short_good t h) none_yet
  leaf_good some (crowd t) g h = good_more (tests P) (next_due P) end (crowd_good t h) none_yet
  leaf_good some (stuck U) g h = good_more (tests P) (next_due P) end (stuck_good U g h) none_yet
  leaf_good some (price q s) g h =
      good_more (tests P) (next_due P) end (price_good some q g.0) (good_more (tests P) (next_due P) end (reserve_good some q s g.1 h) none_yet)
  leaf_good some (ramp q s l) g h =
      let free : any_stuck P.periods P.units A.marks ≡ false = T_not _ h in
      good_more (tests P) (next_due P) end (ramp_good some q g.0)
      (ramp_passes P F A ps (tests P) (any_stuck P.periods P.units A.marks ≡ false) (λ p vs w ok. part_none p vs w (unstuck (is_last P p) ok)) some q s l g.1 g.2 free)

  -- ---- a line that is good where a node is due is a fork's, or a leaf's of one line, or it begins a leaf of more

  pub data NodeWas (l : Line) : Due → Type 0 where
    fork_was : (f : Fork) → l ≡ ended (fork_line f) → GoodFork P A f → d ≤ 63 → NodeWas l (after_fork F (pending A d) ps f)
    leaf_was : (x : Leaf) (b : List ℕ) → leaf_lines x ≡ b ∷ [] → l ≡ ended b → GoodLeaf P x → LeafHolds P A x → NodeWas l (after_leaf P F A ps x)
    part_was : (p : Part) (b : List ℕ) → part_lines p ≡ b ∷ [] → l ≡ ended b → GoodPart P p → NodeWas l (part_due F A p ps)

  by_kind : (k : LineKind) (l : Line) → None (node_tests P A d k l) → NodeWas l (after_node P F (pending A d) ps k l)
  unfolding after_node kind_tests GoodLeaf LeafHolds
  by_kind split_line l n =
      let g = (form_passes (node_form P split_line) l (kind_tests P A d split_line l)).0 n in
      let w = was_split P l g.0 in
      fork_was (status (named (node_form P split_line) l 0) (named (node_form P split_line) l 1)) w.line (w.unit, w.period, free_mark _ g.1.0) (ltb-false 63 d g.1.1.0)
  by_kind count_line l n =
      let f = node_form P count_line in
      let g = (form_passes f l (kind_tests P A d count_line l)).0 n in
      let w = was_count P l g.0 in
      fork_was (count (named f l 0) (counted f l)) w.line (w.period, w.few, (narrows_is A (named f l 0) (counted f l)).0 (not-false _ g.1.1.0))
      (ltb-false 63 d g.1.0)
  by_kind short_line l n =
      let g = (form_passes (node_form P short_line) l (kind_tests P A d short_line l)).0 n in
      let w = was_one short_key P.periods l g.0 in
      let t = named (node_form P short_line) l 0 in
      leaf_was (short t) (plain_line short_key (suc t ∷ [])) refl w.line w.range (w.range, ltb-true _ _ (not-false _ g.1.0))
  by_kind crowd_line l n =
      let g = (form_passes (node_form P crowd_line) l (kind_tests P A d crowd_line l)).0 n in
      let w = was_one crowd_key P.periods l g.0 in
      let t = named (node_form P crowd_line) l 0 in
      leaf_was (crowd t) (plain_line crowd_key (suc t ∷ [])) refl w.line w.range (w.range, (crowd_is P A t).0 (not-false _ g.1.0))
  by_kind stuck_line l n =
      let g = (form_passes (node_form P stuck_line) l (kind_tests P A d stuck_line l)).0 n in
      let w = was_one stuck_key (length P.units) l g.0 in
      let U = named (node_form P stuck_line) l 0 in
      let b = stuck_at P.periods P.units A.marks U in
      leaf_was (stuck U) (plain_line stuck_key (suc U ∷ [])) refl w.line w.range (is_T b (not-false b g.1.0))
  by_kind price_line l n =
      let w = plain_passed price_key P.periods 0 1000000000 l (kind_tests P A d price_line l) n in
      let q = numbers_of (node_form P price_line) l in
      part_was (priced q) (plain_line price_key q) refl w.line (was_multipliers P price_key l w)
  by_kind ramp_line l n =
      let w = plain_passed rampprice_key P.periods 0 1000000000 l (kind_tests P A d ramp_line l) n in
      let q = numbers_of (node_form P ramp_line) l in
      part_was (ramp_priced q) (plain_line rampprice_key q) refl w.line (was_multipliers P rampprice_key l w)

  pub node_was : (l : Line) (s : Due) → At l s → NodeWas l s
  unfolding judge tests next_due
  node_was l s e =
      let g = good_none (after_node P F (pending A d) ps (line_kind_of l) l) s (node_tests P A d (line_kind_of l) l) e in
      subst (λ (x : Due). NodeWas l x) g.1 (by_kind (line_kind_of l) l g.0)

  -- a line that fits its form after a part of a leaf ends the leaf, of which then `Ok` holds, or makes the part longer
  pub data PartWas (Ok : Leaf → Type 0) (p : Part) (l : Line) : Due → Type 0 where
    ends_leaf : (x : Leaf) (b : List ℕ) → leaf_lines x ≡ part_lines p ++ (b ∷ []) → l ≡ ended b → (GoodPart P p → GoodLeaf P x) → Ok x
        → PartWas Ok p l (after_leaf P F A ps x)
    goes_on : (r : Part) (b : List ℕ) → part_lines r ≡ part_lines p ++ (b ∷ []) → l ≡ ended b → (GoodPart P p → GoodPart P r) → PartWas Ok p l (part_due F A r ps)

  module _ (Ok : Leaf → Type 0) where
    -- where these units have both lines, by whether they are all
    units_said : (p : Part) (l : Line) (q s : List ℕ) (k : List RampPrices) (b : List ℕ) → leaf_lines (ramp q s k) ≡ part_lines p ++ (b ∷ []) → l ≡ ended b
        → (GoodPart P p → Multipliers P q × Multipliers P s × GoodSteps P k) → (c : Bool) → eqb (ramped P) (length k) ≡ c → (c ≡ true → Ok (ramp q s k))
        → PartWas Ok p l (cond c (after_leaf P F A ps (ramp q s k)) (part_due F A (with_steps q s k) ps))
    unfolding GoodLeaf
    units_said p l q s k b n e g true c o =
        ends_leaf (ramp q s k) b n e (λ m. let w = g m in (w.0, w.1, (sym (eqb-true (ramped P) (length k) c), w.2))) (o refl)
    units_said p l q s k b n e g false c o = goes_on (with_steps q s k) b n e g

    pub by_part : (p : Part) (l : Line) → forms.good_line (part_form P p) l ≡ true
        → (is_last P p ≡ true → (q s : List ℕ) → Ok (price q s) × ((k : List RampPrices) → Ok (ramp q s k))) → PartWas Ok p l (after_part P F A p ps l)
    unfolding after_part GoodLeaf
    by_part (priced q) l g o =
        let f = part_form P (priced q) in
        let w = plain_was reserve_key P.periods 0 1000000000 l g in
        ends_leaf (price q (numbers_of f l)) (plain_line reserve_key (numbers_of f l)) refl w.line (λ m. (m, was_multipliers P reserve_key l w)) (o refl q (numbers_of f l)).0
    by_part (ramp_priced q) l g o =
        let s = numbers_of (part_form P (ramp_priced q)) l in
        let w = plain_was reserve_key P.periods 0 1000000000 l g in
        units_said (ramp_priced q) l q s [] (plain_line reserve_key s) refl w.line (λ m. (m, was_multipliers P reserve_key l w, tt)) (eqb (ramped P) 0) refl (λ e. (o e q s).1 [])
    by_part (with_steps q s k) l g o =
        let x = numbers_of (part_form P (with_steps q s k)) l in
        let w = plain_was up_key (pred P.periods) 0 1000000000 l g in
        goes_on (with_ups q s k x) (plain_line up_key x) refl w.line (λ m. (m.0, m.1, m.2, were_many (pred P.periods) up_key l w))
    by_part (with_ups q s k x) l g o =
        let y = numbers_of (part_form P (with_ups q s k x)) l in
        let w = plain_was down_key (pred P.periods) 0 1000000000 l g in
        let z : RampPrices = record { up = x; down = y } in
        units_said (with_ups q s k x) l q s (k ++ (z ∷ [])) (plain_line down_key y) (steps_behind q s k z) w.line
        (λ m. (m.0, m.1, good_more_steps P k z m.2 m.3 (were_many (pred P.periods) down_key l w))) (eqb (ramped P) (length (k ++ (z ∷ [])))) refl
        (λ e. (o (ap (eqb (ramped P)) (sym (one_longer k z)) ∙ e) q s).1 (k ++ (z ∷ [])))

  -- where all tests pass, the leaf that it ends holds
  pub holds_at_last : (p : Part) (l : Line) → None (part_tests P A p l) → is_last P p ≡ true → (q s : List ℕ) → LeafHolds P A (price q s) × ((k : List RampPrices) → LeafHolds P A (ramp q s k))
  unfolding leaf_tests LeafHolds
  holds_at_last p l n e q s =
      let b = any_stuck P.periods P.units A.marks in
      let h : (is_last P p && b) ≡ false = ((form_passes (part_form P p) l (leaf_tests P A p)).0 n).1.0 in
      let r : T (not b) = not_T b (ap (λ (c : Bool). c && b) (sym e) ∙ h) in
      (r, λ k. r)

  pub part_was_line : (p : Part) (l : Line) (s : Due) → judge P (part_due F A p ps) l ≡ good s → PartWas (LeafHolds P A) p l s
  unfolding judge tests next_due leaf_tests
  part_was_line p l s e =
      let g = good_none (after_part P F A p ps l) s (part_tests P A p l) e in
      subst (λ (x : Due). PartWas (LeafHolds P A) p l x) g.1
      (by_part (LeafHolds P A) p l ((form_passes (part_form P p) l (leaf_tests P A p)).0 g.0).0 (holds_at_last p l g.0))
