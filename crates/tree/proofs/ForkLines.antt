-- A fork's line at its place: one law for each way through its reader, and what its reader's answer says.
use mathlib.Core.Path.{◌≡◌, refl, sym, ap, subst, ◌∙◌}
use mathlib.Core.Bool.{Bool, true, false, not, cond}
use mathlib.Core.List.{List, [], ◌∷◌}
use Prim.Native.Nat.{ℕ, suc, pred, ◌+◌, ◌*◌, ◌-◌, ◌≤◌, ◌<◌}
use native.Mathlib.Omega.{arith}
use lib.Dec.{ltb}
use lib.ListN.{length, set}
use borrow.Author.Tests.{ltb-false}
use Rattle.model.specs.Instance.{Instance, ◌at◌}
use Rattle.model.specs.Ranges.{WellFormed}
use Rattle.model.specs.Above.{Above, Fork, status, count, side}
use Rattle.walk.specs.Marks.{mark_of, upper_begin, lower_begin, above_length, above_of}
use Rattle.text.specs.Lines.{line_at}
use Rattle.text.specs.Forms.{numbers_of, place_after}
use Rattle.text.specs.Forms as forms
use Rattle.text.specs.Course.{Found, refused, good}
use Rattle.text.specs.Tests.{Test, ◌if◌, None, found}
use Rattle.text.proofs.Tests.{found_refused_is, none_good, good_none}
use Rattle.text.proofs.Verdicts.{form_found, form_passes}
use Rattle.tree.specs.declared.above.ForkLine.{ForkLine}
use Rattle.std.specs.Prelude.{Result, Ok, Err}
use Rattle.tree.specs.declared.above.Side.{Side}
use Rattle.tree.specs.declared.forking.ForkKind.{ForkKind}
use Rattle.tree.specs.declared.forking.ForkKind.TheVariants.{Split, Count}
use Rattle.tree.specs.Kinds.{fork_kind}
use Rattle.tree.specs.NodeLines.{line_kind_of, named, counted, is_fixed, narrows, kind_tests, node_tests}
use Rattle.tree.specs.Refusals.{split_line, count_line, node_form}
use Rattle.tree.specs.Course.{pending, after_fork, after_node}
use Rattle.tree.specs.ReadAnswers.{fork_by, side_at, sides, over, fork_line_read}
use Rattle.tree.proofs.NodeLines.{was_split, was_count}
use Rattle.tree.proofs.Places.{place_inside}
use Rattle.tree.proofs.Marked.{status_side, upper_side, lower_side}
use Rattle.tree.proofs.Rows.{LineRefused, refused_found, Moved, line_moved}
use Rattle.tree.proofs.WaysThrough.{AtNode}
use Rattle.tree.proofs.Leaves.{judge_by}

-- ---- the numbers of a good line

module _ (P : Instance) (text : List ℕ) (here : ℕ) (g : forms.good_line (node_form P split_line) (line_at text here) ≡ true) (vs : List ℕ)
    (is : vs ≡ numbers_of (node_form P split_line) (line_at text here)) where
  pub record SplitValues : Type 0 where
    pub low_unit : 1 ≤ vs at 0
    pub unit : vs at 0 - 1 < length P.units
    pub low_period : 1 ≤ vs at 1
    pub period : vs at 1 - 1 < P.periods
    pub is_unit : vs at 0 - 1 ≡ named (node_form P split_line) (line_at text here) 0
    pub is_period : vs at 1 - 1 ≡ named (node_form P split_line) (line_at text here) 1

  pub split_values : SplitValues
  split_values =
      let w = was_split P (line_at text here) g in
      let a = ap (λ (xs : List ℕ). xs at 0) is in
      let b = ap (λ (xs : List ℕ). xs at 1) is in
      let x = w.first in
      let y = w.second in
      let i : vs at 0 - 1 ≡ pred (numbers_of (node_form P split_line) (line_at text here) at 0) = omega arith in
      let j : vs at 1 - 1 ≡ pred (numbers_of (node_form P split_line) (line_at text here) at 1) = omega arith in
      record {
        low_unit = omega arith;
        unit = rw i w.unit;
        low_period = omega arith;
        period = rw j w.period;
        is_unit = i;
        is_period = j;
      }

module _ (P : Instance) (text : List ℕ) (here : ℕ) (g : forms.good_line (node_form P count_line) (line_at text here) ≡ true) (vs : List ℕ)
    (is : vs ≡ numbers_of (node_form P count_line) (line_at text here)) where
  pub record CountValues : Type 0 where
    pub low_period : 1 ≤ vs at 0
    pub period : vs at 0 - 1 < P.periods
    pub few : vs at 1 ≤ length P.units - 1
    pub is_period : vs at 0 - 1 ≡ named (node_form P count_line) (line_at text here) 0
    pub is_count : vs at 1 ≡ counted (node_form P count_line) (line_at text here)

  pub count_values : CountValues
  count_values =
      let w = was_count P (line_at text here) g in
      let a = ap (λ (xs : List ℕ). xs at 0) is in
      let b = ap (λ (xs : List ℕ). xs at 1) is in
      let x = w.first in
      let i : vs at 0 - 1 ≡ pred (numbers_of (node_form P count_line) (line_at text here) at 0) = omega arith in
      record {
        low_period = omega arith;
        period = rw i w.period;
        few = rw b w.few;
        is_period = i;
        is_count = b;
      }

-- ---- what the reader answers

-- of two tests the first that holds refuses the line
two_refuse : (a b : ℕ) (x y : Bool) (said : ForkLine) (v : Result (Unit {0}) ℕ) → v ≡ cond x (Err a) (cond y (Err b) (Ok tt)) → (m : ℕ) → v ≡ Err m
    → Err m ≡ fork_by (found (a if x ∷ b if y ∷ []) said)
two_refuse a b true y said v e m h = let q : m ≡ a = cc in ap (λ (k : ℕ). Err k) q
two_refuse a b false true said v e m h = let q : m ≡ b = cc in ap (λ (k : ℕ). Err k) q
two_refuse a b false false said v e m h = absurd (let z : ◌≡◌ {A = ℕ} 0 1 = cc in omega arith)

-- or neither holds
two_pass : (a b : ℕ) (x y : Bool) (said : ForkLine) (v : Result (Unit {0}) ℕ) → v ≡ cond x (Err a) (cond y (Err b) (Ok tt)) → (u : Unit {0}) → v ≡ Ok u
    → Ok said ≡ fork_by (found (a if x ∷ b if y ∷ []) said)
two_pass a b true y said v e u h = absurd (let z : ◌≡◌ {A = ℕ} 0 1 = cc in omega arith)
two_pass a b false true said v e u h = absurd (let z : ◌≡◌ {A = ℕ} 0 1 = cc in omega arith)
two_pass a b false false said v e u h = refl

-- a good line
abbrev said_by : ForkLine → Result ForkLine ℕ
said_by x = Ok x

-- 37 where the count is no narrower
turned : (z : Bool) → cond {A = Result (Unit {0}) ℕ} z (Ok tt) (Err 37) ≡ cond (not z) (Err 37) (Ok tt)
turned true = refl
turned false = refl

module _ (P : Instance) (text : List ℕ) (here : ℕ) (A : Above) (d : ℕ) where
  pub fork_refused : (k : ForkKind) (n : ℕ) → LineRefused (node_form P (fork_kind k)) (line_at text here) n → Err n ≡ fork_line_read P text here A d k
  unfolding fork_line_read
  fork_refused k n h =
      let l = line_at text here in
      ap fork_by (sym (refused_found (node_form P (fork_kind k)) l n (kind_tests P A d (fork_kind k) l) (over P k l (place_after l here)) h))

  -- the kind's own tests are left
  fork_passed : (k : ForkKind) → forms.good_line (node_form P (fork_kind k)) (line_at text here) ≡ true
      → let l = line_at text here in fork_line_read P text here A d k ≡ fork_by (found (kind_tests P A d (fork_kind k) l) (over P k l (place_after l here)))
  unfolding fork_line_read
  fork_passed k g =
      let l = line_at text here in
      ap fork_by (form_found (node_form P (fork_kind k)) l (kind_tests P A d (fork_kind k) l) (over P k l (place_after l here)) g)

  module _ (g : forms.good_line (node_form P split_line) (line_at text here) ≡ true) (vs : List ℕ) (is : vs ≡ numbers_of (node_form P split_line) (line_at text here)) where
    split_tests : kind_tests P A d split_line (line_at text here) ≡ (31 if is_fixed (A.marks (vs at 0 - 1) (vs at 1 - 1)) ∷ 32 if ltb 63 d ∷ [])
    unfolding kind_tests
    split_tests = let w = split_values P text here g vs is in rw (w.is_unit, w.is_period) refl

    split_by : fork_line_read P text here A d Split
        ≡ fork_by (found (31 if is_fixed (A.marks (vs at 0 - 1) (vs at 1 - 1)) ∷ 32 if ltb 63 d ∷ []) (over P Split (line_at text here) (place_after (line_at text here) here)))
    split_by = fork_passed Split g ∙ ap (λ (ts : List Test). fork_by (found ts (over P Split (line_at text here) (place_after (line_at text here) here)))) split_tests

    -- 31 or 32 refuses the line
    pub split_fails : (v : Result (Unit {0}) ℕ) → v ≡ cond (is_fixed (A.marks (vs at 0 - 1) (vs at 1 - 1))) (Err 31) (cond (ltb 63 d) (Err 32) (Ok tt)) → (m : ℕ) → v ≡ Err m
        → Err m ≡ fork_line_read P text here A d Split
    split_fails v q m h = two_refuse 31 32 (is_fixed (A.marks (vs at 0 - 1) (vs at 1 - 1))) (ltb 63 d) _ v q m h ∙ sym split_by

    -- neither does, n being the periods
    pub split_good : (v : Result (Unit {0}) ℕ) → v ≡ cond (is_fixed (A.marks (vs at 0 - 1) (vs at 1 - 1))) (Err 31) (cond (ltb 63 d) (Err 32) (Ok tt)) → (u : Unit {0}) → v ≡ Ok u
        → (n next : ℕ) → n ≡ P.periods → next ≡ place_after (line_at text here) here
        → let place = (vs at 0 - 1) * n + (vs at 1 - 1) in Ok (sides (side_at place 1) (side_at place 2) next) ≡ fork_line_read P text here A d Split
    split_good v q u h n next e p =
        let w = split_values P text here g vs is in
        let said : Ok (sides (side_at ((vs at 0 - 1) * n + (vs at 1 - 1)) 1) (side_at ((vs at 0 - 1) * n + (vs at 1 - 1)) 2) next)
        ≡ said_by (over P Split (line_at text here) (place_after (line_at text here) here)) = rw (e, p, w.is_unit, w.is_period) refl in
        said ∙ two_pass 31 32 (is_fixed (A.marks (vs at 0 - 1) (vs at 1 - 1))) (ltb 63 d) _ v q u h ∙ sym split_by

  module _ (g : forms.good_line (node_form P count_line) (line_at text here) ≡ true) (vs : List ℕ) (is : vs ≡ numbers_of (node_form P count_line) (line_at text here)) where
    -- whether the count is narrower than those that stand
    abbrev pub narrower : Bool
    narrower = narrows (A.least (vs at 0 - 1)) (A.most (vs at 0 - 1)) (vs at 1)

    count_tests : kind_tests P A d count_line (line_at text here) ≡ (32 if ltb 63 d ∷ 37 if not narrower ∷ [])
    unfolding kind_tests
    count_tests = let w = count_values P text here g vs is in rw (w.is_period, w.is_count) refl

    count_by : fork_line_read P text here A d Count
        ≡ fork_by (found (32 if ltb 63 d ∷ 37 if not narrower ∷ []) (over P Count (line_at text here) (place_after (line_at text here) here)))
    count_by = fork_passed Count g ∙ ap (λ (ts : List Test). fork_by (found ts (over P Count (line_at text here) (place_after (line_at text here) here)))) count_tests

    -- 32 or 37 refuses the line
    pub count_fails : (v : Result (Unit {0}) ℕ) → v ≡ cond (ltb 63 d) (Err 32) (cond narrower (Ok tt) (Err 37)) → (m : ℕ) → v ≡ Err m → Err m ≡ fork_line_read P text here A d Count
    count_fails v q m h = two_refuse 32 37 (ltb 63 d) (not narrower) _ v (q ∙ ap (cond (ltb 63 d) (Err 32)) (turned narrower)) m h ∙ sym count_by

    -- neither does
    pub count_good : (v : Result (Unit {0}) ℕ) → v ≡ cond (ltb 63 d) (Err 32) (cond narrower (Ok tt) (Err 37)) → (u : Unit {0}) → v ≡ Ok u
        → (next : ℕ) → next ≡ place_after (line_at text here) here
        → Ok (sides (side_at (upper_begin + (vs at 0 - 1)) (vs at 1 + 1)) (side_at (lower_begin + (vs at 0 - 1)) (vs at 1 + 1)) next) ≡ fork_line_read P text here A d Count
    count_good v q u h next p =
        let w = count_values P text here g vs is in
        let s : vs at 1 + 1 ≡ suc (vs at 1) = omega arith in
        let said : Ok (sides (side_at (upper_begin + (vs at 0 - 1)) (vs at 1 + 1)) (side_at (lower_begin + (vs at 0 - 1)) (vs at 1 + 1)) next)
        ≡ said_by (over P Count (line_at text here) (place_after (line_at text here) here)) = rw (s, p, w.is_period, w.is_count) refl in
        said ∙ two_pass 32 37 (ltb 63 d) (not narrower) _ v (q ∙ ap (cond (ltb 63 d) (Err 32)) (turned narrower)) u h ∙ sym count_by

-- ---- what the answer says

module _ (P : Instance) (W : WellFormed P) (text : List ℕ) (here : ℕ) (bytes : List ℕ) (long : length bytes ≡ above_length) (d : ℕ) where
  -- what stands above the fork
  abbrev A : Above
  A = above_of P bytes

  -- a fork is read there, and each side's byte makes what stands above its tree
  pub record ForkOn (first second : Side) (next : ℕ) : Type 0 where
    pub on : Fork
    pub judged : AtNode P text here A d (λ F rest. good (after_fork F (pending A d) rest on))
    pub first_is : above_of P (set bytes first.place first.byte) ≡ side on false A
    pub second_is : above_of P (set bytes second.place second.byte) ≡ side on true A
    pub first_in : first.place < above_length
    pub second_in : second.place < above_length
    pub depth : d ≤ 63
    pub moved : Moved text here next

  abbrev pub Says : Result ForkLine ℕ → Type 0
  Says (Err n) = AtNode P text here A d (λ F rest. refused n)
  Says (Ok r) = ForkOn r.first r.second r.next

  -- no test of a line of this kind holds
  passes : (k : ForkKind) → line_kind_of (line_at text here) ≡ fork_kind k → None (node_tests P A d (fork_kind k) (line_at text here))
      → Says (Ok (over P k (line_at text here) (place_after (line_at text here) here)))
  unfolding kind_tests after_node mark_of
  passes Split e n =
      let l = line_at text here in
      let f = node_form P split_line in
      let g = (form_passes f l (kind_tests P A d split_line l)).0 n in
      let w = was_split P l g.0 in
      let inside = place_inside P W P.periods (named f l 0) (named f l 1) refl w.unit w.period in
      record {
        on = status (named f l 0) (named f l 1);
        judged = λ F rest. judge_by P text here A d split_line e F rest ∙ none_good (after_node P F (pending A d) rest split_line l) (node_tests P A d split_line l) n;
        first_is = status_side P W P.periods bytes (named f l 0) (named f l 1) 1 false refl long w.unit w.period refl;
        second_is = status_side P W P.periods bytes (named f l 0) (named f l 1) 2 true refl long w.unit w.period refl;
        first_in = omega (arith, inside);
        second_in = omega (arith, inside);
        depth = ltb-false 63 d g.1.1.0;
        moved = line_moved f text here (place_after l here) g.0 refl;
      }
  passes Count e n =
      let l = line_at text here in
      let f = node_form P count_line in
      let g = (form_passes f l (kind_tests P A d count_line l)).0 n in
      let w = was_count P l g.0 in
      let t = W.periods_in.1 in
      record {
        on = count (named f l 0) (counted f l);
        judged = λ F rest. judge_by P text here A d count_line e F rest ∙ none_good (after_node P F (pending A d) rest count_line l) (node_tests P A d count_line l) n;
        first_is = upper_side P W bytes long (named f l 0) (counted f l) w.period;
        second_is = lower_side P W bytes long (named f l 0) (counted f l) w.period;
        first_in = omega (arith, w.period, t);
        second_in = omega (arith, w.period, t);
        depth = ltb-false 63 d g.1.0;
        moved = line_moved f text here (place_after l here) g.0 refl;
      }

  pub fork_says : (k : ForkKind) → line_kind_of (line_at text here) ≡ fork_kind k → (x : Result ForkLine ℕ) → x ≡ fork_line_read P text here A d k → Says x
  unfolding fork_line_read
  fork_says k e x r =
      let l = line_at text here in
      subst Says (sym r) (go (found (node_tests P A d (fork_kind k) l) (over P k l (place_after l here))) refl)
    where
      go : (y : Found ForkLine) → let l = line_at text here in found (node_tests P A d (fork_kind k) l) (over P k l (place_after l here)) ≡ y → Says (fork_by y)
      go (refused n) p =
          let l = line_at text here in
          let ts = node_tests P A d (fork_kind k) l in
          λ F rest. judge_by P text here A d (fork_kind k) e F rest
          ∙ (found_refused_is (after_node P F (pending A d) rest (fork_kind k) l) n ts).1 ((found_refused_is (over P k l (place_after l here)) n ts).0 p)
      go (good y) p =
          let l = line_at text here in
          let h = good_none (over P k l (place_after l here)) y (node_tests P A d (fork_kind k) l) p in
          subst (λ (x : ForkLine). Says (Ok x)) h.1 (passes k e h.0)
