-- All units' runs, one after the other: one unit more, how long they are, and that a unit's run is told by its part of the fixed statuses.
use mathlib.Core.Path.{◌≡◌, refl, sym, ap, ◌∙◌}
use mathlib.Core.Bool.{Bool, true, false, not, cond}
use mathlib.Core.List.{List, [], ◌∷◌, ◌++◌, flatten, append_assoc, append-nil}
use Prim.Native.Nat.{ℕ, zero, suc, ◌+◌, ◌*◌, ◌-◌, ◌≤◌, ◌<◌}
use native.Mathlib.Numerals.{add-one}
use native.Mathlib.Omega.{arith}
use lib.Dec.{T}
use lib.ListN.{length, get_or, take, drop}
use lib.Seq.{take_all, take-length}
use borrow.Rule.Slice.PartMut.{put_mid}
use Rattle.model.specs.declared.generator.Generator.{Generator}
use Rattle.model.specs.Instance.{Instance, Schedule}
use Rattle.model.specs.Ranges.{All, GoodUnit, GoodOutput, Shaped}
use Rattle.model.specs.Above.{Mark, Marks, rest}
use Rattle.model.specs.Leaf.{is_stuck, any_stuck}
use Rattle.model.specs.Prices.{best_output, worth}
use Rattle.model.specs.RunWalk.{row_of, walked_row}
use Rattle.model.specs.Runs.{least_row, least_rows}
use Rattle.model.proofs.Extents.{Same, is_stuck_ext}
use Rattle.model.proofs.FirstRuns.{first_run_ext}
use Rattle.model.proofs.LeastRows.{least_row_walk, least_row_attains}
use Rattle.model.proofs.LeafRuns.{none_stuck, least_rows_long, least_rows_shaped, least_rows_outputs}
use Rattle.walk.specs.Marks.{marks_of, marks_in}
use Rattle.judge.proofs.Rows.{joined_long, all_append}
use Rattle.least.proofs.UnitParts.{all_get_d, part_same}
use Rattle.runs.proofs.PartsWritten.{part_behind}

-- ---- one unit's run, by the marks of its periods

-- what `unit_run` leaves in a row that had old
abbrev pub run_left : (q s : ℕ → ℕ) → Generator → List ℕ → ℕ → (ℕ → Mark) → List ℕ
run_left q s g old n m = cond (is_stuck n g m) old (least_row n q s g m)

module _ (n : ℕ) (q s : ℕ → ℕ) (g : Generator) (good : GoodUnit g) where
  walked_ext : (m m' : ℕ → Mark) → Same n m m' → walked_row n q s g m ≡ walked_row n q s g m'
  unfolding walked_row
  walked_ext m m' h =
      ap (row_of (λ t. best_output g (q t)))
      (first_run_ext n g m m' (λ t. worth g (q t) (s t)) (λ t. worth g (q t) (s t)) h (λ t l d. refl) g.on g.since)

  left_ext : (old : List ℕ) (m m' : ℕ → Mark) → Same n m m' → run_left q s g old n m ≡ run_left q s g old n m'
  left_ext old m m' h = go (is_stuck n g m) (is_stuck n g m') (is_stuck_ext n g m m' h) (least_row_walk n q s g good m) (least_row_walk n q s g good m')
    where
      go : (b b' : Bool) → b ≡ b' → (T (not b) → least_row n q s g m ≡ walked_row n q s g m) → (T (not b') → least_row n q s g m' ≡ walked_row n q s g m')
          → cond b old (least_row n q s g m) ≡ cond b' old (least_row n q s g m')
      go true true e i j = refl
      go true false e i j = absurd (let z : ◌≡◌ {A = ℕ} 0 1 = cc in omega arith)
      go false true e i j = absurd (let z : ◌≡◌ {A = ℕ} 0 1 = cc in omega arith)
      go false false e i j = i tt ∙ walked_ext m m' h ∙ sym (j tt)

  left_free : (old : List ℕ) (m : ℕ → Mark) → T (not (is_stuck n g m)) → run_left q s g old n m ≡ least_row n q s g m
  left_free old m free = go (is_stuck n g m) free
    where
      go : (b : Bool) → T (not b) → cond b old (least_row n q s g m) ≡ least_row n q s g m
      go true f = absurd f
      go false f = refl

  -- of a unit that is not stuck, by its part of the fixed statuses
  part_run : (I u : ℕ) (fixed : List ℕ) → u < I → T (not (is_stuck n g (marks_in I n fixed u)))
      → (old : List ℕ) (N place long : ℕ) → N ≡ n → place ≡ u * n → long ≡ n
      → run_left q s g old N (marks_of (take long (drop place fixed))) ≡ least_row n q s g (marks_in I n fixed u)
  part_run I u fixed inside free old N place long e f h =
      part_same I n u fixed inside (run_left q s g old) (left_ext old) N place long e f h ∙ left_free old (marks_in I n fixed u) free

-- ---- the runs of the first units

module _ (n : ℕ) (q s : ℕ → ℕ) where
  abbrev pub front_runs : ℕ → List Generator → Marks → List ℕ
  front_runs u l m = flatten (least_rows n q s (take u l) m)

  -- one unit more
  front_more : (u : ℕ) (l : List Generator) (d : Generator) (m : Marks) → u < length l → front_runs (suc u) l m ≡ front_runs u l m ++ least_row n q s (get_or l u d) (m u)
  unfolding least_rows flatten
  front_more u [] d m h = absurd (omega arith)
  front_more zero (g ∷ l) d m h = append-nil (least_row n q s g (m 0))
  front_more (suc u) (g ∷ l) d m h =
      ap (λ (r : List ℕ). least_row n q s g (m 0) ++ r) (front_more u l d (rest m) (omega arith))
      ∙ sym (append_assoc (least_row n q s g (m 0)) (front_runs u l (rest m)) (least_row n q s (get_or l u d) (m (suc u))))

-- ---- as numbers

joined_all : (R : ℕ → Type 0) (s : Schedule) → All (λ r. All R r) s → All R (flatten s)
unfolding flatten
joined_all R [] h = tt
joined_all R (r ∷ s) h = all_append R r (flatten s) h.0 (joined_all R s h.1)

module _ (P : Instance) (good : All GoodUnit P.units) (q s : ℕ → ℕ) (m : Marks) (free : any_stuck P.periods P.units m ≡ false) where
  pub runs_shaped : Shaped P (least_rows P.periods q s P.units m)
  runs_shaped = (least_rows_long P.periods q s P.units m, least_rows_shaped P.periods q s P.units good m free)

  pub runs_long : length (flatten (least_rows P.periods q s P.units m)) ≡ length P.units * P.periods
  runs_long =
      joined_long P.periods (least_rows P.periods q s P.units m) runs_shaped.1 ∙ ap (λ (k : ℕ). k * P.periods) runs_shaped.0

  pub runs_outputs : All GoodOutput (flatten (least_rows P.periods q s P.units m))
  runs_outputs = joined_all GoodOutput (least_rows P.periods q s P.units m) (least_rows_outputs P.periods q s P.units good m free)

-- ---- the loop over the units

module _ (P : Instance) (good : All GoodUnit P.units) (q s : ℕ → ℕ) (fixed : List ℕ)
    (free : any_stuck P.periods P.units (marks_in (length P.units) P.periods fixed) ≡ false) where
  abbrev n : ℕ
  n = P.periods

  abbrev m : Marks
  m = marks_in (length P.units) P.periods fixed

  -- the next unit's run is written behind those of the units before it; N and k are the periods as the code knows them
  pub run_written : (d : Generator) (u : ℕ) → u < length P.units → (begin N k : ℕ) → N ≡ n → k ≡ n → begin ≡ u * n
      → (rows old row : List ℕ) → begin + k ≤ length rows → take begin rows ≡ front_runs n q s u P.units m
      → row ≡ run_left q s (get_or P.units u d) old N (marks_of (take (begin + k - begin) (drop begin fixed)))
      → (length (put_mid begin (begin + k - begin) rows row) ≡ length rows) × (take (begin + k) (put_mid begin (begin + k - begin) rows row) ≡ front_runs n q s (u + 1) P.units m)
  run_written d u inside begin N k e f h rows old row room done i =
      let g = get_or P.units u d in
      let G = all_get_d GoodUnit u P.units d inside good in
      let F = none_stuck n q s P.units m d free u inside in
      let r : row ≡ least_row n q s g (m u) = i ∙ part_run n q s g G (length P.units) u fixed inside F old N begin (begin + k - begin) e h (omega arith) in
      let long : length row ≡ begin + k - begin = omega (arith, ap length r, (least_row_attains n q s g G (m u) F).candidate.long, f) in
      let w = part_behind begin (begin + k) rows (front_runs n q s u P.units m) row (omega arith) room done long in
      (w.0, w.1 ∙ ap (λ (l : List ℕ). front_runs n q s u P.units m ++ l) r ∙ rw (add-one u) (sym (front_more n q s u P.units d m inside)))

  -- the last unit's run is written
  pub all_written : (u begin : ℕ) (rows : List ℕ) → u ≡ length P.units → begin ≡ u * n → length rows ≡ length P.units * n
      → take begin rows ≡ front_runs n q s u P.units m → rows ≡ flatten (least_rows n q s P.units m)
  all_written u begin rows e f h i =
      sym (take_all begin rows (omega (arith, ap (λ (k : ℕ). k * n) e)))
      ∙ i
      ∙ ap (λ (l : List Generator). flatten (least_rows n q s l m)) (rw e (take-length P.units))
