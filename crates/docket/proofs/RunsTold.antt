-- What a docket tells of the runs of a price leaf: under the problem that it judges by, each unit's first run and how far the runs fall short; one answer alone is that; and of a
-- price leaf of an accepted tree it is the leaf's value.
use mathlib.Core.Path.{◌≡◌, refl, sym, ap, ap₂, subst, ◌∙◌}
use mathlib.Core.Bool.{Bool, true, false, not, cond, ◌||◌}
use mathlib.Core.List.{List, [], ◌∷◌, flatten}
use mathlib.Core.Logic.{◌↔◌, ◌⊎◌, inl, inr}
use mathlib.Core.Option.{Option, none, some}
use Prim.Native.Nat.{ℕ, zero, suc, ◌*◌, ◌<◌}
use native.Mathlib.Omega.{arith}
use lib.Dec.{T}
use lib.IntN.{ℤ}
use lib.ListN.{length, get_or, length-map}
use lib.Seq.{ext_get_or}
use Rattle.model.specs.declared.generator.Generator.{Generator}
use Rattle.std.specs.Prelude.{Some as number}
use Rattle.model.specs.Instance.{Instance, Schedule, ◌at◌}
use Rattle.model.specs.Ranges.{All, GoodUnit, WellFormed}
use Rattle.model.specs.Held.{view, blank_generator}
use Rattle.model.specs.Rules.{on, statuses}
use Rattle.model.specs.Above.{Mark, Marks, rest, root}
use Rattle.model.specs.Agreement.{LeafOf, above, leaf_at}
use Rattle.model.specs.Leaf.{is_stuck, stuck_at, any_stuck, leaf_value}
use Rattle.model.specs.Prices.{best_output, worth}
use Rattle.model.specs.RunWalk.{row_of, walked_row}
use Rattle.model.specs.Tree.{price, Tree, GoodLeaf, LeafHolds, leaf_bound, Limits, Holds}
use Rattle.model.specs.Runs.{least_row, least_rows, first_stuck, ByOutputs, shortfalls}
use Rattle.model.proofs.Stuck.{stuck→none}
use Rattle.model.proofs.Extents.{SameMarks, any_stuck_ext, leaf_value_ext}
use Rattle.model.proofs.EveryLeaf.{holds_every}
use Rattle.model.proofs.Lowest.{compare}
use Rattle.model.proofs.SortedRows.{smaller_asym}
use Rattle.model.proofs.LeastRows.{precedes_outputs, least_row_walk, least_row_attains, least_row_precedes}
use Rattle.model.proofs.FirstRuns.{first_run_ext}
use Rattle.model.proofs.LeafRuns.{least_rows_long, least_rows_at, none_stuck, leaf_attained}
use Rattle.least.proofs.UnitParts.{all_get_d}
use Rattle.std.specs.Prelude.{Ok, Err}
use Rattle.runs.specs.declared.drafting.NoRuns.TheVariants as reason
use Rattle.runs.specs.declared.question.Unanswered.TheVariants.{Unfit}
use Rattle.runs.specs.Drafts.{fits, FitQuestion, Drafted, unwritten, marks_asked, runs_asked, drafted, draft_under}
use Rattle.runs.proofs.Questions.{fits_is}
use Rattle.runs.proofs.FirstStuck.{first_stuck_found, none_before}
use Rattle.docket.specs.declared.Docket.{Docket}
use Rattle.docket.specs.Verdicts.{Verdict}
use Rattle.docket.specs.Texts.{Are}
use Rattle.docket.specs.Lodging.{trusted}
use Rattle.docket.specs.Promised.{after, given, Long, JudgesBy, its_own, no_problem}
use Rattle.docket.specs.Drafting.{runs_of}
use Rattle.docket.specs.Requested as said
use Rattle.docket.specs.Requested.{FirstStuck, FirstRun, LeafRuns, DraftTold, leaf_runs, status_bytes}
use Rattle.docket.proofs.Midnight.{formed}
use Rattle.docket.proofs.AskedUnder.{its_known, none_known, judged_known, given_known, none_given}
use Rattle.docket.proofs.StatusBytes.{bytes_long, all_bytes, bytes_same, good_leaf}
use Rattle.docket.proofs.RunsAsked.{runs_known, runs_none}

-- ---- under a problem

module _ (P : Instance) (W : WellFormed P) (m : Marks) (q s : ℕ → ℕ) where
  abbrev T' : ℕ
  T' = P.periods

  first_there : any_stuck T' P.units m ≡ true → FirstStuck P m (first_stuck T' P.units m)
  first_there e =
      let f = first_stuck_found T' P.units m e in
      record { inside = f.1; stuck = f.0; before = λ v l t. none (stuck_at T' P.units m v) (none_before T' P.units m v l) t }
    where
      none : (b : Bool) → b ≡ false → T b → ⊥
      none true e t = absurd (let z : ◌≡◌ {A = ℕ} 0 1 = cc in omega arith)
      none false e t = t

  runs_there : any_stuck T' P.units m ≡ false → LeafRuns P m q s (least_rows T' q s P.units m)
  runs_there e = record {
    long = least_rows_long T' q s P.units m;
    each = λ u l. subst (FirstRun T' q s (get_or P.units u blank_generator) (m u)) (sym (least_rows_at T' q s P.units m blank_generator u l)) (run u l);
    value = leaf_attained P W.units_good m q s e;
  }
    where
      run : (u : ℕ) → u < length P.units → FirstRun T' q s (get_or P.units u blank_generator) (m u) (least_row T' q s (get_or P.units u blank_generator) (m u))
      run u l =
          let g = get_or P.units u blank_generator in
          let good = all_get_d GoodUnit u P.units blank_generator l W.units_good in
          let free = none_stuck T' q s P.units m blank_generator e u l in
          record { attains = least_row_attains T' q s g good (m u) free; precedes = least_row_precedes T' q s g good (m u) free }

module _ (P : Instance) (W : WellFormed P) (q s fixed rows short : List ℕ) where
  told_under : DraftTold q s fixed rows short (some P) (draft_under P q s fixed rows short)
  unfolding draft_under drafted
  told_under = go (fits P q s fixed (length rows) (length short)) (any_stuck P.periods P.units m) (fits_is P q s fixed rows short) refl
    where
      m : Marks
      m = marks_asked P fixed

      go : (b c : Bool) → (b ≡ true) ↔ FitQuestion P q s fixed rows short → any_stuck P.periods P.units m ≡ c
          → DraftTold q s fixed rows short (some P)
          (cond b
          (cond c (unwritten rows short (Err (reason.Stuck (suc (first_stuck P.periods P.units m)))))
          (record { answer = Ok (leaf_value P m (λ t. q at t) (λ t. s at t)); rows = flatten (runs_asked P q s fixed rows short); short = shortfalls P (runs_asked P q s fixed rows short) }))
          (unwritten rows short (Err (reason.Question Unfit))))
      go true true f e = said.stuck (f.0 refl) (first_there P W m (λ t. q at t) (λ t. s at t) e)
      go true false f e = said.found (f.0 refl) (runs_there P W m (λ t. q at t) (λ t. s at t) e)
      go false c f e = said.unfit (λ F. let e = f.1 F in let z : ◌≡◌ {A = ℕ} 0 1 = cc in omega arith)

-- ---- of every docket value

module _ (q s fixed rows short : List ℕ) where
  told_by : (d : Docket) → (trusted d).known ≡ true → WellFormed (view d.problem) → DraftTold q s fixed rows short (some (view d.problem)) (runs_of d q s fixed rows short)
  told_by d k W =
      subst (DraftTold q s fixed rows short (some (view d.problem))) (sym (runs_known d q s fixed rows short k)) (told_under (view d.problem) W q s fixed rows short)

  told_free : (d : Docket) → (trusted d).known ≡ false → DraftTold q s fixed rows short none (runs_of d q s fixed rows short)
  told_free d k = subst (DraftTold q s fixed rows short none) (sym (runs_none d q s fixed rows short k)) said.no_problem

  pub told_anywhere : (d : Docket) → Long d → (o : Option Instance) → JudgesBy d o → DraftTold q s fixed rows short o (runs_of d q s fixed rows short)
  told_anywhere d long _ (its_own k) = told_by d (its_known d long k) k.valid.well_formed
  told_anywhere d long _ (no_problem n) = told_free d (none_known d long n)

  -- ---- after a list of texts

  module _ (texts : List (List ℕ)) (vs : List Verdict) (are : Are none texts vs) where
    -- under the problem that they gave, by computing
    pub told_as : (P : Instance) → given vs ≡ some P → runs_of (after texts) q s fixed rows short ≡ draft_under P q s fixed rows short
    told_as P e =
        let h = given_known texts vs are P e in
        runs_known (after texts) q s fixed rows short h.0 ∙ ap (λ (Q : Instance). draft_under Q q s fixed rows short) h.1

    pub told_after : DraftTold q s fixed rows short (given vs) (runs_of (after texts) q s fixed rows short)
    told_after = go (given vs) refl
      where
        go : (o : Option Instance) → given vs ≡ o → DraftTold q s fixed rows short o (runs_of (after texts) q s fixed rows short)
        go none e = told_free (after texts) (none_given texts vs are e)
        go (some P) e = subst (DraftTold q s fixed rows short (some P)) (sym (told_as P e)) (told_under P (formed texts vs are P e) q s fixed rows short)

-- ---- one answer alone

-- a unit has one first run
pub one_run : (n : ℕ) (q s : ℕ → ℕ) (g : Generator) (m : ℕ → Mark) (r r' : List ℕ) → FirstRun n q s g m r → FirstRun n q s g m r' → r ≡ r'
one_run n q s g m r r' a b =
    let e = a.attains.candidate.long ∙ sym b.attains.candidate.long in
    go (precedes_outputs r r' e (a.precedes r' b.attains)) (precedes_outputs r' r (sym e) (b.precedes r a.attains))
  where
    go : ByOutputs r r' → ByOutputs r' r → r ≡ r'
    go (inl e) k = e
    go (inr x) (inl e) = sym e
    go (inr x) (inr y) = absurd (smaller_asym r r' x y)

module _ (P : Instance) (m : Marks) where
  stuck_there : (u : ℕ) → u < length P.units → T (stuck_at P.periods P.units m u) → T (is_stuck P.periods (get_or P.units u blank_generator) (m u))
  stuck_there u l = go P.units m u l
    where
      go : (gs : List Generator) (m : Marks) (u : ℕ) → u < length gs → T (stuck_at P.periods gs m u) → T (is_stuck P.periods (get_or gs u blank_generator) (m u))
      go [] m u l t = absurd (omega arith)
      go (g ∷ gs) m zero l t = t
      go (g ∷ gs) m (suc u) l t = go gs (rest m) u (omega arith) t

  -- there is one first stuck unit, and where there is one there are no runs
  one_stuck : (u v : ℕ) → FirstStuck P m u → FirstStuck P m v → u ≡ v
  one_stuck u v a b = go (compare u v)
    where
      go : (u < v) ⊎ ((u ≡ v) ⊎ (v < u)) → u ≡ v
      go (inl h) = absurd (b.before u h a.stuck)
      go (inr (inl e)) = e
      go (inr (inr h)) = absurd (a.before v h b.stuck)

  module _ (q s : ℕ → ℕ) where
    stuck_or_runs : (u : ℕ) (rs : Schedule) → FirstStuck P m u → LeafRuns P m q s rs → ⊥
    stuck_or_runs u rs a b =
        let r = get_or rs u [] in
        let C = (b.each u a.inside).attains.candidate in
        stuck→none P.periods (get_or P.units u blank_generator) (m u) (stuck_there u a.inside a.stuck) (statuses r) (length-map r on ∙ C.long) C.run

    one_runs : (rs rs' : Schedule) → LeafRuns P m q s rs → LeafRuns P m q s rs' → rs ≡ rs'
    one_runs rs rs' a b =
        ext_get_or [] rs rs' (a.long ∙ sym b.long)
        (λ u l. let i : u < length P.units = omega (arith, a.long) in one_run P.periods q s (get_or P.units u blank_generator) (m u) (get_or rs u []) (get_or rs' u []) (a.each u i) (b.each u i))

pub told_one : (q s fixed rows short : List ℕ) (o : Option Instance) (x y : Drafted) → DraftTold q s fixed rows short o x → DraftTold q s fixed rows short o y → x ≡ y
told_one q s fx rows short _ _ _ said.no_problem said.no_problem = refl
told_one q s fx rows short _ _ _ (said.unfit n) (said.unfit k) = refl
told_one q s fx rows short _ _ _ (said.unfit n) (said.stuck F a) = absurd (n F)
told_one q s fx rows short _ _ _ (said.unfit n) (said.found F a) = absurd (n F)
told_one q s fx rows short _ _ _ (said.stuck F a) (said.unfit n) = absurd (n F)
told_one q s fx rows short _ _ _ (said.found F a) (said.unfit n) = absurd (n F)
told_one q s fx rows short (some P) _ _ (said.stuck {u = u} F a) (said.stuck {u = v} G b) =
    ap (λ (k : ℕ). unwritten rows short (Err (reason.Stuck (suc k)))) (one_stuck P (marks_asked P fx) u v a b)
told_one q s fx rows short (some P) _ _ (said.stuck {u = u} F a) (said.found {rs = rs} G b) = absurd (stuck_or_runs P (marks_asked P fx) (λ t. q at t) (λ t. s at t) u rs a b)
told_one q s fx rows short (some P) _ _ (said.found {rs = rs} F a) (said.stuck {u = u} G b) = absurd (stuck_or_runs P (marks_asked P fx) (λ t. q at t) (λ t. s at t) u rs b a)
told_one q s fx rows short (some P) _ _ (said.found {rs = rs} F a) (said.found {rs = rs'} G b) =
    ap (λ (r : Schedule). record { answer = Ok (leaf_value P (marks_asked P fx) (λ t. q at t) (λ t. s at t)); rows = flatten r; short = shortfalls P r })
    (one_runs P (marks_asked P fx) (λ t. q at t) (λ t. s at t) rs rs' a b)

-- ---- a price leaf of an accepted tree

-- runs under the same marks are the same
tail_free : (a b : Bool) → a || b ≡ false → b ≡ false
tail_free true b e = absurd (let z : ◌≡◌ {A = ℕ} 0 1 = cc in omega arith)
tail_free false b e = e

rows_alike : (n : ℕ) (q s : ℕ → ℕ) (gs : List Generator) → All GoodUnit gs → (m m' : Marks) → SameMarks (length gs) n m m' → any_stuck n gs m ≡ false → any_stuck n gs m' ≡ false
    → least_rows n q s gs m ≡ least_rows n q s gs m'
unfolding least_rows walked_row
rows_alike n q s [] h m m' same e e' = refl
rows_alike n q s (g ∷ gs) h m m' same e e' =
    ap₂ ◌∷◌ first
    (rows_alike n q s gs h.1 (rest m) (rest m') (λ u l. same (suc u) (omega arith)) (tail_free (is_stuck n g (m 0)) (any_stuck n gs (rest m)) e)
    (tail_free (is_stuck n g (m' 0)) (any_stuck n gs (rest m')) e'))
  where
    first : least_row n q s g (m 0) ≡ least_row n q s g (m' 0)
    first =
        least_row_walk n q s g h.0 (m 0) (none_stuck n q s (g ∷ gs) m blank_generator e 0 (omega arith))
        ∙ ap (row_of (λ t. best_output g (q t))) (first_run_ext n g (m 0) (m' 0) (λ t. worth g (q t) (s t)) (λ t. worth g (q t) (s t)) (same 0 (omega arith)) (λ t l d. refl) g.on g.since)
        ∙ sym (least_row_walk n q s g h.0 (m' 0) (none_stuck n q s (g ∷ gs) m' blank_generator e' 0 (omega arith)))

module _ (P : Instance) (W : WellFormed P) (t : Tree) (limits : Limits P root 0 t) (holds : Holds P root t) (i : LeafOf t) (q s : List ℕ) (is : leaf_at t i ≡ price q s) where
  abbrev m : Marks
  m = (above root t i).marks

  abbrev bytes : List ℕ
  bytes = status_bytes (length P.units) P.periods m

  abbrev z : ℤ
  z = leaf_value P m (λ t. q at t) (λ t. s at t)

  multipliers : GoodLeaf P (price q s)
  multipliers = subst (GoodLeaf P) is (good_leaf P root 0 t limits i)

  same : SameMarks (length P.units) P.periods (marks_asked P bytes) m
  same = bytes_same P m

  free_there : any_stuck P.periods P.units (marks_asked P bytes) ≡ false
  unfolding LeafHolds
  free_there = any_stuck_ext P.periods P.units (marks_asked P bytes) m same ∙ not_so (any_stuck P.periods P.units m) (subst (LeafHolds P (above root t i)) is (holds_every P root t holds i))
    where
      not_so : (b : Bool) → T (not b) → b ≡ false
      not_so true n = absurd n
      not_so false n = refl

  module _ (rows short : List ℕ) (rows_long : length rows ≡ length P.units * P.periods) (short_long : length short ≡ P.periods) where
    leaf_fits : FitQuestion P q s bytes rows short
    unfolding GoodLeaf
    leaf_fits = record {
      q_long = multipliers.0.0;
      s_long = multipliers.1.0;
      short_long = short_long;
      fixed_long = bytes_long P.periods (length P.units) m;
      rows_long = rows_long;
      q_in = multipliers.0.1;
      s_in = multipliers.1.1;
      statuses = all_bytes P.periods (length P.units) m;
    }

    -- its runs are those under the statuses above it
    runs_alike : least_rows P.periods (λ t. q at t) (λ t. s at t) P.units (marks_asked P bytes) ≡ least_rows P.periods (λ t. q at t) (λ t. s at t) P.units m
    runs_alike = rows_alike P.periods (λ t. q at t) (λ t. s at t) P.units W.units_good (marks_asked P bytes) m same free_there (sym (any_stuck_ext P.periods P.units (marks_asked P bytes) m same) ∙ free_there)

    -- what is told of it is its value, its runs, and how far they fall short
    leaf_under : draft_under P q s bytes rows short
        ≡ record { answer = Ok z; rows = flatten (least_rows P.periods (λ t. q at t) (λ t. s at t) P.units m); short = shortfalls P (least_rows P.periods (λ t. q at t) (λ t. s at t) P.units m) }
    unfolding draft_under drafted
    leaf_under =
        rw ((fits_is P q s bytes rows short).1 leaf_fits, free_there)
        (ap₂ (λ (v : ℤ) (rs : Schedule). record { answer = Ok v; rows = flatten rs; short = shortfalls P rs })
        (leaf_value_ext P W.units_good (marks_asked P bytes) m same (λ t. q at t) (λ t. q at t) (λ t. s at t) (λ t. s at t) (λ v l. refl) (λ v l. refl)) runs_alike)

    pub leaf_gives : (d : Docket) → Long d → JudgesBy d (some P) → (rs : Schedule) × (leaf_runs P (above root t i) (leaf_at t i) ≡ some rs) × LeafRuns P m (λ t. q at t) (λ t. s at t) rs
        × (leaf_bound P (above root t i) (leaf_at t i) ≡ number z) × (runs_of d q s bytes rows short ≡ record { answer = Ok z; rows = flatten rs; short = shortfalls P rs })
    unfolding leaf_bound
    leaf_gives d long j = (
      least_rows P.periods (λ t. q at t) (λ t. s at t) P.units m,
      ap (leaf_runs P (above root t i)) is,
      runs_there P W m (λ t. q at t) (λ t. s at t) (sym (any_stuck_ext P.periods P.units (marks_asked P bytes) m same) ∙ free_there),
      ap (leaf_bound P (above root t i)) is,
      runs_known d q s bytes rows short judged.0 ∙ ap (λ (Q : Instance). draft_under Q q s bytes rows short) judged.1 ∙ leaf_under,
    )
      where
        -- the docket asks its own problem, which is P
        judged : ((trusted d).known ≡ true) × (view d.problem ≡ P)
        judged = judged_known d long P j
