-- What a docket tells of forced statuses: under the problem that it judges by, each unit's entries at their places; one answer alone is that; and of a price leaf of an accepted
-- tree they are the entries under the statuses above it.
use mathlib.Core.Path.{◌≡◌, refl, sym, ap, ap₂, subst, ◌∙◌}
use mathlib.Core.Bool.{Bool, true, false, cond}
use mathlib.Core.List.{List, map}
use mathlib.Core.Logic.{◌↔◌}
use mathlib.Core.Option.{Option, none, some}
use Prim.Native.Nat.{ℕ, ◌*◌, ◌<◌}
use native.Mathlib.Omega.{arith}
use lib.Dec.{T}
use lib.IntN.{ℤ, pos}
use lib.ListN.{length, get_or, length-map}
use Rattle.model.specs.declared.generator.Generator.{Generator}
use Rattle.model.specs.Instance.{Instance, ◌at◌}
use Rattle.model.specs.Ranges.{GoodUnit, WellFormed}
use Rattle.model.specs.Held.{view, blank_generator}
use Rattle.model.specs.Above.{Mark, Marks, allows, root}
use Rattle.model.specs.Agreement.{LeafOf, above, leaf_at}
use Rattle.model.specs.Leaf.{is_stuck, unit_least}
use Rattle.model.specs.Forced.{unit_answer, force, forced_least, forced_tables, value_number, stuck_number}
use Rattle.model.specs.Tree.{price, Tree, GoodLeaf, Limits}
use Rattle.layout.proofs.Ranks.{map_at}
use Rattle.std.specs.Prelude.{None, Some}
use Rattle.least.specs.UnitLeasts.{least_of}
use Rattle.least.proofs.UnitParts.{all_get_d}
use Rattle.runs.specs.Drafts.{marks_asked}
use Rattle.std.specs.Prelude.{Ok, Err}
use Rattle.runs.specs.declared.question.Unanswered.TheVariants.{Unfit}
use Rattle.forced.specs.Answers as entries
use Rattle.forced.specs.Answers.{fits, FitQuestion, untold, entries_asked, told_under}
use Rattle.forced.proofs.Questions.{fits_is}
use Rattle.forced.proofs.Answers.{found, fit_told}
use Rattle.forced.proofs.UnitEntries.{forced_least_ext}
use Rattle.forced.proofs.AllEntries.{tables_long}
use Rattle.docket.specs.declared.Docket.{Docket}
use Rattle.docket.specs.Verdicts.{Verdict}
use Rattle.docket.specs.Texts.{Are}
use Rattle.docket.specs.Lodging.{trusted}
use Rattle.docket.specs.Promised.{after, given, Long, JudgesBy, its_own, no_problem}
use Rattle.docket.specs.Forcing.{forced_of}
use Rattle.docket.specs.Requested as said
use Rattle.docket.specs.Requested.{as_entry, place, Entries, EntriesTold, status_bytes}
use Rattle.docket.proofs.AskedUnder.{its_known, none_known, judged_known, given_known, none_given}
use Rattle.docket.proofs.StatusBytes.{bytes_long, all_bytes, bytes_same, good_leaf}
use Rattle.docket.proofs.ForcedPlaces.{place_inside, placed_same, tables_at}
use Rattle.docket.proofs.ForcedAsked.{forced_known, forced_none}

-- ---- one entry

module _ (n : ℕ) (q s : ℕ → ℕ) (g : Generator) (m : ℕ → Mark) where
  -- where the period's mark allows the status, it is what the unit answers with that fixed too
  pub forced_allowed : (t : ℕ) (d : Bool) → T (allows (m t) d) → forced_least n q s g m t d ≡ unit_answer n q s g (force t d m)
  forced_allowed t d = go (allows (m t) d)
    where
      go : (b : Bool) → T b → cond b (unit_answer n q s g (force t d m)) none ≡ unit_answer n q s g (force t d m)
      go true h = refl
      go false h = absurd h

  -- and what it answers is what the single walk gives
  pub answer_walked : unit_answer n q s g m ≡ as_entry (least_of n q s g m)
  answer_walked = go (is_stuck n g m)
    where
      go : (b : Bool) → cond b none (some (unit_least n q s g m)) ≡ as_entry (cond b None (Some (unit_least n q s g m)))
      go true = refl
      go false = refl

-- ---- under a problem

-- the entries of all units, each in two numbers
module _ (P : Instance) (m : Marks) (q s : ℕ → ℕ) where
  abbrev all : List (Option ℤ)
  all = forced_tables P.periods q s P.units m

  entries_there : Entries P m q s (map value_number all) (map stuck_number all)
  entries_there = record {
    values_long = length-map all value_number ∙ long;
    stuck_long = length-map all stuck_number ∙ long;
    each = λ u h t l d.
        let i = place P.periods u t d in
        let inside : i < length all = omega (arith, long, place_inside P.periods (length P.units) u h t l d) in
        let e = tables_at P.periods q s P.units m blank_generator u h t l d in
        (map_at value_number all i none (pos 0) inside ∙ ap value_number e, map_at stuck_number all i none 0 inside ∙ ap stuck_number e);
  }
    where
      long : length all ≡ 2 * (length P.units * P.periods)
      long = tables_long P.periods q s P.units m

module _ (P : Instance) (q s fixed : List ℕ) (values : List ℤ) (stuck : List ℕ) where
  told_there : EntriesTold q s fixed values stuck (some P) (told_under P q s fixed values stuck)
  unfolding told_under
  told_there = go (fits P q s fixed (length values) (length stuck)) (fits_is P q s fixed (length values) (length stuck))
    where
      go : (b : Bool) → (b ≡ true) ↔ FitQuestion P q s fixed (length values) (length stuck)
          → EntriesTold q s fixed values stuck (some P)
          (cond b (record { answer = Ok tt; values = map value_number (entries_asked P q s fixed); stuck = map stuck_number (entries_asked P q s fixed) })
          (untold values stuck (Err Unfit)))
      go true f = said.found (f.0 refl) (entries_there P (marks_asked P fixed) (λ t. q at t) (λ t. s at t))
      go false f = said.unfit (λ F. let e = f.1 F in let z : ◌≡◌ {A = ℕ} 0 1 = cc in omega arith)

-- ---- of every docket value

module _ (q s fixed : List ℕ) (values : List ℤ) (stuck : List ℕ) where
  told_by : (d : Docket) → (trusted d).known ≡ true → EntriesTold q s fixed values stuck (some (view d.problem)) (forced_of d q s fixed values stuck)
  told_by d k = subst (EntriesTold q s fixed values stuck (some (view d.problem))) (sym (forced_known d q s fixed values stuck k)) (told_there (view d.problem) q s fixed values stuck)

  told_free : (d : Docket) → (trusted d).known ≡ false → EntriesTold q s fixed values stuck none (forced_of d q s fixed values stuck)
  told_free d k = subst (EntriesTold q s fixed values stuck none) (sym (forced_none d q s fixed values stuck k)) said.no_problem

  pub told_anywhere : (d : Docket) → Long d → (o : Option Instance) → JudgesBy d o → EntriesTold q s fixed values stuck o (forced_of d q s fixed values stuck)
  told_anywhere d long _ (its_own k) = told_by d (its_known d long k)
  told_anywhere d long _ (no_problem n) = told_free d (none_known d long n)

  -- ---- after a list of texts

  module _ (texts : List (List ℕ)) (vs : List Verdict) (are : Are none texts vs) where
    -- under the problem that they gave, by computing
    pub told_as : (P : Instance) → given vs ≡ some P → forced_of (after texts) q s fixed values stuck ≡ told_under P q s fixed values stuck
    told_as P e =
        let h = given_known texts vs are P e in
        forced_known (after texts) q s fixed values stuck h.0 ∙ ap (λ (Q : Instance). told_under Q q s fixed values stuck) h.1

    pub told_after : EntriesTold q s fixed values stuck (given vs) (forced_of (after texts) q s fixed values stuck)
    told_after = go (given vs) refl
      where
        go : (o : Option Instance) → given vs ≡ o → EntriesTold q s fixed values stuck o (forced_of (after texts) q s fixed values stuck)
        go none e = told_free (after texts) (none_given texts vs are e)
        go (some P) e = subst (EntriesTold q s fixed values stuck (some P)) (sym (told_as P e)) (told_there P q s fixed values stuck)

-- ---- one answer alone

module _ (P : Instance) (m : Marks) (q s : ℕ → ℕ) where
  one_entries : (x x' : List ℤ) (y y' : List ℕ) → Entries P m q s x y → Entries P m q s x' y' → (x ≡ x') × (y ≡ y')
  one_entries x x' y y' a b = (
    placed_same P.periods (length P.units) (pos 0) x x' a.values_long b.values_long (λ u h t l d. (a.each u h t l d).0 ∙ sym (b.each u h t l d).0),
    placed_same P.periods (length P.units) 0 y y' a.stuck_long b.stuck_long (λ u h t l d. (a.each u h t l d).1 ∙ sym (b.each u h t l d).1),
  )

pub told_one : (q s fixed : List ℕ) (values : List ℤ) (stuck : List ℕ) (o : Option Instance) (x y : entries.Told)
    → EntriesTold q s fixed values stuck o x → EntriesTold q s fixed values stuck o y → x ≡ y
told_one q s fx values stuck _ _ _ said.no_problem said.no_problem = refl
told_one q s fx values stuck _ _ _ (said.unfit n) (said.unfit k) = refl
told_one q s fx values stuck _ _ _ (said.unfit n) (said.found F a) = absurd (n F)
told_one q s fx values stuck _ _ _ (said.found F a) (said.unfit n) = absurd (n F)
told_one q s fx values stuck (some P) _ _ (said.found {x = x} {y = y} F a) (said.found {x = x'} {y = y'} G b) =
    let e = one_entries P (marks_asked P fx) (λ t. q at t) (λ t. s at t) x x' y y' a b in
    ap₂ (λ (v : List ℤ) (w : List ℕ). record { answer = Ok tt; values = v; stuck = w }) e.0 e.1

-- ---- a price leaf of a tree

module _ (P : Instance) (W : WellFormed P) (t : Tree) (limits : Limits P root 0 t) (i : LeafOf t) (q s : List ℕ) (is : leaf_at t i ≡ price q s) where
  abbrev m : Marks
  m = (above root t i).marks

  abbrev bytes : List ℕ
  bytes = status_bytes (length P.units) P.periods m

  multipliers : GoodLeaf P (price q s)
  multipliers = subst (GoodLeaf P) is (good_leaf P root 0 t limits i)

  -- its entries are those under the statuses above it
  entries_alike : (x : List ℤ) (y : List ℕ) → Entries P (marks_asked P bytes) (λ t. q at t) (λ t. s at t) x y → Entries P m (λ t. q at t) (λ t. s at t) x y
  entries_alike x y E = record {
    values_long = E.values_long;
    stuck_long = E.stuck_long;
    each = λ u h t l d.
        let e = forced_least_ext P.periods (λ t. q at t) (λ t. s at t) (get_or P.units u blank_generator) (all_get_d GoodUnit u P.units blank_generator h W.units_good)
        (marks_asked P bytes u) (m u) (bytes_same P m u h) t l d in
        ((E.each u h t l d).0 ∙ ap value_number e, (E.each u h t l d).1 ∙ ap stuck_number e);
  }

  module _ (values : List ℤ) (stuck : List ℕ) (values_long : length values ≡ 2 * (length P.units * P.periods)) (stuck_long : length stuck ≡ 2 * (length P.units * P.periods)) where
    leaf_fits : FitQuestion P q s bytes (length values) (length stuck)
    unfolding GoodLeaf
    leaf_fits = record {
      q_long = multipliers.0.0;
      s_long = multipliers.1.0;
      fixed_long = bytes_long P.periods (length P.units) m;
      values_long = values_long;
      stuck_long = stuck_long;
      q_in = multipliers.0.1;
      s_in = multipliers.1.1;
      statuses = all_bytes P.periods (length P.units) m;
    }

    -- what is told of it is its entries
    leaf_under : told_under P q s bytes values stuck ≡ found P q s bytes
    leaf_under = sym (fit_told P q s bytes values stuck ((fits_is P q s bytes (length values) (length stuck)).1 leaf_fits))

    pub leaf_entries : (d : Docket) → Long d → JudgesBy d (some P) → (x : List ℤ) × (y : List ℕ) × Entries P m (λ t. q at t) (λ t. s at t) x y
        × (forced_of d q s bytes values stuck ≡ record { answer = Ok tt; values = x; stuck = y })
    leaf_entries d long j = (
      map value_number (entries_asked P q s bytes),
      map stuck_number (entries_asked P q s bytes),
      entries_alike _ _ (entries_there P (marks_asked P bytes) (λ t. q at t) (λ t. s at t)),
      forced_known d q s bytes values stuck judged.0 ∙ ap (λ (Q : Instance). told_under Q q s bytes values stuck) judged.1 ∙ leaf_under,
    )
      where
        -- the docket asks its own problem, which is P
        judged : ((trusted d).known ≡ true) × (view d.problem ≡ P)
        judged = judged_known d long P j
