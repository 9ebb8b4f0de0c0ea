-- All units' entries in numbers, one unit after the other: a unit's are told by its part of the fixed statuses, and one unit more.
use mathlib.Core.Path.{◌≡◌, sym, ap, ◌∙◌}
use mathlib.Core.List.{List, [], ◌∷◌, ◌++◌, map, map-append, append_assoc, append-nil}
use mathlib.Core.Option.{Option}
use Prim.Native.Nat.{ℕ, zero, suc, ◌+◌, ◌*◌, ◌-◌, ◌≤◌, ◌<◌}
use native.Mathlib.Numerals.{add-one}
use native.Mathlib.Omega.{arith}
use lib.IntN.{ℤ}
use lib.ListN.{length, get_or, take, drop, length-append, length-map}
use lib.Seq.{take_all, take-length}
use borrow.Rule.Slice.PartMut.{put_mid}
use Rattle.model.specs.declared.generator.Generator.{Generator}
use Rattle.model.specs.Instance.{Instance}
use Rattle.model.specs.Ranges.{All, GoodUnit}
use Rattle.model.specs.Above.{Marks, rest}
use Rattle.model.specs.Forced.{forced_table, forced_tables}
use Rattle.walk.specs.Marks.{marks_of, marks_in}
use Rattle.least.proofs.UnitParts.{all_get_d, part_same}
use Rattle.runs.proofs.PartsWritten.{part_behind}
use Rattle.forced.proofs.UnitEntries.{forced_table_ext, forced_table_long}

-- ---- one unit's entries, by its part of the fixed statuses

part_table : (n : ℕ) (q s : ℕ → ℕ) (g : Generator) → GoodUnit g → (I u : ℕ) (fixed : List ℕ) → u < I → (N place long : ℕ) → N ≡ n → place ≡ u * n → long ≡ n
    → forced_table N q s g (marks_of (take long (drop place fixed))) ≡ forced_table n q s g (marks_in I n fixed u)
part_table n q s g good I u fixed inside = part_same I n u fixed inside (λ N m. forced_table N q s g m) (forced_table_ext n q s g good)

-- ---- the entries of the first units

module _ (n : ℕ) (q s : ℕ → ℕ) where
  abbrev pub front_tables : ℕ → List Generator → Marks → List (Option ℤ)
  front_tables u l m = forced_tables n q s (take u l) m

  -- one unit more
  front_more : (u : ℕ) (l : List Generator) (d : Generator) (m : Marks) → u < length l → front_tables (suc u) l m ≡ front_tables u l m ++ forced_table n q s (get_or l u d) (m u)
  unfolding forced_tables
  front_more u [] d m h = absurd (omega arith)
  front_more zero (g ∷ l) d m h = append-nil (forced_table n q s g (m 0))
  front_more (suc u) (g ∷ l) d m h =
      ap (λ (r : List (Option ℤ)). forced_table n q s g (m 0) ++ r) (front_more u l d (rest m) (omega arith))
      ∙ sym (append_assoc (forced_table n q s g (m 0)) (front_tables u l (rest m)) (forced_table n q s (get_or l u d) (m (suc u))))

  pub tables_long : (l : List Generator) (m : Marks) → length (forced_tables n q s l m) ≡ 2 * (length l * n)
  unfolding forced_tables
  tables_long [] m = omega arith
  tables_long (g ∷ l) m =
      omega (arith, length-append (forced_table n q s g (m 0)) (forced_tables n q s l (rest m)), forced_table_long n q s g (m 0), tables_long l (rest m))

-- ---- the loop over the units

-- in numbers, by what N makes of an entry
module _ (P : Instance) (good : All GoodUnit P.units) (q s : ℕ → ℕ) (fixed : List ℕ) {A : Type 0} (N : Option ℤ → A) where
  abbrev n : ℕ
  n = P.periods

  abbrev m : Marks
  m = marks_in (length P.units) P.periods fixed

  abbrev pub front_numbers : ℕ → List A
  front_numbers u = map N (front_tables n q s u P.units m)

  -- the next unit's entries are written behind those of the units before it; T and k are the periods as the code knows them
  pub table_written : (d : Generator) (u : ℕ) → u < length P.units → (begin T k : ℕ) → T ≡ n → k ≡ n → begin ≡ u * n
      → (written part : List A) → 2 * (begin + k) ≤ length written → take (2 * begin) written ≡ front_numbers u
      → part ≡ map N (forced_table T q s (get_or P.units u d) (marks_of (take (begin + k - begin) (drop begin fixed))))
      → (length (put_mid (2 * begin) (2 * (begin + k) - 2 * begin) written part) ≡ length written)
      × (take (2 * (begin + k)) (put_mid (2 * begin) (2 * (begin + k) - 2 * begin) written part) ≡ front_numbers (u + 1))
  table_written d u inside begin T k e f h written part room done i =
      let g = get_or P.units u d in
      let G = all_get_d GoodUnit u P.units d inside good in
      let r : part ≡ map N (forced_table n q s g (m u)) = i ∙ ap (map N) (part_table n q s g G (length P.units) u fixed inside T begin (begin + k - begin) e h (omega arith)) in
      let long : length part ≡ 2 * (begin + k) - 2 * begin = omega (arith, ap length r, length-map (forced_table n q s g (m u)) N, forced_table_long n q s g (m u)) in
      let w = part_behind (2 * begin) (2 * (begin + k)) written (front_numbers u) part (omega arith) room done long in
      (w.0, w.1 ∙ ap (λ (l : List A). front_numbers u ++ l) r ∙ sym (map-append N (front_tables n q s u P.units m) (forced_table n q s g (m u))) ∙ rw (add-one u) (ap (map N) (sym (front_more n q s u P.units d m inside))))

  -- the last unit's entries are written
  pub tables_written : (u begin : ℕ) (written : List A) → u ≡ length P.units → begin ≡ u * n → length written ≡ 2 * (length P.units * n)
      → take (2 * begin) written ≡ front_numbers u → written ≡ map N (forced_tables n q s P.units m)
  tables_written u begin written e f h i =
      sym (take_all (2 * begin) written (omega (arith, ap (λ (k : ℕ). k * n) e)))
      ∙ i
      ∙ ap (λ (l : List Generator). map N (forced_tables n q s l m)) (rw e (take-length P.units))
