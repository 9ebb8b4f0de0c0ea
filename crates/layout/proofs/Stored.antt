-- The problem's numbers are stored from an array's front, piece after piece: the counts, the demand, the spare, and one generator after the other.
use mathlib.Core.Path.{◌≡◌, refl, sym, ap, ap₂, ◌∙◌}
use mathlib.Core.List.{List, [], ◌∷◌, ◌++◌, map, append-nil, append_assoc}
use Prim.Native.Nat.{ℕ, zero, suc, ◌+◌, ◌*◌, ◌<◌, ◌≤◌}
use native.Mathlib.Numerals.{add-one}
use native.Mathlib.Omega.{arith}
use lib.ListN.{length, get_or, set, take, drop, replicate, length-append, length-map, take-append-drop}
use lib.Seq.{paste, length-take-le, take_all, take_at, drop-length}
use Rattle.model.specs.declared.generator.Generator.{Generator}
use Rattle.model.specs.declared.arrays.Problem.{Problem}
use Rattle.model.specs.Held.{blank_generator}
use Rattle.layout.specs.Numbers.{generator_numbers, all_numbers, laid_out, ranks_of, ranked_out}
use Rattle.layout.specs.Ranks.{pU_of, place_of}
use Rattle.layout.proofs.Fronts.{front, front_more}
use Rattle.layout.proofs.Places.{all_long, laid_long}

-- s whole, stored in d from k on
abbrev stored : List ℕ → ℕ → List ℕ → List ℕ
stored d k s = paste d k s (length s)

-- ---- the generators, after the first 98 numbers of d

-- d with the first u generators
abbrev pub begun : List ℕ → List Generator → ℕ → List ℕ
begun d gs u = front (take 98 d ++ all_numbers (take u gs)) d

all_more : (gs : List Generator) (u : ℕ) → u < length gs → all_numbers (take (suc u) gs) ≡ all_numbers (take u gs) ++ generator_numbers (get_or gs u blank_generator)
all_more [] u h = absurd (omega arith)
all_more (g ∷ gs) zero h = refl
all_more (g ∷ gs) (suc u) h = ap (λ (l : List ℕ). generator_numbers g ++ l) (all_more gs u (omega arith))

module _ (d : List ℕ) (gs : List Generator) (room : 98 ≤ length d) where
  first_long : length (take 98 d) ≡ 98
  first_long = length-take-le 98 d room

  pub begun_none : d ≡ begun d gs 0
  begun_none = rw (append-nil (take 98 d), first_long) (sym (take-append-drop 98 d))

  -- a generator more
  pub begun_more : (x w s : List ℕ) (u : ℕ) → u < length gs → x ≡ begun d gs u → s ≡ generator_numbers (get_or gs u blank_generator)
      → w ≡ stored x (98 + u * 16) s → w ≡ begun d gs (u + 1)
  begun_more x w s u h is piece stores =
      let before = all_numbers (take u gs) in
      let g = generator_numbers (get_or gs u blank_generator) in
      let long : length (take 98 d ++ before) ≡ 98 + u * 16 =
      length-append (take 98 d) before ∙ omega (arith, first_long, all_long (take u gs), length-take-le u gs (omega arith)) in
      stores ∙ ap (stored x (98 + u * 16)) piece ∙ front_more (take 98 d ++ before) d x g (98 + u * 16) is long
      ∙ ap (λ (l : List ℕ). front l d) (append_assoc (take 98 d) before g ∙ ap (λ (l : List ℕ). take 98 d ++ l) (sym (all_more gs u h)))
      ∙ ap (begun d gs) (sym (add-one u))

-- ---- the problem

module _ (p : Problem) (demand_long : length p.demand ≡ 48) (spare_long : length p.spare ≡ 48) (units_long : length p.generators ≡ 32) where
  -- the numbers before the generators
  abbrev counts : List ℕ
  counts = p.periods ∷ p.units ∷ []

  abbrev head : List ℕ
  head = (counts ++ p.demand) ++ p.spare

  module _ (v d : List ℕ) (demand : v ≡ stored (set (set (replicate 610 0) 0 p.periods) 1 p.units) 2 p.demand) (spare : d ≡ stored v 50 p.spare) where
    head_stored : d ≡ front head (replicate 610 0)
    head_stored =
        let long : length (counts ++ p.demand) ≡ 50 = length-append counts p.demand ∙ omega (arith, demand_long) in
        spare ∙ front_more (counts ++ p.demand) (replicate 610 0) v p.spare 50 (demand ∙ front_more counts (replicate 610 0) _ p.demand 2 refl refl) long

    first_is : take 98 d ≡ head
    first_is =
        let long : length head ≡ 98 = length-append (counts ++ p.demand) p.spare ∙ omega (arith, length-append counts p.demand, demand_long, spare_long) in
        ap (take 98) head_stored ∙ take_at head (drop (length head) (replicate 610 0)) 98 long

    whole_is : take 98 d ++ all_numbers (take 32 p.generators) ≡ laid_out p
    unfolding laid_out
    whole_is =
        rw (first_is, take_all 32 p.generators (omega (arith, units_long)))
        (ap (λ (l : List ℕ). p.periods ∷ p.units ∷ l) (append_assoc p.demand p.spare (all_numbers p.generators)))

    -- all of them
    pub begun_all : (x : List ℕ) (u : ℕ) → u ≡ 32 → length d ≡ 610 → x ≡ begun d p.generators u → x ≡ laid_out p
    begun_all x u last long is =
        is ∙ ap (begun d p.generators) last ∙ ap (λ (l : List ℕ). front l d) whole_is
        ∙ ap (λ (k : ℕ). laid_out p ++ drop k d) (laid_long p demand_long spare_long units_long ∙ sym long)
        ∙ ap (λ (l : List ℕ). laid_out p ++ l) (drop-length d)
        ∙ append-nil (laid_out p)

  -- with what the ranks are of behind it: they fill the array
  pub ranked_stored : (numbers ranks sizes places v w x : List ℕ) → numbers ≡ laid_out p → ranks ≡ ranks_of p → length ranks ≡ 32
      → sizes ≡ map pU_of ranks → places ≡ map (place_of p.periods) ranks
      → v ≡ stored (replicate 674 0) 0 numbers → w ≡ stored v 610 sizes → x ≡ stored w 642 places → x ≡ ranked_out p
  unfolding ranked_out
  ranked_stored numbers ranks sizes places v w x laid order many sized placed first second third =
      let long : length numbers ≡ 610 = ap length laid ∙ laid_long p demand_long spare_long units_long in
      let sizes_long : length sizes ≡ 32 = ap length sized ∙ length-map ranks pU_of ∙ many in
      let places_long : length places ≡ 32 = ap length placed ∙ length-map ranks (place_of p.periods) ∙ many in
      let both_long : length (numbers ++ sizes) ≡ 642 = length-append numbers sizes ∙ omega (arith, long, sizes_long) in
      let all_long : length ((numbers ++ sizes) ++ places) ≡ 674 = length-append (numbers ++ sizes) places ∙ omega (arith, both_long, places_long) in
      third
      ∙ front_more (numbers ++ sizes) (replicate 674 0) w places 642
      (second ∙ front_more numbers (replicate 674 0) v sizes 610 (first ∙ front_more [] (replicate 674 0) (replicate 674 0) numbers 0 refl refl) long) both_long
      ∙ ap (λ (k : ℕ). ((numbers ++ sizes) ++ places) ++ drop k (replicate 674 0)) all_long
      ∙ append-nil ((numbers ++ sizes) ++ places)
      ∙ append_assoc numbers sizes places
      ∙ ap₂ ◌++◌ laid (ap₂ ◌++◌ (sized ∙ ap (map pU_of) order) (placed ∙ ap (map (place_of p.periods)) order))
