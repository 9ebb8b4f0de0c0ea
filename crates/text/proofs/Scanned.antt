-- What the reader of values answers is what the tests say of the line: the values up to byte 10 are those of the line, cut
-- at its commas.
use Prim.Native.Nat.{ℕ, suc, ◌+◌, ◌<◌}
use native.Mathlib.Numerals.{add-one}
use native.Mathlib.Omega.{arith}
use mathlib.Core.Path.{◌≡◌, refl, sym, ap, subst, ◌∙◌}
use mathlib.Core.Bool.{Bool, true, false, not, ◌&&◌, ◌||◌, or-false, cond}
use mathlib.Core.List.{List, [], ◌∷◌, ◌++◌}
use lib.ListN.{length, drop, set, length-append}
use lib.Seq.{drop-drop, sets, drop-append_seam}
use lib.Dec.{eqb}
use Rattle.text.specs.Lines.{Line, missing, unended, ended, bytes_of, due, longer, cut_at, lines_of, line_at, one_line, begins}
use Rattle.text.specs.Forms.{by_comma, cut_values, has_minus, formed, all_formed, any_minus, Form, values_of, malformed}
use Rattle.text.specs.Rendering.{comma_joined}
use Rattle.text.specs.Scan.{Scan, cut, last, more, wider, by_byte, scan, magnitude, no_values, some_values, ValuesRead, wrong, reading, values_at, keyed_at}
use Rattle.text.specs.declared.Values.{Values}
use Rattle.std.specs.Prelude.{Option, None, Some}
use Rattle.std.proofs.lemmas.Option.{same_Some}
use Rattle.text.proofs.Cuts.{prepend, prepend_ended, prepend_unended, prepend_missing, line_append, text_ended}
use Rattle.text.proofs.Joins.{joined_cut, values_some}
use Rattle.text.proofs.Keys.{begins_append, begins_text, begins_longer}

-- ---- the values of a line as the reader meets them

-- the values of a line, which byte 10 ends or does not
abbrev to_scan : Bool → List (List ℕ) → Scan
to_scan e [] = cut
to_scan e (f ∷ []) = cond e (last f) cut
to_scan e (f ∷ g ∷ fs) = more f (to_scan e (g ∷ fs))

abbrev line_scan : Line → Scan
line_scan missing = cut
line_scan (unended b) = to_scan false (cut_values b)
line_scan (ended b) = to_scan true (cut_values b)

more_step : (e : Bool) (fs : List (List ℕ)) → 0 < length fs → more [] (to_scan e fs) ≡ to_scan e ([] ∷ fs)
more_step e [] h = absurd (omega arith)
more_step e (f ∷ fs) h = refl

wide_step : (e : Bool) (c : ℕ) (fs : List (List ℕ)) → 0 < length fs → wider c (to_scan e fs) ≡ to_scan e (by_comma false c fs)
wide_step e c [] h = absurd (omega arith)
wide_step true c (f ∷ []) h = refl
wide_step false c (f ∷ []) h = refl
wide_step e c (f ∷ g ∷ fs) h = refl

scan_line : (t : List ℕ) → scan t ≡ line_scan (due (lines_of t))
scan_line [] = refl
scan_line (c ∷ t) = go (eqb c 10) (scan_line t)
  where
    within : (q : Bool) → eqb c 44 ≡ q → (d : Line) → scan t ≡ line_scan d → by_byte false q c (scan t) ≡ line_scan (longer c d)
    within true u missing w = simp u (ap (more []) w)
    within true u (unended b) w = simp u (ap (more []) w ∙ more_step false (cut_values b) (values_some b))
    within true u (ended b) w = simp u (ap (more []) w ∙ more_step true (cut_values b) (values_some b))
    within false u missing w = simp u (ap (wider c) w)
    within false u (unended b) w = simp u (ap (wider c) w ∙ wide_step false c (cut_values b) (values_some b))
    within false u (ended b) w = simp u (ap (wider c) w ∙ wide_step true c (cut_values b) (values_some b))

    go : (p : Bool) → scan t ≡ line_scan (due (lines_of t)) → by_byte p (eqb c 44) c (scan t) ≡ line_scan (due (cut_at p c (lines_of t)))
    go true w = refl
    go false w = within (eqb c 44) refl (due (lines_of t)) w

-- ---- reading them

abbrev pub magnitudes : List (List ℕ) → List ℕ
magnitudes [] = []
magnitudes (f ∷ fs) = magnitude f ∷ magnitudes fs

-- every value is formed
reading_formed : (m : ℕ) (f : List ℕ) (fs : List (List ℕ)) (at k : ℕ) (minus : Bool) (o : List ℕ) → all_formed m (suc k) (f ∷ fs) ≡ true
    → reading m (to_scan true (f ∷ fs)) at k minus o
    ≡ record { answer = some_values (k + length (f ∷ fs)) (at + length (comma_joined (f ∷ fs)) + 1) (minus || any_minus (f ∷ fs)); out = sets o k (magnitudes (f ∷ fs)) }
unfolding reading
reading_formed m f [] at k minus o e = go (formed (eqb (suc k) m) f) refl e
  where
    go : (t : Bool) → formed (eqb (suc k) m) f ≡ t → (t && true) ≡ true
        → cond (formed (eqb (k + 1) m) f) (record { answer = some_values (k + 1) (at + length f + 1) (minus || has_minus f); out = set o k (magnitude f) }) (wrong o)
        ≡ record { answer = some_values (k + 1) (at + length f + 1) (minus || (has_minus f || false)); out = set o k (magnitude f) }
    go true u e = simp (add-one, u, or-false)
    go false u e = absurd (let z : ◌≡◌ {A = ℕ} 0 1 = cc in omega arith)
reading_formed m f (g ∷ fs) at k minus o e = go (formed (eqb (suc k) m) f) refl e (reading_formed m g fs (at + length f + 1) (suc k) (minus || has_minus f) (set o k (magnitude f)))
  where
    or_again : (a b c : Bool) → ((a || b) || c) ≡ (a || (b || c))
    or_again true b c = refl
    or_again false b c = refl

    go : (t : Bool) → formed (eqb (suc k) m) f ≡ t → (t && all_formed m (suc (suc k)) (g ∷ fs)) ≡ true
        → (all_formed m (suc (suc k)) (g ∷ fs) ≡ true → reading m (to_scan true (g ∷ fs)) (at + length f + 1) (suc k) (minus || has_minus f) (set o k (magnitude f))
        ≡ record { answer = some_values (suc k + length (g ∷ fs)) (at + length f + 1 + length (comma_joined (g ∷ fs)) + 1) ((minus || has_minus f) || any_minus (g ∷ fs)); out = sets (set o k (magnitude f)) (suc k) (magnitudes (g ∷ fs)) })
        → cond (formed (eqb (k + 1) m) f) (reading m (to_scan true (g ∷ fs)) (at + length f + 1) (k + 1) (minus || has_minus f) (set o k (magnitude f))) (wrong o)
        ≡ record { answer = some_values (k + length (f ∷ g ∷ fs)) (at + length (comma_joined (f ∷ g ∷ fs)) + 1) (minus || any_minus (f ∷ g ∷ fs)); out = sets o k (magnitudes (f ∷ g ∷ fs)) }
    go true u e rec =
        let n : suc k + length (g ∷ fs) ≡ k + length (f ∷ g ∷ fs) = omega arith in
        let w : at + length f + 1 + length (comma_joined (g ∷ fs)) + 1 ≡ at + length (comma_joined (f ∷ g ∷ fs)) + 1 = omega (arith, length-append f (44 ∷ comma_joined (g ∷ fs))) in
        simp (add-one k, u) (rec e ∙ (λ i. record { answer = some_values (n i) (w i) (or_again minus (has_minus f) (any_minus (g ∷ fs)) i); out = sets (set o k (magnitude f)) (suc k) (magnitudes (g ∷ fs)) }))
    go false u e rec = absurd (let z : ◌≡◌ {A = ℕ} 0 1 = cc in omega arith)

-- some value is not
reading_unformed : (m : ℕ) (l : Bool) (fs : List (List ℕ)) (at k : ℕ) (minus : Bool) (o : List ℕ) → all_formed m (suc k) fs ≡ false → (reading m (to_scan l fs) at k minus o).answer ≡ no_values
unfolding reading
reading_unformed m l [] at k minus o e = absurd (let z : ◌≡◌ {A = ℕ} 0 1 = cc in omega arith)
reading_unformed m true (f ∷ []) at k minus o e = go (formed (eqb (suc k) m) f) refl e
  where
    go : (t : Bool) → formed (eqb (suc k) m) f ≡ t → (t && true) ≡ false
        → (cond (formed (eqb (k + 1) m) f) (record { answer = some_values (k + 1) (at + length f + 1) (minus || has_minus f); out = set o k (magnitude f) }) (wrong o)).answer ≡ no_values
    go true u e = absurd (let z : ◌≡◌ {A = ℕ} 0 1 = cc in omega arith)
    go false u e = simp (add-one, u)
reading_unformed m false (f ∷ []) at k minus o e = refl
reading_unformed m l (f ∷ g ∷ fs) at k minus o e = go (formed (eqb (suc k) m) f) refl e (reading_unformed m l (g ∷ fs) (at + length f + 1) (suc k) (minus || has_minus f) (set o k (magnitude f)))
  where
    go : (t : Bool) → formed (eqb (suc k) m) f ≡ t → (t && all_formed m (suc (suc k)) (g ∷ fs)) ≡ false
        → (all_formed m (suc (suc k)) (g ∷ fs) ≡ false → (reading m (to_scan l (g ∷ fs)) (at + length f + 1) (suc k) (minus || has_minus f) (set o k (magnitude f))).answer ≡ no_values)
        → (cond (formed (eqb (k + 1) m) f) (reading m (to_scan l (g ∷ fs)) (at + length f + 1) (k + 1) (minus || has_minus f) (set o k (magnitude f))) (wrong o)).answer ≡ no_values
    go true u e rec = simp (add-one k, u) (rec e)
    go false u e rec = simp (add-one k, u)

-- byte 10 does not come
reading_open : (m : ℕ) (fs : List (List ℕ)) (at k : ℕ) (minus : Bool) (o : List ℕ) → (reading m (to_scan false fs) at k minus o).answer ≡ no_values
unfolding reading
reading_open m [] at k minus o = refl
reading_open m (f ∷ []) at k minus o = refl
reading_open m (f ∷ g ∷ fs) at k minus o = go (formed (eqb (k + 1) m) f) (reading_open m (g ∷ fs) (at + length f + 1) (k + 1) (minus || has_minus f) (set o k (magnitude f)))
  where
    go : (t : Bool) → (reading m (to_scan false (g ∷ fs)) (at + length f + 1) (k + 1) (minus || has_minus f) (set o k (magnitude f))).answer ≡ no_values
        → (cond t (reading m (to_scan false (g ∷ fs)) (at + length f + 1) (k + 1) (minus || has_minus f) (set o k (magnitude f))) (wrong o)).answer ≡ no_values
    go true h = h
    go false h = refl

-- ---- the line by what the reader answers

-- what is known of a line whose values were read
pub record WasRead (f : Form) (l : Line) (at : ℕ) (o : List ℕ) (c e : ℕ) (neg : Bool) (out : List ℕ) : Type 0 where
  pub formed : malformed f l ≡ false
  pub count : c ≡ length (values_of f l)
  pub end : e ≡ at + length (bytes_of l) + 1
  pub sign : neg ≡ any_minus (values_of f l)
  pub stored : out ≡ sets o 0 (magnitudes (values_of f l))

-- the key is not there
key_off : (f : Form) (s : List ℕ) (at : ℕ) → begins f.key (drop at s) ≡ false → malformed f (line_at s at) ≡ true
unfolding malformed
key_off f s at e = go (line_at s at) refl
  where
    other : (b : List ℕ) → line_at s at ≡ ended b → (t : Bool) → begins f.key b ≡ t → not (t && all_formed f.minus 1 (values_of f (ended b))) ≡ true
    other b q false u = refl
    other b q true u =
        let w : begins f.key (drop at s) ≡ true = ap (begins f.key) (text_ended (drop at s) b q) ∙ begins_longer f.key b (10 ∷ drop (length b + 1) (drop at s)) u in
        let z : ◌≡◌ {A = Bool} true false = sym w ∙ e in
        absurd (let y : ◌≡◌ {A = ℕ} 0 1 = cc in omega arith)

    go : (l : Line) → line_at s at ≡ l → malformed f l ≡ true
    go missing q = refl
    go (unended b) q = refl
    go (ended b) q = other b q (begins f.key b) refl

-- the key is there: the line is the key and the line that starts after it
module _ (f : Form) (s o : List ℕ) (at : ℕ) (one : one_line f.key ≡ true) (on : begins f.key (drop at s) ≡ true) where
  line_is : line_at s at ≡ prepend f.key (line_at s (at + length f.key))
  line_is =
      ap (λ (t : List ℕ). due (lines_of t)) (begins_text f.key (drop at s) on ∙ ap (λ (t : List ℕ). f.key ++ t) (drop-drop (length f.key) at s))
      ∙ line_append f.key (drop (at + length f.key) s) one

  values_are : (b : List ℕ) → values_of f (ended (f.key ++ b)) ≡ cut_values b
  values_are b = ap cut_values (drop-append_seam f.key b)

  formed_is : (b : List ℕ) → malformed f (ended (f.key ++ b)) ≡ not (all_formed f.minus 1 (cut_values b))
  unfolding malformed
  formed_is b = simp (begins_append f.key b, values_are b)

  abbrev place : ℕ
  place = at + length f.key

  reads : (l : Line) → line_at s place ≡ l → values_at s place f.minus o ≡ reading f.minus (line_scan l) place 0 false o
  unfolding values_at
  reads l e = ap (λ (g : Scan). reading f.minus g place 0 false o) (scan_line (drop place s) ∙ ap line_scan e)

  never : (c e : ℕ) (neg : Bool) (a : Option Values) → a ≡ no_values → a ≡ some_values c e neg → ⊥
  never c e neg a p q = let z : ◌≡◌ {A = ℕ} 0 1 = cc in omega arith

  -- by the line after the key
  answer_wrong : (values_at s place f.minus o).answer ≡ no_values → malformed f (line_at s at) ≡ true
  unfolding malformed
  answer_wrong q = go (line_at s place) refl
    where
      all : (b : List ℕ) → line_at s place ≡ ended b → (t : Bool) → all_formed f.minus 1 (cut_values b) ≡ t → not t ≡ true
      all b e false u = refl
      all b e true u = some (cut_values b) refl (values_some b)
        where
          some : (fs : List (List ℕ)) → cut_values b ≡ fs → 0 < length fs → false ≡ true
          some [] w h = absurd (omega arith)
          some (g ∷ fs) w h =
              let r = reads (ended b) e ∙ ap (λ (x : List (List ℕ)). reading f.minus (to_scan true x) place 0 false o) w ∙ reading_formed f.minus g fs place 0 false o (ap (all_formed f.minus 1) (sym w) ∙ u) in
              absurd (never _ _ _ (values_at s place f.minus o).answer q (ap (λ (x : ValuesRead). x.answer) r))

      no_line : (k : List ℕ) → malformed f (prepend k missing) ≡ true
      no_line [] = refl
      no_line (x ∷ k) = ap (malformed f) (prepend_missing x k)

      go : (l : Line) → line_at s place ≡ l → malformed f (line_at s at) ≡ true
      go missing e = ap (malformed f) (line_is ∙ ap (prepend f.key) e) ∙ no_line f.key
      go (unended b) e = ap (malformed f) (line_is ∙ ap (prepend f.key) e ∙ prepend_unended f.key b)
      go (ended b) e =
          ap (malformed f) (line_is ∙ ap (prepend f.key) e ∙ prepend_ended f.key b) ∙ formed_is b ∙ all b e (all_formed f.minus 1 (cut_values b)) refl

  answer_read : (c e : ℕ) (neg : Bool) → (values_at s place f.minus o).answer ≡ some_values c e neg
      → WasRead f (line_at s at) at o c e neg (values_at s place f.minus o).out
  answer_read c e neg q = go (line_at s place) refl
    where
      wrong_read : (r : ValuesRead) → values_at s place f.minus o ≡ r → r.answer ≡ no_values → ⊥
      wrong_read r w h = never c e neg (values_at s place f.minus o).answer (ap (λ (x : ValuesRead). x.answer) w ∙ h) q

      some : (b : List ℕ) → line_at s place ≡ ended b → all_formed f.minus 1 (cut_values b) ≡ true → (fs : List (List ℕ)) → cut_values b ≡ fs → 0 < length fs
          → WasRead f (ended (f.key ++ b)) at o c e neg (values_at s place f.minus o).out
      some b l u [] w h = absurd (omega arith)
      some b l u (g ∷ fs) w h =
          let vs : values_of f (ended (f.key ++ b)) ≡ g ∷ fs = values_are b ∙ w in
          let r = reads (ended b) l ∙ ap (λ (x : List (List ℕ)). reading f.minus (to_scan true x) place 0 false o) w ∙ reading_formed f.minus g fs place 0 false o (ap (all_formed f.minus 1) (sym w) ∙ u) in
          let p : some_values (0 + length (g ∷ fs)) (place + length (comma_joined (g ∷ fs)) + 1) (any_minus (g ∷ fs)) ≡ some_values c e neg = sym (ap (λ (x : ValuesRead). x.answer) r) ∙ q in
          let v = same_Some _ _ p in
          let pc : 0 + length (g ∷ fs) ≡ c = ap (λ (x : Values). x.count) v in
          let pe : place + length (comma_joined (g ∷ fs)) + 1 ≡ e = ap (λ (x : Values). x.next) v in
          let pn : any_minus (g ∷ fs) ≡ neg = ap (λ (x : Values). x.minus) v in
          let j : length (comma_joined (g ∷ fs)) ≡ length b = ap (λ (x : List (List ℕ)). length (comma_joined x)) (sym w) ∙ ap length (joined_cut b) in
          record {
            formed = formed_is b ∙ ap not u;
            count = omega (arith, pc, ap (λ (x : List (List ℕ)). length x) vs);
            end = omega (arith, length-append f.key b, j);
            sign = sym pn ∙ ap any_minus (sym vs);
            stored = ap (λ (x : ValuesRead). x.out) r ∙ ap (λ (x : List (List ℕ)). sets o 0 (magnitudes x)) (sym vs);
          }

      all : (b : List ℕ) → line_at s place ≡ ended b → (t : Bool) → all_formed f.minus 1 (cut_values b) ≡ t
          → WasRead f (ended (f.key ++ b)) at o c e neg (values_at s place f.minus o).out
      all b l true u = some b l u (cut_values b) refl (values_some b)
      all b l false u = absurd (wrong_read _ (reads (ended b) l) (reading_unformed f.minus true (cut_values b) place 0 false o u))

      go : (l : Line) → line_at s place ≡ l → WasRead f (line_at s at) at o c e neg (values_at s place f.minus o).out
      go missing l = absurd (wrong_read _ (reads missing l) (reading_open f.minus [] place 0 false o))
      go (unended b) l = absurd (wrong_read _ (reads (unended b) l) (reading_open f.minus (cut_values b) place 0 false o))
      go (ended b) l =
          subst (λ (x : Line). WasRead f x at o c e neg (values_at s place f.minus o).out) (sym (line_is ∙ ap (prepend f.key) l ∙ prepend_ended f.key b))
          (all b l (all_formed f.minus 1 (cut_values b)) refl)

-- ---- with its key

-- the line is malformed and no values are answered, or those answered are the line's
pub data Met (f : Form) (l : Line) (at : ℕ) (o : List ℕ) (r : ValuesRead) : Type 0 where
  unread : r.answer ≡ no_values → malformed f l ≡ true → Met f l at o r
  read : (c e : ℕ) (neg : Bool) → r.answer ≡ some_values c e neg → WasRead f l at o c e neg r.out → Met f l at o r

pub met : (f : Form) (s o : List ℕ) (at : ℕ) → one_line f.key ≡ true → Met f (line_at s at) at o (keyed_at f.key s at f.minus o)
unfolding keyed_at
met f s o at one = keyed (begins f.key (drop at s)) refl
  where
    answered : begins f.key (drop at s) ≡ true → (a : Option Values) → (values_at s (at + length f.key) f.minus o).answer ≡ a
        → Met f (line_at s at) at o (values_at s (at + length f.key) f.minus o)
    answered on None q = unread q (answer_wrong f s o at one on q)
    answered on (Some v) q = read v.count v.next v.minus q (answer_read f s o at one on v.count v.next v.minus q)

    keyed : (t : Bool) → begins f.key (drop at s) ≡ t → Met f (line_at s at) at o (cond t (values_at s (at + length f.key) f.minus o) (wrong o))
    keyed true on = answered on (values_at s (at + length f.key) f.minus o).answer refl
    keyed false off = unread refl (key_off f s at off)
