-- Which node line stands at a place: the bytes of a line begin with a key exactly where the text from there on does.
use mathlib.Core.Path.{◌≡◌, refl, sym, ap, ◌∙◌}
use mathlib.Core.Bool.{Bool, true, false, not, cond, ◌&&◌}
use mathlib.Core.List.{List, [], ◌∷◌}
use Prim.Native.Nat.{ℕ}
use native.Mathlib.Omega.{arith}
use lib.Dec.{eqb}
use lib.ListN.{drop}
use borrow.Author.Tests.{not-true, ne_eqb}
use Rattle.text.specs.Lines.{Line, missing, unended, ended, bytes_of, due, longer, cut_at, lines_of, line_at, one_line, begins}
use Rattle.text.proofs.Cuts.{and_both}
use Rattle.tree.specs.Rendering.{split_key, count_key, short_key, crowd_key, stuck_key, rampprice_key}
use Rattle.tree.specs.NodeLines.{node_keys, kind_among, line_kind_of}
use Rattle.tree.specs.Refusals.{LineKind, split_line, count_line, short_line, crowd_line, stuck_line, price_line, ramp_line}

longer_bytes : (b : ℕ) (l : Line) → bytes_of (longer b l) ≡ b ∷ bytes_of l
longer_bytes b missing = refl
longer_bytes b (unended x) = refl
longer_bytes b (ended x) = refl

begins_due : (key t : List ℕ) → one_line key ≡ true → begins key (bytes_of (due (lines_of t))) ≡ begins key t
begins_due [] t e = refl
begins_due (k ∷ key) [] e = refl
begins_due (k ∷ key) (b ∷ t) e =
    let p = and_both (not (eqb k 10)) (one_line key) e in
    go (eqb b 10) refl (not-true (eqb k 10) p.0) (begins_due key t p.1)
  where
    go : (x : Bool) → eqb b 10 ≡ x → eqb k 10 ≡ false → begins key (bytes_of (due (lines_of t))) ≡ begins key t
        → begins (k ∷ key) (bytes_of (due (cut_at x b (lines_of t)))) ≡ (eqb b k && begins key t)
    go true u v rec =
        let n : eqb b k ≡ false = ne_eqb b k (λ q. let z : ◌≡◌ {A = Bool} true false = sym u ∙ ap (λ (x : ℕ). eqb x 10) q ∙ v in let y : ◌≡◌ {A = ℕ} 0 1 = cc in omega arith) in
        rw n refl
    go false u v rec = ap (begins (k ∷ key)) (longer_bytes b (due (lines_of t))) ∙ ap (λ (x : Bool). eqb b k && x) rec

abbrev OneLine : List (List ℕ × LineKind) → Type 0
OneLine [] = Unit {0}
OneLine (k ∷ ks) = (one_line k.0 ≡ true) × OneLine ks

among_due : (ks : List (List ℕ × LineKind)) (t : List ℕ) → OneLine ks → kind_among ks (bytes_of (due (lines_of t))) ≡ kind_among ks t
among_due [] t o = refl
among_due (k ∷ ks) t o = λ i. cond (begins_due k.0 t o.0 i) k.1 (among_due ks t o.1 i)

-- what `find_kind` answers at each return
module _ (text : List ℕ) (here : ℕ) where
  -- the text from there on begins with the key, or does not
  abbrev pub Begins : List ℕ → Bool → Type 0
  Begins key b = begins key (drop here text) ≡ b

  abbrev pub Stands : LineKind → Type 0
  Stands k = k ≡ line_kind_of (line_at text here)

  by_keys : line_kind_of (line_at text here) ≡ kind_among node_keys (drop here text)
  unfolding line_kind_of
  by_keys = among_due node_keys (drop here text) (refl, (refl, (refl, (refl, (refl, (refl, tt))))))

  pub split_there : Begins split_key true → Stands split_line
  split_there a = sym (by_keys ∙ rw a refl)

  module _ (a : Begins split_key false) where
    pub count_there : Begins count_key true → Stands count_line
    count_there b = sym (by_keys ∙ rw (a, b) refl)

    module _ (b : Begins count_key false) where
      pub short_there : Begins short_key true → Stands short_line
      short_there c = sym (by_keys ∙ rw (a, b, c) refl)

      module _ (c : Begins short_key false) where
        pub crowd_there : Begins crowd_key true → Stands crowd_line
        crowd_there d = sym (by_keys ∙ rw (a, b, c, d) refl)

        module _ (d : Begins crowd_key false) where
          pub stuck_there : Begins stuck_key true → Stands stuck_line
          stuck_there e = sym (by_keys ∙ rw (a, b, c, d, e) refl)

          module _ (e : Begins stuck_key false) where
            pub ramp_there : Begins rampprice_key true → Stands ramp_line
            ramp_there f = sym (by_keys ∙ rw (a, b, c, d, e, f) refl)

            pub price_there : Begins rampprice_key false → Stands price_line
            price_there f = sym (by_keys ∙ rw (a, b, c, d, e, f) refl)

-- ---- the key of a kind, where the line is of that kind

-- of six tests in turn, the one that a kind rests on; a price line rests on none
abbrev test_of : Bool → Bool → Bool → Bool → Bool → Bool → LineKind → Bool
test_of a b c d e f split_line = a
test_of a b c d e f count_line = b
test_of a b c d e f short_line = c
test_of a b c d e f crowd_line = d
test_of a b c d e f stuck_line = e
test_of a b c d e f ramp_line = f
test_of a b c d e f price_line = true

rests_on : (a b c d e f : Bool)
    → test_of a b c d e f (cond a split_line (cond b count_line (cond c short_line (cond d crowd_line (cond e stuck_line (cond f ramp_line price_line)))))) ≡ true
rests_on true b c d e f = refl
rests_on false true c d e f = refl
rests_on false false true d e f = refl
rests_on false false false true e f = refl
rests_on false false false false true f = refl
rests_on false false false false false true = refl
rests_on false false false false false false = refl

module _ (text : List ℕ) (here : ℕ) where
  abbrev tested : LineKind → Bool
  tested = let t = drop here text in test_of (begins split_key t) (begins count_key t) (begins short_key t) (begins crowd_key t) (begins stuck_key t) (begins rampprice_key t)

  stands_by : (k : LineKind) → line_kind_of (line_at text here) ≡ k → tested k ≡ true
  stands_by k e =
      let t = drop here text in
      ap tested (sym e ∙ by_keys text here) ∙ rests_on (begins split_key t) (begins count_key t) (begins short_key t) (begins crowd_key t) (begins stuck_key t) (begins rampprice_key t)

  pub split_begins : line_kind_of (line_at text here) ≡ split_line → Begins text here split_key true
  split_begins = stands_by split_line

  pub count_begins : line_kind_of (line_at text here) ≡ count_line → Begins text here count_key true
  count_begins = stands_by count_line

  pub short_begins : line_kind_of (line_at text here) ≡ short_line → Begins text here short_key true
  short_begins = stands_by short_line

  pub crowd_begins : line_kind_of (line_at text here) ≡ crowd_line → Begins text here crowd_key true
  crowd_begins = stands_by crowd_line

  pub stuck_begins : line_kind_of (line_at text here) ≡ stuck_line → Begins text here stuck_key true
  stuck_begins = stands_by stuck_line
