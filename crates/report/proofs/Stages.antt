-- Lines written one after another, each into the part of the buffer after the one before it.
use Prim.Native.Nat.{ℕ, ◌+◌, ◌-◌, ◌≤◌, ◌<◌}
use native.Mathlib.Numerals.{add-one}
use native.Mathlib.Omega.{arith}
use mathlib.Core.Path.{◌≡◌, sym, ap, ◌∙◌}
use mathlib.Core.List.{List, ◌++◌, append_assoc, append-nil}
use lib.ListN.{length, take, drop, get_or, length-append, drop_of_length-le}
use lib.Seq.{drop-cons}
use borrow.Rule.Slice.PartMut.{put_mid}
use Rattle.std.proofs.Common.{Bor}
use Rattle.writer.specs.Written.{over, line}
use Rattle.writer.specs.declared.Figure.{Figure}
use Rattle.writer.proofs.Parts.{next, room}
use Rattle.report.specs.declared.Figures.{Figures}
use Rattle.report.specs.Report.{kind_line, end_line, shown_lines, report_lines}
use Rattle.report.proofs.Lines.{figure_lines, report_parts}

-- b, whose part from k on came back as ys
abbrev pub refilled : List ℕ → ℕ → List ℕ → List ℕ
refilled b k ys = put_mid k (length b - k) b ys

abbrev pub Shown : Type 0
Shown = Bor (List ℕ) × Figure

-- i of the lines stand at the front of b, in k bytes, which is then b₁; with those to come they make the whole
abbrev pub Passed : List Shown → ℕ → List ℕ → List ℕ → ℕ → Type 0
Passed ps i b b₁ k = (done : List ℕ) × (k ≡ length done) × (b₁ ≡ over done b) × (done ++ shown_lines (drop i ps) ≡ shown_lines ps)

module _ (ps : List Shown) (i : ℕ) (b b₁ : List ℕ) (k : ℕ) (p : Passed ps i b b₁ k) where
  module _ (d : Shown) (h : i < length ps) where
    next_line : shown_lines (drop i ps) ≡ line (get_or ps i d).0.now (get_or ps i d).1 ++ shown_lines (drop (i + 1) ps)
    next_line =
        ap shown_lines (drop-cons ps i d h)
        ∙ ap (λ (j : ℕ). line (get_or ps i d).0.now (get_or ps i d).1 ++ shown_lines (drop j ps)) (sym (add-one i))

    -- the next line has room in the part behind them
    pub passed_room : length (shown_lines ps) ≤ length b → length (line (get_or ps i d).0.now (get_or ps i d).1) ≤ length (take (length b₁ - k) (drop k b₁))
    passed_room fits =
        let l = line (get_or ps i d).0.now (get_or ps i d).1 in
        let rest = shown_lines (drop (i + 1) ps) in
        room b b₁ p.0 k p.2 p.1 l
        (omega (arith, fits, ap length p.3, ap length next_line, length-append p.0 (shown_lines (drop i ps)), length-append l rest))

    -- and is one of them when it is written there
    pub passed_more : (n : ℕ) (ys : List ℕ) → n ≡ length (line (get_or ps i d).0.now (get_or ps i d).1)
        → ys ≡ over (line (get_or ps i d).0.now (get_or ps i d).1) (take (length b₁ - k) (drop k b₁))
        → Passed ps (i + 1) b (refilled b₁ k ys) (k + n)
    passed_more n ys many written =
        let l = line (get_or ps i d).0.now (get_or ps i d).1 in (
          p.0 ++ l,
          omega (arith, p.1, many, length-append p.0 l),
          next b b₁ p.0 k p.2 p.1 l ys written,
          append_assoc p.0 l (shown_lines (drop (i + 1) ps)) ∙ ap (λ (x : List ℕ). p.0 ++ x) (sym next_line) ∙ p.3,
        )

  -- the last line was written
  pub passed_all : length ps ≤ i → (k ≡ length (shown_lines ps)) × (b₁ ≡ over (shown_lines ps) b)
  passed_all h =
      let e : p.0 ≡ shown_lines ps = sym (append-nil p.0) ∙ ap (λ (x : List Shown). p.0 ++ shown_lines x) (sym (drop_of_length-le ps {i = i} h)) ∙ p.3 in
      (p.1 ∙ ap length e, p.2 ∙ ap (λ (x : List ℕ). over x b) e)

-- ---- the first line, those of the figures, the last

module _ (f : Figures) (b b₁ : List ℕ) (k : ℕ) (fits : length (report_lines f) ≤ length b) (many : k ≡ length kind_line) (written : b₁ ≡ over kind_line b) where
  lengths : length (report_lines f) ≡ length kind_line + length (figure_lines f) + length end_line
  lengths = omega (arith, ap length (report_parts f), length-append (kind_line ++ figure_lines f) end_line, length-append kind_line (figure_lines f))

  pub figures_room : length (figure_lines f) ≤ length (take (length b₁ - k) (drop k b₁))
  figures_room = room b b₁ kind_line k written many (figure_lines f) (omega (arith, fits, lengths))

  module _ (ys : List ℕ) (n : ℕ) (more : n ≡ length (figure_lines f)) (back : ys ≡ over (figure_lines f) (take (length b₁ - k) (drop k b₁))) where
    front : refilled b₁ k ys ≡ over (kind_line ++ figure_lines f) b
    front = next b b₁ kind_line k written many (figure_lines f) ys back

    front_many : k + n ≡ length (kind_line ++ figure_lines f)
    front_many = omega (arith, many, more, length-append kind_line (figure_lines f))

    pub end_room : length end_line ≤ length (take (length (refilled b₁ k ys) - (k + n)) (drop (k + n) (refilled b₁ k ys)))
    end_room = room b (refilled b₁ k ys) (kind_line ++ figure_lines f) (k + n) front front_many end_line (omega (arith, fits, lengths, length-append kind_line (figure_lines f)))

    pub all_many : (m : ℕ) → m ≡ length end_line → k + n + m ≡ length (report_lines f)
    all_many m last = omega (arith, many, more, last, lengths)

    pub all_written : (zs : List ℕ) → zs ≡ over end_line (take (length (refilled b₁ k ys) - (k + n)) (drop (k + n) (refilled b₁ k ys)))
        → refilled (refilled b₁ k ys) (k + n) zs ≡ over (report_lines f) b
    all_written zs last =
        next b (refilled b₁ k ys) (kind_line ++ figure_lines f) (k + n) front front_many end_line zs last
        ∙ ap (λ (l : List ℕ). over l b) (sym (report_parts f))
