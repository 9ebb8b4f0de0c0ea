-- Values written in turn: those passed at the front of a buffer b, and with the ending of those to come they make the whole.
use Prim.Native.Nat.{ℕ, ◌+◌, ◌-◌, ◌≤◌, ◌<◌}
use native.Mathlib.Numerals.{add-one}
use native.Mathlib.Omega.{arith}
use mathlib.Core.Path.{◌≡◌, sym, ap, ◌∙◌}
use mathlib.Core.List.{List, [], ◌∷◌, ◌++◌, append_assoc}
use lib.ListN.{length, take, drop, get_or, set, length-append, drop_of_length-le}
use lib.Seq.{drop-cons}
use borrow.Rule.Slice.PartMut.{put_mid}
use Rattle.writer.specs.Written.{over, figure}
use Rattle.writer.specs.declared.Figure.{Figure}
use Rattle.writer.proofs.Parts.{next, one_more}
use Rattle.answer.specs.AnswerLines.{ending}

-- i of the values stand at the front of b, in k bytes, which is then b₁
abbrev pub Passed : List Figure → ℕ → List ℕ → List ℕ → ℕ → Type 0
Passed fs i b b₁ k = (done : List ℕ) × (k ≡ length done) × (b₁ ≡ over done b) × (done ++ ending (drop i fs) ≡ ending fs)

module _ (fs : List Figure) (i : ℕ) (b b₁ : List ℕ) (k : ℕ) (p : Passed fs i b b₁ k) where
  -- one more, at the front of the part behind them
  pub passed_more : (d : Figure) (n : ℕ) (ys : List ℕ) → i < length fs → n ≡ length (44 ∷ figure (get_or fs i d))
      → ys ≡ over (44 ∷ figure (get_or fs i d)) (take (length b₁ - k) (drop k b₁))
      → Passed fs (i + 1) b (put_mid k (length b₁ - k) b₁ ys) (k + n)
  passed_more d n ys h many written =
      let v = 44 ∷ figure (get_or fs i d) in
      let rest : ending (drop i fs) ≡ v ++ ending (drop (i + 1) fs) = ap ending (drop-cons fs i d h) ∙ ap (λ (j : ℕ). v ++ ending (drop j fs)) (sym (add-one i)) in (
        p.0 ++ v,
        omega (arith, p.1, many, length-append p.0 v),
        next b b₁ p.0 k p.2 p.1 v ys written,
        append_assoc p.0 v (ending (drop (i + 1) fs)) ∙ ap (λ (l : List ℕ). p.0 ++ l) (sym rest) ∙ p.3,
      )

  -- and byte 10 after the last
  pub passed_all : length fs ≤ i → length (ending fs) ≤ length b → set b₁ k 10 ≡ over (ending fs) b
  passed_all h room =
      let e : p.0 ++ (10 ∷ []) ≡ ending fs = ap (λ (l : List Figure). p.0 ++ ending l) (sym (drop_of_length-le fs {i = i} h)) ∙ p.3 in
      one_more b b₁ p.0 k p.2 p.1 10 (omega (arith, ap length e, length-append p.0 (10 ∷ []))) ∙ ap (λ (l : List ℕ). over l b) e
