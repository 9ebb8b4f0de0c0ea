-- What is asked before any line but the first: the most bytes of a text, and the order of 11, 12, 41, 42 and the numbers of the lines, on texts that break two of them.
use mathlib.Core.Path.{◌≡◌, refl, ap, ◌∙◌}
use mathlib.Core.Bool.{Bool}
use mathlib.Core.List.{List, [], ◌∷◌, ◌++◌, map}
use mathlib.Core.Option.{Option, none, some}
use Prim.Native.Nat.{ℕ, ◌+◌}
use Prim.Native.String.{String}
use lib.ListN.{length, replicate, length-append, length-replicate}
use Rattle.model.specs.Instance.{Instance}
use Rattle.refusal.specs.Refusals.{refusal_of, carries_line, carries_unit, carries_period}
use Rattle.text.specs.Lines.{kind_of}
use Rattle.problem.proofs.Examples.{example}
use Rattle.docket.specs.Texts.{refused_line}
use Rattle.docket.specs.Lodging.{admit, text_judged}
use Rattle.text.specs.Strings.{bytes, lines}
use Rattle.docket.proofs.OneVerdict.{verdict_of}

-- ---- the most bytes

-- a text of 1,048,577 bytes is 11; one of 1,048,576 whose first line is empty is 12 for that line
module _ (known : Bool) (P : Instance) where
  one_over : (text : List ℕ) → length text ≡ 1048577 → text_judged known P text ≡ refused_line 11 0
  unfolding text_judged admit refusal_of carries_line carries_unit carries_period
  one_over text e = rw e refl

  at_most : (rest : List ℕ) → length rest ≡ 1048575 → text_judged known P (10 ∷ rest) ≡ refused_line 12 1
  unfolding text_judged admit kind_of refusal_of carries_line carries_unit carries_period
  at_most rest e = rw e refl

over_is : (o : Option Instance) (text : List ℕ) → length text ≡ 1048577 → verdict_of o text ≡ refused_line 11 0
over_is none text e = one_over _ _ text e
over_is (some P) text e = one_over _ _ text e

most_is : (o : Option Instance) (rest : List ℕ) → length rest ≡ 1048575 → verdict_of o (10 ∷ rest) ≡ refused_line 12 1
most_is none rest e = at_most _ _ rest e
most_is (some P) rest e = at_most _ _ rest e

-- a first line, and n bytes 10 after its own
abbrev filled : String → ℕ → List ℕ
filled first n = lines (first ∷ []) ++ replicate n 10

over_filled : (o : Option Instance) (first : String) (n : ℕ) → length (lines (first ∷ [])) + n ≡ 1048577 → verdict_of o (filled first n) ≡ refused_line 11 0
over_filled o first n e = over_is o (filled first n) (sizes ∙ e)
  where
    sizes : length (filled first n) ≡ length (lines (first ∷ [])) + n
    sizes = length-append (lines (first ∷ [])) (replicate n 10) ∙ ap (λ (k : ℕ). length (lines (first ∷ [])) + k) (length-replicate {0} {A = ℕ} n 10)

-- an empty first line and bytes 10 up to 1,048,576
pub most_bytes : verdict_of none (10 ∷ replicate 1048575 10) ≡ refused_line 12 1
most_bytes = most_is none (replicate 1048575 10) (length-replicate {0} {A = ℕ} 1048575 10)

-- 1,048,577 bytes: 11 before 12 for the first line, before 41, before 42, and before 12 at line 2
pub eleven_first : (verdict_of none (filled "" 1048576) ≡ refused_line 11 0) × (verdict_of (some example) (filled "kind=problem" 1048564) ≡ refused_line 11 0)
    × (verdict_of none (filled "kind=schedule" 1048563) ≡ refused_line 11 0) × (verdict_of none (filled "kind=tree" 1048567) ≡ refused_line 11 0)
    × (verdict_of none (filled "kind=problem" 1048564) ≡ refused_line 11 0)
eleven_first = (
  over_filled none "" 1048576 refl,
  over_filled (some example) "kind=problem" 1048564 refl,
  over_filled none "kind=schedule" 1048563 refl,
  over_filled none "kind=tree" 1048567 refl,
  over_filled none "kind=problem" 1048564 refl,
)

-- ---- 12 for the first line, 41 and 42

-- while a problem is held, kind=problem without its byte 10: 12 before 41; while none is, the other kinds without it, no line, and kinds that there are not: 12 before 42
pub twelve_first : (verdict_of (some example) (bytes "kind=problem") ≡ refused_line 12 1)
    × (map (verdict_of none) (bytes "kind=schedule" ∷ bytes "kind=tree" ∷ [] ∷ lines ("" ∷ []) ∷ lines ("kind=report" ∷ []) ∷ lines ("kind=trees" ∷ []) ∷ [])
    ≡ replicate 6 (refused_line 12 1))
unfolding text_judged admit kind_of refusal_of carries_line carries_unit carries_period
twelve_first = (refl, refl)

-- while a problem is held, a problem with 12, 14 or 13 at line 2, and one with 15 at line 6: 41 before them
pub before_problem_lines : map (verdict_of (some example)) (
    lines ("kind=problem" ∷ []) ∷ lines ("kind=problem" ∷ "periods=1,1" ∷ []) ∷ lines ("kind=problem" ∷ "periods=0" ∷ [])
    ∷ lines ("kind=problem" ∷ "periods=1" ∷ "units=1" ∷ "demand=1" ∷ "spare=1" ∷ "unit=0,0,0,2,1,1,1,1,1,1,0,0,0,0,1" ∷ "end=problem" ∷ []) ∷ [])
    ≡ replicate 4 (refused_line 41 0)
unfolding text_judged admit kind_of refusal_of carries_line carries_unit carries_period
before_problem_lines = refl

-- while none is held, a schedule and a tree with 12, 14 or 13 at line 2, and a tree with 13 at line 3: 42 before them
pub before_other_lines : map (verdict_of none) (
    lines ("kind=schedule" ∷ []) ∷ lines ("kind=schedule" ∷ "writer=1,1" ∷ []) ∷ lines ("kind=schedule" ∷ "writer=0" ∷ [])
    ∷ lines ("kind=tree" ∷ []) ∷ lines ("kind=tree" ∷ "writer=1,1" ∷ []) ∷ lines ("kind=tree" ∷ "writer=0" ∷ [])
    ∷ lines ("kind=tree" ∷ "writer=1" ∷ "split=0,0" ∷ []) ∷ [])
    ≡ replicate 7 (refused_line 42 0)
unfolding text_judged admit kind_of refusal_of carries_line carries_unit carries_period
before_other_lines = refl
