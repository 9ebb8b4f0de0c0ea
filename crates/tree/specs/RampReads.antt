-- What the readers of a ramp leaf's units answer: the two lines of a unit, with what the units so far answer; and the leaf after the last of them.
use Rattle.std.specs.Prelude.{◌≡◌, List, [], ◌++◌, ℕ, suc, pred, ◌+◌, ◌-◌, length, get_or, take, drop, None, Some, Result, Ok, Err}
use Rattle.model.specs.Instance.{Instance, ◌at◌}
use Rattle.model.specs.Above.{Above}
use Rattle.model.specs.Held.{blank_generator}
use Rattle.std.specs.Prelude.{Some as number}
use Rattle.model.specs.declared.figures.TreeFigures.{TreeFigures}
use Rattle.model.specs.Figures.{add_leaf}
use Rattle.least.specs.UnitLeasts.{Least, ramp_least_of}
use Rattle.leaves.specs.LeafLeasts.{plus_unit, plus_requirement}
use Rattle.text.specs.Lines.{line_at}
use Rattle.text.specs.Forms.{Form, plain, numbers_of, place_after, form_tests}
use Rattle.text.specs.Scan.{stored_at}
use Rattle.text.specs.Course.{Found, refused, good}
use Rattle.text.specs.Tests.{found}
use Rattle.tree.specs.declared.read.BrokenLine.{BrokenLine}
use Rattle.tree.specs.declared.ramp.UnitLines.{UnitLines}
use Rattle.tree.specs.ReadAnswers.{broken, Read, stopped, reached}
use Rattle.tree.specs.Rendering.{up_key, down_key}

-- room for the multipliers of n periods' steps, with 0 in front of them and behind
pub record Padded (n : ℕ) (l : List ℕ) : Type 0 where
  pub long : length l ≡ suc n
  pub first : l at 0 ≡ 0
  pub last : l at n ≡ 0

-- how many numbers stand between the first and the last, and these as a line leaves them that starts at the place `here` with key
abbrev pub inner : List ℕ → ℕ
inner l = length l - 1 - 1

abbrev pub steps_stored : List ℕ → List ℕ → ℕ → List ℕ → List ℕ
steps_stored key text here l = take 1 l ++ (stored_at key text here (take (inner l) (drop 1 l)) ++ drop (inner l) (drop 1 l))

-- ---- one unit's two lines

abbrev pub up_form : Instance → Form
up_form P = plain up_key (pred P.periods) 0 1000000000

abbrev pub down_form : Instance → Form
down_form P = plain down_key (pred P.periods) 0 1000000000

-- the next line's start, and what the units so far answer; or the line that is refused
abbrev pub UnitRead : Type 0
UnitRead = Result UnitLines BrokenLine

abbrev pub passed : ℕ → Least → UnitRead
passed next sum = Ok (record { next = next; sum = sum })

-- the line l is refused, or the answer is r
abbrev pub unless_refused : ℕ → Found (Unit {0}) → UnitRead → UnitRead
unless_refused l (refused n) r = Err (broken n l)
unless_refused l (good x) r = r

-- from the line l on, which starts at the place `here`: unit u's up line and its down line, and what the units before it answer with it
unfoldable pub unit_read : Instance → List ℕ → ℕ → ℕ → Above → List ℕ → List ℕ → ℕ → Least → UnitRead
unit_read P text here l A q s u sum =
    let x = line_at text here in
    let next = place_after x here in
    let y = line_at text next in
    unless_refused l (found (form_tests (up_form P) x []) tt) (
    unless_refused (l + 1) (found (form_tests (down_form P) y []) tt) (
    passed (place_after y next)
    (plus_unit sum (ramp_least_of P.periods (λ t. q at t) (λ t. s at t) (λ t. numbers_of (up_form P) x at t) (λ t. numbers_of (down_form P) y at t) (get_or P.units u blank_generator) (A.marks u)))
    )
    )

-- what all units answer, with what the periods require at these prices
abbrev pub with_required : Instance → List ℕ → List ℕ → Least → Least
with_required P q s sum = plus_requirement P (λ t. q at t) (λ t. s at t) sum

-- ---- after the last line: the line l is the next, and starts at the place `here`

-- 35 at the line before it, or one leaf more
abbrev pub ramp_ended : ℕ → ℕ → TreeFigures → Least → Read
ramp_ended here l S None = stopped 35 (l - 1)
ramp_ended here l S (Some v) = reached here l (add_leaf S (number v))
