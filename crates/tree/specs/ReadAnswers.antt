-- What the readers of a tree answer: to read a node is to go through the lines of Course as far as its last line.
use Rattle.std.specs.Prelude.{Bool, cond, List, [], ◌∷◌, ℕ, suc, ◌+◌, ◌*◌, ◌≤◌, length, drop, None, Result, Ok, Err}
use Rattle.std.proofs.Math.Option.{Option, none, some}
use Rattle.model.specs.Instance.{Instance}
use Rattle.model.specs.Above.{Above}
use Rattle.model.specs.declared.figures.TreeFigures.{TreeFigures}
use Rattle.model.specs.Figures.{add_leaf}
use Rattle.walk.specs.Marks.{upper_begin, lower_begin}
use Rattle.text.specs.Lines.{Line, lines_of, line_at, end_tree}
use Rattle.text.specs.Forms.{plain, place_after, form_tests, fault_number, fault_of}
use Rattle.text.specs.declared.Fault.{Fault}
use Rattle.text.specs.Course.{Found, refused, good, Judged, refused_at, accepted}
use Rattle.text.specs.Tests.{found}
use Rattle.text.specs.Ends.{end_of, ended_by}
use Rattle.refusal.specs.Refusals.{refusal_of}
use Rattle.refusal.specs.declared.Refusal.{Refusal}
use Rattle.tree.specs.declared.read.NodeRead.{NodeRead}
use Rattle.tree.specs.declared.read.BrokenLine.{BrokenLine}
use Rattle.tree.specs.declared.naming.NamedLine.{NamedLine}
use Rattle.tree.specs.declared.above.Side.{Side}
use Rattle.tree.specs.declared.above.ForkLine.{ForkLine}
use Rattle.tree.specs.declared.forking.ForkKind.{ForkKind}
use Rattle.tree.specs.declared.forking.ForkKind.TheVariants.{Split, Count}
use Rattle.tree.specs.declared.TreeRead.{TreeRead}
use Rattle.tree.specs.NodeLines.{named, counted, node_tests}
use Rattle.tree.specs.Refusals.{split_line, count_line, node_form}
use Rattle.tree.specs.Kinds.{fork_kind}
use Rattle.tree.specs.Places.{Part}
use Rattle.tree.specs.Course.{pending, Due, writer_due, nodes_due, part_due, nothing_due, judge, tree_judged}
use Rattle.tree.specs.Acceptance.{Bounded, bounded}

-- ---- document 01's answers, as the code gives them

abbrev pub answered : ℕ → TreeFigures → Result TreeRead Refusal
answered w S = Ok (record { writer = w; figures = S })

unfoldable pub read_as : Judged Bounded → Result TreeRead Refusal
read_as (refused_at n l) = Err (refusal_of n l 0 0)
read_as (accepted F) = answered F.writer F.figures

-- a tree's text
unfoldable pub tree_read : Instance → List ℕ → Result TreeRead Refusal
tree_read P text = read_as (tree_judged P text)

-- ---- a node

-- the line l is refused by the number n
abbrev pub broken : ℕ → ℕ → BrokenLine
broken n l = record { number = n; line = l }

-- what was read of a tree, or the line that is refused
abbrev pub Read : Type 0
Read = Result NodeRead BrokenLine

abbrev pub stopped : ℕ → ℕ → Read
stopped n l = Err (broken n l)

-- the line l, which starts at the place `at`, is the next, and the figures are S
abbrev pub reached : ℕ → ℕ → TreeFigures → Read
reached at l S = Ok (record { next = at; line = l; figures = S })

-- what was read, where no node is left of those that were due
abbrev pub all_read : Due → Option TreeFigures
all_read writer_due = none
all_read (nodes_due F []) = some F.figures
all_read (nodes_due F (p ∷ ps)) = none
all_read (part_due F A p ps) = none
all_read (nothing_due F) = none

-- the line l, which starts at the place `at`, is the first after what was read; or the answer is r
abbrev pub unless_all_read : ℕ → ℕ → Option TreeFigures → Read → Read
unless_all_read at l none r = r
unless_all_read at l (some S) r = reached at l S

-- what the line l is found to be refuses it, or says what is due then
abbrev pub by_found : ℕ → Found Due → (Due → Read) → Read
by_found l (refused n) go = stopped n l
by_found l (good s) go = go s

-- from the line l on, which starts at the place `at`, where s says what is due: line by line as in Course, as far as the last line of the
-- nodes that are due; a line that is missing is 12
unfoldable pub read_lines : Instance → ℕ → ℕ → Due → List Line → Read
read_lines P at l s [] = unless_all_read at l (all_read s) (stopped 12 l)
read_lines P at l s (x ∷ ls) = unless_all_read at l (all_read s) (by_found l (judge P s x) (λ s'. read_lines P (place_after x at) (l + 1) s' ls))

abbrev pub read_from : Instance → List ℕ → ℕ → ℕ → Due → Read
read_from P text at l s = read_lines P at l s (lines_of (drop at text))

-- what is found of a node at depth d with A above it, where S was read before; of two nodes; and of the later lines of a leaf.
-- The writer plays no part: 0 stands for one
unfoldable pub node_read : Instance → List ℕ → ℕ → ℕ → TreeFigures → Above → ℕ → Read
node_read P text at l S A d = read_from P text at l (nodes_due (bounded 0 S) (pending A d ∷ []))

unfoldable pub trees_read : Instance → List ℕ → ℕ → ℕ → TreeFigures → Above → Above → ℕ → Read
trees_read P text at l S A B d = read_from P text at l (nodes_due (bounded 0 S) (pending A d ∷ pending B d ∷ []))

unfoldable pub part_read : Instance → List ℕ → ℕ → ℕ → TreeFigures → Above → Part → Read
part_read P text at l S A p = read_from P text at l (part_due (bounded 0 S) A p [])

-- of a leaf: its depth plays no part, and 0 stands for it
abbrev pub leaf_read : Instance → List ℕ → ℕ → ℕ → TreeFigures → Above → Read
leaf_read P text at l S A = node_read P text at l S A 0

-- the number n, or the leaf after it, of a line l that names one of which p holds or not
abbrev pub ruled : ℕ → (ℕ → Bool) → ℕ → TreeFigures → Result NamedLine Fault → Read
ruled n p l S (Err w) = stopped (fault_number w) l
ruled n p l S (Ok x) = cond (p x.index) (reached x.next (l + 1) (add_leaf S None)) (stopped n l)

-- ---- places and counts

-- the line l starts at the place `at`, and no more splits and leaves were read than lines stand before it
pub record Placed (text : List ℕ) (at l : ℕ) (S : TreeFigures) : Type 0 where
  pub short : length text ≤ 1048576
  pub inside : at ≤ length text
  pub numbered : l ≤ at + 1
  pub counted : S.splits + S.leaves ≤ l

-- ---- a line that names a unit or a period, and a fork's line: the first number that refuses it, or what it says

abbrev pub named_by : Found NamedLine → Result NamedLine Fault
named_by (refused n) = Err (fault_of n)
named_by (good r) = Ok r

abbrev pub names : ℕ → ℕ → NamedLine
names i next = record { index = i; next = next }

-- the line that starts at the place `at`, where it is due to name one of 1 to most after the key
unfoldable pub named_line_read : List ℕ → ℕ → List ℕ → ℕ → Result NamedLine Fault
named_line_read key most text at =
    let f = plain key 1 1 most in
    let l = line_at text at in
    named_by (found (form_tests f l []) (names (named f l 0) (place_after l at)))

abbrev pub fork_by : Found ForkLine → Result ForkLine ℕ
fork_by (refused n) = Err n
fork_by (good r) = Ok r

abbrev pub side_at : ℕ → ℕ → Side
side_at place byte = record { place = place; byte = byte }

abbrev pub sides : Side → Side → ℕ → ForkLine
sides first second next = record { first = first; second = second; next = next }

-- the byte that a good line puts above its first tree and above its second: a status is off (1) or on (2); the upper or the lower count is set
abbrev pub over : Instance → ForkKind → Line → ℕ → ForkLine
over P Split l next =
    let f = node_form P split_line in
    let place = named f l 0 * P.periods + named f l 1 in
    sides (side_at place 1) (side_at place 2) next
over P Count l next =
    let f = node_form P count_line in
    sides (side_at (upper_begin + named f l 0) (suc (counted f l))) (side_at (lower_begin + named f l 0) (suc (counted f l))) next

-- the line that starts at the place `at`, where a fork's line of this kind is due at depth d with A above it
unfoldable pub fork_line_read : Instance → List ℕ → ℕ → Above → ℕ → ForkKind → Result ForkLine ℕ
fork_line_read P text at A d k =
    let l = line_at text at in
    fork_by (found (node_tests P A d (fork_kind k) l) (over P k l (place_after l at)))

-- ---- the end line

-- after the tree the end line, and then nothing
unfoldable pub ended_as : List ℕ → ℕ → Read → Result TreeRead Refusal
ended_as text w (Err b) = Err (refusal_of b.number b.line 0 0)
ended_as text w (Ok r) = read_as (ended_by r.line (bounded w r.figures) (end_of end_tree (lines_of (drop r.next text))))
