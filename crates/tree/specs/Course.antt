-- A tree's text judged line by line, as the code follows it: which line is due after which, and what each is found to be. Units and periods count from 0.
use Rattle.std.specs.Prelude.{◌≡◌, true, false, cond, List, [], ◌∷◌, ◌++◌, ℕ, suc, eqb, length}
use Rattle.std.proofs.Math.Option.{Option, none, some}
use Rattle.model.specs.Instance.{Instance, ◌at◌}
use Rattle.model.specs.Above.{Above, root, Fork, status, count, side}
use Rattle.model.specs.Figures.{Bound}
use Rattle.model.specs.Figures.{no_figures, add_split, add_leaf}
use Rattle.model.specs.Ramps.{RampPrices}
use Rattle.model.specs.Tree.{Leaf, short, crowd, stuck, price, ramp, ramped, leaf_bound}
use Rattle.text.specs.Lines.{Line, later, lines_of, line_at, kind_of, end_tree}
use Rattle.text.specs.Forms.{numbers_of, form_tests, word_tests, nothing_tests}
use Rattle.text.specs.Writer.{writer_form}
use Rattle.text.specs.declared.Kind.TheVariants as kind
use Rattle.text.specs.Course.{Found, Judged, judged_from}
use Rattle.text.specs.Tests.{Test, found}
use Rattle.tree.specs.Places.{Part, priced, ramp_priced, with_steps, with_ups}
use Rattle.tree.specs.Refusals.{LineKind, split_line, count_line, short_line, crowd_line, stuck_line, price_line, ramp_line, node_form, part_form}
use Rattle.tree.specs.Acceptance.{Bounded, bounded}
use Rattle.tree.specs.NodeLines.{line_kind_of, named, counted, node_tests, part_tests}

abbrev pub with_split : Bounded → Bounded
with_split F = bounded F.writer (add_split F.figures)

-- one leaf more, with its bound
abbrev pub with_leaf : Bounded → Bound → Bounded
with_leaf F b = bounded F.writer (add_leaf F.figures b)

-- a node that is still to be read: what stands above it, and its depth
pub record Pending : Type 0 where
  pub above : Above
  pub depth : ℕ

abbrev pub pending : Above → ℕ → Pending
pending A d = record { above = A; depth = d }

-- the line that is due: the writer; the first of these nodes, or where none is left the end line; the next line of a leaf, after a part of
-- it, and then these nodes; nothing more
pub data Due : Type 0 where
  writer_due : Due
  nodes_due : Bounded → List Pending → Due
  part_due : Bounded → Above → Part → List Pending → Due
  nothing_due : Bounded → Due

-- document 01, Numbers that come from the text: the tests of a line at its place
unfoldable pub tests : Instance → Due → Line → List Test
tests P writer_due l = form_tests writer_form l []
tests P (nodes_due F []) l = word_tests end_tree l
tests P (nodes_due F (p ∷ ps)) l = node_tests P p.above p.depth (line_kind_of l) l
tests P (part_due F A p ps) l = part_tests P A p l
tests P (nothing_due F) l = nothing_tests

-- a fork's two trees are due, the first before the second
abbrev pub after_fork : Bounded → Pending → List Pending → Fork → Due
after_fork F p ps f =
    nodes_due (with_split F) (pending (side f false p.above) (suc p.depth) ∷ pending (side f true p.above) (suc p.depth) ∷ ps)

-- a leaf is read
abbrev pub after_leaf : Instance → Bounded → Above → List Pending → Leaf → Due
after_leaf P F A ps x = nodes_due (with_leaf F (leaf_bound P A x)) ps

-- what is due after a good node line: a fork's trees, what follows a leaf, or the next line of a leaf that has more
unfoldable pub after_node : Instance → Bounded → Pending → List Pending → LineKind → Line → Due
after_node P F p ps split_line l = after_fork F p ps (status (named (node_form P split_line) l 0) (named (node_form P split_line) l 1))
after_node P F p ps count_line l = after_fork F p ps (count (named (node_form P count_line) l 0) (counted (node_form P count_line) l))
after_node P F p ps short_line l = after_leaf P F p.above ps (short (named (node_form P short_line) l 0))
after_node P F p ps crowd_line l = after_leaf P F p.above ps (crowd (named (node_form P crowd_line) l 0))
after_node P F p ps stuck_line l = after_leaf P F p.above ps (stuck (named (node_form P stuck_line) l 0))
after_node P F p ps price_line l = part_due F p.above (priced (numbers_of (node_form P price_line) l)) ps
after_node P F p ps ramp_line l = part_due F p.above (ramp_priced (numbers_of (node_form P ramp_line) l)) ps

-- where these units have both lines: the ramp leaf is read, or the next unit's are due
abbrev pub after_steps : Instance → Bounded → Above → List Pending → List ℕ → List ℕ → List RampPrices → Due
after_steps P F A ps q s k = cond (eqb (ramped P) (length k)) (after_leaf P F A ps (ramp q s k)) (part_due F A (with_steps q s k) ps)

-- and after a later line of a leaf, with these numbers
abbrev pub after_numbers : Instance → Bounded → Above → Part → List Pending → List ℕ → Due
after_numbers P F A (priced q) ps s = after_leaf P F A ps (price q s)
after_numbers P F A (ramp_priced q) ps s = after_steps P F A ps q s []
after_numbers P F A (with_steps q s k) ps x = part_due F A (with_ups q s k x) ps
after_numbers P F A (with_ups q s k x) ps y = after_steps P F A ps q s (k ++ (record { up = x; down = y } ∷ []))

unfoldable pub after_part : Instance → Bounded → Above → Part → List Pending → Line → Due
after_part P F A p ps l = after_numbers P F A p ps (numbers_of (part_form P p) l)

-- what is due after a good line
unfoldable pub next_due : Instance → Due → Line → Due
next_due P writer_due l = nodes_due (bounded (numbers_of writer_form l at 0) no_figures) (pending root 0 ∷ [])
next_due P (nodes_due F []) l = nothing_due F
next_due P (nodes_due F (p ∷ ps)) l = after_node P F p ps (line_kind_of l) l
next_due P (part_due F A p ps) l = after_part P F A p ps l
next_due P (nothing_due F) l = nothing_due F

-- refused by the first of them that holds, or good, with what is due then
unfoldable pub judge : Instance → Due → Line → Found Due
judge P s l = found (tests P s l) (next_due P s l)

-- the text may end where nothing more is due
abbrev pub end : Due → Option Bounded
end writer_due = none
end (nodes_due F ps) = none
end (part_due F A p ps) = none
end (nothing_due F) = some F

-- a text whose first line is kind=tree ..
abbrev pub IsTree : List ℕ → Type 0
IsTree text = kind_of (line_at text 0) ≡ kind.Tree

-- .. from its second line on
unfoldable pub tree_judged : Instance → List ℕ → Judged Bounded
tree_judged P s = judged_from (judge P) end 2 writer_due (later (lines_of s))
