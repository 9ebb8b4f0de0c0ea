-- Document 01, Specimens on that problem: the marked ones, with 60 and 0 at midnight (document 02, [3]), five more of that request, four of [1] and two of [6]. Each is a pair of the texts
-- that are lodged in turn from a fresh docket and the answer to the last of them.
use Rattle.std.specs.Prelude.{◌≡◌, List, [], ◌∷◌, ◌++◌, map, ℕ, pos}
use Rattle.std.proofs.Math.Option.{Option, none, some}
use Prim.Native.String.{String}
use Rattle.std.specs.Prelude.{Some as number}
use Rattle.model.specs.Figures.{tree_gives}
use Rattle.text.specs.Strings.{lines}
use Rattle.docket.specs.declared.Docket.{Docket}
use Rattle.docket.specs.declared.Lodged.{Lodged}
use Rattle.docket.specs.Docket.{fresh_docket}
use Rattle.answer.specs.StatedAnswers.{its_cost, its_bound, Stated, refused, held, passed, stated}
use Rattle.docket.specs.Demand3.{answers_to}

-- ---- document 01, The listing program: the texts of its input

-- its problem, with these unit lines
unfoldable pub problem_of : String → String → List ℕ
problem_of first second =
    lines ("kind=problem" ∷ "periods=2" ∷ "units=2" ∷ "demand=60,100" ∷ "spare=10,10" ∷ first ∷ second ∷ "end=problem" ∷ [])

abbrev pub listed_problem : List ℕ
listed_problem = problem_of "unit=100,10,0,20,80,2,2,3,30,30,50,90,1,5,60" "unit=40,14,0,10,50,1,1,-2,50,50,20,60,0,0,0"

-- a schedule by the writer 7, by its run lines
unfoldable pub schedule_text : List String → List ℕ
schedule_text runs = lines ("kind=schedule" ∷ "writer=7" ∷ (runs ++ ("end=schedule" ∷ [])))

abbrev pub listed_schedule : List ℕ
listed_schedule = schedule_text ("run=60,80" ∷ "run=0,20" ∷ [])

-- a tree, by its writer line and its node lines
unfoldable pub tree_text : List String → List ℕ
tree_text after = lines ("kind=tree" ∷ (after ++ ("end=tree" ∷ [])))

abbrev pub listed_tree : List ℕ
listed_tree = tree_text ("writer=3" ∷ "split=2,2" ∷ "short=2" ∷ "price=10,14" ∷ "reserve=0,0" ∷ [])

abbrev pub listed_texts : List (List ℕ)
listed_texts = listed_problem ∷ listed_schedule ∷ listed_tree ∷ []

-- the input is these one after the other, and gives this output
abbrev pub listed_input : List ℕ
listed_input = listed_problem ++ (listed_schedule ++ listed_tree)

unfoldable pub listed_output : List ℕ
listed_output =
    lines ("answer=held" ∷ "answer=held,1980" ∷ "answer=held,1980,1,2"
    ∷ "kind=report" ∷ "cost=1980" ∷ "costwriter=7" ∷ "bound=1980" ∷ "boundwriter=3" ∷ "gap=0" ∷ "end=report" ∷ [])

-- ---- trees of one leaf

abbrev pub lone_leaf : List ℕ
lone_leaf = tree_text ("writer=4" ∷ "price=10,14" ∷ "reserve=0,2" ∷ [])

abbrev pub lone_short : List ℕ
lone_short = tree_text ("writer=3" ∷ "short=2" ∷ [])

-- ---- document 02, [1]: trees that split on how many units are on

abbrev pub counted_tree : List ℕ
counted_tree = tree_text ("writer=3" ∷ "count=2,1" ∷ "short=2" ∷ "price=10,14" ∷ "reserve=0,0" ∷ [])

abbrev pub crowded_tree : List ℕ
crowded_tree = tree_text ("writer=3" ∷ "count=2,1" ∷ "short=2" ∷ "split=2,2" ∷ "crowd=2" ∷ "price=10,14" ∷ "reserve=0,0" ∷ [])

abbrev pub lone_crowd : List ℕ
lone_crowd = tree_text ("writer=3" ∷ "crowd=2" ∷ [])

abbrev pub count_twice : List ℕ
count_twice = tree_text ("writer=3" ∷ "count=2,1" ∷ "count=2,1" ∷ "short=2" ∷ "short=2" ∷ "short=2" ∷ [])

-- ---- document 02, [6]: trees with prices on the ramps

abbrev pub ramp_tree : List ℕ
ramp_tree = tree_text ("writer=5" ∷ "rampprice=10,14" ∷ "reserve=0,2" ∷ "up=7" ∷ "down=3" ∷ "up=5" ∷ "down=1" ∷ [])

-- unit 1, which was on for three periods and stays off for two at least, off in period 1 and on in period 2: it is stuck
abbrev pub stuck_ramp : List ℕ
stuck_ramp =
    tree_text ("writer=5" ∷ "split=1,1" ∷ "split=1,2" ∷ "short=2" ∷ "rampprice=10,14" ∷ "reserve=0,2" ∷ "up=7" ∷ "down=3" ∷ "up=5" ∷ "down=1" ∷ "short=2" ∷ [])

-- ---- problems of one unit, with nothing demanded and no cost but that of a start: Hsc is 20 and Csc 60

-- one period, TD 1 and Tcold 1: Tini says how long the unit has been off
unfoldable pub start_problem : String → List ℕ
start_problem unit = lines ("kind=problem" ∷ "periods=1" ∷ "units=1" ∷ "demand=0" ∷ "spare=0" ∷ unit ∷ "end=problem" ∷ [])

abbrev pub off_two : List ℕ
off_two = start_problem "unit=0,0,0,10,50,1,1,-2,50,50,20,60,1,0,0"

abbrev pub off_three : List ℕ
off_three = start_problem "unit=0,0,0,10,50,1,1,-3,50,50,20,60,1,0,0"

-- three periods, TD 3 and Tini -1
unfoldable pub down_problem : List ℕ
down_problem =
    lines ("kind=problem" ∷ "periods=3" ∷ "units=1" ∷ "demand=0,0,0" ∷ "spare=0,0,0" ∷ "unit=0,0,0,10,50,1,3,-1,50,50,20,60,0,0,0" ∷ "end=problem" ∷ [])

-- ---- the list

unfoldable pub specimens : List (List (List ℕ) × Stated)
specimens =
    -- the empty text: 12, line 1
    ([] ∷ [], refused 12 1 0 0)
    -- the tree in a fresh docket: 42
    ∷ (listed_tree ∷ [], refused 42 0 0 0)
    -- two schedules that are accepted: their costs
    ∷ (listed_problem ∷ listed_schedule ∷ [], held (its_cost 1980))
    ∷ (listed_problem ∷ schedule_text ("run=50,80" ∷ "run=10,20" ∷ []) ∷ [], held (its_cost 2060))
    -- a rise above UR: 25, unit 1, period 2
    ∷ (listed_problem ∷ schedule_text ("run=49,80" ∷ "run=11,20" ∷ []) ∷ [], refused 25 0 1 2)
    -- too little for the demand: 22, period 1
    ∷ (listed_problem ∷ schedule_text ("run=59,80" ∷ "run=0,20" ∷ []) ∷ [], refused 22 0 0 1)
    -- an output below pL: 21, unit 2, period 2
    ∷ (listed_problem ∷ schedule_text ("run=60,80" ∷ "run=0,9" ∷ []) ∷ [], refused 21 0 2 2)
    -- the tree: 1980, one split line, two leaves
    ∷ (listed_problem ∷ listed_tree ∷ [], held (its_bound (tree_gives (number (pos 1980)) 1 2)))
    -- the lone price leaf: 1940, and passed after the tree
    ∷ (listed_problem ∷ lone_leaf ∷ [], held (its_bound (tree_gives (number (pos 1940)) 0 1)))
    ∷ (listed_problem ∷ listed_tree ∷ lone_leaf ∷ [], passed (its_bound (tree_gives (number (pos 1940)) 0 1)))
    -- a lone short=2: 33, line 3
    ∷ (listed_problem ∷ lone_short ∷ [], refused 33 3 0 0)
    -- TD + Tcold is 2: a start after two periods off costs Hsc, one after three Csc
    ∷ (off_two ∷ schedule_text ("run=10" ∷ []) ∷ [], held (its_cost 20))
    ∷ (off_three ∷ schedule_text ("run=10" ∷ []) ∷ [], held (its_cost 60))
    -- TD is 3, off for one period before: first on in period 2 breaks 24, in period 3 nothing
    ∷ (down_problem ∷ schedule_text ("run=0,10,10" ∷ []) ∷ [], refused 24 0 1 2)
    ∷ (down_problem ∷ schedule_text ("run=0,0,10" ∷ []) ∷ [], held (its_cost 20))
    -- document 02, [3]: unit 1, at 60 at midnight, falls by 31: 25, unit 1, period 1; it falls by 30: its cost
    ∷ (listed_problem ∷ schedule_text ("run=29,59" ∷ "run=31,41" ∷ []) ∷ [], refused 25 0 1 1)
    ∷ (listed_problem ∷ schedule_text ("run=30,60" ∷ "run=30,40" ∷ []) ∷ [], held (its_cost 2220))
    -- the problem with fourteen numbers for unit 1: 14; with 19 at midnight for it, and with 1 for unit 2: 15
    ∷ (problem_of "unit=100,10,0,20,80,2,2,3,30,30,50,90,1,5" "unit=40,14,0,10,50,1,1,-2,50,50,20,60,0,0,0" ∷ [], refused 14 6 0 0)
    ∷ (problem_of "unit=100,10,0,20,80,2,2,3,30,30,50,90,1,5,19" "unit=40,14,0,10,50,1,1,-2,50,50,20,60,0,0,0" ∷ [], refused 15 6 0 0)
    ∷ (problem_of "unit=100,10,0,20,80,2,2,3,30,30,50,90,1,5,60" "unit=40,14,0,10,50,1,1,-2,50,50,20,60,0,0,1" ∷ [], refused 15 7 0 0)
    -- document 02, [1]: at most one unit on in period 2 is short, and the price leaf is worth 1880; with two or more unit 2 cannot be off, and with it on the leaf is worth 1980
    ∷ (listed_problem ∷ counted_tree ∷ [], held (its_bound (tree_gives (number (pos 1880)) 1 2)))
    ∷ (listed_problem ∷ crowded_tree ∷ [], held (its_bound (tree_gives (number (pos 1980)) 2 3)))
    -- a lone crowd=2: 36, line 3; count=2,1 in the first tree of another: 37, line 4
    ∷ (listed_problem ∷ lone_crowd ∷ [], refused 36 3 0 0)
    ∷ (listed_problem ∷ count_twice ∷ [], refused 37 4 0 0)
    -- document 02, [6]: a ramp leaf alone is worth 1125, and less or more where two of its numbers change places; one with a stuck unit is 35 at its last line, line 11
    ∷ (listed_problem ∷ ramp_tree ∷ [], held (its_bound (tree_gives (number (pos 1125)) 0 1)))
    ∷ (listed_problem ∷ stuck_ramp ∷ [], refused 35 11 0 0)
    ∷ []

-- ---- what is said of a pair

abbrev pub last_of : {A : Type 0} → List A → Option A
last_of [] = none
last_of (x ∷ []) = some x
last_of (x ∷ y ∷ l) = last_of (y ∷ l)

-- lodged in turn from a fresh docket, the last of the texts gets this answer
module _ (lodge : Docket → List ℕ → Lodged) where
  abbrev pub Answered : List (List ℕ) × Stated → Type 0
  Answered x = last_of (map stated (answers_to lodge fresh_docket x.0)) ≡ some x.1

-- ---- a problem that no schedule can meet, and a tree that says so

unfoldable pub too_little : List ℕ
too_little = lines ("kind=problem" ∷ "periods=1" ∷ "units=1" ∷ "demand=60" ∷ "spare=0" ∷ "unit=0,0,0,10,50,1,1,-2,50,50,20,60,1,0,0" ∷ "end=problem" ∷ [])

abbrev pub short_tree : List ℕ
short_tree = tree_text ("writer=9" ∷ "short=1" ∷ [])
