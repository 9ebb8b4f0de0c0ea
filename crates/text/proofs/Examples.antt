-- Lines of document 01's example, by computation.
use Prim.Native.Nat.{ℕ}
use mathlib.Core.Path.{◌≡◌, refl}
use mathlib.Core.Bool.{true, false}
use mathlib.Core.List.{List, [], ◌∷◌, ◌++◌}
use Rattle.text.specs.Lines.{unended, ended, lines_of, line_at, kind_of, end_tree}
use Rattle.text.specs.Forms.{Form, form, plain, malformed, wrong_count, outside_range, form_refusal, sizes, values_of, any_minus}
use Rattle.text.specs.Ends.{end_of}
use Rattle.text.specs.Rendering.{rendered}
use Rattle.decimal.specs.Decimal.{digits, digits_by}
use Rattle.text.specs.declared.Kind.TheVariants.{Unknown, Tree}
use Rattle.text.specs.declared.End.TheVariants.{Missing, Followed, Last}

-- ---- lines of numbers

-- demand=
key : List ℕ
key = 100 ∷ 101 ∷ 109 ∷ 97 ∷ 110 ∷ 100 ∷ 61 ∷ []

-- two numbers from 0 to 320,000
demand : Form
demand = plain key 2 0 320000

-- demand=60,100
sixty_hundred : List ℕ
sixty_hundred = 100 ∷ 101 ∷ 109 ∷ 97 ∷ 110 ∷ 100 ∷ 61 ∷ 54 ∷ 48 ∷ 44 ∷ 49 ∷ 48 ∷ 48 ∷ []

good_line : form_refusal demand (ended sixty_hundred) ≡ 0
unfolding form_refusal malformed wrong_count outside_range demand key sixty_hundred
good_line = refl

values_read : sizes (values_of demand (ended sixty_hundred)) ≡ 60 ∷ 100 ∷ []
unfolding demand key sixty_hundred
values_read = refl

line_written : rendered key 0 false (60 ∷ 100 ∷ []) ≡ sixty_hundred
unfolding digits digits_by key sixty_hundred
line_written = refl

-- an empty text: 12
no_line : form_refusal demand (line_at [] 0) ≡ 12
unfolding form_refusal malformed demand
no_line = refl

-- the same bytes without byte 10: 12
no_end : form_refusal demand (line_at sixty_hundred 0) ≡ 12
unfolding form_refusal malformed demand key sixty_hundred
no_end = refl

-- demand=060,100 has a leading zero: 12
leading_zero : form_refusal demand (ended (100 ∷ 101 ∷ 109 ∷ 97 ∷ 110 ∷ 100 ∷ 61 ∷ 48 ∷ 54 ∷ 48 ∷ 44 ∷ 49 ∷ 48 ∷ 48 ∷ [])) ≡ 12
unfolding form_refusal malformed demand key
leading_zero = refl

-- demand=320001,1,1 has a number out of range and one too many: 14 comes first
count_first : form_refusal demand (ended (100 ∷ 101 ∷ 109 ∷ 97 ∷ 110 ∷ 100 ∷ 61 ∷ 51 ∷ 50 ∷ 48 ∷ 48 ∷ 48 ∷ 49 ∷ 44 ∷ 49 ∷ 44 ∷ 49 ∷ [])) ≡ 14
unfolding form_refusal malformed wrong_count outside_range demand key
count_first = refl

-- demand=60,99999999999999999999999: 13
too_large : form_refusal demand (ended (100 ∷ 101 ∷ 109 ∷ 97 ∷ 110 ∷ 100 ∷ 61 ∷ 54 ∷ 48 ∷ 44 ∷ 57 ∷ 57 ∷ 57 ∷ 57 ∷ 57 ∷ 57 ∷ 57 ∷ 57 ∷ 57 ∷ 57 ∷ 57 ∷ 57 ∷ 57 ∷ 57 ∷ 57 ∷ 57 ∷ 57 ∷ 57 ∷ 57 ∷ 57 ∷ 57 ∷ 57 ∷ 57 ∷ [])) ≡ 13
unfolding form_refusal malformed wrong_count outside_range demand key
too_large = refl

-- t=-2 and t=-0, where the one value may carry a minus and is from 1 to 1,000 without it
since : Form
since = form (116 ∷ 61 ∷ []) 1 (1 ∷ []) (1000 ∷ [])

minus_two : form_refusal since (ended (116 ∷ 61 ∷ 45 ∷ 50 ∷ [])) ≡ 0
unfolding form_refusal malformed wrong_count outside_range since
minus_two = refl

minus_sign : any_minus (values_of since (ended (116 ∷ 61 ∷ 45 ∷ 50 ∷ []))) ≡ true
unfolding since
minus_sign = refl

minus_zero : form_refusal since (ended (116 ∷ 61 ∷ 45 ∷ 48 ∷ [])) ≡ 12
unfolding form_refusal malformed since
minus_zero = refl

plain_zero : form_refusal since (ended (116 ∷ 61 ∷ 48 ∷ [])) ≡ 13
unfolding form_refusal malformed wrong_count outside_range since
plain_zero = refl

-- a text of two lines and three bytes over
three_lines : lines_of (97 ∷ 10 ∷ 10 ∷ 98 ∷ 99 ∷ 100 ∷ []) ≡ ended (97 ∷ []) ∷ ended [] ∷ unended (98 ∷ 99 ∷ 100 ∷ []) ∷ []
three_lines = refl

-- kind=tree, with its byte 10 and without
tree_text : kind_of (line_at (107 ∷ 105 ∷ 110 ∷ 100 ∷ 61 ∷ 116 ∷ 114 ∷ 101 ∷ 101 ∷ 10 ∷ []) 0) ≡ Tree
unfolding kind_of
tree_text = refl

cut_short : kind_of (line_at (107 ∷ 105 ∷ 110 ∷ 100 ∷ 61 ∷ 116 ∷ 114 ∷ 101 ∷ 101 ∷ []) 0) ≡ Unknown
unfolding kind_of
cut_short = refl

-- end=tree where it is due: as the last line, with an empty line after it, and without its byte 10
ends_there : end_of end_tree (lines_of (end_tree ++ (10 ∷ []))) ≡ Last
unfolding end_of
ends_there = refl

goes_on : end_of end_tree (lines_of (end_tree ++ (10 ∷ 10 ∷ []))) ≡ Followed
unfolding end_of
goes_on = refl

ends_short : end_of end_tree (lines_of end_tree) ≡ Missing
unfolding end_of
ends_short = refl
