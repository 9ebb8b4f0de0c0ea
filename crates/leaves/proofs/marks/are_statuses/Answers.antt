-- `are_statuses` meets its contract: the library's test of all members is the definition's.
use Rattle.std.proofs.Common.{◌≡◌, ◌∙◌, ap, refl, Bool, ◌&&◌, List, [], ◌∷◌, rules, tests}
use Rattle.std.proofs.lemmas.Iterator.{YieldsList-from_slice}
use Rattle.std.proofs.lemmas.Iterator.Search.{all_from_yields_List}
use Rattle.std.specs.List.{list_all}
use Rattle.model.specs.Ranges.{every}
use Rattle.walk.specs.Marks.{is_status}
use Rattle.leaves.proofs.marks.are_statuses.Goals as goal

all_every : {A : Type 0} (test : A → Bool) (l : List A) → list_all test l ≡ every test l
all_every test [] = refl
all_every test (x ∷ l) = ap (λ (b : Bool). test x && b) (all_every test l)

pub returns : goal.returns
returns c =
    let fixed = c.args.fixed.now in
    all_from_yields_List is_status _ _ _ c.all.ensures.ran (YieldsList-from_slice fixed cc) (λ x b q k. search (rules, tests)) ∙ all_every is_status fixed
