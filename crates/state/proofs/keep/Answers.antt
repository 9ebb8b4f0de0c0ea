-- `keep` meets its contract: the parts are stored one after the other from the front.
use mathlib.Core.Path.{◌≡◌, ap, ◌∙◌}
use native.Mathlib.Omega.{arith}
use mathlib.Core.List.{[], ◌∷◌}
use Prim.Native.Nat.{ℕ}
use lib.ListN.{length}
use Rattle.layout.proofs.Fronts.{paste_front}
use Rattle.state.specs.Layout.{layout_mark, head}
use Rattle.state.specs.Kept.{kept_rows}
use Rattle.state.proofs.Keeping.{stored_all, known_byte}
use borrow.Author.Rules.{rules}
use Rattle.state.proofs.keep.Goals as goal

pub store-requires-5 : goal.store-requires-5
store-requires-5 c =
    let n : length c.args.docket.rows ≡ 1536 = search rules in
    omega (arith, n, c.requires.in_bounds_2)

pub returns : goal.returns
unfolding kept_rows
returns c =
    let h : layout_mark ∷ c.from.result ∷ [] ≡ head c.args.docket = ap (λ (x : ℕ). layout_mark ∷ x ∷ []) (c.from.ensures ∙ known_byte c.args.docket.known) in record {
      numbers_after = stored_all c.args.docket c.args.numbers.now (layout_mark ∷ c.from.result ∷ []) c.cost_numbers.result c.bound_numbers.result c.lay_out.result
          c.store.new.numbers c.store-2.new.numbers c.store-3.new.numbers c.store-4.new.numbers h c.cost_numbers.ensures c.bound_numbers.ensures c.lay_out.ensures
          c.store.ensures c.store-2.ensures c.store-3.ensures c.store-4.ensures;
      rows_after = c.store-5.ensures ∙ paste_front c.args.rows.now c.args.docket.rows;
    }
