-- `ask` meets its contract: the statuses are the front of the room that is lent, and what is cut off a text that is too long does not count.
use Rattle.std.proofs.Common.{◌≡◌, ℕ, ◌≤◌, List, map, length, take, drop, replicate, ap, ◌∙◌, arith, length-take, take_at, rules}
use lib.ListN.{length-map}
use Rattle.docket.specs.Taking.{taken_of}
use Rattle.edges.specs.Statuses.{status_of}
use Rattle.edges.proofs.LongTexts.{cut_alike}
use Rattle.edges.proofs.questions.ask.Goals as goal

few : (t s : List ℕ) → t ≡ take 1537 s → length t ≤ 1537
few t s e = omega (arith, ap (λ (l : List ℕ). length l) e ∙ length-take 1537 s)

pub put-requires-clause-room : goal.put-requires-clause-room
put-requires-clause-room c = few c.front-s.result.now c.args.s.now c.front-s.ensures

pub slice_bounds-room-end : goal.slice_bounds-room-end
slice_bounds-room-end c =
    let n : length c.put.new.buf ≡ 1537 = search rules in
    omega (arith, few c.front-s.result.now c.args.s.now c.front-s.ensures)

pub slice_bounds-units_taken-end : goal.slice_bounds-units_taken-end
slice_bounds-units_taken-end c =
    let n : length c.put.new.buf ≡ 1537 = search rules in
    simp length-take (omega (arith, few c.front-s.result.now c.args.s.now c.front-s.ensures))

pub returns : goal.returns
returns c =
    let a = c.args in
    let t = c.front-s.result.now in
    let made = map status_of t in
    c.units_taken.ensures
    ∙ ap (λ (l : List ℕ). taken_of a.d a.period a.most (take (length t) l)) (c.put.ensures status_of (λ b r h e. e))
    ∙ ap (λ (l : List ℕ). taken_of a.d a.period a.most l) (take_at made (drop (length made) (replicate 1537 0)) (length t) (length-map t status_of))
    ∙ ap (λ (l : List ℕ). taken_of a.d a.period a.most (map status_of l)) c.front-s.ensures
    ∙ cut_alike a.d a.period a.most status_of a.s.now
