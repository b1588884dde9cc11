use Rattle.std.proofs.Common.{arith, ◌+◌, ◌∙◌, ap, None}
use Rattle.pv_frames.specs.Queries.{given_for, own_below}
use Rattle.pv_frames.proofs.table.lay.Goals as goal

pub returns-clause-laid : goal.returns-clause-laid
returns-clause-laid c = λ i lt.
    c.number.ensures.numbered (given_for None c.args.nodes.now c.args.given.now)
    (λ m low. c.place.ensures.placed m (omega (arith, low, c.place.ensures.long))) i (omega (arith, lt, c.place.ensures.long))

pub returns-clause-next : goal.returns-clause-next
returns-clause-next c =
    c.number.ensures.next (given_for None c.args.nodes.now c.args.given.now)
    (λ m low. c.place.ensures.placed m (omega (arith, low, c.place.ensures.long)))
    ∙ ap (λ n. c.args.first + own_below (given_for None c.args.nodes.now c.args.given.now) (2 + n)) c.place.ensures.long
