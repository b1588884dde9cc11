use Rattle.std.proofs.Common.{◌≡◌, ◌<◌, ◌^◌, length, rules}
use Rattle.pv_cert.proofs.Chains.{so_far-more, stops-cells, ends-cells-whole}
use Rattle.pv_cert.proofs.chain.cells.Goals as goal

pub returns-in_default : goal.returns-in_default
returns-in_default c =
    let some : 0 < length c.loop-rest.rest.now = search rules in
    stops-cells c.args.text.now c.loop-rest.rest.now c.loop-rest.cells c.loop-rest.least c.loop-rest.invariant some c.in_default.ensures.none

pub loop-rest-preserved : goal.loop-rest-preserved
loop-rest-preserved c =
    let found = c.in-Some.ensures.found in
    let small : c.in-Some.cell < 2 ^ 32 = search rules in
    rw c.in_ok-push.ensures.ok
    (so_far-more c.args.text.now c.loop-rest.rest.now c.in-Some.after.now c.loop-rest.cells c.loop-rest.least c.in-Some.cell c.loop-rest.invariant found.0 small found.1 found.2)

pub returns : goal.returns
returns c =
    let none : length c.loop-rest.rest.now ≡ 0 = search rules in
    ends-cells-whole c.args.text.now c.loop-rest.rest.now c.loop-rest.cells c.loop-rest.least c.loop-rest.invariant none
