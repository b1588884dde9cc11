use Rattle.std.proofs.Common.{arith, ◌≡◌, ◌+◌, suc, ap, ◌∙◌}
use Rattle.pv_cells.specs.Graphs.{counts}
use Rattle.pv_cells.proofs.Graphing.{counts-none}
use Rattle.pv_cells.proofs.graph.counted.Goals as goal

pub loop-round-init : goal.loop-round-init
loop-round-init c = λ project are. c.in_ok-below.ensures ∙ counts-none project c.args.nodes.now are

pub loop-round-preserved : goal.loop-round-preserved
loop-round-preserved c = λ project are.
    let next : suc c.loop-round._round ≡ c.loop-round._round + 1 = omega arith in
    c.in_ok-next.ensures project c.loop-round._round are (c.as_slice.ensures.value ∙ c.loop-round.invariant project are)
    ∙ ap (counts project) next
