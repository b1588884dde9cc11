use Rattle.std.proofs.Common.{refl}
use Rattle.std.proofs.lemmas.List.{drop_all}
use Rattle.pv_variables.specs.Listed.{front_of}
use Rattle.pv_variables.proofs.Listing.{cells_left, cells_done, front_none}
use Rattle.pv_variables.proofs.list.push_front.Goals as goal

pub loop-cell-init : goal.loop-cell-init
loop-cell-init c = refl

pub loop-cell-preserved : goal.loop-cell-preserved
loop-cell-preserved c =
    cells_left front_of c.args.cells.now c.loop-cell.cell-index c.loop-cell.left c.in_ok-left.left c.cell-item.result
    c.loop-cell.vars.items c.push_next.new.vars.items _ c.loop-cell-test.true c.cell-item.is c.in_ok-left.ensures c.loop-cell.invariant

pub returns : goal.returns
returns c =
    cells_done front_of c.args.cells.now c.loop-cell.cell-index c.loop-cell.left c.loop-cell.vars.items _ (front_none c.loop-cell.left)
    (drop_all c.loop-cell.cell-index c.args.cells.now c.loop-cell-test.false) c.loop-cell.invariant
