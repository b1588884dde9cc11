use Rattle.std.proofs.Common.{rules, to_z, of_z, ◌≡◌, ◌∙◌, refl, option_map, sym, ap, subst, ◌≤◌, length}
use mir.Syntax.{w128}
use Rattle.pv_types.specs.declared.layout.TheConstants.{MAX_LEAVES}
use Rattle.pv_tree.specs.View.{operand_tree}
use Rattle.pv_mean.specs.Layout as layout
use Rattle.pv_mean.specs.LaidOut.{laid_tree}
use Rattle.pv_mean.specs.Cells as table
use Rattle.pv_names.specs.Entries.{block_of}
use Rattle.pv_cells.specs.Planned.{planned}
use Rattle.pv_cells.proofs.Starting.{cells-started, start-fewer}
use Rattle.pv_cells.proofs.DataCells.{starts-left, starts-done}
use Rattle.pv_cells.proofs.plan.Plan.set_starts.Goals as goal

pub loop-start-preserved : goal.loop-start-preserved
loop-start-preserved c =
    let p = planned c.args.self.now in
    let ty = layout.data_type (block_of c.args.entry.now) in
    let old = c.loop-start.cells in
    let new = c.set_start.new.cells in
    let value = c.start-item.result.1.value in
    let same : to_z w128 (of_z w128 value) ≡ value = search rules in
    record {
      set = starts-left p ty c.args.starts.now c.loop-start.start-index _ c.start-item.result c.loop-start-test.true c.start-item.is refl old new _
          (cells-started old new (option_map laid_tree c.started-laid.result) (table.started p ty (operand_tree c.start-item.result.0)) value
          c.loop-start.invariant.few c.started-laid.ensures
          (c.set_start.ensures ∙ ap (table.with_start old (option_map laid_tree c.started-laid.result)) same))
          c.loop-start.invariant.set;
      few = subst (λ l. length l ≤ MAX_LEAVES) (sym c.set_start.ensures)
          (start-fewer old (option_map laid_tree c.started-laid.result) _ MAX_LEAVES c.loop-start.invariant.few);
    }

pub returns : goal.returns
returns c =
    starts-done (planned c.args.self.now) (layout.data_type (block_of c.args.entry.now)) c.args.starts.now c.loop-start.start-index c.loop-start.cells _
    c.loop-start-test.false c.loop-start.invariant.set
