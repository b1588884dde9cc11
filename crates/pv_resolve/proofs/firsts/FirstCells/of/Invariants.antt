use Rattle.std.proofs.Common.{◌≡◌, ◌≤◌, length}
use Rattle.pv_names.specs.Tables.{blocks_of}
use Rattle.pv_mean.specs.Sized.{sized_project}
use Rattle.pv_resolve.specs.Firsts.{AreTables}
use Rattle.pv_resolve.proofs.firsts.FirstCells.of.Given as goal

abbrev pub invariant-loop-entry : goal.invariant-loop-entry
invariant-loop-entry l = record {
  count : length l.blocks.items ≡ l.entry-index;
  within : length l.blocks.items ≤ length (blocks_of l.context.scope.tables.now);
  tables : AreTables (sized_project l.context.sizes.now) l.blocks.items (blocks_of l.context.scope.tables.now);
}
