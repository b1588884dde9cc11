use Rattle.std.proofs.Common.{ap, map, refl}
use Rattle.pv_names.specs.Entries.{block_of}
use Rattle.pv_names.specs.Tables.{project_of}
use Rattle.pv_rules_expr.specs.Near.{near_at}
use Rattle.pv_rules_expr.specs.NearestIn.{nearest_in}
use Rattle.pv_rules_expr.proofs.ForCallers.{next_in}
use Rattle.pv_rules_decl.specs.StartPieces.{value_in, index_in, within}
use Rattle.pv_rules_decl.specs.ValueNears.{near_start}
use Rattle.pv_rules_decl.proofs.NearPieces.{value_from, index_from}
use Rattle.pv_rules_decl.proofs.values.near_values.Goals as goal

pub loop-entry-init : goal.loop-entry-init
loop-entry-init c =
    let project = project_of c.args.tables.now in
    let blocks = map block_of c.entries-entry-items.result.now in
    record {
      starts = λ what. ap (nearest_in (λ b. value_in what (within project b)) blocks) (c.no_starts-starts.ensures what);
      indexes = λ what. ap (nearest_in (λ b. index_in what (within project b)) blocks) (c.nothing_near-indexes.ensures what);
    }

pub loop-entry-preserved : goal.loop-entry-preserved
loop-entry-preserved c =
    let project = project_of c.args.tables.now in
    let scope = within project (block_of c.entry-item.result) in
    record {
      starts = λ what. next_in (λ b. value_in what (within project b)) block_of c.entries-entry-items.result.now c.loop-entry.entry-index _
          c.entry-item.result (near_start what c.loop-entry.starts) (near_start what c.add_block.new.starts) _ c.loop-entry-test.true c.entry-item.is refl
          (value_from what scope (near_start what c.loop-entry.starts) _ (c.in_ok-add_block.ensures.starts what)) (c.loop-entry.invariant.starts what);
      indexes = λ what. next_in (λ b. index_in what (within project b)) block_of c.entries-entry-items.result.now c.loop-entry.entry-index _
          c.entry-item.result (near_at what c.loop-entry.indexes) (near_at what c.add_block.new.indexes) _ c.loop-entry-test.true c.entry-item.is refl
          (index_from what scope (near_at what c.loop-entry.indexes) _ (c.in_ok-add_block.ensures.indexes what)) (c.loop-entry.invariant.indexes what);
    }
