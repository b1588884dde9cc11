use Rattle.std.proofs.Common.{ap, map, refl}
use Rattle.pv_names.specs.Entries.{block_of}
use Rattle.pv_names.specs.Tables.{project_of}
use Rattle.pv_rules_expr.specs.NearestIn.{nearest_in}
use Rattle.pv_rules_expr.proofs.ForCallers.{next_in}
use Rattle.pv_rules_code.specs.Nears.{near_site}
use Rattle.pv_rules_code.specs.Sites.{block_place}
use Rattle.pv_rules_code.proofs.on_statements.near_sites.Goals as goal

pub loop-entry-init : goal.loop-entry-init
loop-entry-init c =
    λ what. ap (nearest_in (block_place what (project_of c.args.tables.now)) (map block_of c.entries-entry-items.result.now)) (c.nothing_yet-near.ensures what)

pub loop-entry-preserved : goal.loop-entry-preserved
loop-entry-preserved c =
    λ what. next_in (block_place what (project_of c.args.tables.now)) block_of c.entries-entry-items.result.now c.loop-entry.entry-index _ c.entry-item.result
    (near_site what c.loop-entry.near) (near_site what c.add_body.new.near) _ c.loop-entry-test.true c.entry-item.is refl
    (c.in_ok-add_body.ensures what) (c.loop-entry.invariant what)
