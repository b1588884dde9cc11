use Rattle.std.proofs.Common.{◌≡◌, map, drop, None}
use Rattle.pv_names.specs.Entries.{block_of}
use Rattle.pv_names.specs.Tables.{project_of}
use Rattle.pv_rules_expr.specs.NearestIn.{nearest_in}
use Rattle.pv_rules_code.specs.Nears.{near_site}
use Rattle.pv_rules_code.specs.Sites.{block_place}
use Rattle.pv_rules_code.specs.Sought.Site.{Site}
use Rattle.pv_rules_code.proofs.on_statements.near_sites.Given as goal

abbrev pub invariant-loop-entry : goal.invariant-loop-entry
invariant-loop-entry l = (what : Site) →
    nearest_in (block_place what (project_of l.tables)) (map block_of (drop l.entry-index l.entry-items)) (near_site what l.near)
    ≡ nearest_in (block_place what (project_of l.tables)) (map block_of l.entry-items) None
