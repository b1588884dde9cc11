use Rattle.std.proofs.Common.{◌≡◌, map, drop, None}
use Rattle.pv_names.specs.Entries.{block_of}
use Rattle.pv_names.specs.Tables.{project_of}
use Rattle.pv_rules_expr.specs.NearestIn.{nearest_in}
use Rattle.pv_rules_instr.specs.Sites.{block_place}
use Rattle.pv_rules_instr.proofs.sites.nearest_site.Given as goal

abbrev pub invariant-loop-entry : goal.invariant-loop-entry
invariant-loop-entry l =
    nearest_in (block_place l.what (project_of l.tables)) (map block_of (drop l.entry-index l.entry-items)) l.best
    ≡ nearest_in (block_place l.what (project_of l.tables)) (map block_of l.entry-items) None
