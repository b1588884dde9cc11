use Rattle.std.proofs.Common.{◌≡◌, map, drop}
use Rattle.pv_names.specs.Entries.{block_of}
use Rattle.pv_names.specs.Tables.{project_of}
use Rattle.pv_rules_expr.specs.NearestIn.{nearest_in}
use Rattle.pv_rules.specs.Values.{block_place, project_place}
use Rattle.pv_rules.proofs.values.not_callable.Given as goal

abbrev pub invariant-loop-entry : goal.invariant-loop-entry
invariant-loop-entry l =
    nearest_in (block_place (project_of l.tables)) (map block_of (drop l.entry-index l.entry-items)) l.best ≡ project_place (project_of l.tables)
