use Rattle.std.proofs.Common.{◌≡◌, map, take}
use Rattle.pv_names.specs.Entries.{block_of}
use Rattle.pv_names.specs.Tables.{project_of}
use Rattle.pv_rules_call.specs.Links.{links_of, links_tree}
use Rattle.pv_rules_call.proofs.gathered.links_of_all.Given as goal

abbrev pub invariant-loop-entry : goal.invariant-loop-entry
invariant-loop-entry l = map links_tree l.all.items ≡ map (links_of (project_of l.tables)) (map block_of (take l.entry-index l.entry-items))
