use Rattle.std.proofs.Common.{map, take}
use Rattle.serde_json.specs.View.{view}
use Rattle.pv_case.specs.Checks.{each}
use Rattle.pv_case.specs.Fields.{source_lies}
use Rattle.pv_case.proofs.sources.sources_lie.Given as goal

abbrev pub invariant-loop-s : goal.invariant-loop-s
invariant-loop-s l = (each source_lies (map view (take l.s-index l.items))).keeps
