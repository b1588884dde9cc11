use Rattle.std.proofs.Common.{map, take}
use Rattle.serde_json.specs.View.{view}
use Rattle.pv_case.specs.Checks.{each}
use Rattle.pv_case.specs.Fields.{source_is}
use Rattle.pv_case.proofs.sources.sources_are.Given as goal

abbrev pub invariant-loop-s : goal.invariant-loop-s
invariant-loop-s l = (each source_is (map view (take l.s-index l.items))).keeps
