use Rattle.std.proofs.Common.{map, take}
use Rattle.serde_json.specs.View.{view}
use Rattle.pv_case.specs.Checks.{each}
use Rattle.pv_case.specs.Fields.{reduction_lies}
use Rattle.pv_case.proofs.reductions.reductions_lie.Given as goal

abbrev pub invariant-loop-i : goal.invariant-loop-i
invariant-loop-i l = (each reduction_lies (map view (take l.i-index l.items))).keeps
