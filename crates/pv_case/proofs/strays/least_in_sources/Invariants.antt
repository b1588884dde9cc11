use Rattle.std.proofs.Common.{◌≡◌, map, take, option_map}
use Rattle.serde_json.specs.View.{view}
use Rattle.pv_case.specs.Fields.{source_names}
use Rattle.pv_case.specs.Least.{behind_objects}
use Rattle.pv_case.proofs.strays.least_in_sources.Given as goal

abbrev pub invariant-loop-s : goal.invariant-loop-s
invariant-loop-s l =
    option_map (λ t. t.now) l.least
    ≡ behind_objects source_names (option_map (λ t. t.now) l.fn.so_far) (map view (take l.s-index l.items))
