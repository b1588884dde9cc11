use Rattle.std.proofs.Common.{◌≡◌, map, take}
use Rattle.serde_json.specs.View.{view}
use Rattle.pv_case.specs.Cases.{source_data, source_of}
use Rattle.pv_case.proofs.making.sources_among.Given as goal

abbrev pub invariant-loop-s : goal.invariant-loop-s
invariant-loop-s l = map source_data l.sources.items ≡ map source_of (map view (take l.s-index l.items))
