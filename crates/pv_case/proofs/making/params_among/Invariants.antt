use Rattle.std.proofs.Common.{◌≡◌, map, take}
use Rattle.std.specs.Prelude.{string_bytes}
use Rattle.serde_json.specs.View.{view}
use Rattle.pv_case.specs.Fields.{text_of}
use Rattle.pv_case.proofs.making.params_among.Given as goal

abbrev pub invariant-loop-i : goal.invariant-loop-i
invariant-loop-i l = map string_bytes l.params.items ≡ map text_of (map view (take l.i-index l.items))
