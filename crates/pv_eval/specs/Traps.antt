-- What the code gives, as the definitions have it: a value or a trap.
use Rattle.std.specs.Prelude.{Result, Ok, Err}
use Rattle.pv_mean.specs.Endings.{Tried, got, trap}
use Rattle.pv_mean.specs.Spots as m
use Rattle.pv_eval.specs.declared.trap.Trap.{Trap}
use Rattle.pv_eval.specs.declared.node.Spot.{Spot}
use Rattle.pv_eval.specs.Operands.{spot_of}

abbrev pub tried : {A : Type 0} → Result A Trap → Tried A
tried (Ok a) = got a
tried (Err t) = trap t.kind t.place

abbrev pub located : Result Spot Trap → Tried m.Spot
located (Ok spot) = got (spot_of spot)
located (Err t) = trap t.kind t.place
