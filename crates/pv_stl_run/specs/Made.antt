-- What integer math makes, in registers.
use Rattle.std.specs.Prelude.{Result, Ok, Err}
use Rattle.pv_mean.specs.Endings.{Tried, got, trap}
use Rattle.pv_mean.specs.Registers as m
use Rattle.pv_mean.specs.Accumulators.{became}
use Rattle.pv_eval.specs.declared.trap.Trap.{Trap}
use Rattle.pv_stl_run.specs.declared.math.Made.{Made}
use Rattle.pv_stl_run.specs.Views.{codes_of}

abbrev pub made_in : m.Registers → Result Made Trap → Tried m.Registers
made_in r (Ok made) = got (became r made.accu (codes_of made.codes))
made_in r (Err t) = trap t.kind t.place
