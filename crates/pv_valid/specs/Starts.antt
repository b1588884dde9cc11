-- Where a stretch of scans of a case begins.
use Rattle.pv_machine.specs.Machines.{Values}
use Rattle.pv_stretch.specs.declared.ends.StretchStart.{StretchStart}
use Rattle.pv_stretch.specs.declared.ends.StretchStart.TheVariants as from
use Rattle.pv_valid.specs.Cases.{Case, AreBetween, MayFollow}

-- at the start with parameters in range, or at an image in range with a mark that the case has
abbrev pub IsStart : Case → StretchStart → Type 0
IsStart case (from.Params params) = AreBetween case.facts.params params.now
IsStart case (from.Image image prev) = AreBetween case.facts.image image.now × MayFollow case.facts prev

abbrev pub state_from : Case → StretchStart → Values
state_from case (from.Params params) = case.machine.start params.now
state_from case (from.Image image prev) = case.state_at image.now prev
