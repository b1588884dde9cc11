-- A program's machine as one whose steps its circuit does: each value is a BOOL, and runs begin with the bits' start values.
use Rattle.std.specs.Prelude.{List, map, replicate}
use Rattle.pv_word.specs.declared.types.Ty.TheVariants as types
use Rattle.pv_circuit.specs.declared.start.Start.{Start}
use Rattle.pv_circuit.specs.declared.start.Start.TheVariants.{Begins}
use Rattle.pv_circuit.specs.Steps.{Form}
use Rattle.pv_bool.specs.Tree.{ProgramTree}
use Rattle.pv_bool.specs.Scans.{state_len, input_len, start}

abbrev pub form_of : ProgramTree → Form
form_of program = record {
  state = replicate (state_len program.bits) types.Bool;
  input = replicate (input_len program.bits) types.Bool;
}

abbrev pub starts_of : ProgramTree → List Start
starts_of program = map (λ b. Begins b) (start program.bits)
