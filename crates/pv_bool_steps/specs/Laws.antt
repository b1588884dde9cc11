-- That a program's circuit is one, and that it does the steps of the program's machine.
use Rattle.pv_circuit.specs.Circuits.{IsCircuit}
use Rattle.pv_circuit.specs.Steps.{Steps}
use Rattle.pv_bool.specs.Tree.{ProgramTree, IsProgram}
use Rattle.pv_bool.specs.Machine.{machine_of}
use Rattle.pv_step.specs.Circuits.{circuit_of}
use Rattle.pv_step.specs.Steps.{form_of, starts_of}
use Rattle.pv_step.proofs.ForCallers.{is_circuit, does_the_steps}

pub circuit_kept : (program : ProgramTree) → IsProgram program → IsCircuit (circuit_of program)
circuit_kept = is_circuit

pub steps_done : (program : ProgramTree) → IsProgram program → Steps (machine_of program) (form_of program) (starts_of program) (circuit_of program)
steps_done = does_the_steps
