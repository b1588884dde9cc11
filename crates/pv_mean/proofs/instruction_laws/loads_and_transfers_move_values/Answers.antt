use Rattle.pv_mean.proofs.InstructionLaws.{moved, value-back, bits-kept}
use Rattle.pv_mean.proofs.instruction_laws.loads_and_transfers_move_values.Goals as goal

pub returns-clause-moved : goal.returns-clause-moved
returns-clause-moved c = moved

pub returns-clause-one_type : goal.returns-clause-one_type
returns-clause-one_type c = value-back

pub returns-clause-one_width : goal.returns-clause-one_width
returns-clause-one_width c = bits-kept
