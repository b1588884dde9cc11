use Rattle.pv_laws_room.proofs.Fitting.{within_fits, operand_fits, pattern_fits}
use Rattle.pv_laws_room.proofs.laws.literals_and_addresses_fit.Goals as goal

pub returns-clause-part : goal.returns-clause-part
returns-clause-part c = λ project block want e keeps there short within. within_fits project keeps block there short want e within

pub returns-clause-operand : goal.returns-clause-operand
returns-clause-operand c = λ project block o keeps there short among within. operand_fits project keeps block there short o among within

pub returns-clause-pattern : goal.returns-clause-pattern
returns-clause-pattern c = pattern_fits
