use Rattle.pv_sizes.proofs.SizeLaws as law
use Rattle.pv_sizes.proofs.laws.sizes_are_at_least_one.Goals as goal

pub returns-clause-stmt : goal.returns-clause-stmt
returns-clause-stmt c = law.stmt_one

pub returns-clause-list : goal.returns-clause-list
returns-clause-list c = law.list_one

pub returns-clause-call : goal.returns-clause-call
returns-clause-call c = law.call_one

pub returns-clause-instr : goal.returns-clause-instr
returns-clause-instr c = law.instr_one

pub returns-clause-instrs : goal.returns-clause-instrs
returns-clause-instrs c = law.instrs_one
