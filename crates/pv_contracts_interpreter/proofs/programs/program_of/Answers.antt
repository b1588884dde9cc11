use Rattle.pv_contracts_interpreter.proofs.programs.program_of.Goals as goal

pub returns-clause-bound : goal.returns-clause-bound
returns-clause-bound c = c.program_of.ensures.bound

pub returns-clause-entry : goal.returns-clause-entry
returns-clause-entry c = c.program_of.ensures.entry

pub returns-clause-is : goal.returns-clause-is
returns-clause-is c = c.program_of.ensures.is

pub returns-clause-room : goal.returns-clause-room
returns-clause-room c = c.program_of.ensures.room
