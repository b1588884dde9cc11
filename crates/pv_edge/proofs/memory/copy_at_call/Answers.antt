use Rattle.pv_edge.proofs.memory.copy_at_call.Goals as goal

pub returns-clause-held : goal.returns-clause-held
returns-clause-held c = rw (← c.if-is_due.ensures) c.copy_of.ensures.held

pub returns-clause-failed : goal.returns-clause-failed
returns-clause-failed c = rw (← c.if-is_due.ensures) c.copy_of.ensures.missing
