use Rattle.pv_contracts_gates.proofs.frames.push_frames.Goals as goal

pub returns-clause-ok : goal.returns-clause-ok
returns-clause-ok g c = c.push_frames.ensures.ok

pub returns-clause-err : goal.returns-clause-err
returns-clause-err g c = c.push_frames.ensures.err

pub returns-clause-in_range : goal.returns-clause-in_range
returns-clause-in_range g c = c.push_frames.ensures.in_range

pub returns-clause-distinct : goal.returns-clause-distinct
returns-clause-distinct g c = c.push_frames.ensures.distinct

pub returns-clause-nonempty : goal.returns-clause-nonempty
returns-clause-nonempty g c = c.push_frames.ensures.nonempty

pub returns-clause-variables_kept : goal.returns-clause-variables_kept
returns-clause-variables_kept g c = c.push_frames.ensures.variables_kept

pub returns-clause-takes_kept : goal.returns-clause-takes_kept
returns-clause-takes_kept g c = c.push_frames.ensures.takes_kept

pub returns-clause-overflow_kept : goal.returns-clause-overflow_kept
returns-clause-overflow_kept g c = c.push_frames.ensures.overflow_kept
