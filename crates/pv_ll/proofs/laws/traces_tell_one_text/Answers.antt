use Rattle.pv_ll.proofs.Traces.{derived, one_text}
use Rattle.pv_ll.proofs.laws.traces_tell_one_text.Goals as goal

pub returns-clause-derived : goal.returns-clause-derived
returns-clause-derived c g trace ss w d = derived d

pub returns-clause-one : goal.returns-clause-one
returns-clause-one c g trace ss v w d e = one_text d w e
