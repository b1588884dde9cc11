use Rattle.pv_program.proofs.call.add_running.Goals as goal

pub returns : goal.returns
returns c = c.add_named.ensures
