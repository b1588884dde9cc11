use Rattle.pv_contracts_commands.proofs.run.Goals as goal

pub returns : goal.returns
returns g c = record { promises = c.run.ensures.promises }
