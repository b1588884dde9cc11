use Rattle.pv_contracts_kind.proofs.lift.stretch.Goals as goal

pub returns : goal.returns
returns g c = c.stretch.ensures.stretch
