use Rattle.pv_contracts_region.proofs.next_watch.Goals as goal

pub returns : goal.returns
returns c = c.next_watch.ensures
