use Rattle.pv_contracts_edge.proofs.offer_host.Goals as goal

pub returns-clause-within : goal.returns-clause-within
returns-clause-within g c = c.write.ensures.within

pub returns-clause-after : goal.returns-clause-after
returns-clause-after g c = c.write.ensures.after

pub returns-clause-no_memory : goal.returns-clause-no_memory
returns-clause-no_memory g c = c.write.ensures.no_memory

pub returns-clause-never_falls : goal.returns-clause-never_falls
returns-clause-never_falls g c = c.write.ensures.never_falls

pub returns-clause-counted : goal.returns-clause-counted
returns-clause-counted g c = c.write.ensures.counted
