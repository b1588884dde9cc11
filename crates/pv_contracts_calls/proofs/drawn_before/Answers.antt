use Rattle.pv_contracts_calls.proofs.drawn_before.Goals as goal

pub returns-clause-drawn : goal.returns-clause-drawn
returns-clause-drawn c = c.drawn_before.ensures.drawn

pub returns-clause-short : goal.returns-clause-short
returns-clause-short c = c.drawn_before.ensures.short
