use Rattle.pv_contracts_readers.proofs.sources.scl.Goals as goal

pub returns-clause-ll1 : goal.returns-clause-ll1
returns-clause-ll1 c = c.scl.ensures.ll1

pub returns-clause-grammar : goal.returns-clause-grammar
returns-clause-grammar c = c.scl.ensures.grammar

pub returns-clause-start : goal.returns-clause-start
returns-clause-start c = c.scl.ensures.start
