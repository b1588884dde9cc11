use Rattle.pv_contracts_readers.proofs.sources.stl.Goals as goal

pub returns-clause-ll1 : goal.returns-clause-ll1
returns-clause-ll1 c = c.stl.ensures.ll1

pub returns-clause-grammar : goal.returns-clause-grammar
returns-clause-grammar c = c.stl.ensures.grammar

pub returns-clause-start : goal.returns-clause-start
returns-clause-start c = c.stl.ensures.start
