use Rattle.pv_contracts_claims.proofs.texts.cut_word.Goals as goal

pub returns-clause-word : goal.returns-clause-word
returns-clause-word c = c.cut_word.ensures.word

pub returns-clause-ends : goal.returns-clause-ends
returns-clause-ends c = c.cut_word.ensures.ends

pub returns-clause-cut : goal.returns-clause-cut
returns-clause-cut c = c.cut_word.ensures.cut
