use Rattle.pv_contracts_logs.proofs.lines.write_line.Goals as goal

pub returns-clause-text : goal.returns-clause-text
returns-clause-text c = c.write_line.ensures.text

pub returns-clause-spells : goal.returns-clause-spells
returns-clause-spells c = c.write_line.ensures.spells
