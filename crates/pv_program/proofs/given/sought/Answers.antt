use Rattle.pv_program.proofs.given.sought.Goals as goal

pub returns : goal.returns
returns c how = c.in_ok-numbers.ensures how (c.has_unique_names.ensures.0 c.if-not-has_unique_names.false)
