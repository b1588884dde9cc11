use Rattle.pv_unroll.proofs.Conditions.{fits_of, large_of}
use Rattle.pv_unroll.proofs.unrolling.copy_loops.Goals as goal

pub returns-in-Ok-clause-fits : goal.returns-in-Ok-clause-fits
returns-in-Ok-clause-fits c = fits_of c.args.parts c.args.bound c.of_bits.ensures c.in-Ok.ensures.few

pub returns-in-Err-clause-large : goal.returns-in-Err-clause-large
returns-in-Err-clause-large c = large_of c.args.parts c.args.bound c.in-Err.fault c.of_bits.ensures c.in-Err.ensures.large

pub returns-in-Ok-clause-tables : goal.returns-in-Ok-clause-tables
returns-in-Ok-clause-tables c = c.with_text.ensures.tables
