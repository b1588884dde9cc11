use Rattle.pv_unroll.proofs.Conditions.{tables_kept}
use Rattle.pv_unroll.proofs.unrolling.unrolled.Goals as goal

pub returns-in-Ok-clause-tables : goal.returns-in-Ok-clause-tables
returns-in-Ok-clause-tables c = tables_kept c.args.parts c.in-Ok.copies c.made.result c.in-Ok.ensures.tables c.made.ensures.code
