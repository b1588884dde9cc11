use Rattle.pv_types.proofs.ForCallers.{tree-structure}
use Rattle.pv_rows_tests.proofs.views.structure_type.Goals as goal

pub returns : goal.returns
returns c = tree-structure c.args.vars
