use Rattle.std.proofs.Common.{rules}
use Rattle.pv_cells.proofs.Forming.{formed_from}
use Rattle.pv_cells.proofs.variables.cell_from.Goals as goal

pub returns : goal.returns
returns c = formed_from c.args.form c.args.leaf.now c.in_ok-path.path c.role_for.result _ c.in_ok-path.ensures c.role_for.ensures (search rules)
