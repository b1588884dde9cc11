use Rattle.pv_resolve.proofs.Fields.{own_cell, visible_cell, brief_cell}
use Rattle.pv_resolve.proofs.walk.cell.Goals as goal

pub returns-in-Own-clause-value : goal.returns-in-Own-clause-value
returns-in-Own-clause-value c =
    λ begin values. own_cell c.args.ty begin c.args.first c.args.part c.in-Own.is

pub returns-in-Visible-clause-value : goal.returns-in-Visible-clause-value
returns-in-Visible-clause-value c =
    λ begin values. visible_cell c.args.ty begin c.args.first c.args.part c.in-Visible.is

pub returns-in-Brief-clause-value : goal.returns-in-Brief-clause-value
returns-in-Brief-clause-value c =
    λ begin values. brief_cell c.args.ty begin c.args.first c.args.part c.in-Brief.is
