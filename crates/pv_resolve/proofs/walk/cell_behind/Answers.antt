use Rattle.std.specs.Prelude.{unsigned_abs}
use Rattle.pv_eval.specs.Operands.{at}
use Rattle.pv_resolve.proofs.Fields.{own_further, visible_further_cell, brief_further_cell}
use Rattle.pv_resolve.proofs.walk.cell_behind.Goals as goal

pub returns-in-Own-clause-value : goal.returns-in-Own-clause-value
returns-in-Own-clause-value c =
    λ begin values. own_further c.args.ty begin c.args.first (unsigned_abs (at values c.args.address)) c.args.part c.in-Own.is

pub returns-in-Visible-clause-value : goal.returns-in-Visible-clause-value
returns-in-Visible-clause-value c =
    λ begin values. visible_further_cell c.args.ty begin c.args.first (unsigned_abs (at values c.args.address)) c.args.part c.in-Visible.is

pub returns-in-Brief-clause-value : goal.returns-in-Brief-clause-value
returns-in-Brief-clause-value c =
    λ begin values. brief_further_cell c.args.ty begin c.args.first (unsigned_abs (at values c.args.address)) c.args.part c.in-Brief.is
