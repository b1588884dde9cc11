use Rattle.pv_names.specs.Tables.{project_of}
use Rattle.pv_rules_expr.proofs.ForCallers.{if_ok}
use Rattle.pv_rules_instr.proofs.ProjectLaws.{refused_in_project}
use Rattle.pv_rules_instr.proofs.sites.refused_operand_or_literal.Goals as goal

pub returns : goal.returns
returns c = if_ok c.nearest_site.result (λ o is. refused_in_project (project_of c.args.tables.now) o is) c.nearest_site.ensures
