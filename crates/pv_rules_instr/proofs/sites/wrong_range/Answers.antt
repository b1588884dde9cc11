use Rattle.pv_names.specs.Tables.{project_of}
use Rattle.pv_rules_expr.proofs.ForCallers.{if_ok}
use Rattle.pv_rules_instr.proofs.ProjectLaws.{ranges_in_project}
use Rattle.pv_rules_instr.proofs.sites.wrong_range.Goals as goal

pub returns : goal.returns
returns c = if_ok c.nearest_site.result (λ o is. ranges_in_project (project_of c.args.tables.now) o is) c.nearest_site.ensures
