use Rattle.pv_names.specs.Tables.{project_of}
use Rattle.pv_rules_code.proofs.on_statements.nearest_in_code.Goals as goal

pub returns : goal.returns
returns c = c.by_rules.ensures (project_of c.args.tables.now) c.in_ok-near.ensures
