use Rattle.pv_names.specs.Tables.{project_of}
use Rattle.pv_rules_decl.proofs.NearPieces.{are_in_values}
use Rattle.pv_rules_decl.proofs.values.nearest_in_values.Goals as goal

pub returns : goal.returns
returns c = are_in_values (project_of c.args.tables.now) c.in_ok-near.near c.in_ok-near.ensures.starts c.in_ok-near.ensures.indexes
