use Rattle.pv_names.specs.Tables.{project_of}
use Rattle.pv_rules_expr.proofs.ForCallers.{if_ok}
use Rattle.pv_rules_decl.proofs.NearPieces.{outside_piece}
use Rattle.pv_rules_decl.proofs.on_starts.outside_start.Goals as goal

pub returns : goal.returns
returns c = if_ok c.nearest_piece.result (λ o is. outside_piece (project_of c.args.tables.now) o is) c.nearest_piece.ensures
