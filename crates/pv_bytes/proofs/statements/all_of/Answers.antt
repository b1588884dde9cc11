use Rattle.std.proofs.Common.{[], ◌∙◌, ap, map}
use Rattle.pv_tree.specs.View.{stmt_tree, stmt_trees}
use Rattle.pv_bytes.specs.Statements.{listed}
use Rattle.pv_bytes.proofs.Listing.{listed-spots}
use Rattle.pv_bytes.proofs.statements.all_of.Goals as goal

pub returns : goal.returns
returns c =
    c.in_ok-push_statements.ensures
    ∙ ap (λ l. listed (map (λ s. stmt_tree s.now) l) (stmt_trees c.args.stmts.now)) c.new-list.ensures.items
    ∙ listed-spots [] [] (stmt_trees c.args.stmts.now)
