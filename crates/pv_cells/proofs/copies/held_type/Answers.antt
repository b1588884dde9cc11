use Rattle.std.proofs.Common.{rules, ◌≡◌, Some, None, ap, ◌∙◌}
use Rattle.std.specs.Prelude.{if◌then◌else◌}
use Rattle.pv_types.specs.Tree.{structure}
use Rattle.pv_types.specs.View.{listed, var_trees}
use Rattle.pv_types.proofs.ForCallers.{tree-structure}
use Rattle.pv_tree.specs.View.{block_tree}
use Rattle.pv_mean.specs.Layout.{is_db, data_type}
use Rattle.pv_cells.proofs.copies.held_type.Goals as goal

pub returns-in_ok-vars-in-Db-None : goal.returns-in_ok-vars-in-Db-None
returns-in_ok-vars-in-Db-None c =
    let block = block_tree c.args.block.now in
    let holds : Some (structure (listed (var_trees c.in_ok-vars-in-Db-None.vars.items)))
    ≡ (if is_db block.kind then Some (data_type block) else None) = search rules in
    ap Some (tree-structure c.in_ok-vars-in-Db-None.vars) ∙ holds
