use Rattle.std.proofs.lemmas.Result.{on_ok_weaker}
use Rattle.pv_tree.specs.View.{block_tree}
use Rattle.pv_variables.proofs.Listing.{both_behind, same_behind, params_listed}
use Rattle.pv_variables.proofs.list.push_called.Goals as goal

pub returns : goal.returns
returns c = λ project same.
    on_ok_weaker c.push_value.result
    (both_behind c.args.vars.now.items c.push_leaves.new.vars.items c.push_value.new.vars.items _ _
    (both_behind c.args.vars.now.items c.push_instance.new.vars.items c.push_leaves.new.vars.items _ _
    (c.in_ok-push_instance.ensures project same)
    (same_behind c.push_instance.new.vars.items c.push_leaves.new.vars.items _ _
    (params_listed project (block_tree c.args.block.now) c.args.leaves.now same) c.in_ok-push_leaves.ensures)))
    c.push_value.ensures
