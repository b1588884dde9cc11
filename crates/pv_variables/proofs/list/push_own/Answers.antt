use Rattle.std.proofs.lemmas.Result.{on_ok_weaker}
use Rattle.pv_tree.specs.View.{block_tree}
use Rattle.pv_variables.proofs.Listing.{both_behind, same_behind, own_listed}
use Rattle.pv_variables.proofs.list.push_own.Goals as goal

pub returns : goal.returns
returns c = λ source same.
    on_ok_weaker c.push_registers.result
    (both_behind c.args.vars.now.items c.push_leaves.new.vars.items c.push_registers.new.vars.items _ _
    (same_behind c.args.vars.now.items c.push_leaves.new.vars.items _ _
    (own_listed source.project (block_tree c.args.block.now) c.args.leaves.now same) c.in_ok-push_leaves.ensures))
    c.push_registers.ensures
