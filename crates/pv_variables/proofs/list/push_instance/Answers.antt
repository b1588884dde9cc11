use Rattle.std.proofs.Common.{ap}
use Rattle.std.proofs.lemmas.Result.{on_ok_weaker}
use Rattle.pv_tree.specs.Scopes.{is_fb}
use Rattle.pv_tree.specs.View.{block_tree}
use Rattle.pv_variables.proofs.Listing.{same_behind, instance_listed}
use Rattle.pv_variables.proofs.list.push_instance.Goals as goal

pub returns-in-Fb : goal.returns-in-Fb
returns-in-Fb c = λ project same.
    on_ok_weaker c.push_leaves.result
    (same_behind c.args.vars.now.items c.push_leaves.new.vars.items _ _
    (instance_listed project (block_tree c.args.block.now) c.args.leaves.now same (ap is_fb c.in-Fb.is)))
    c.push_leaves.ensures
