use Rattle.pv_tree.specs.View.{expr_tree}
use Rattle.pv_names.specs.InScope.{scope_of}
use Rattle.pv_names.specs.Sorts.{sort_tree}
use Rattle.pv_lower.proofs.Typing.{meet_so}
use Rattle.pv_lower.proofs.types.meeting_of.Goals as goal

pub returns : goal.returns
returns c =
    meet_so c.met.result (scope_of c.args.scope.now) (expr_tree c.args.left.now) (expr_tree c.args.right.now) (sort_tree c.in_ok-left.left)
    (sort_tree c.in_ok-right.right) c.in_ok-left.ensures c.in_ok-right.ensures c.met.ensures.want c.met.ensures.ty c.met.ensures.left
    c.met.ensures.right
