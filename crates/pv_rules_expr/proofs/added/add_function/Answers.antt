use Rattle.std.proofs.Common.{map}
use Rattle.pv_names.specs.Sorts.{sort_tree}
use Rattle.pv_rules_expr.proofs.Adding.{function_added}
use Rattle.pv_rules_expr.proofs.added.add_function.Goals as goal

pub returns-clause-near : goal.returns-clause-near
returns-clause-near c = λ scope args same what.
    function_added c.args.near.now scope c.args.function c.args.place args (map sort_tree c.args.parts.now) c.result_of_function-ty.result
    c.misfits.result c.add_where.new.nearest what same c.result_of_function-ty.ensures c.misfits.ensures c.add_where.ensures
