use Rattle.std.proofs.Common.{map, ◌++◌, ap, sym, ◌∙◌}
use Rattle.std.proofs.lemmas.Result.{on_ok_weaker}
use Rattle.pv_tree.specs.View.{block_tree}
use Rattle.pv_flow.specs.View.{variable_of}
use Rattle.pv_variables.specs.Variables.{is_bound_in, with_set}
use Rattle.pv_variables.proofs.Listing.{if_not, if_so}
use Rattle.pv_variables.proofs.list.push_param.Goals as goal

pub returns-then-not-is_bound_in : goal.returns-then-not-is_bound_in
returns-then-not-is_bound_in c =
    if_not c.args.vars.now.items (is_bound_in (block_tree c.args.block.now) c.args.leaf.now.section) _
    (sym c.is_bound_in.ensures ∙ c.if-not-is_bound_in.true)

pub returns : goal.returns
returns c =
    on_ok_weaker c.push_with_set.result
    (λ h. if_so c.args.vars.now.items c.push_with_set.new.vars.items (is_bound_in (block_tree c.args.block.now) c.args.leaf.now.section) _
    (sym c.is_bound_in.ensures ∙ c.if-not-is_bound_in.false)
    (h ∙ ap (λ r. map variable_of c.args.vars.now.items ++ with_set r c.args.leaf.now.ty) c.role_of_param.ensures))
    c.push_with_set.ensures
