use Rattle.std.proofs.Common.{◌+◌, ap, sym, ◌∙◌, ◌++◌, map, drop, append_assoc}
use Rattle.std.proofs.lemmas.List.{append-nil, drop_all}
use Rattle.pv_types.specs.View.{var_tree, vars_tree, var_trees}
use Rattle.pv_types.proofs.Words.{vars_from}
use Rattle.pv_types.proofs.var.one_by_one.Goals as goal

pub loop-of-init : goal.loop-of-init
loop-of-init c = ap (λ l. map var_tree l ++ var_trees c.args.declared.now) c.new-vars.ensures.items

pub loop-of-preserved : goal.loop-of-preserved
loop-of-preserved c =
    let all = c.args.declared.now in
    let i = c.loop-of.of-index in
    ap (λ l. l ++ var_trees (drop (i + 1) all)) c.in_ok-push_each.ensures
    ∙ append_assoc (map var_tree c.loop-of.vars.items) (vars_tree c.of-item.result) (var_trees (drop (i + 1) all))
    ∙ ap (λ l. map var_tree c.loop-of.vars.items ++ l) (sym (vars_from all i c.of-item.result c.loop-of-test.true c.of-item.is))
    ∙ c.loop-of.invariant

pub returns : goal.returns
returns c =
    sym (append-nil (map var_tree c.loop-of.vars.items))
    ∙ ap (λ l. map var_tree c.loop-of.vars.items ++ var_trees l) (sym (drop_all c.loop-of.of-index c.args.declared.now c.loop-of-test.false))
    ∙ c.loop-of.invariant
