use Rattle.std.proofs.Common.{Bool, ◌+◌, ap, sym, ◌∙◌, drop}
use Rattle.std.specs.Prelude.{find}
use Rattle.pv_types.specs.Tree.{VarTree}
use Rattle.pv_types.specs.View.{name_of, var_tree, vars_tree, var_trees}
use Rattle.pv_types.proofs.ForCallers.{vars_from}
use Rattle.pv_tree.specs.Scopes.{has_key}
use Rattle.pv_names.proofs.Fields.{find_front, find_behind}
use Rattle.pv_names.proofs.scope.first_among.Goals as goal

pub returns-in-Some : goal.returns-in-Some
returns-in-Some c =
    let sought : VarTree → Bool = λ v. has_key c.args.name.now.key (name_of v) in
    let vars = c.args.vars.now in
    let i = c.loop-of.of-index in
    let v = c.of-item.result in
    sym (find_front sought (vars_tree v) (var_trees (drop (i + 1) vars)) (var_tree c.in-Some.var) (sym c.in-Some.ensures))
    ∙ ap (find sought) (sym (vars_from vars i v c.loop-of-test.true c.of-item.is))
    ∙ c.loop-of.invariant

pub loop-of-preserved : goal.loop-of-preserved
loop-of-preserved c =
    let sought : VarTree → Bool = λ v. has_key c.args.name.now.key (name_of v) in
    let vars = c.args.vars.now in
    let i = c.loop-of.of-index in
    let v = c.of-item.result in
    sym (find_behind sought (vars_tree v) (var_trees (drop (i + 1) vars)) (sym c.in_default.ensures))
    ∙ ap (find sought) (sym (vars_from vars i v c.loop-of-test.true c.of-item.is))
    ∙ c.loop-of.invariant
