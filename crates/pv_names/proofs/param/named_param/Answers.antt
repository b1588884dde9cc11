use Rattle.std.proofs.Common.{sym, ap, ◌∙◌}
use Rattle.std.specs.Prelude.{option_map}
use Rattle.pv_types.specs.View.{var_tree, var_trees}
use Rattle.pv_tree.specs.Callees.{params_of_vars, value_param}
use Rattle.pv_names.specs.Entries.{block_of}
use Rattle.pv_names.specs.Callees.{how_tree}
use Rattle.pv_names.specs.Params.{param_of}
use Rattle.pv_names.proofs.Parameters.{param_among, append_found, append_none, param_seen}
use Rattle.pv_names.proofs.param.named_param.Goals as goal

pub returns-in-Some : goal.returns-in-Some
returns-in-Some c =
    let key = c.args.name.now.key in
    let vars = var_trees c.args.entry.now.block.now.interface.vars.items in
    let v = c.in-Some.var in
    param_seen v
    ∙ sym (append_found key (params_of_vars vars) (value_param (how_tree c.args.how) (block_of c.args.entry.now)) (param_of (var_tree v))
    (param_among key vars ∙ ap (option_map param_of) (sym c.in-Some.ensures)))

pub returns-in-None : goal.returns-in-None
returns-in-None c =
    let key = c.args.name.now.key in
    let vars = var_trees c.args.entry.now.block.now.interface.vars.items in
    c.value_param.ensures
    ∙ sym (append_none key (params_of_vars vars) (value_param (how_tree c.args.how) (block_of c.args.entry.now))
    (param_among key vars ∙ ap (option_map param_of) (sym c.in-None.ensures)))
