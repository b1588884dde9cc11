use Rattle.std.proofs.Common.{◌∙◌, ap, slice_get}
use Rattle.std.specs.Prelude.{option_map, option_and_then}
use Rattle.pv_types.specs.View.{var_tree}
use Rattle.pv_tree.specs.Scopes.{first_var}
use Rattle.pv_names.proofs.FirstNumbers.{found_none}
use Rattle.pv_names.proofs.LookUps.{var_found}
use Rattle.pv_names.proofs.entry.Entry.find.Goals as goal

pub returns-in-Some : goal.returns-in-Some
returns-in-Some c =
    let entry = c.args.self.now in
    let key = c.args.name.now.key in
    ap (option_map var_tree) (c.at.ensures
    ∙ ap (option_and_then (slice_get entry.vars.items)) (c.in-Some.ensures ∙ entry.by_name key))
    ∙ var_found entry.vars.items key ∙ ap (λ l. first_var l key) entry.all

pub returns-in-None : goal.returns-in-None
returns-in-None c =
    let entry = c.args.self.now in
    let key = c.args.name.now.key in
    found_none var_tree entry.vars.items _ (c.in-None.ensures ∙ entry.by_name key)
    ∙ var_found entry.vars.items key ∙ ap (λ l. first_var l key) entry.all
