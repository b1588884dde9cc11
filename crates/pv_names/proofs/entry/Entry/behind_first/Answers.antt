use Rattle.std.proofs.Common.{◌∙◌, ap, slice_get, None, if◌then◌else◌}
use Rattle.std.specs.Prelude.{option_map, option_and_then, find}
use Rattle.pv_types.specs.View.{var_tree}
use Rattle.pv_names.specs.Doubled.{is_sought}
use Rattle.pv_names.proofs.FirstNumbers.{found_none, element_unless}
use Rattle.pv_names.proofs.entry.Entry.behind_first.Goals as goal

pub returns-in-Some : goal.returns-in-Some
returns-in-Some c =
    let entry = c.args.self.now in
    let part = c.args.part in
    let key = c.args.name.now.key in
    ap (option_map var_tree) (c.at.ensures
    ∙ ap (option_and_then (slice_get entry.vars.items)) (c.in-Some.ensures ∙ entry.by_part part key))
    ∙ element_unless (is_sought part key) var_tree entry.vars.items entry.unique
    ∙ ap (λ l. if entry.unique then None else find (is_sought part key) l) entry.all

pub returns-in-None : goal.returns-in-None
returns-in-None c =
    let entry = c.args.self.now in
    let part = c.args.part in
    let key = c.args.name.now.key in
    found_none var_tree entry.vars.items _ (c.in-None.ensures ∙ entry.by_part part key)
    ∙ element_unless (is_sought part key) var_tree entry.vars.items entry.unique
    ∙ ap (λ l. if entry.unique then None else find (is_sought part key) l) entry.all
