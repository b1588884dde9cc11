use Rattle.std.proofs.Common.{◌∙◌, ap, sym, map, bytes_eq}
use Rattle.std.proofs.lemmas.Simd.{map-map}
use Rattle.pv_types.specs.View.{var_tree, name_of}
use Rattle.pv_names.specs.Firsts.{first_number}
use Rattle.pv_names.proofs.entry.Entry.number_of.Goals as goal

pub returns : goal.returns
returns c =
    let entry = c.args.self.now in
    let key = c.args.name.now.key in
    c.find.ensures ∙ entry.by_name key
    ∙ ap (first_number (bytes_eq key)) (sym (map-map (λ v. (name_of v).key) var_tree entry.vars.items) ∙ ap (map (λ v. (name_of v).key)) entry.all)
