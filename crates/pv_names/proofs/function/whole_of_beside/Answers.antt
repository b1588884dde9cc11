use Rattle.std.proofs.Common.{ap, ◌∙◌, map}
use Rattle.pv_tree.specs.Sorts as sorts
use Rattle.pv_names.specs.Sorts.{sort_tree}
use Rattle.pv_names.proofs.Functions.{same_of_all}
use Rattle.pv_names.proofs.function.whole_of_beside.Goals as goal

pub returns : goal.returns
returns c =
    let ss = map sort_tree c.args.parts.now in
    c.whole_type.ensures
    ∙ same_of_all (sorts.wanted_beside ss) ss c.common_type.result
    (c.common_type.ensures ∙ ap (λ w. sorts.common_type (map (sorts.taken w) ss)) c.wanted_beside.ensures)
