use Rattle.std.proofs.Common.{List, OnOk, append-nil, map, subst, sym, ap, ◌∙◌}
use Rattle.std.specs.Prelude.{flat_map, option_to_list}
use Rattle.pv_tree.specs.Parts.{site}
use Rattle.pv_tree.specs.Parts.{Part, how_of, parts_of_call}
use Rattle.pv_tree.specs.View.{instr_tree, call_tree}
use Rattle.pv_names.specs.InScope.{scope_of}
use Rattle.pv_rules_code.specs.Nears.{HasParts}
use Rattle.pv_rules_code.proofs.instruction.add_called.Goals as goal

pub returns-in-Some-clause-parts : goal.returns-in-Some-clause-parts
returns-in-Some-clause-parts c =
    let scope = scope_of c.args.scope.now in
    let how = how_of (instr_tree c.args.instr.now).op in
    subst (λ (parts : List Part). OnOk c.add_call.result (HasParts scope parts c.args.near.now c.add_call.new.near))
    (ap (λ h. parts_of_call scope (site h (call_tree c.in-Some.call.now))) c.how_of.ensures
    ∙ sym (append-nil (parts_of_call scope (site how (call_tree c.in-Some.call.now))))
    ∙ ap (λ o. flat_map (parts_of_call scope) (map (site how) (option_to_list o))) c.in-Some.ensures)
    c.add_call.ensures.parts
