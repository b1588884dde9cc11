use Rattle.std.proofs.Common.{ap, sym, ◌∙◌, option_map}
use Rattle.pv_tree.specs.View.{instr_tree}
use Rattle.pv_rules_instr.specs.AtLabels.{label_tree}
use Rattle.pv_rules_instr.proofs.Meetings.{missing_some}
use Rattle.pv_rules_instr.proofs.label.missing_label.Goals as goal

pub returns-in-Some : goal.returns-in-Some
returns-in-Some c = λ all h.
    missing_some c.args.table.now all (instr_tree c.args.instr.now) (label_tree c.in-Some.label) c.where_is.result c.find.result c.is_none.result
    (sym c.label_of_jump.ensures ∙ ap (option_map label_tree) c.in-Some.is) c.find.ensures c.is_none.ensures c.where_is.ensures h
