use Rattle.std.proofs.Common.{◌≡◌, drop}
use Rattle.pv_tree.specs.Rules.MissingNames.{values_of_choices}
use Rattle.pv_names.specs.InScope.{scope_of}
use Rattle.pv_names.specs.Sorts.{want_tree}
use Rattle.pv_rules_expr.specs.NearestIn.{nearest_in}
use Rattle.pv_rules_code.specs.AtCases.{value_at}
use Rattle.pv_rules_code.specs.Nears.{near_pick}
use Rattle.pv_rules_code.specs.Sought.Pick.{Pick}
use Rattle.pv_rules_code.proofs.case.add_choices.Given as goal

abbrev pub invariant-loop-choice : goal.invariant-loop-choice
invariant-loop-choice l = (what : Pick) →
    nearest_in (value_at what (scope_of l.scope) (want_tree l.want)) (values_of_choices (drop l.choice-index l.choices)) (near_pick what l.picks)
    ≡ nearest_in (value_at what (scope_of l.scope) (want_tree l.want)) (values_of_choices l.choices) (near_pick what l.fn.picks)
