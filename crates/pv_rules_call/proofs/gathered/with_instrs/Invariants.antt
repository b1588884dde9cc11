use Rattle.std.proofs.Common.{◌≡◌, map, drop}
use Rattle.pv_tree.specs.View.{instr_tree}
use Rattle.pv_names.specs.InScope.{scope_of}
use Rattle.pv_rules_call.specs.Links.{link_tree}
use Rattle.pv_rules_call.specs.Gathered.{calls_of_all, with_sites}
use Rattle.pv_rules_call.proofs.gathered.with_instrs.Given as goal

abbrev pub invariant-loop-instr : goal.invariant-loop-instr
invariant-loop-instr l =
    with_sites (scope_of l.scope) (map link_tree l.all.items) (calls_of_all (map instr_tree (drop l.instr-index l.list)))
    ≡ with_sites (scope_of l.scope) (map link_tree l.fn.links.items) (calls_of_all (map instr_tree l.list))
