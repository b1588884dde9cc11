use Rattle.std.proofs.Common.{◌≡◌, map, drop}
use Rattle.pv_tree.specs.View.{instr_tree}
use Rattle.pv_names.specs.InScope.{scope_of}
use Rattle.pv_rules_expr.specs.NearestIn.{nearest_in}
use Rattle.pv_rules_code.specs.Nears.{near_site}
use Rattle.pv_rules_code.specs.Sites.{instr_place}
use Rattle.pv_rules_code.specs.Sought.Site.{Site}
use Rattle.pv_rules_code.proofs.instruction.add_instrs.Given as goal

abbrev pub invariant-loop-instr : goal.invariant-loop-instr
invariant-loop-instr l = (what : Site) →
    nearest_in (instr_place what (scope_of l.scope)) (map instr_tree (drop l.instr-index l.list)) (near_site what l.near)
    ≡ nearest_in (instr_place what (scope_of l.scope)) (map instr_tree l.list) (near_site what l.fn.near)
