use Rattle.std.proofs.Common.{[], map, take}
use Rattle.pv_rules_expr.specs.Nearest.{Nears}
use Rattle.pv_rules_expr.specs.Members.{IsLaterBehind}
use Rattle.pv_rules_decl.specs.Doubles.{AreMet, name_of_var}
use Rattle.pv_rules_decl.proofs.doubled.doubled_in.Given as goal

abbrev pub invariant-loop-var : goal.invariant-loop-var
invariant-loop-var l = record {
  met : AreMet l.names (map name_of_var (take l.var-index l.vars));
  near : Nears (IsLaterBehind [] (map name_of_var (take l.var-index l.vars))) l.fn.nearest l.nearest;
}
