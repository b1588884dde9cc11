use Rattle.std.proofs.Common.{◌≡◌, map, drop}
use Rattle.pv_tree.specs.View.{start_tree}
use Rattle.pv_names.specs.InScope.{scope_of}
use Rattle.pv_rules_expr.specs.Looks.{near_parts}
use Rattle.pv_rules_expr.specs.Near.{near_at}
use Rattle.pv_rules_expr.specs.declared.search.Look.{Look}
use Rattle.pv_rules_decl.specs.StartLook.{StartLook}
use Rattle.pv_rules_decl.specs.StartPieces.{parts_of_starts}
use Rattle.pv_rules_decl.specs.Starts.{near_starts}
use Rattle.pv_rules_decl.specs.ValueNears.{near_start}
use Rattle.pv_rules_decl.proofs.values.add_starts.Given as goal

abbrev pub invariant-loop-start : goal.invariant-loop-start
invariant-loop-start l = record {
  starts : (what : StartLook) →
      near_starts what (scope_of l.scope) (map start_tree (drop l.start-index l.list)) (near_start what l.starts)
      ≡ near_starts what (scope_of l.scope) (map start_tree l.list) (near_start what l.fn.starts);
  indexes : (what : Look) →
      near_parts what (scope_of l.scope) (parts_of_starts (scope_of l.scope) (map start_tree (drop l.start-index l.list))) (near_at what l.indexes)
      ≡ near_parts what (scope_of l.scope) (parts_of_starts (scope_of l.scope) (map start_tree l.list)) (near_at what l.fn.indexes);
}
