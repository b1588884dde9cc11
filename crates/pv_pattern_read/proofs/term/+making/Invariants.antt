use Rattle.std.proofs.Common.{map, take}
use Rattle.pv_tree.specs.declared.expr.Expr.{size-Expr}
use Rattle.pv_tree.specs.View.{expr_tree}
use Rattle.pv_pattern_read.proofs.Termed.{HasTerms}
use Rattle.pv_pattern_read.proofs.term.+making.Given as goal

abbrev pub decreases-term_of : goal.decreases-term_of
decreases-term_of l = size-Expr l.e.now

abbrev pub invariant-loop-arg : goal.invariant-loop-arg
invariant-loop-arg l = HasTerms l.context l.terms.items (map expr_tree (take l.arg-index l.arg-items))
