use Rattle.std.proofs.Common.{take}
use Rattle.std.specs.Prelude.{flat_map}
use Rattle.pv_types.specs.View.{vars_tree}
use Rattle.pv_rules_expr.specs.Members.{HasSome}
use Rattle.pv_rules_expr.specs.Nearest.{Nears}
use Rattle.pv_rules_decl.specs.OnDeclarations.{IsMisplacedDate}
use Rattle.pv_rules_decl.proofs.declarations.misplaced_dates.Given as goal

abbrev pub invariant-loop-of : goal.invariant-loop-of
invariant-loop-of l = Nears (λ at. HasSome (IsMisplacedDate l.kind at) (flat_map (λ v. vars_tree v.now) (take l.of-index l.vars))) l.fn.nearest l.nearest
