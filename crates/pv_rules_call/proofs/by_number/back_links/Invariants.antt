use Rattle.std.proofs.Common.{map, take}
use Rattle.pv_rules_expr.specs.Members.{HasSome}
use Rattle.pv_rules_expr.specs.Nearest.{Nears}
use Rattle.pv_graph.specs.Steps.{steps_of}
use Rattle.pv_rules_call.specs.ByNumber.{IsBackLink}
use Rattle.pv_rules_call.proofs.by_number.back_links.Given as goal

abbrev pub invariant-loop-link : goal.invariant-loop-link
invariant-loop-link l = Nears (λ at. HasSome (IsBackLink (steps_of l.graph) l.from at) (map (λ k. k) (take l.link-index l.links))) l.fn.nearest l.nearest
