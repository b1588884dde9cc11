use Rattle.std.proofs.Common.{◌≡◌, map, take}
use Rattle.pv_rules_expr.specs.Members.{HasSome}
use Rattle.pv_rules_expr.specs.Nearest.{Nears}
use Rattle.pv_rules_call.proofs.by_number.all_calls.Given as goal

abbrev pub invariant-loop-link : goal.invariant-loop-link
invariant-loop-link l = Nears (λ at. HasSome (λ k. k.place ≡ at) (map (λ k. k) (take l.link-index l.links))) l.fn.nearest l.nearest
