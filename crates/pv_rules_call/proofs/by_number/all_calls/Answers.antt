use Rattle.std.proofs.Common.{◌≡◌, refl, get_or}
use Rattle.pv_rules_expr.proofs.ForCallers.{near_next}
use Rattle.pv_rules_call.proofs.by_number.all_calls.Goals as goal

pub loop-link-preserved : goal.loop-link-preserved
loop-link-preserved c =
    near_next (λ at k. k.place ≡ at) c.args.links.now c.loop-link.link-index
    (get_or c.args.links.now c.loop-link.link-index (record { place = record { file = 0; offset = 0 }; to = 0 })) (record { place = record { file = 0; offset = 0 }; to = 0 })
    c.args.nearest c.loop-link.nearest c.nearer-nearest.result c.loop-link-test.true refl c.loop-link.invariant c.nearer-nearest.ensures
