use Rattle.std.proofs.Common.{rules, refl, to_z, of_z}
use Rattle.std.specs.Prelude.{FitsSigned}
use Rattle.std.specs.Int.{w128}
use Rattle.std.proofs.lemmas.Int.{to_z-of_z}
use Rattle.pv_lower.proofs.Stepping.{of_array}
use Rattle.pv_lower.proofs.lowering.move_on.Goals as goal

pub returns : goal.returns
returns c = λ project a t o are table is at.
    let e = c.args.elements in
    let low : FitsSigned w128 e.low = search rules in
    let high : FitsSigned w128 e.high = search rules in
    of_array project a c.args.place t _ _ _ _ c.args.access.now _ o e
    (record { index = c.args.index; low = to_z w128 (of_z w128 e.low); high = to_z w128 (of_z w128 e.high); stride = e.stride }) are is at
    (to_z-of_z w128 e.low low) (to_z-of_z w128 e.high high) refl refl (c.in_ok-check_index.ensures t table at) c.in_ok-push.ensures.items
