use Rattle.std.proofs.Common.{◌≡◌, ◌≤◌, ◌^◌, ◌∙◌, ap, arith}
use Rattle.std.specs.Prelude.{unsigned_abs}
use Rattle.std.specs.Int.{w64, w128}
use Rattle.std.proofs.lemmas.Int.{ints, to_z-of_z, quot_is}
use Rattle.pv_word.specs.Division.{quotient}
use Rattle.pv_eval.proofs.OperatorLaws.{quotient_fits}
use Rattle.pv_eval.proofs.operator.quotient.Goals as goal

pub returns : goal.returns
returns c =
    let a : c.from.result ≡ c.args.a = c.from.ensures ∙ to_z-of_z w64 c.args.a c.ranges.a in
    let b : c.from-2.result ≡ c.args.b = c.from-2.ensures ∙ to_z-of_z w64 c.args.b c.ranges.b in
    let small : unsigned_abs c.from.result ≤ 2 ^ 63 = omega (arith, ints, a) in
    quot_is w128 c.from.result c.from-2.result (record { sfits = c.from.type_inv }) (record { sfits = c.from-2.type_inv }) (quotient_fits c.from.result c.from-2.result small)
    ∙ ap (λ x. quotient x c.from-2.result) a ∙ ap (λ y. quotient c.args.a y) b
