use Rattle.std.proofs.Common.{◌≡◌, ◌≢◌, ◌∙◌, sym, ap, arith, pos, to_z, of_z}
use Rattle.std.specs.Int.{w64, w128}
use Rattle.std.proofs.lemmas.Int.{ints, to_z-of_z}
use Rattle.pv_word.specs.Division.{quotient}
use Rattle.pv_word.specs.Types.{wrap_of}
use Rattle.pv_mean.specs.Endings.{Value, got}
use Rattle.pv_eval.proofs.OperatorLaws.{divided_by}
use Rattle.pv_eval.proofs.operator.div.Goals as goal

pub returns : goal.returns
returns c =
    let some : c.args.b ≢ pos 0 = omega (arith, ints) in
    let q : c.quotient.result ≡ quotient c.args.a c.args.b = c.quotient.ensures ∙ ap (λ x. quotient x (to_z w64 (of_z w64 c.args.b))) (to_z-of_z w64 c.args.a c.ranges.a) ∙ ap (λ y. quotient c.args.a y) (to_z-of_z w64 c.args.b c.ranges.b) in
    let v : to_z w64 (of_z w64 c.wrapped.result) ≡ wrap_of c.args.ty (quotient c.args.a c.args.b) =
    to_z-of_z w64 c.wrapped.result (record { sfits = c.wrapped.type_inv }) ∙ c.wrapped.ensures
    ∙ ap (wrap_of c.args.ty) (to_z-of_z w128 c.quotient.result (record { sfits = c.quotient.type_inv }) ∙ q) in
    ap (λ z. let t : Value = got z in t) v ∙ sym (divided_by c.args.place c.args.b (wrap_of c.args.ty (quotient c.args.a c.args.b)) some)
