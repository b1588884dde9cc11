use Rattle.std.proofs.Common.{◌≡◌, pos, rules, to_z, of_z, ap, ◌∙◌}
use Rattle.std.specs.Prelude.{FitsSigned}
use Rattle.std.specs.Int.{w64}
use Rattle.std.proofs.lemmas.Int.{to_z-of_z}
use Rattle.pv_word.specs.Types.{pattern_of}
use Rattle.pv_eval.specs.Means.{activation}
use Rattle.pv_eval.specs.Operands.{spot_of}
use Rattle.pv_stl_run.specs.Views.{frame_in, registers_of}
use Rattle.pv_stl_run.specs.Code.{working}
use Rattle.pv_stl_run.proofs.StepLaws.{loads_unlocated, loads_unread, loads_made}
use Rattle.pv_stl_run.proofs.operand.loads.Goals as goal

pub returns-in-Err-clause-same : goal.returns-in-Err-clause-same
returns-in-Err-clause-same c = λ source block room i o fits p q its none type_is.
    loads_unlocated source (activation block c.args.first) i (working c.args.r.now (frame_in c.args.visible.now c.args.own.now)) o
    c.args.place c.args.ty c.in-Err.trap.kind c.in-Err.trap.place p q none (type_is c.args.first)
    (c.in-Err.ensures.value source block room o fits its)

pub returns-in-Err-value_at-clause-same : goal.returns-in-Err-value_at-clause-same
returns-in-Err-value_at-clause-same c = λ source block room i o fits p q its none type_is.
    loads_unread source (activation block c.args.first) i (working c.args.r.now (frame_in c.args.visible.now c.args.own.now)) o
    c.args.place c.args.ty (spot_of c.in-Ok.spot) c.in-Err-value_at.trap.kind c.in-Err-value_at.trap.place p q none (type_is c.args.first)
    (c.in-Ok.ensures.value source block room o fits its) c.in-Err-value_at.ensures

pub returns-in-Ok-value_at-clause-same : goal.returns-in-Ok-value_at-clause-same
returns-in-Ok-value_at-clause-same c = λ source block room i o fits p q its none type_is.
    let v = c.in-Ok-value_at.v in
    let n = c.bits_of.result in
    let v_fits : FitsSigned w64 v = search rules in
    let n_fits : FitsSigned w64 n = search rules in
    let n_is : to_z w64 (of_z w64 n) ≡ pos (pattern_of c.args.ty v) =
    to_z-of_z w64 n n_fits ∙ c.bits_of.ensures ∙ ap (λ x. pos (pattern_of c.args.ty x)) (to_z-of_z w64 v v_fits) in
    loads_made source (activation block c.args.first) i (working c.args.r.now (frame_in c.args.visible.now c.args.own.now)) o
    c.args.place c.args.ty (spot_of c.in-Ok.spot) v _ (registers_of c.load.new.r) p q none (type_is c.args.first)
    (c.in-Ok.ensures.value source block room o fits its) c.in-Ok-value_at.ensures c.load.ensures.same n_is
