use Rattle.std.proofs.Common.{◌≡◌, rules, to_z, of_z, ap, ◌∙◌}
use Rattle.std.specs.Prelude.{FitsSigned}
use Rattle.std.specs.Int.{w64}
use Rattle.std.proofs.lemmas.Int.{to_z-of_z}
use Rattle.pv_word.specs.Types.{wrap_of}
use Rattle.pv_eval.specs.Means.{activation}
use Rattle.pv_eval.specs.Operands.{spot_of}
use Rattle.pv_stl_run.specs.Views.{frame_in}
use Rattle.pv_stl_run.specs.Code.{working}
use Rattle.pv_stl_run.proofs.StepLaws.{moves_unset, moves_unlocated, moves_made}
use Rattle.pv_stl_run.proofs.operand.transfers.Goals as goal

pub returns-in_default : goal.returns-in_default
returns-in_default c = record {
  same = λ source block room i o types fits p q its type_is.
      moves_unset source (activation block c.args.first) i (working c.args.r.now (frame_in c.args.visible.now c.args.own.now)) o
      c.args.place c.args.ty c.unset.result.kind c.unset.result.place p q (type_is c.args.first) c.unset.ensures.kind c.unset.ensures.place
      c.in_default.is;
}

pub returns-in-Err : goal.returns-in-Err
returns-in-Err c = record {
  same = λ source block room i o types fits p q its type_is.
      moves_unlocated source (activation block c.args.first) i (working c.args.r.now (frame_in c.args.visible.now c.args.own.now)) o
      c.args.place c.args.ty c.in-Some.a c.in-Err.trap.kind c.in-Err.trap.place p q (type_is c.args.first) c.in-Some.is
      (c.in-Err.ensures.value source block room o fits its);
}

pub returns-in-Ok : goal.returns-in-Ok
returns-in-Ok c =
    let a = c.in-Some.a in
    let v = c.one.result in
    let a_fits : FitsSigned w64 a = search rules in
    let v_fits : FitsSigned w64 v = search rules in
    let v_is : to_z w64 (of_z w64 v) ≡ wrap_of c.args.ty a =
    to_z-of_z w64 v v_fits ∙ c.one.ensures ∙ ap (wrap_of c.args.ty) (to_z-of_z w64 a a_fits) in record {
      same = λ source block room i o types fits p q its type_is.
          moves_made source (activation block c.args.first) i (working c.args.r.now (frame_in c.args.visible.now c.args.own.now)) o
          c.args.place c.args.ty a _ (spot_of c.in-Ok.spot) (frame_in c.write_spot.new.visible c.write_spot.new.brief) p q
          (type_is c.args.first) c.in-Some.is (c.in-Ok.ensures.value source block room o fits its) v_is
          (c.write_spot.ensures source types);
    }
