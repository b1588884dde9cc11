use Rattle.std.proofs.Common.{◌≡◌, rules, to_z, of_z, ap, sym, ◌∙◌}
use Rattle.std.specs.Prelude.{FitsSigned}
use Rattle.std.specs.Int.{w64}
use Rattle.std.proofs.lemmas.Int.{to_z-of_z}
use Rattle.pv_mean.specs.Spots.{write_spot}
use Rattle.pv_mean.specs.Values.{number_of}
use Rattle.pv_eval.specs.Operands.{spot_of}
use Rattle.pv_stl_run.specs.Views.{frame_in}
use Rattle.pv_stl_run.proofs.operand.write_bit.Goals as goal

pub returns : goal.returns
returns c = λ source types.
    let v = c.number_of.result in
    let fits : FitsSigned w64 v = search rules in
    let v_is : to_z w64 (of_z w64 v) ≡ number_of c.args.bit = to_z-of_z w64 v fits ∙ c.number_of.ensures in
    ap (write_spot source (frame_in c.args.visible.now c.args.own.now) (spot_of c.args.spot)) (sym v_is) ∙ c.write_spot.ensures source types
