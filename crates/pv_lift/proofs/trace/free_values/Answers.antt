use Rattle.std.proofs.Common.{rules, ◌++◌, ◌∷◌, [], ℤ, FitsSigned, ap, ◌∙◌, arith}
use Rattle.std.specs.Prelude.{if◌then◌else◌}
use Rattle.std.specs.Int.{w128}
use Rattle.std.proofs.lemmas.Int.{to_z-of_z}
use Rattle.pv_mean.specs.Frames.{is_free}
use Rattle.pv_lift.specs.Traces.{free_in}
use Rattle.pv_lift.proofs.Images.{free-more}
use Rattle.pv_lift.proofs.trace.free_values.Goals as goal

pub loop-cell-preserved : goal.loop-cell-preserved
loop-cell-preserved c =
    let l = c.loop-cell in
    let cell = c.cell-item.result in
    let value : ℤ = c.value_at.result in
    let fits : FitsSigned w128 value = search rules in
    record {
      values = free-more c.args.cells.now cell l.cell-index l.at c.width_in_image-at.result c.args.image.now l.values c.push_free.new.values
          (free_in c.args.cells.now c.args.image.now) value c.loop-cell-test.true c.cell-item.is c.value_at.ensures
          (c.in_ok-push_free.ensures ∙ ap (λ (v : ℤ). l.values ++ (if is_free cell.role cell.bound then v ∷ [] else [])) (to_z-of_z w128 value fits))
          c.width_in_image-at.ensures.width l.invariant.values;
      few = omega (arith, l.invariant.few, c.width_in_image-at.ensures.few);
    }
