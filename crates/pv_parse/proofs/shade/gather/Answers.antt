use Rattle.std.proofs.Common.{◌-◌, ◌/◌, ap, ◌∙◌, sym}
use Rattle.pv_parse.specs.Shades.{Shade, gathered, shade_in, shades_of}
use Rattle.pv_parse.proofs.Merging.{gathered_one}
use Rattle.pv_parse.proofs.shade.gather.Goals as goal

pub values-preserved : goal.values-preserved
values-preserved c =
    ap (λ (z : Shade). gathered (c.values.left - 1) (c.values.drops / 2) z (shades_of c.pop.new.stack)) c.in_ok-one.ensures
    ∙ sym (gathered_one c.values.left c.values.drops (shade_in c.values.one) (shade_in c.in_ok-value.value) (shades_of c.values.stack)
    (shades_of c.pop.new.stack) c.values-test.true c.in_ok-value.ensures)
    ∙ c.values.invariant
