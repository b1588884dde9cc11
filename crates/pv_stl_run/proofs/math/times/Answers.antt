use Rattle.std.proofs.Common.{◌≡◌, ap, ◌∙◌, to_z, of_z}
use Rattle.std.specs.Int.{w64}
use Rattle.std.proofs.lemmas.Int.{to_z-of_z}
use Rattle.pv_mean.specs.Accumulators as m
use Rattle.pv_stl_run.specs.Views.{part_of}
use Rattle.pv_stl_run.proofs.NumberLaws.{short_number, times_is}
use Rattle.pv_stl_run.proofs.math.times.Goals as goal

pub returns : goal.returns
returns c =
    let part = part_of c.args.part in
    let nb : to_z w64 (of_z w64 c.number.result) ≡ m.number part c.args.b =
    to_z-of_z w64 c.number.result (record { sfits = c.number.type_inv }) ∙ c.number.ensures.value
    ∙ ap (m.number part) (to_z-of_z w64 c.args.b c.ranges.b) in
    let na : to_z w64 (of_z w64 c.number-2.result) ≡ m.number part c.args.a =
    to_z-of_z w64 c.number-2.result (record { sfits = c.number-2.type_inv }) ∙ c.number-2.ensures.value
    ∙ ap (m.number part) (to_z-of_z w64 c.args.a c.ranges.a) in
    times_is (m.number part c.args.b) (m.number part c.args.a) (to_z w64 (of_z w64 c.number.result)) (to_z w64 (of_z w64 c.number-2.result))
    nb na (short_number part c.args.b) (short_number part c.args.a)
