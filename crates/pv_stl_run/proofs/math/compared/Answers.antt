use Rattle.std.proofs.Common.{◌≡◌, false, ap, ◌∙◌, arith, to_z, of_z}
use Rattle.std.specs.Prelude.{◌-ℤ◌}
use Rattle.std.specs.Int.{w64}
use Rattle.std.proofs.lemmas.Int.{ints, to_z-of_z}
use Rattle.pv_mean.specs.Accumulators as m
use Rattle.pv_stl_run.specs.Views.{part_of, codes_of}
use Rattle.pv_stl_run.proofs.NumberLaws.{codes_by_is}
use Rattle.pv_stl_run.proofs.math.compared.Goals as goal

pub returns-clause-codes : goal.returns-clause-codes
returns-clause-codes c =
    let part = part_of c.args.part in
    let nb : c.number-b.result ≡ m.number part c.args.b = c.number-b.ensures.value ∙ ap (m.number part) (to_z-of_z w64 c.args.b c.ranges.b) in
    let na : c.number-a.result ≡ m.number part c.args.a = c.number-a.ensures.value ∙ ap (m.number part) (to_z-of_z w64 c.args.a c.ranges.a) in
    let d = to_z w64 (of_z w64 (to_z w64 (of_z w64 c.number-b.result) -ℤ to_z w64 (of_z w64 c.number-a.result))) in
    let e : d ≡ m.number part c.args.b -ℤ m.number part c.args.a = omega (arith, ints, nb, na) in
    codes_by_is false (codes_of c.codes_by.result) d (m.number part c.args.b -ℤ m.number part c.args.a) c.codes_by.ensures e
