use Rattle.std.proofs.Common.{◌≡◌, rules, to_z, of_z}
use Rattle.std.specs.Int.{w64}
use Rattle.pv_mean.specs.Accumulators as m
use Rattle.pv_stl_run.specs.Views.{part_of}
use Rattle.pv_stl_run.proofs.NumberLaws.{short_is}
use Rattle.pv_stl_run.proofs.numbers.number.Goals as goal

pub returns-clause-low : goal.returns-clause-low
returns-clause-low c =
    let e : to_z w64 (of_z w64 c.one.result) ≡ m.number (part_of c.args.part) c.args.v = search rules in
    (short_is (to_z w64 (of_z w64 c.one.result)) (part_of c.args.part) c.args.v e).from

pub returns-clause-high : goal.returns-clause-high
returns-clause-high c =
    let e : to_z w64 (of_z w64 c.one.result) ≡ m.number (part_of c.args.part) c.args.v = search rules in
    (short_is (to_z w64 (of_z w64 c.one.result)) (part_of c.args.part) c.args.v e).to
