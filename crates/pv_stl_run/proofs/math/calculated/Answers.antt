use Rattle.std.proofs.Common.{◌≡◌, ap, sym, ◌∙◌, arith}
use Rattle.std.specs.Prelude.{◌+ℤ◌, ◌-ℤ◌}
use Rattle.std.specs.Int.{w64}
use Rattle.std.proofs.lemmas.Int.{ints, to_z-of_z}
use Rattle.pv_mean.specs.Accumulators as m
use Rattle.pv_stl_run.specs.declared.instr.Math.{Math}
use Rattle.pv_stl_run.specs.Rows.{math_row}
use Rattle.pv_stl_run.specs.Views.{part_of, codes_of}
use Rattle.pv_stl_run.proofs.RowLaws.{sum_made}
use Rattle.pv_stl_run.proofs.math.calculated.Goals as goal

pub returns-in-Sum : goal.returns-in-Sum
returns-in-Sum c = λ r p q.
    let part = part_of c.in-Sum.part in
    let nb : c.number.result ≡ m.number part c.args.b = c.number.ensures.value ∙ ap (m.number part) (to_z-of_z w64 c.args.b c.ranges.b) in
    let na : c.number-in-Sum.result ≡ m.number part c.args.a = c.number-in-Sum.ensures.value ∙ ap (m.number part) (to_z-of_z w64 c.args.a c.ranges.a) in
    sum_made ◌+ℤ◌ part c.args.place r c.args.b c.args.a _ _ c.wrapped.result.accu (codes_of c.wrapped.result.codes) p q
    (to_z-of_z w64 c.args.a c.ranges.a) c.wrapped.ensures.accu c.wrapped.ensures.codes (omega (arith, ints, nb, na))
    ∙ ap (λ (o : Math). math_row o c.args.place r) (sym c.in-Sum.is)

pub returns-in-Difference : goal.returns-in-Difference
returns-in-Difference c = λ r p q.
    let part = part_of c.in-Difference.part in
    let nb : c.number-in-Difference.result ≡ m.number part c.args.b = c.number-in-Difference.ensures.value ∙ ap (m.number part) (to_z-of_z w64 c.args.b c.ranges.b) in
    let na : c.number-in-Difference-2.result ≡ m.number part c.args.a = c.number-in-Difference-2.ensures.value ∙ ap (m.number part) (to_z-of_z w64 c.args.a c.ranges.a) in
    sum_made ◌-ℤ◌ part c.args.place r c.args.b c.args.a _ _ c.wrapped-in-Difference.result.accu (codes_of c.wrapped-in-Difference.result.codes) p q
    (to_z-of_z w64 c.args.a c.ranges.a) c.wrapped-in-Difference.ensures.accu c.wrapped-in-Difference.ensures.codes (omega (arith, ints, nb, na))
    ∙ ap (λ (o : Math). math_row o c.args.place r) (sym c.in-Difference.is)
