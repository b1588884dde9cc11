use Rattle.std.proofs.Common.{ℕ, ◌+◌, ◌-◌, ◌*◌, ◌%◌, ◌<◌, ◌∙◌, ap, arith, of_z}
use Rattle.std.specs.Prelude.{◌+ℤ◌, ◌-ℤ◌, ◌*ℤ◌}
use Rattle.std.specs.Int.{w64, int_wrap}
use Rattle.std.proofs.lemmas.Int.{wrapping_sub_is, wrapping_mul_onto, wrapping_add_onto, int_wrap-mul_left, int_wrap-add_left}
use Rattle.pv_eval.proofs.value.number_behind.Goals as goal

pub returns : goal.returns
returns c =
    let steps : ℕ = (of_z w64 c.args.i + (18446744073709551616 - of_z w64 c.args.low)) % 18446744073709551616 in
    let cells : ℕ = (steps * of_z w64 c.args.stride) % 18446744073709551616 in
    let few : steps < 18446744073709551616 = omega arith in
    let less : cells < 18446744073709551616 = omega arith in
    wrapping_add_onto w64 cells c.args.n less c.ranges.n
    ∙ ap (λ z. int_wrap w64 (z +ℤ c.args.n))
    (wrapping_mul_onto w64 steps c.args.stride few c.ranges.stride
    ∙ ap (λ z. int_wrap w64 (z *ℤ c.args.stride)) (wrapping_sub_is w64 c.args.i c.args.low c.ranges.i c.ranges.low)
    ∙ int_wrap-mul_left w64 (c.args.i -ℤ c.args.low) c.args.stride)
    ∙ int_wrap-add_left w64 ((c.args.i -ℤ c.args.low) *ℤ c.args.stride) c.args.n
