use Rattle.std.proofs.Common.{◌≡◌, ◌∙◌, sym, ap, arith, to_z, of_z}
use Rattle.std.specs.Prelude.{◌+ℤ◌, ◌-ℤ◌, ◌*ℤ◌}
use Rattle.std.specs.Int.{w64, int_wrap}
use Rattle.std.proofs.lemmas.Int.{ints, to_z-of_z}
use Rattle.pv_mean.specs.Endings.{Value, got}
use Rattle.pv_eval.proofs.Numbers.{cell_inside}
use Rattle.pv_eval.proofs.value.cell_number.Goals as goal

pub returns-then-i-high : goal.returns-then-i-high
returns-then-i-high c =
    let number : c.number_behind.result ≡ int_wrap w64 ((c.args.i -ℤ c.args.low) *ℤ c.args.stride +ℤ c.args.n) = c.number_behind.ensures
    ∙ ap (λ z. int_wrap w64 ((to_z w64 (of_z w64 c.args.i) -ℤ to_z w64 (of_z w64 c.args.low)) *ℤ to_z w64 (of_z w64 c.args.stride) +ℤ z)) (to_z-of_z w64 c.args.n c.ranges.n)
    ∙ ap (λ z. int_wrap w64 ((z -ℤ to_z w64 (of_z w64 c.args.low)) *ℤ to_z w64 (of_z w64 c.args.stride) +ℤ c.args.n)) (to_z-of_z w64 c.args.i c.ranges.i)
    ∙ ap (λ z. int_wrap w64 ((c.args.i -ℤ z) *ℤ to_z w64 (of_z w64 c.args.stride) +ℤ c.args.n)) (to_z-of_z w64 c.args.low c.ranges.low)
    ∙ ap (λ z. int_wrap w64 ((c.args.i -ℤ c.args.low) *ℤ z +ℤ c.args.n)) (to_z-of_z w64 c.args.stride c.ranges.stride) in
    ap (λ z. let t : Value = got z in t) (to_z-of_z w64 c.number_behind.result (record { sfits = c.number_behind.type_inv }) ∙ number)
    ∙ sym (cell_inside c.args.n c.args.i c.args.low c.args.high c.args.stride c.args.place (omega (arith, ints)) (omega (arith, ints)))
