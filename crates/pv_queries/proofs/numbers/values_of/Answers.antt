use Rattle.std.proofs.Common.{rules, ◌++◌, ◌∷◌, [], ℤ, FitsSigned, ap, ◌∙◌, arith}
use Rattle.std.specs.Int.{w128}
use Rattle.std.proofs.lemmas.Int.{to_z-of_z}
use Rattle.pv_word.specs.declared.types.Ty.TheVariants as ty
use Rattle.pv_queries.proofs.Reading.{value-pushed, widths-more}
use Rattle.pv_queries.proofs.numbers.values_of.Goals as goal

pub loop-ty-preserved : goal.loop-ty-preserved
loop-ty-preserved c =
    let value : ℤ = c.value_of.result in
    let fits : FitsSigned w128 value = search rules in
    let lt = c.loop-ty-test.true in
    record {
      values = value-pushed c.args.types.now c.args.bits.now c.loop-ty.ty-index c.loop-ty.at c.width.result ty.Bool value c.loop-ty.values c.push.new.self
          lt c.width.ensures c.value_of.ensures (c.in_ok-push.ensures.ok ∙ ap (λ (v : ℤ). c.loop-ty.values ++ v ∷ []) (to_z-of_z w128 value fits))
          c.loop-ty.invariant.values;
      left = omega (arith, c.loop-ty.invariant.left, widths-more c.args.types.now c.loop-ty.ty-index ty.Bool lt, c.width.ensures);
    }
