use Rattle.std.proofs.Common.{◌≡◌, ◌<◌, ◌^◌, ◌∙◌, ap, arith, pos}
use Rattle.std.specs.Prelude.{slice_set, slice_index_or}
use Rattle.std.specs.Int.{w64}
use Rattle.std.proofs.lemmas.Int.{ints, to_z-of_z, to_z_pos}
use Rattle.pv_word.specs.declared.types.Ty.TheVariants.{Bool, Byte, Dint}
use Rattle.pv_word.specs.Types.{wrap_of, pattern_of}
use Rattle.pv_word.proofs.ForCallers.{pattern-lt}
use Rattle.pv_mean.specs.Spots.{with_bit}
use Rattle.pv_eval.proofs.Bytes.{with_bit_small}
use Rattle.pv_eval.proofs.write.write_bit.Goals as goal

pub with_bit-byte-requires-clause-value : goal.with_bit-byte-requires-clause-value
with_bit-byte-requires-clause-value c =
    let e : c.pattern-2.result ≡ pattern_of Bool c.args.v = c.pattern-2.ensures.value ∙ ap (pattern_of Bool) (to_z-of_z w64 c.args.v c.ranges.v) in
    omega (arith, e, pattern-lt 1 c.args.v)

pub overflow_cast-byte : goal.overflow_cast-byte
overflow_cast-byte c =
    let e : c.pattern-2.result ≡ pattern_of Bool c.args.v = c.pattern-2.ensures.value ∙ ap (pattern_of Bool) (to_z-of_z w64 c.args.v c.ranges.v) in
    let small : with_bit c.pattern.result c.args.b c.pattern-2.result < 2 ^ 33 = with_bit_small c.pattern.result c.args.b c.pattern-2.result c.pattern.ensures.short c.requires (omega (arith, e, pattern-lt 1 c.args.v)) in
    omega (arith, ints, c.with_bit-byte.ensures, small)

pub returns : goal.returns
returns c =
    let old : c.pattern.result ≡ pattern_of Byte (slice_index_or c.args.visible.now c.args.n (pos 0)) = c.pattern.ensures.value ∙ ap (pattern_of Byte) (to_z-of_z w64 c.visible_at-old.result (record { sfits = c.visible_at-old.type_inv }) ∙ c.visible_at-old.ensures) in
    let e : c.pattern-2.result ≡ pattern_of Bool c.args.v = c.pattern-2.ensures.value ∙ ap (pattern_of Bool) (to_z-of_z w64 c.args.v c.ranges.v) in
    let small : with_bit c.pattern.result c.args.b c.pattern-2.result < 2 ^ 33 = with_bit_small c.pattern.result c.args.b c.pattern-2.result c.pattern.ensures.short c.requires (omega (arith, e, pattern-lt 1 c.args.v)) in
    c.write_visible.ensures
    ∙ ap (λ z. slice_set c.args.visible.now c.args.n (wrap_of (slice_index_or c.args.types.now c.args.n Dint) z))
    (to_z_pos w64 c.with_bit-byte.result (omega (arith, c.with_bit-byte.ensures, small)) ∙ ap pos c.with_bit-byte.ensures
    ∙ ap (λ p. pos (with_bit p c.args.b c.pattern-2.result)) old
    ∙ ap (λ q. pos (with_bit (pattern_of Byte (slice_index_or c.args.visible.now c.args.n (pos 0))) c.args.b q)) e)
