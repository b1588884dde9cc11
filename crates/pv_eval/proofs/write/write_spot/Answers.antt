use Rattle.std.proofs.Common.{◌∙◌, ap, pos, to_z, of_z}
use Rattle.std.specs.Prelude.{slice_index_or}
use Rattle.pv_word.specs.declared.types.Ty.TheVariants.{Bool, Byte}
use Rattle.pv_mean.specs.Spots.{with_bit}
use Rattle.std.specs.Int.{w64}
use Rattle.std.proofs.lemmas.Int.{to_z-of_z}
use Rattle.pv_word.specs.Types.{pattern_of}
use Rattle.pv_eval.proofs.Writing.{spot_visible, spot_bit, spot_bytes}
use Rattle.pv_eval.proofs.write.write_spot.Goals as goal

pub returns-in-Visible : goal.returns-in-Visible
returns-in-Visible c = λ source h.
    spot_visible source c.args.types.now c.args.visible.now c.write_visible.new.visible c.args.brief.now c.args.spot c.args.v h c.in-Visible.n (to_z w64 (of_z w64 c.args.v)) c.in-Visible.is c.write_visible.ensures (to_z-of_z w64 c.args.v c.ranges.v)

pub returns-in-Bytes : goal.returns-in-Bytes
returns-in-Bytes c = λ source h.
    spot_bytes source c.args.types.now c.args.visible.now c.write_bytes.new.visible c.args.brief.now c.args.spot c.args.v h c.in-Bytes.ty c.in-Bytes.n c.in-Bytes.count c.pattern.result c.in-Bytes.is c.write_bytes.ensures (c.pattern.ensures.value ∙ ap (pattern_of c.in-Bytes.ty) (to_z-of_z w64 c.args.v c.ranges.v))

pub returns-in-Bit : goal.returns-in-Bit
returns-in-Bit c = λ source h.
    spot_bit source c.args.types.now c.args.visible.now c.write_bit.new.visible c.args.brief.now c.args.spot c.args.v h c.in-Bit.n c.in-Bit.b
    (pos (with_bit (pattern_of Byte (slice_index_or c.args.visible.now c.in-Bit.n (pos 0))) c.in-Bit.b (pattern_of Bool (to_z w64 (of_z w64 c.args.v)))))
    c.in-Bit.is c.write_bit.ensures
    (ap (λ x. pos (with_bit (pattern_of Byte (slice_index_or c.args.visible.now c.in-Bit.n (pos 0))) c.in-Bit.b (pattern_of Bool x))) (to_z-of_z w64 c.args.v c.ranges.v))
