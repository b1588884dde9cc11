use Rattle.std.proofs.Common.{◌-◌, false, length, drop, arith, length-drop}
use Rattle.std.specs.Prelude.{slice_index_or}
use Rattle.pv_queries.proofs.Reading.{number-small, bit-one}
use Rattle.pv_queries.proofs.numbers.number_of.Goals as goal

pub overflow_mul-number : goal.overflow_mul-number
overflow_mul-number c =
    let n = length c.args.bits.now - c.loop-k.k in
    let small = number-small (drop n c.args.bits.now) (omega (arith, length-drop n c.args.bits.now, c.requires)) in
    omega (arith, small, c.loop-k.invariant)

pub overflow_add-number : goal.overflow_add-number
overflow_add-number c =
    let n = length c.args.bits.now - c.loop-k.k in
    let small = number-small (drop n c.args.bits.now) (omega (arith, length-drop n c.args.bits.now, c.requires)) in
    let one = bit-one (slice_index_or c.args.bits.now (length c.args.bits.now - 1 - c.loop-k.k) false) in
    omega (arith, small, c.loop-k.invariant, one, c.bit_number.ensures)
