use Rattle.std.proofs.Common.{◌<◌, arith}
use Rattle.pv_inline.specs.Blocks.{codes_in}
use Rattle.pv_call_tables.proofs.ForCallers.{passed_on}
use Rattle.pv_inline.proofs.Shorts.{own_short, block_short}
use Rattle.pv_inline.proofs.Coded.{ok_by}
use Rattle.pv_inline.proofs.Needing.{none_needs, some_needs}
use Rattle.pv_inline.proofs.called.+needing.Goals as goal

pub needed-returns-in_ok-own-in-Some-clause-number : goal.needed-returns-in_ok-own-in-Some-clause-number
needed-returns-in_ok-own-in-Some-clause-number t c =
    let some : 0 < c.args.levels = omega arith in
    ok_by c.needed_by_calls.result (λ n is. some_needs (codes_in c.args.blocks.now) c.args.levels c.args.block c.in_ok-own-in-Some.own n c.in-Some.parts.now
    c.as_slice-calls.result.now some c.in-Some.ensures c.in_ok-own-in-Some.ensures.number c.as_slice-calls.ensures.value is) c.needed_by_calls.ensures.number

pub needed-returns-in-None-clause-number : goal.needed-returns-in-None-clause-number
needed-returns-in-None-clause-number t c = none_needs (codes_in c.args.blocks.now) c.args.levels c.args.block c.in-None.ensures

pub needed-returns-in_err-own-in-Some-clause-short : goal.needed-returns-in_err-own-in-Some-clause-short
needed-returns-in_err-own-in-Some-clause-short t c short =
    let some : 0 < c.args.levels = omega arith in
    passed_on c.from_residual.result c.in_err-own-in-Some.field-0.0 c.from_residual.ensures.1
    (c.in_err-own-in-Some.ensures.short (own_short (codes_in c.args.blocks.now) c.args.levels c.args.block c.in-Some.parts.now some c.in-Some.ensures short))

pub needed-returns-in_ok-own-in-Some-clause-short : goal.needed-returns-in_ok-own-in-Some-clause-short
needed-returns-in_ok-own-in-Some-clause-short t c short =
    let some : 0 < c.args.levels = omega arith in
    c.needed_by_calls.ensures.short (block_short (codes_in c.args.blocks.now) c.args.levels c.args.block c.in_ok-own-in-Some.own c.in-Some.parts.now
    c.as_slice-calls.result.now some c.in-Some.ensures c.in_ok-own-in-Some.ensures.number c.as_slice-calls.ensures.value short)
