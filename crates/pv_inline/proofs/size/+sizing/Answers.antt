use Rattle.std.proofs.Common.{◌<◌, List, length, refl, ap, arith}
use Rattle.pv_flow.specs.declared.parts.Edge.{Edge as CodeEdge}
use Rattle.pv_flow.specs.View.{parts_of}
use Rattle.pv_inline.specs.Blocks.{blocks_in, codes_in}
use Rattle.pv_inline.specs.declared.fault.TheConstants.{BEYOND}
use Rattle.pv_inline.proofs.Coded.{some_block}
use Rattle.pv_inline.proofs.Sizes.{some_code, none_code}
use Rattle.pv_inline.proofs.size.+sizing.Goals as goal

pub size_after-returns-in-Some : goal.size_after-returns-in-Some
size_after-returns-in-Some t c =
    let some : 0 < c.args.levels = omega arith in
    some_code (blocks_in (codes_in c.args.blocks.now)) c.args.levels c.args.block c.args.total c.sum.result (length c.as_slice-own.result.now) c.calls_after.result
    (parts_of c.in-Some.parts.now) c.in-Some.parts.now c.as_slice-calls.result.now some
    (some_block (codes_in c.args.blocks.now) c.args.block c.in-Some.parts.now c.in-Some.ensures) refl
    (ap (λ (es : List CodeEdge). length es) c.as_slice-own.ensures.value) c.sum.ensures c.as_slice-calls.ensures.value c.calls_after.ensures

pub size_after-returns-in-None : goal.size_after-returns-in-None
size_after-returns-in-None t c =
    let few : c.args.total < BEYOND = omega arith in
    none_code (codes_in c.args.blocks.now) c.args.levels c.args.block c.args.total c.in-None.ensures few
