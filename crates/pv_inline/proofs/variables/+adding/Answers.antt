use Rattle.std.proofs.Common.{◌<◌, map, refl, arith}
use Rattle.pv_flow.specs.View.{variable_of, parts_of}
use Rattle.pv_inline.specs.Blocks.{blocks_in, codes_in}
use Rattle.pv_inline.proofs.Coded.{ok_by, some_block}
use Rattle.pv_inline.proofs.Added.{some_added, none_added}
use Rattle.pv_inline.proofs.variables.+adding.Goals as goal

pub add_block-returns-in_ok-add_own-in-Some : goal.add_block-returns-in_ok-add_own-in-Some
add_block-returns-in_ok-add_own-in-Some t c =
    let some : 0 < c.args.levels = omega arith in
    ok_by c.add_calls.result (λ u is. some_added (blocks_in (codes_in c.args.blocks.now)) c.args.levels c.args.block (parts_of c.in-Some.parts.now)
    c.in-Some.parts.now c.own_of-own.result.now c.as_slice-calls.result.now (map variable_of c.args.vars.now.items)
    (map variable_of c.add_own.new.vars.items) (map variable_of c.add_calls.new.vars.items) some
    (some_block (codes_in c.args.blocks.now) c.args.block c.in-Some.parts.now c.in-Some.ensures) refl
    c.own_of-own.ensures c.as_slice-calls.ensures.value c.in_ok-add_own-in-Some.ensures is) c.add_calls.ensures

pub add_block-returns-in-None : goal.add_block-returns-in-None
add_block-returns-in-None t c =
    none_added (codes_in c.args.blocks.now) c.args.levels c.args.block (map variable_of c.args.vars.now.items) c.in-None.ensures
