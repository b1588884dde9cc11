use Rattle.std.proofs.Common.{◌≡◌, ◌+◌, ◌*◌, ◌++◌, drop, map}
use Rattle.pv_flow.specs.View.{variable_of, call_edge_of}
use Rattle.pv_call_copies.specs.Inlined.{added_by_calls}
use Rattle.pv_inline.specs.Blocks.{blocks_in, codes_in}
use Rattle.pv_inline.specs.Variables.{added_below}
use Rattle.pv_inline.proofs.variables.+adding.Given as goal

abbrev pub decreases-add_calls : goal.decreases-add_calls
decreases-add_calls l = 2 * l.levels + 1

abbrev pub decreases-add_block : goal.decreases-add_block
decreases-add_block l = 2 * l.levels

abbrev pub invariant-add_calls-loop-call : goal.invariant-add_calls-loop-call
invariant-add_calls-loop-call l =
    map variable_of l.vars.items ++ added_by_calls (added_below (blocks_in (codes_in l.blocks)) l.levels) (map call_edge_of (drop l.call-index l.calls))
    ≡ map variable_of l.fn.vars.items ++ added_by_calls (added_below (blocks_in (codes_in l.blocks)) l.levels) (map call_edge_of l.calls)
