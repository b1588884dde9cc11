use Rattle.std.proofs.Common.{◌≤◌}
use Rattle.pv_call_copies.specs.Inlined.{inlined_size}
use Rattle.pv_call_tables.proofs.ForCallers.{passed_on}
use Rattle.pv_inline.specs.declared.fault.TheConstants.{MAX_EDGES}
use Rattle.pv_inline.specs.Blocks.{blocks_in, codes_in}
use Rattle.pv_inline.proofs.Shorts.{each_at}
use Rattle.pv_inline.proofs.table.sizes_of.Goals as goal

pub returns-in_err-copy_size-clause-short : goal.returns-in_err-copy_size-clause-short
returns-in_err-copy_size-clause-short c small =
    passed_on c.from_residual-in_err-copy_size.result c.in_err-copy_size.field-0.0 c.from_residual-in_err-copy_size.ensures.1
    (c.in_err-copy_size.ensures.short (each_at (λ b. inlined_size (blocks_in (codes_in c.args.blocks.now)) b ≤ MAX_EDGES) c.args.calls.now
    c.loop-call.call-index _ c.loop-call-test.true small))
