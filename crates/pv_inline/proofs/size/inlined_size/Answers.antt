use Rattle.std.proofs.Common.{IfOk, IfErr, subst}
use Rattle.pv_flow.specs.Calls.{Blocks}
use Rattle.pv_inline.specs.Correct.{IsSizeOf, IsTooLarge}
use Rattle.pv_inline.proofs.Coded.{same_blocks}
use Rattle.pv_inline.proofs.size.inlined_size.Goals as goal

pub returns-clause-size : goal.returns-clause-size
returns-clause-size c =
    subst (λ (bs : Blocks). IfOk c.size_within.result (IsSizeOf bs c.args.entry)) (same_blocks c.args.blocks.now) c.size_within.ensures.size

pub returns-clause-large : goal.returns-clause-large
returns-clause-large c =
    subst (λ (bs : Blocks). IfErr c.size_within.result (IsTooLarge bs c.args.entry)) (same_blocks c.args.blocks.now) c.size_within.ensures.large
