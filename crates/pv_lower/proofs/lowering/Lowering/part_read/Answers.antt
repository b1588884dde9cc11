use Rattle.std.proofs.Common.{ap}
use Rattle.std.proofs.lemmas.Result.{IfOk-weaker}
use Rattle.pv_resolve.specs.Contexts.{block_in}
use Rattle.pv_lower.specs.Lowered.{read_at}
use Rattle.pv_lower.proofs.Behind.{lowers_say}
use Rattle.pv_lower.proofs.lowering.Lowering.part_read.Goals as goal

pub returns : goal.returns
returns c = λ source a is table at.
    IfOk-weaker c.reads.result _ _
    (λ n x. lowers_say _ _ _ _ n _ _
    (ap (λ ty. read_at source (block_in c.args.self.now.context) ty a c.args.place) (c.in_ok-ty.ensures source is)) x)
    (c.reads.ensures source a is table at)
