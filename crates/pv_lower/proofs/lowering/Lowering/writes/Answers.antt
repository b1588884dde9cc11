use Rattle.pv_resolve.specs.Contexts.{block_in}
use Rattle.pv_lower.proofs.Reaching.{stored, moves_of, of_writing}
use Rattle.pv_lower.proofs.lowering.Lowering.writes.Goals as goal

pub returns : goal.returns
returns c = λ source a w is table at put.
    of_writing source (block_in c.args.self.now.context) a w c.in_ok-storage.storage _ _ _ _
    (stored source (block_in c.args.self.now.context) _ c.args.access.now a c.in_ok-storage.storage at (c.in_ok-storage.ensures source is))
    (c.in_ok-push_write.ensures w a.moves table put (moves_of _ c.args.access.now a _ at c.as_slice.ensures.value))
