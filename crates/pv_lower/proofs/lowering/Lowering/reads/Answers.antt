use Rattle.pv_resolve.specs.Contexts.{block_in}
use Rattle.pv_lower.proofs.Behind.{access_keeps}
use Rattle.pv_lower.proofs.Reaching.{stored, moves_of, of_access}
use Rattle.pv_lower.proofs.lowering.Lowering.reads.Goals as goal

pub returns : goal.returns
returns c = λ source a is table at.
    let s = stored source (block_in c.args.self.now.context) _ c.args.access.now a c.in_ok-storage.storage at (c.in_ok-storage.ensures source is) in
    let x = c.in_ok-push_unset.ensures a.moves table (moves_of _ c.args.access.now a _ at c.as_slice.ensures.value) in
    of_access source (block_in c.args.self.now.context) a c.args.ty c.args.place c.in_ok-storage.storage _ _ _ _ _ _ s x
    (c.in_ok-push_read.ensures a.moves x.grows.table
    (moves_of _ c.args.access.now a _ (access_keeps _ _ c.args.access.now a x.grows at) c.as_slice-2.ensures.value))
