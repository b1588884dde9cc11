use Rattle.pv_region.proofs.Seen.{clauses-seen}
use Rattle.pv_region.proofs.Blocks.{block_of}
use Rattle.pv_region.proofs.region.Region.clauses.Goals as goal

pub returns : goal.returns
returns c = clauses-seen (block_of c.self.inside) c.self.invariant c.args.self.now c.self.view_is
