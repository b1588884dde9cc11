use Rattle.pv_region.proofs.Seen.{lemmas-seen}
use Rattle.pv_region.proofs.Blocks.{block_of}
use Rattle.pv_region.proofs.region.Region.lemmas.Goals as goal

pub returns : goal.returns
returns c = lemmas-seen (block_of c.self.inside) c.self.invariant c.args.self.now c.self.view_is
