use Rattle.std.proofs.Common.{rules}
use Rattle.pv_replay.proofs.ReplayLaws.{image_started}
use Rattle.pv_replay.proofs.replay.Replay.start.Goals as goal

pub returns-clause-image : goal.returns-clause-image
returns-clause-image c =
    λ source is within. image_started source c.args.self.now c.args.params.now c.start.new.image is within c.start.ensures (search rules)
