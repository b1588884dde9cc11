use Rattle.std.proofs.Common.{rules}
use Rattle.pv_replay.proofs.ReplayLaws.{image_set}
use Rattle.pv_replay.proofs.replay.Replay.set_image.Goals as goal

pub returns-clause-image : goal.returns-clause-image
returns-clause-image c =
    λ source is within. image_set source c.args.self.now c.args.image.now c.narrow.new.to is within (search rules) (search rules)
