use Rattle.std.proofs.Common.{◌<◌, length, rules}
use Rattle.pv_parse.proofs.LevelLaws.{gathered_short}
use Rattle.pv_parse.proofs.levels.gather.Goals as goal

pub returns-then-len-count : goal.returns-then-len-count
returns-then-len-count c =
    let few : length c.args.stack.now.items < c.args.count = search rules in
    gathered_short c.args.count c.args.drops c.args.stack.now.items few
