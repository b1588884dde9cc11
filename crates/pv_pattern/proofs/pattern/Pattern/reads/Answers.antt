use Rattle.std.proofs.Common.{◌∙◌}
use Rattle.pv_pattern.proofs.Judging.{read_as}
use Rattle.pv_pattern.proofs.pattern.Pattern.reads.Goals as goal

pub returns : goal.returns
returns c = λ source p is. c.one_reads.ensures ∙ read_as source c.args.self.now p c.args.cell is
