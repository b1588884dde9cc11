use Rattle.std.proofs.Common.{◌∙◌}
use Rattle.pv_pattern.proofs.Judging.{judged}
use Rattle.pv_pattern.proofs.pattern.Pattern.judge.Goals as goal

pub returns : goal.returns
returns c = λ source p is.
    c.judge_terms.ensures ∙ judged source c.args.self.now p c.args.prev c.args.begin.now c.args.end.now is
