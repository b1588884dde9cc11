use Rattle.std.proofs.Common.{◌∙◌, ap}
use Rattle.pv_pattern.specs.Terms.{is_true_term}
use Rattle.pv_pattern.proofs.Judging.{marked}
use Rattle.pv_pattern.proofs.pattern.Pattern.mark.Goals as goal

pub returns : goal.returns
returns c = λ source p is.
    c.is_true.ensures ∙ ap (is_true_term c.args.end.now) c.first.ensures ∙ marked source c.args.self.now p c.args.end.now is
