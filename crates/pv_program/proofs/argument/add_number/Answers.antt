use Rattle.std.proofs.Common.{ap, ◌∙◌, bytes_eq}
use Rattle.pv_names.specs.Callees.{param_tree}
use Rattle.pv_program.proofs.Arguments.{number_kept}
use Rattle.pv_program.proofs.argument.add_number.Goals as goal

pub returns-in-Value : goal.returns-in-Value
returns-in-Value c = λ key other. number_kept _ _ c.args.number
    (ap (λ p. bytes_eq key (param_tree p).key) c.in-Value.is ∙ other)
