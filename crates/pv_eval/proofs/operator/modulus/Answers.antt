use Rattle.std.proofs.Common.{◌∙◌, ◌*◌, ◌%◌, ◌^◌, ap, arith}
use Rattle.pv_eval.proofs.OperatorLaws.{weight, weight_most}
use Rattle.pv_eval.proofs.operator.modulus.Goals as goal

pub returns-clause-value : goal.returns-clause-value
returns-clause-value c = ap (λ w. 1 * 2 ^ w % 18446744073709551616) c.width.ensures ∙ weight c.args.ty

pub returns-clause-small : goal.returns-clause-small
returns-clause-small c = omega (arith, returns-clause-value c, weight_most c.args.ty)
