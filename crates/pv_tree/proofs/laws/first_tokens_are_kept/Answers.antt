use Rattle.pv_tree.proofs.Firsts.{first-expr, first-operand, first-call, first-item}
use Rattle.pv_tree.proofs.laws.first_tokens_are_kept.Goals as goal

pub returns : goal.returns
returns c = record { expression = first-expr; operand = first-operand; call = first-call; statement = first-item }
