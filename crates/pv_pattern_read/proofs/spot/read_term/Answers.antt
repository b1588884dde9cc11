use Rattle.std.proofs.lemmas.Result.{IfOk-weaker}
use Rattle.pv_tree.specs.View.{operand_tree}
use Rattle.pv_eval.specs.Operands.{spot_of}
use Rattle.pv_pattern_read.proofs.Termed.{of_read}
use Rattle.pv_pattern_read.proofs.spot.read_term.Goals as goal

pub returns : goal.returns
returns c = λ source is entered.
    IfOk-weaker c.term_at.result _ _
    (λ t s. of_read source (operand_tree c.args.operand.now) t (spot_of c.in_ok-spot.spot) c.requires.has.literal
    (c.in_ok-spot.ensures.spot source is entered) s) c.term_at.ensures
