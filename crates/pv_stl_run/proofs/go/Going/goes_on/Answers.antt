use Rattle.std.proofs.Common.{suc, drop, arith}
use Rattle.pv_stl_run.specs.Going.{entered_of}
use Rattle.pv_stl_run.proofs.Goes.{past_here, at_last}
use Rattle.pv_stl_run.proofs.go.Going.goes_on.Goals as goal

pub returns-else-self-code-clause-same : goal.returns-else-self-code-clause-same
returns-else-self-code-clause-same c = λ source calls act all w b h nested room.
    past_here source calls act all (entered_of c.args.turns.now c.args.self.now.entered) w (drop (suc c.args.self.now.at) all)
    (at_last c.args.code.now all c.args.self.now.at h (omega arith))
