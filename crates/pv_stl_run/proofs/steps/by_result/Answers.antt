use Rattle.std.proofs.Common.{sym, refl}
use Rattle.pv_mean.specs.Endings.{got}
use Rattle.pv_mean.specs.Registers.{result_of}
use Rattle.pv_stl_run.specs.Views.{logic_of, registers_of}
use Rattle.pv_stl_run.specs.Deciding.{decided, ends_chain, is_result}
use Rattle.pv_stl_run.proofs.Triedness.{then_trap}
use Rattle.pv_stl_run.proofs.JumpLaws.{decides_result}
use Rattle.pv_stl_run.proofs.steps.by_result.Goals as goal

pub returns-in-Ok-clause-same : goal.returns-in-Ok-clause-same
returns-in-Ok-clause-same c =
    decides_result c.args.place c.args.bit c.in-Ok.e c.is_bit.result (registers_of c.args.r.now) (registers_of c.takes_result.new.r)
    c.in-Ok.ensures.value (c.in-Ok.ensures.left refl) c.is_bit.ensures

pub returns-in-Err-clause-same : goal.returns-in-Err-clause-same
returns-in-Err-clause-same c =
    sym (then_trap (result_of c.args.place (logic_of c.args.r.now.logic)) c.in-Err.trap.kind c.in-Err.trap.place
    (λ e. got (decided (is_result c.args.bit e) (ends_chain (registers_of c.args.r.now)))) c.in-Err.ensures.value)
