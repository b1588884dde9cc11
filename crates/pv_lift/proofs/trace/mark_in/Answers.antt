use Rattle.std.proofs.Common.{sym, ◌∙◌, arith}
use Rattle.pv_lift.proofs.Images.{mark-none, mark-some}
use Rattle.pv_lift.proofs.trace.mark_in.Goals as goal

pub returns-then-bits-lt2 : goal.returns-then-bits-lt2
returns-then-bits-lt2 c = sym (mark-none c.args.bits.now (omega arith))

pub returns : goal.returns
returns c =
    c.mark_by.ensures ∙ mark-some c.args.bits.now c.is_one.result c.is_one-2.result (omega arith) c.is_one.ensures c.is_one-2.ensures
