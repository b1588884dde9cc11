use Rattle.std.proofs.Common.{sym, subst}
use Rattle.std.specs.Result.{IfOk}
use Rattle.pv_resolve.specs.Contexts.{block_in}
use Rattle.pv_resolve.specs.Rooms.{FitsOperand}
use Rattle.pv_run.specs.Code.{IsTarget}
use Rattle.pv_program.proofs.value.add_counter.Goals as goal

pub returns : goal.returns
returns c = record {
  grows = c.add_target.ensures.grows;
  means = λ source is.
      subst (λ t. IfOk c.add_target.result (λ n. IsTarget source (block_in c.args.context.now) c.add_target.new.program n t))
      c.in_ok-operand.ensures (c.add_target.ensures.means source is);
  calls = c.add_target.ensures.calls;
  room = λ source is h. c.add_target.ensures.room source is h (subst FitsOperand (sym c.in_ok-operand.ensures) (tt, tt));
}
