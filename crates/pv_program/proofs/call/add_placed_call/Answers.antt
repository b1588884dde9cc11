use Rattle.std.proofs.Common.{sym, subst}
use Rattle.std.specs.Result.{IfOk}
use Rattle.pv_tree.specs.Parts.{site}
use Rattle.pv_names.specs.Callees.{how_tree}
use Rattle.pv_resolve.specs.Contexts.{block_in}
use Rattle.pv_run.specs.Code.{IsCall}
use Rattle.pv_tree.specs.View.{call_tree}
use Rattle.pv_laws_room.specs.Bodies.{FitsCall}
use Rattle.pv_program.specs.Led.{RunsLed}
use Rattle.pv_program.proofs.Parameters.{call_fits, placed_led}
use Rattle.pv_program.proofs.call.add_placed_call.Goals as goal

pub returns : goal.returns
returns c = record {
  grows = c.add_call.ensures.grows;
  means = λ source is.
      subst (λ t. IfOk c.add_call.result (λ n. IsCall source (block_in c.args.context.now) c.add_call.new.program n
      (site (how_tree c.args.how) t)))
      c.in_ok-made.ensures (c.add_call.ensures.means source is);
  room = λ source is h fits led.
      c.add_call.ensures.room source is h (subst FitsCall (sym c.in_ok-made.ensures) (call_fits (call_tree c.args.call.now) fits))
      (subst (λ t. RunsLed source (block_in c.args.context.now) (site (how_tree c.args.how) t)) (sym c.in_ok-made.ensures)
      (placed_led source (block_in c.args.context.now) (how_tree c.args.how) (call_tree c.args.call.now) led));
  led = λ source is led before.
      c.add_call.ensures.led source is
      (subst (λ t. RunsLed source (block_in c.args.context.now) (site (how_tree c.args.how) t)) (sym c.in_ok-made.ensures)
      (placed_led source (block_in c.args.context.now) (how_tree c.args.how) (call_tree c.args.call.now) led)) before;
}
