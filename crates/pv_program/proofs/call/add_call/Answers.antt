use Rattle.std.proofs.Common.{ap, ◌∙◌, sym}
use Rattle.pv_tree.specs.View.{call_tree}
use Rattle.pv_tree.specs.Parts.{site}
use Rattle.pv_tree.specs.Callees.{runs, block_of_callee}
use Rattle.pv_names.specs.Callees.{how_tree}
use Rattle.pv_names.specs.Tables.{project_of}
use Rattle.pv_resolve.specs.Contexts.{block_in}
use Rattle.pv_tree.proofs.ForCallers.{run_block}
use Rattle.pv_program.proofs.Making.{callee-seen}
use Rattle.pv_program.proofs.call.add_call.Goals as goal

pub returns-in-Runs : goal.returns-in-Runs
returns-in-Runs c = record {
  grows = c.add_running.ensures.grows;
  means = λ source is.
      let called = callee-seen (project_of c.args.context.now.scope.tables.now) source.project (block_in c.args.context.now)
      (site (how_tree c.args.how) (call_tree c.args.call.now)) _ is.project c.in-Runs.ensures in
      let inner = c.context_in-inner.ensures.is source is
      (run_block (record { project = source.project; block = block_in c.args.context.now }) (site (how_tree c.args.how) (call_tree c.args.call.now)) _ called) in
      c.add_running.ensures.means source is inner (called ∙ ap runs (sym c.context_in-inner.ensures.block));
  room = λ source is h fits led.
      let called = callee-seen (project_of c.args.context.now.scope.tables.now) source.project (block_in c.args.context.now)
      (site (how_tree c.args.how) (call_tree c.args.call.now)) _ is.project c.in-Runs.ensures in
      let inner = c.context_in-inner.ensures.is source is
      (run_block (record { project = source.project; block = block_in c.args.context.now }) (site (how_tree c.args.how) (call_tree c.args.call.now)) _ called) in
      c.add_running.ensures.room source is inner h.own (h.led _ (led _ (called ∙ ap runs (sym c.context_in-inner.ensures.block)))) fits;
  led = λ source is led before.
      c.add_running.ensures.led source is
      (callee-seen (project_of c.args.context.now.scope.tables.now) source.project (block_in c.args.context.now)
      (site (how_tree c.args.how) (call_tree c.args.call.now)) _ is.project c.in-Runs.ensures ∙ ap runs (sym c.context_in-inner.ensures.block))
      led before;
}

pub returns-in-NotDeclared : goal.returns-in-NotDeclared
returns-in-NotDeclared c = record {
  grows = c.add_idle.ensures.grows;
  means = λ source is. c.add_idle.ensures.means source (block_in c.args.context.now) (site (how_tree c.args.how) (call_tree c.args.call.now))
      (ap block_of_callee (callee-seen (project_of c.args.context.now.scope.tables.now) source.project (block_in c.args.context.now)
      (site (how_tree c.args.how) (call_tree c.args.call.now)) _ is.project c.in-NotDeclared.ensures));
  room = λ source is h fits led. c.add_idle.ensures.memory;
  led = λ source is led before. c.add_idle.ensures.led source before;
}

pub returns-in-NotCallable : goal.returns-in-NotCallable
returns-in-NotCallable c = record {
  grows = c.add_idle-in-NotCallable.ensures.grows;
  means = λ source is. c.add_idle-in-NotCallable.ensures.means source (block_in c.args.context.now) (site (how_tree c.args.how) (call_tree c.args.call.now))
      (ap block_of_callee (callee-seen (project_of c.args.context.now.scope.tables.now) source.project (block_in c.args.context.now)
      (site (how_tree c.args.how) (call_tree c.args.call.now)) _ is.project c.in-NotCallable.ensures));
  room = λ source is h fits led. c.add_idle-in-NotCallable.ensures.memory;
  led = λ source is led before. c.add_idle-in-NotCallable.ensures.led source before;
}

pub returns-in-Unknown : goal.returns-in-Unknown
returns-in-Unknown c = record {
  grows = c.add_idle-in-Unknown.ensures.grows;
  means = λ source is. c.add_idle-in-Unknown.ensures.means source (block_in c.args.context.now) (site (how_tree c.args.how) (call_tree c.args.call.now))
      (ap block_of_callee (callee-seen (project_of c.args.context.now.scope.tables.now) source.project (block_in c.args.context.now)
      (site (how_tree c.args.how) (call_tree c.args.call.now)) _ is.project c.in-Unknown.ensures));
  room = λ source is h fits led. c.add_idle-in-Unknown.ensures.memory;
  led = λ source is led before. c.add_idle-in-Unknown.ensures.led source before;
}
