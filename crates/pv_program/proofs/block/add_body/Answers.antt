use Rattle.std.proofs.Common.{map, sym, subst, arith}
use Rattle.pv_tree.specs.View.{stmt_trees, instr_tree, body_tree}
use Rattle.pv_resolve.specs.Contexts.{block_in}
use Rattle.pv_laws_room.specs.Bodies.{FitsStmts}
use Rattle.pv_program.specs.Led.{AllLed}
use Rattle.pv_program.specs.Ready.{AreReady, FitsCode}
use Rattle.pv_program.proofs.Failing.{told}
use Rattle.pv_program.proofs.Growing.{extends-same}
use Rattle.pv_program.proofs.Making.{list-within, scl-runs, stl-runs, starts-runs}
use Rattle.pv_program.proofs.block.add_body.Goals as goal

pub returns-in_ok-made-in-Scl : goal.returns-in_ok-made-in-Scl
returns-in_ok-made-in-Scl c = record {
  grows = c.in_ok-made-in-Scl.ensures.grows;
  runs = λ source is. scl-runs source (block_in c.args.context.now) _ _ c.args.body.now c.in-Scl.list _ c.in-Scl.is c.as_slice.ensures.value (c.in_ok-made-in-Scl.ensures.is source is);
  within = λ source is. list-within (c.in_ok-made-in-Scl.ensures.is source is);
  room = λ source is h fits. tt;
  led = λ source is fits before. c.in_ok-made-in-Scl.ensures.led source is
      (subst (λ l. AllLed source (block_in c.args.context.now) (stmt_trees l)) (sym c.as_slice.ensures.value)
      (subst (λ b. FitsCode source (block_in c.args.context.now) (body_tree b)) c.in-Scl.is fits).1) before;
}

pub returns-in_ok-made-in-Stl : goal.returns-in_ok-made-in-Stl
returns-in_ok-made-in-Stl c = record {
  grows = c.in_ok-made-in-Stl.ensures.grows;
  runs = λ source is. stl-runs source (block_in c.args.context.now) _ _ c.args.body.now c.in-Stl.list _ c.in-Stl.is c.as_slice-in-Stl.ensures.value (c.in_ok-made-in-Stl.ensures.has source is);
  within = λ source is. omega arith;
  room = λ source is h fits. tt;
  led = λ source is fits before. c.in_ok-made-in-Stl.ensures.led source is
      (subst (λ l. AreReady source (block_in c.args.context.now) (map instr_tree l)) (sym c.as_slice-in-Stl.ensures.value)
      (subst (λ b. FitsCode source (block_in c.args.context.now) (body_tree b)) c.in-Stl.is fits)) before;
}

pub returns-in-Starts : goal.returns-in-Starts
returns-in-Starts c = record {
  grows = extends-same c.args.program.now;
  runs = λ source is. starts-runs source (block_in c.args.context.now) _ c.args.body.now _ c.in-Starts.is;
  within = λ source is. omega arith;
  room = λ source is h fits. tt;
  led = λ source is fits before. before;
}

pub returns-in_err-made-in-Scl-clause-room : goal.returns-in_err-made-in-Scl-clause-room
returns-in_err-made-in-Scl-clause-room c = λ source is h fits.
    told _ _ c.from_residual.ensures.1 (c.in_err-made-in-Scl.ensures.room source is h
    (subst (λ l. FitsStmts (stmt_trees l)) (sym c.as_slice.ensures.value) (subst (λ b. FitsCode source (block_in c.args.context.now) (body_tree b)) c.in-Scl.is fits).0)
    (subst (λ l. AllLed source (block_in c.args.context.now) (stmt_trees l)) (sym c.as_slice.ensures.value)
    (subst (λ b. FitsCode source (block_in c.args.context.now) (body_tree b)) c.in-Scl.is fits).1))

pub returns-in_err-made-in-Stl-clause-room : goal.returns-in_err-made-in-Stl-clause-room
returns-in_err-made-in-Stl-clause-room c = λ source is h fits.
    told _ _ c.from_residual-in_err-made-in-Stl.ensures.1 (c.in_err-made-in-Stl.ensures.room source is h
    (subst (λ l. AreReady source (block_in c.args.context.now) (map instr_tree l)) (sym c.as_slice-in-Stl.ensures.value)
    (subst (λ b. FitsCode source (block_in c.args.context.now) (body_tree b)) c.in-Stl.is fits)))
