use Rattle.std.proofs.Common.{rules, arith}
use Rattle.pv_step.proofs.Beginning.{next_nodes, next_literals, pushed, room}
use Rattle.pv_step.proofs.step.inputs.Goals as goal

pub input-requires : goal.input-requires
input-requires c = room c.loop-taken.taken c.args.count _ c.args.gates.now c.loop-taken.gates c.loop-taken.invariant.gates (omega arith) c.requires.count

pub loop-taken-preserved : goal.loop-taken-preserved
loop-taken-preserved c = record {
  gates = next_nodes c.loop-taken.taken c.args.gates.now c.loop-taken.gates c.input.new.self c.loop-taken.invariant.gates c.in_ok-literal.ensures.nodes;
  literals = next_literals c.loop-taken.taken c.args.gates.now c.loop-taken.gates c.loop-taken.literals.items c.push.new.self.items
      c.in_ok-literal.literal c.loop-taken.invariant.gates c.loop-taken.invariant.literals c.in_ok-literal.ensures.literal
      (pushed c.loop-taken.literals.items c.push.new.self.items _ _ c.in_ok-literal.literal c.push.ensures.items c.is_err.ensures.negation
      c.if-is_err.false (search rules));
}
