-- A signed number is passed as its bits: that takes it back.
use Rattle.std.proofs.Common.{refl}
use Rattle.pv_gate.proofs.ForCallers.{passed}
use Rattle.pv_contracts_gates.proofs.gate.and.Goals as goal

pub returns-clause-literal : goal.returns-clause-literal
returns-clause-literal c = rw (passed c.args.a _ c.ranges.a refl, passed c.args.b _ c.ranges.b refl) at c.and.ensures.literal

pub returns-clause-nodes : goal.returns-clause-nodes
returns-clause-nodes c = rw (passed c.args.a _ c.ranges.a refl, passed c.args.b _ c.ranges.b refl) at c.and.ensures.nodes

pub returns-clause-limit : goal.returns-clause-limit
returns-clause-limit c = rw (passed c.args.a _ c.ranges.a refl, passed c.args.b _ c.ranges.b refl) at c.and.ensures.limit

pub returns-clause-err : goal.returns-clause-err
returns-clause-err c = c.and.ensures.err

pub returns-clause-built : goal.returns-clause-built
returns-clause-built c = rw (passed c.args.a _ c.ranges.a refl, passed c.args.b _ c.ranges.b refl) at c.and.ensures.built

pub returns-clause-value : goal.returns-clause-value
returns-clause-value c = rw (passed c.args.a _ c.ranges.a refl, passed c.args.b _ c.ranges.b refl) at c.and.ensures.value

pub returns-clause-names : goal.returns-clause-names
returns-clause-names c = c.and.ensures.names

pub returns-clause-extends : goal.returns-clause-extends
returns-clause-extends c = c.and.ensures.extends

pub returns-clause-longer : goal.returns-clause-longer
returns-clause-longer c = c.and.ensures.longer

pub returns-clause-older : goal.returns-clause-older
returns-clause-older c = c.and.ensures.older
