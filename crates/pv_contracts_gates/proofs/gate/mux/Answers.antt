-- A signed number is passed as its bits: that takes it back.
use Rattle.std.proofs.Common.{refl}
use Rattle.pv_gate.proofs.ForCallers.{passed}
use Rattle.pv_contracts_gates.proofs.gate.mux.Goals as goal

pub returns-clause-literal : goal.returns-clause-literal
returns-clause-literal c = rw (passed c.args.s _ c.ranges.s refl, passed c.args.a _ c.ranges.a refl, passed c.args.b _ c.ranges.b refl) at c.mux.ensures.literal

pub returns-clause-nodes : goal.returns-clause-nodes
returns-clause-nodes c = rw (passed c.args.s _ c.ranges.s refl, passed c.args.a _ c.ranges.a refl, passed c.args.b _ c.ranges.b refl) at c.mux.ensures.nodes

pub returns-clause-limit : goal.returns-clause-limit
returns-clause-limit c = rw (passed c.args.s _ c.ranges.s refl, passed c.args.a _ c.ranges.a refl, passed c.args.b _ c.ranges.b refl) at c.mux.ensures.limit

pub returns-clause-err : goal.returns-clause-err
returns-clause-err c = c.mux.ensures.err

pub returns-clause-built : goal.returns-clause-built
returns-clause-built c = rw (passed c.args.s _ c.ranges.s refl, passed c.args.a _ c.ranges.a refl, passed c.args.b _ c.ranges.b refl) at c.mux.ensures.built

pub returns-clause-value : goal.returns-clause-value
returns-clause-value c = rw (passed c.args.s _ c.ranges.s refl, passed c.args.a _ c.ranges.a refl, passed c.args.b _ c.ranges.b refl) at c.mux.ensures.value

pub returns-clause-names : goal.returns-clause-names
returns-clause-names c = c.mux.ensures.names

pub returns-clause-extends : goal.returns-clause-extends
returns-clause-extends c = c.mux.ensures.extends

pub returns-clause-longer : goal.returns-clause-longer
returns-clause-longer c = c.mux.ensures.longer

pub returns-clause-older : goal.returns-clause-older
returns-clause-older c = c.mux.ensures.older
