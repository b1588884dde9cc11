use Rattle.std.proofs.Common.{Option, length, subst}
use Rattle.pv_flow.specs.Automata.{types_of}
use Rattle.pv_flow.specs.Runs.{Outcome}
use Rattle.pv_flow.proofs.TypedRuns.{IsTypedEnd, automaton_typed}
use Rattle.pv_flow.proofs.laws.runs_keep_types.Goals as goal

pub returns : goal.returns
returns c = λ p n steps w end variables edges are e.
    subst (λ (out : Option Outcome). IsTypedEnd (length p.vars) (types_of p) out) e (automaton_typed p n steps w variables edges are)
