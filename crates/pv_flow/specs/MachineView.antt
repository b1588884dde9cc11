-- What automata as machines are made of: words for crates above.
use Rattle.std.specs.Prelude.{ℕ, Option}
use Rattle.pv_flow.specs.declared.inlined_machine.Inlined.{Inlined}
use Rattle.pv_flow.specs.declared.acyclic_machine.Acyclic.{Acyclic}
use Rattle.pv_flow.specs.declared.parts.Parts.{Parts as CodeParts}
use Rattle.pv_flow.specs.Automata.{Parts}
use Rattle.pv_flow.specs.Machines.{Attached}
use Rattle.pv_flow.specs.AutomatonView.{automaton_of, attached_to}

abbrev pub inlined_parts : Inlined → Parts
inlined_parts m = automaton_of m.automaton

-- as the code has them
abbrev pub inlined_code : Inlined → CodeParts
inlined_code m = m.automaton.parts

abbrev pub bound_of : Inlined → ℕ
bound_of m = m.bound

abbrev pub acyclic_parts : Acyclic → Parts
acyclic_parts m = automaton_of m.automaton

-- as the code has them
abbrev pub acyclic_code : Acyclic → CodeParts
acyclic_code m = m.automaton.parts

abbrev pub attached_in : Acyclic → Option Attached
attached_in m = attached_to m.automaton m.attached
