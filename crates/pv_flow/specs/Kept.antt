-- What the types of automata and of their machines keep.
use Rattle.std.specs.Prelude.{◌≡◌, true, IfSome}
use Rattle.pv_flow.specs.declared.automaton.Automaton.{Automaton}
use Rattle.pv_flow.specs.declared.inlined_machine.Inlined.{Inlined}
use Rattle.pv_flow.specs.declared.acyclic_machine.Acyclic.{Acyclic}
use Rattle.pv_flow.specs.Faults.{IsFaultless}
use Rattle.pv_flow.specs.WellMade.{IsWellMade}
use Rattle.pv_flow.specs.Machines.{IsInlined, IsAcyclic, IsAttached}
use Rattle.pv_flow.specs.Tables.{AreTabled, is_tabled}
use Rattle.pv_flow.specs.AutomatonView.{automaton_of, attached_to, terms_in}

pub record TypesKeep : Type 0 where
  pub faultless : (a : Automaton) → IsFaultless (automaton_of a)
  pub well_made : (a : Automaton) → IsWellMade (automaton_of a)
  pub tabled : (a : Automaton) → AreTabled a.parts
  pub inlined : (m : Inlined) → IsInlined (automaton_of m.automaton) m.bound
  pub acyclic : (m : Acyclic) → IsAcyclic (automaton_of m.automaton)
  pub attached : (m : Acyclic) → IfSome (attached_to m.automaton m.attached) (IsAttached (automaton_of m.automaton))
  pub terms : (m : Acyclic) → is_tabled (terms_in m.automaton) m.attached ≡ true
