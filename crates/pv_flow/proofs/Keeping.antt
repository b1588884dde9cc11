-- What the types of automata and of their machines keep, for crates above.
use Rattle.pv_flow.specs.declared.inlined_machine.Inlined.{Inlined}
use Rattle.pv_flow.specs.Faults.{IsFaultless}
use Rattle.pv_flow.specs.WellMade.{IsWellMade}
use Rattle.pv_flow.specs.Machines.{IsInlined}
use Rattle.pv_flow.specs.Tables.{AreTabled}
use Rattle.pv_flow.specs.MachineView.{inlined_parts, inlined_code, bound_of}
use Rattle.pv_flow.specs.Kept.{TypesKeep}

pub types_keep : TypesKeep
types_keep = record {
  faultless = λ a. a.faultless;
  well_made = λ a. a.well_made;
  tabled = λ a. a.tabled;
  inlined = λ m. m.inlined;
  acyclic = λ m. m.acyclic;
  attached = λ m. m.fits;
  terms = λ m. m.tabled;
}

-- by the words for what such a machine is made of
pub inlined_keeps : (m : Inlined)
    → IsFaultless (inlined_parts m) × IsWellMade (inlined_parts m) × IsInlined (inlined_parts m) (bound_of m) × AreTabled (inlined_code m)
inlined_keeps m = ((m.automaton).faultless, (m.automaton).well_made, m.inlined, (m.automaton).tabled)
