-- A Boolean program as a case of certificates. Its states are images, as no scan leaves a mark that the program reads.
use Rattle.std.specs.Prelude.{ℕ, nat_lt}
use Rattle.pv_gate.specs.Node.{gate_count}
use Rattle.pv_bool.specs.Tree.{ProgramTree}
use Rattle.pv_bool.specs.Machine.{machine_of}
use Rattle.pv_step.specs.Circuits.{circuit_of}
use Rattle.pv_valid.specs.declared.facts.Facts.{Facts}
use Rattle.pv_valid.specs.Cases.{Case}
use Rattle.pv_bool_judged.specs.Formulas.{formula_of}

abbrev pub case_of : ProgramTree → Facts → ℕ → Case
case_of program facts gates = record {
  facts = facts;
  machine = machine_of program;
  state_at = λ image prev. image;
  formula = formula_of program;
  passes = nat_lt gates (gate_count (circuit_of program).nodes);
}
