-- The case by which certificates are judged that a lift is of.
use Rattle.std.specs.Prelude.{List}
use Rattle.pv_cnf.specs.Clause.{Cnf}
use Rattle.pv_machine.specs.Machines.{Machine}
use Rattle.pv_cert.specs.declared.proof.Query.{Query}
use Rattle.pv_circuit.specs.declared.start.Start.{Start}
use Rattle.pv_circuit.specs.Circuits.{Circuit}
use Rattle.pv_frames.specs.Queries.{variable_count, query_clauses}
use Rattle.pv_valid.specs.declared.facts.Facts.{Facts}
use Rattle.pv_valid.specs.Cases.{Case}
use Rattle.pv_lift.specs.Traces.{state_with}
use Rattle.pv_lift.specs.Stages.{passes_limit}

-- the formula of a query by the circuit of a machine's steps
abbrev pub formula_of : Circuit → List Start → Query → Cnf
formula_of c start q = record { variables = variable_count c start q; clauses = query_clauses c start q }

-- its formulas are those that the lift pushes, and its states the images with their marks
abbrev pub case_of : Machine → Circuit → List Start → Facts → Case
case_of m c start facts = record {
  facts = facts;
  machine = m;
  state_at = state_with facts.looks_back;
  formula = formula_of c start;
  passes = passes_limit c;
}
