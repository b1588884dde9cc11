-- The formulas of a program's queries.
use Rattle.std.specs.Prelude.{ℕ, ◌<◌, List}
use Rattle.pv_gate.specs.declared.fault.GateFault.{GateFault}
use Rattle.pv_gate.specs.declared.fault.GateFault.TheVariants.{Limit, NoMemory}
use Rattle.pv_gate.specs.Node.{gate_count}
use Rattle.pv_cnf.specs.Clause.{Cnf}
use Rattle.pv_cert.specs.declared.proof.Query.{Query}
use Rattle.pv_circuit.specs.declared.start.Start.{Start}
use Rattle.pv_circuit.specs.Circuits.{Circuit}
use Rattle.pv_bool.specs.Tree.{ProgramTree}
use Rattle.pv_step.specs.Circuits.{circuit_of}
use Rattle.pv_step.specs.Steps.{starts_of}
use Rattle.pv_frames.specs.Queries.{query_clauses, variable_count}

-- that of a query of a circuit whose state begins so
abbrev pub formula_over : Circuit → List Start → Query → Cnf
formula_over c start q = record { variables = variable_count c start q; clauses = query_clauses c start q }

abbrev pub formula_of : ProgramTree → Query → Cnf
formula_of program q = formula_over (circuit_of program) (starts_of program) q

-- why there is no formula
abbrev pub IsCause : ℕ → ProgramTree → GateFault → Type 0
IsCause limit program Limit = limit < gate_count (circuit_of program).nodes
IsCause limit program NoMemory = Unit {0}
