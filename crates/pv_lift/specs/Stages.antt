-- How a lift puts queries as clauses. It makes nothing smaller, so it has one stage.
use Rattle.std.specs.Prelude.{nat_lt, Bool, List, []}
use Rattle.pv_gate.specs.Node.{gate_count}
use Rattle.pv_gate.specs.declared.fault.GateFault.{GateFault}
use Rattle.pv_gate.specs.declared.fault.GateFault.TheVariants.{Limit, NoMemory}
use Rattle.pv_machine.specs.Machines.{Machine}
use Rattle.pv_mean.specs.declared.cell.Cell.{Cell}
use Rattle.pv_cert.specs.declared.proof.Chain.{Chain}
use Rattle.pv_circuit.specs.declared.start.Start.{Start}
use Rattle.pv_circuit.specs.Circuits.{Circuit}
use Rattle.pv_frames.specs.Queries.{variable_count, query_clauses}
use Rattle.pv_kind.specs.Refinements.{Stage}
use Rattle.pv_kind.specs.declared.told.OracleFault.{OracleFault}
use Rattle.pv_kind.specs.declared.told.OracleFault.TheVariants as oracle
use Rattle.pv_kind.specs.declared.told.OracleFault.TheVariants.{Gates}
use Rattle.pv_kind.specs.Oracles.{Encoding}
use Rattle.pv_queries.specs.declared.built.TheConstants.{MAX_BUILT_GATES}
use Rattle.pv_lift.specs.Traces.{Shows}

-- nothing is made smaller, and no cell is abstracted
abbrev pub stage_of : Chain → Stage
stage_of chain = record { chain = chain; abstracted = [] }

-- whether a circuit has more gates than a case's may
abbrev pub passes_limit : Circuit → Bool
passes_limit c = nat_lt MAX_BUILT_GATES (gate_count c.nodes)

-- the queries on a machine by its circuit; no cells are told to differ
abbrev pub encoding_of : Machine → Circuit → List Start → List Cell → Bool → Encoding
encoding_of m c start cells back = record {
  variables = λ chain q. variable_count c start q;
  clauses = λ chain q. query_clauses c start q;
  passes = λ chain. passes_limit c;
  shows = λ q trace. Shows m cells back q trace;
  tells = λ chain q scan cells. ⊥;
}

-- what an oracle tells of a circuit that can't be built
abbrev pub oracle_fault : GateFault → OracleFault
oracle_fault Limit = Gates
oracle_fault NoMemory = oracle.NoMemory
