-- Where a circuit does the steps of a machine that is the same as a source's, formulas of queries are as good as the source's machine.
use Rattle.std.proofs.Common.{◌↔◌, ℕ, Bool, List}
use Rattle.pv_cnf.specs.Clause.{Holds}
use Rattle.pv_machine.specs.Machines.{Machine}
use Rattle.pv_machine.specs.Same.{IsSame}
use Rattle.pv_machine.specs.Joining.{same_back}
use Rattle.pv_machine.proofs.ForCallers.{same_base, same_step}
use Rattle.pv_mean.specs.Sources.{Source}
use Rattle.pv_pattern.specs.Patterns.{Pattern}
use Rattle.pv_pattern.specs.Sources.{machine_of}
use Rattle.pv_cert.specs.declared.proof.Query.{Query}
use Rattle.pv_cert.specs.declared.proof.Query.TheVariants.{Base, Step}
use Rattle.pv_circuit.specs.declared.start.Start.{Start}
use Rattle.pv_circuit.specs.Circuits.{Circuit, IsCircuit}
use Rattle.pv_circuit.specs.Steps.{Form, Steps}
use Rattle.pv_frames.specs.Queries.{query_clauses}
use Rattle.pv_laws_frames.proofs.ForCallers.{base-stands, step-stands, base-satisfied, step-satisfied}
use Rattle.pv_kind.specs.Oracles.{IsAsked, Meets}
use Rattle.pv_queries.specs.Lawful.{lawful_by_circuits}

pub exact : (source : Source) (p : Pattern) (m : Machine) (form : Form) (start : List Start) (c : Circuit) (q : Query) → IsCircuit c → Steps m form start c
    → IsSame (machine_of source p) m → IsAsked q → Meets (machine_of source p) q ↔ ((values : ℕ → Bool) × Holds values (query_clauses c start q))
exact source p m form start c (Base k) is steps same asked =
    let own = machine_of source p in
    let both = same_base m own k (lawful_by_circuits m form start c is steps) (same_back own m same) in (
      λ meets. let some = base-satisfied m form start c k is steps (both.1 meets) in (some.values, some.holds),
      λ found. both.0 (base-stands m form start c k found.0 is steps asked found.1).meets,
    )
exact source p m form start c (Step k) is steps same asked =
    let own = machine_of source p in
    let both = same_step m own k (lawful_by_circuits m form start c is steps) (same_back own m same) in (
      λ meets. let some = step-satisfied m form start c k is steps (both.1 meets) in (some.values, some.holds),
      λ found. both.0 (step-stands m form start c k found.0 is steps asked found.1).meets,
    )
