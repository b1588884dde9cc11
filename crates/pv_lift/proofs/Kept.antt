-- What is said of whichever circuit is built is so of the circuit that it is, and back; and what comes of faults.
use Rattle.std.proofs.Common.{◌≡◌, ℕ, ◌<◌, ◌≤◌, true, false, List, Option, Some, None, refl, sym, ◌∙◌, ap, subst}
use Rattle.std.specs.Prelude.{Result, Ok, Err, IfSome, IsTrue, OnOk}
use Rattle.std.specs.Option.{is_some}
use Rattle.std.proofs.lemmas.Bool.{lt-ltb, le-ltb}
use Rattle.pv_gate.specs.Node.{gate_count}
use Rattle.pv_gate.specs.declared.fault.GateFault.{GateFault}
use Rattle.pv_gate.specs.declared.fault.GateFault.TheVariants.{Limit, NoMemory}
use Rattle.pv_cert.specs.declared.proof.Chain.{Chain}
use Rattle.pv_cert.specs.CertificateText.{no_reduction}
use Rattle.pv_circuit.specs.declared.start.Start.{Start}
use Rattle.pv_circuit.specs.Circuits.{Circuit}
use Rattle.pv_kind.specs.declared.told.OracleFault.{OracleFault}
use Rattle.pv_kind.specs.declared.told.OracleFault.TheVariants.{Gates}
use Rattle.pv_kind.specs.declared.told.OracleFault.TheVariants as oracle
use Rattle.pv_kind.specs.Refinements.{put_back}
use Rattle.pv_queries.specs.declared.built.Built.{Built}
use Rattle.pv_queries.specs.declared.built.TheConstants.{MAX_BUILT_GATES}
use Rattle.pv_queries.specs.Built.{IsBuilt, circuit_of, starts_of}
use Rattle.pv_lift.specs.Stages.{passes_limit, stage_of, oracle_fault}

-- ---- the circuit that is built

pub of_built : (P : Circuit → List Start → Type 0) (o : Option Built) (c : Circuit) (start : List Start) → IfSome o (IsBuilt c start)
    → IsTrue (is_some o) → IfSome o (λ b. P (circuit_of b) (starts_of b)) → P c start
of_built P None c start built some h = absurd cc
of_built P (Some b) c start built some h =
    subst (λ (x : Circuit). P x start) built.circuit (subst (λ (s : List Start). P (circuit_of b) s) built.starts h)

pub at_built : (P : Circuit → List Start → Type 0) (o : Option Built) (c : Circuit) (start : List Start) → IfSome o (IsBuilt c start)
    → P c start → IfSome o (λ b. P (circuit_of b) (starts_of b))
at_built P None c start built p = tt
at_built P (Some b) c start built p =
    subst (λ (x : Circuit). P x (starts_of b)) (sym built.circuit) (subst (λ (s : List Start). P c s) (sym built.starts) p)

-- ---- whether there is one

pub kept : (P : Type 0) (o : Option Built) → IfSome o (λ b. P) → IsTrue (is_some o) → P
kept P None h some = absurd cc
kept P (Some b) h some = h

pub always : {T E : Type 0} (r : Result T E) (P : Type 0) → P → OnOk r P
always (Ok x) P p = p
always (Err e) P p = tt

-- ---- the limit on circuits

abbrev fault_of : Result ℕ OracleFault → OracleFault
fault_of (Ok n) = oracle.NoMemory
fault_of (Err f) = f

pub same_fault : (f g : OracleFault) → ◌≡◌ {A = Result ℕ OracleFault} (Err f) (Err g) → f ≡ g
same_fault f g e = ap fault_of e

pub past : (fault : GateFault) (f : OracleFault) (c : Circuit) → f ≡ oracle_fault fault
    → (fault ≡ Limit → MAX_BUILT_GATES < gate_count c.nodes) → f ≡ Gates → passes_limit c ≡ true
past Limit f c e many gates = lt-ltb MAX_BUILT_GATES (gate_count c.nodes) (many refl)
past NoMemory f c e many gates = absurd (let no : Gates ≡ oracle.NoMemory = sym gates ∙ e in cc)

pub within : (c : Circuit) → gate_count c.nodes ≤ MAX_BUILT_GATES → passes_limit c ≡ false
within c few = le-ltb MAX_BUILT_GATES (gate_count c.nodes) few

abbrev gate_fault_of : {T : Type 0} → Result T GateFault → GateFault
gate_fault_of (Ok x) = NoMemory
gate_fault_of (Err f) = f

pub same_gate_fault : {T : Type 0} (f g : GateFault) → ◌≡◌ {A = Result T GateFault} (Err f) (Err g) → f ≡ g
same_gate_fault f g e = ap gate_fault_of e

pub over_limit : (c : Circuit) → MAX_BUILT_GATES < gate_count c.nodes → passes_limit c ≡ true
over_limit c many = lt-ltb MAX_BUILT_GATES (gate_count c.nodes) many

-- ---- no cell is abstracted

pub nothing_back : (chain : Chain) (cells : List ℕ) → chain ≡ no_reduction → stage_of chain ≡ put_back cells (stage_of chain)
nothing_back chain cells plain = ap stage_of plain ∙ sym (ap (λ (x : Chain). put_back cells (stage_of x)) plain)
