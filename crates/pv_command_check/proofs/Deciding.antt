-- What is decided of what is worked on, by how large that is; and its texts.
use Rattle.std.proofs.Common.{◌≡◌, ◌<◌, ◌≤◌, ℕ, List, length, true, false, Option, Result, Ok, Err, IfOk, sym, ap, ◌∙◌, arith}
use Rattle.std.specs.Prelude.{nat_lt}
use Rattle.std.specs.Result.{IsOkAnd}
use Rattle.std.proofs.lemmas.Bool.{ltb-true, ltb-false}
use Rattle.std.proofs.lemmas.List.{length-map}
use Rattle.pv_edge.specs.Files.{FileMap}
use Rattle.pv_bool.specs.Tree.{ProgramTree, assignment_tree}
use Rattle.pv_sizes.specs.declared.count.TheConstants.{MAX_EDGES}
use Rattle.pv_claims.specs.declared.trace.Ending.{Ending}
use Rattle.pv_cert.specs.declared.certificate.Certificate.{Certificate}
use Rattle.pv_cert.specs.CertificateText.{IsTextOf}
use Rattle.pv_kind.specs.declared.told.OracleFault.{OracleFault}
use Rattle.pv_kind.specs.declared.told.OracleFault.TheVariants as oracle
use Rattle.pv_command_verdict.specs.Handed.{SubjectData, FirstSubject, ReadsFirst, IsFirstSubject}
use Rattle.pv_command_verdict.specs.Sizes.{edges_of, HasTooManyEdges, HasTooManyGates}
use Rattle.pv_command_check.specs.declared.stop.CheckStop.{CheckStop}
use Rattle.pv_command_check.specs.declared.stop.CheckStop.TheVariants as check_stop
use Rattle.pv_command_check.specs.Checks.{ComesTo, StopsCheck}
use Rattle.pv_command_check.specs.Made.{IsStopOf, IsDecided}

-- ---- edges

-- the code's count of assignments is that of edges
edges_are : (first : FirstSubject) (s : SubjectData) → IsFirstSubject first s → edges_of s ≡ length first.program.body.items
edges_are first s is = ap (λ (p : ProgramTree). length p.body) (sym is.program) ∙ length-map first.program.body.items assignment_tree

above : (limit n m : ℕ) → n ≡ m → limit < m → limit < n
above limit n m same lt = omega (arith, same, lt)

not_above : (limit n m : ℕ) → n ≡ m → m ≤ limit → limit < n → ⊥
not_above limit n m same le lt = omega (arith, same, le, lt)

pub many_edges : (first : FirstSubject) (s : SubjectData) → IsFirstSubject first s
    → nat_lt MAX_EDGES (length first.program.body.items) ≡ true → HasTooManyEdges s
many_edges first s is many =
    above MAX_EDGES (edges_of s) (length first.program.body.items) (edges_are first s is) (ltb-true MAX_EDGES (length first.program.body.items) many)

pub few_edges : (first : FirstSubject) (s : SubjectData) → IsFirstSubject first s
    → nat_lt MAX_EDGES (length first.program.body.items) ≡ false → HasTooManyEdges s → ⊥
few_edges first s is few =
    not_above MAX_EDGES (edges_of s) (length first.program.body.items) (edges_are first s is)
    (ltb-false MAX_EDGES (length first.program.body.items) few)

-- ---- the oracle's stops

pub stops_by : (told : Option FileMap) (file : List ℕ) (s : SubjectData) (fault : OracleFault) (stop : CheckStop) → IsStopOf fault stop
    → ReadsFirst told file s → (HasTooManyEdges s → ⊥) → (fault ≡ oracle.Gates → HasTooManyGates s) → StopsCheck told file stop
stops_by told file s fault (check_stop.First stop) is reads few gates = absurd is
stops_by told file s fault check_stop.TooManyEdges is reads few gates = absurd is
stops_by told file s fault (check_stop.TooManyGates chain) is reads few gates =
    ((s, record { reads = reads; few = few }, gates is.0), is.1)
stops_by told file s fault check_stop.Unwritten is reads few gates = absurd is
stops_by told file s fault check_stop.NoMemory is reads few gates = tt

-- ---- what it comes to

pub comes_to : (told : Option FileMap) (file : List ℕ) (s : SubjectData) (bytes : List ℕ) (c : Certificate) (ending : Option Ending)
    → ReadsFirst told file s → IsDecided s c ending → IsTextOf bytes c → ComesTo told file s bytes c ending
comes_to told file s bytes c ending reads is text =
    let e = is.evidence in
    record {
      reads = record { reads = record { reads = reads; few = is.few }; few = e.few };
      is = record { is_text = text; is_right = e.is_right; ending = e.ending; says = e.says };
      order = e.order;
      complete = e.complete;
    }

-- ---- texts

-- what is so of what was joined, where a part of it was made
pub joined_as : {T V E : Type 0} (P : T → Type 0) (Q : T → V → Type 0) (R : V → Type 0) (r : Result T E) (part : Result V E)
    → ((x : T) (v : V) → Q x v → R v → P x) → IfOk r (λ x. IsOkAnd part (Q x)) → IfOk part R → IfOk r P
joined_as P Q R (Ok x) (Ok v) so is says = so x v is says
joined_as P Q R (Ok x) (Err e) so is says = absurd is
joined_as P Q R (Err e) part so is says = tt
