-- Evidence of a decision on what files hold of the form: what it says of the source, and what is promised besides.
use Rattle.std.proofs.Common.{◌≡◌, ℕ, ◌<◌, Bool, true, false, List, Option, refl, sym, subst, arith}
use Rattle.std.specs.Prelude.{nat_lt}
use Rattle.pv_edge.specs.Files.{FileMap}
use Rattle.pv_cnf.specs.Clause.{AreClauses}
use Rattle.pv_pattern.specs.Sources.{looks_back, machine_of}
use Rattle.pv_mean.specs.declared.cell.Cell.{Cell}
use Rattle.pv_bool.specs.Tree.{ProgramTree}
use Rattle.pv_bool.specs.Machine.{machine_of as program_machine}
use Rattle.pv_step.specs.Circuits.{circuit_of}
use Rattle.pv_step.specs.Steps.{starts_of}
use Rattle.pv_claims.specs.declared.trace.Ending.{Ending}
use Rattle.pv_cert.specs.declared.proof.Query.{Query}
use Rattle.pv_cert.specs.declared.certificate.Certificate.{Certificate}
use Rattle.pv_kind.specs.declared.decision.Limits.{Limits}
use Rattle.pv_kind.specs.Refinements.{Stage}
use Rattle.pv_kind.specs.Oracles.{IsAsked}
use Rattle.pv_valid.specs.declared.facts.Facts.{Facts}
use Rattle.pv_cert.specs.CertificateText.{IsWritable}
use Rattle.pv_valid.specs.Validity.{ending_in, IsRight}
use Rattle.pv_valid.specs.Deciding.{certificate_of}
use Rattle.pv_queries.specs.declared.built.TheConstants.{MAX_BUILT_GATES}
use Rattle.pv_lift.specs.Cases.{case_of}
use Rattle.pv_lift.specs.Stages.{encoding_of}
use Rattle.pv_evidence.specs.Correct.{IsEvidence}
use Rattle.pv_bool_load.specs.Handed.{SubjectData, source_in}
use Rattle.pv_bool_load.specs.Forms.{ReadsFirst, program_of}
use Rattle.pv_bool_load.specs.Correct.{IsOfProgram}
use Rattle.pv_command_verdict.specs.Sizes.{gates_of}
use Rattle.pv_command_verdict.specs.Cases.{limits_by, facts_in, case_in}
use Rattle.pv_command_verdict.specs.Made.{IsEvidenceOf, IsLiftOf}
use Rattle.pv_command_verdict.proofs.Right.{says}
use Rattle.pv_command_verdict.proofs.Decided.{Suffice, in_order, closes, finds, spends, lacks}
use Rattle.pv_command_verdict.proofs.OfFiles.{Laws, sound_in}

few_gates : (most gates : ℕ) → nat_lt most gates ≡ false → most < gates → ⊥
few_gates most gates is less = grind (arith, is, less)

pub many_gates : (most gates : ℕ) → nat_lt most gates ≡ true → most < gates
many_gates most gates is = grind (arith, is)

abbrev pub EvidenceBy : ProgramTree → Facts → List Cell → Bool → Limits → Stage → Certificate → Option Ending → Type 0
EvidenceBy tree facts cells back limits stage c told =
    IsEvidence (case_of (program_machine tree) (circuit_of tree) (starts_of tree) facts)
    (encoding_of (program_machine tree) (circuit_of tree) (starts_of tree) cells back) stage limits c told

own_evidence : (s : SubjectData) (tree : ProgramTree) (facts : Facts) (cells : List Cell) (back : Bool) (stage : Stage) (limits : Limits)
    (c : Certificate) (told : Option Ending) → IsLiftOf s tree facts cells back stage → limits ≡ limits_by s.given.case.limits
    → EvidenceBy tree facts cells back limits stage c told
    → EvidenceBy (program_of s) (facts_in s) (source_in s).cells (looks_back s.pattern) (limits_by s.given.case.limits) stage c told
own_evidence s tree facts cells back stage limits c told lift within e =
    let own = source_in s in
    subst (λ (l : Limits). EvidenceBy (program_of s) (facts_in s) own.cells (looks_back s.pattern) l stage c told) within
    (subst (λ (b : Bool). EvidenceBy (program_of s) (facts_in s) own.cells b limits stage c told) lift.looks
    (subst (λ (cs : List Cell). EvidenceBy (program_of s) (facts_in s) cs back limits stage c told) lift.of_cells
    (subst (λ (f : Facts). EvidenceBy (program_of s) f cells back limits stage c told) lift.known
    (subst (λ (t : ProgramTree). EvidenceBy t facts cells back limits stage c told) lift.program e))))

-- each query's formula is one
abbrev pub AreFormulas : SubjectData → Type 0
AreFormulas s = (q : Query) → IsAsked q → AreClauses ((case_in s).formula q).variables ((case_in s).formula q).clauses

pub evidence_of : Laws → Suffice → (told : Option FileMap) (file : List ℕ) (s : SubjectData) → ReadsFirst told file s → IsOfProgram s
    → AreFormulas s → (case_in s).passes ≡ false
    → (tree : ProgramTree) (facts : Facts) (cells : List Cell) (back : Bool) (stage : Stage) (limits : Limits)
    → IsLiftOf s tree facts cells back stage → limits ≡ limits_by s.given.case.limits → (c : Certificate) (ending : Option Ending)
    → EvidenceBy tree facts cells back limits stage c ending → IsEvidenceOf s c ending
evidence_of laws suffice told file s reads of formulas fits tree facts cells back stage limits lift within c ending e =
    let case = case_in s in
    let source = source_in s in
    let program = program_of s in
    let m = program_machine program in
    let own = own_evidence s tree facts cells back stage limits c ending lift within e in
    let sound = sound_in told file s reads of in
    let same = of.machines.machines in
    let made = certificate_of case own.proofs own.end in
    let right = subst (λ (x : Certificate). IsRight case x) own.certificate own.right in
    let writable = subst (λ (x : Certificate). IsWritable x) own.certificate own.writable in
    let said = says source s.pattern s.given.case.limits m (circuit_of program) (starts_of program) same.lawful same.same
    (laws.early (machine_of source s.pattern)) sound (laws.satisfied source s.pattern).0 made.claim made.trace made.next made.proofs
    writable.trace right in
    let is : IsEvidenceOf s made (ending_in case made.trace) = record {
      is_right = right;
      writable = writable;
      ending = refl;
      few = few_gates MAX_BUILT_GATES (gates_of s) fits;
      says = said;
      order = in_order source s.pattern s.given.case.limits m (circuit_of program) (starts_of program) same.base same.step sound
          stage own.last own.proofs own.end own.decides;
      complete = record {
        closes = λ k unspent within by. closes source s.pattern s.given.case.limits m (circuit_of program) (starts_of program) same.base
            same.step sound own.proofs own.end k own.proves unspent within by;
        finds = λ n cause unspent within some none. finds source s.pattern s.given.case.limits m (circuit_of program) (starts_of program)
            same.base same.step sound own.proofs own.end n cause own.finds unspent within some none said;
        spends = λ q spent named. spends source s.pattern s.given.case.limits m (circuit_of program) (starts_of program)
            same.base same.step sound suffice formulas stage own.last own.proofs own.end own.decides q spent named;
        lacks = λ front named x is split. lacks source s.pattern s.given.case.limits m (circuit_of program) (starts_of program)
            same.base same.step sound stage own.last own.proofs own.end own.decides front named x is split;
      };
    } in
    subst (λ (x : Option Ending). IsEvidenceOf s c x) (sym own.ending)
    (subst (λ (x : Certificate). IsEvidenceOf s x (ending_in case x.trace)) (sym own.certificate) is)
