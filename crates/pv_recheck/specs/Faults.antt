-- The first fault of a certificate, with its line, from 1. Where the bytes are a certificate's text, its contents are judged in
-- file order: line 3 is the first proof's query, line 5 says how many lines its log has, and line 6 is the first of these.
use Rattle.std.specs.Prelude.{◌≡◌, ◌≢◌, ℕ, ◌+◌, List, [], ◌∷◌, length, ◌⊎◌}
use Rattle.pv_bool.specs.Tree.{ProgramTree}
use Rattle.pv_log.specs.declared.line.Line as line
use Rattle.pv_log.specs.declared.fault.LineFault.{LineFault}
use Rattle.pv_log.specs.Follows.{Follows, fault_of, LacksEmpty, FailsFirst}
use Rattle.pv_cert.specs.declared.proof.Query.TheVariants.{Step}
use Rattle.pv_cert.specs.declared.proof.Proof.{Proof}
use Rattle.pv_cert.specs.declared.certificate.Certificate.{Certificate}
use Rattle.pv_cert.specs.CertificateText.{IsTextOf, FailsAt}
use Rattle.pv_recheck.specs.declared.fault.Kind.{Kind}
use Rattle.pv_recheck.specs.declared.fault.Kind.TheVariants.{NotACertificate, Line, NoEmpty, WrongQuery}
use Rattle.pv_recheck.specs.Validity.{step_formula, RefutesStep}

-- the first proof's query is step(0)
abbrev pub BeginsWithStep : List Proof → Type 0
BeginsWithStep [] = ⊥
BeginsWithStep (p ∷ ps) = p.query ≡ Step 0

-- the first log
abbrev pub first_log : List Proof → List line.Line
first_log [] = []
first_log (p ∷ ps) = p.log

-- a line of a log, from 1, in the file
abbrev pub number_of_log_line : ℕ → ℕ
number_of_log_line n = 5 + n

-- this line of the first log is the first that doesn't follow
abbrev pub LineFails : ProgramTree → List Proof → ℕ → LineFault → Type 0
LineFails program proofs at fault =
    BeginsWithStep proofs
    × (n : ℕ) × (at ≡ number_of_log_line n)
    × FailsFirst (fault_of (step_formula program).variables) (step_formula program).clauses (first_log proofs) n fault

-- each line of the first log follows, but it doesn't end with an empty one
abbrev pub LogLacksEmpty : ProgramTree → List Proof → Type 0
LogLacksEmpty program proofs =
    BeginsWithStep proofs × LacksEmpty (Follows (step_formula program).variables) (step_formula program).clauses (first_log proofs)

-- a second proof stands behind the first, which is as it should be, from this line on
abbrev pub HasSecondAt : ProgramTree → List Proof → ℕ → Type 0
HasSecondAt program [] at = ⊥
HasSecondAt program (p ∷ ps) at =
    (p.query ≡ Step 0) × RefutesStep program p.log × (ps ≢ []) × (at ≡ number_of_log_line (length p.log + 1))

-- this is the first fault
abbrev pub IsFaultAt : ProgramTree → List ℕ → ℕ → Kind → Type 0
IsFaultAt program bytes at NotACertificate = FailsAt bytes at
IsFaultAt program bytes at (Line fault) = (c : Certificate) × IsTextOf bytes c × LineFails program c.proofs at fault
IsFaultAt program bytes at NoEmpty = (c : Certificate) × IsTextOf bytes c × LogLacksEmpty program c.proofs × (at ≡ 5)
IsFaultAt program bytes at WrongQuery =
    (c : Certificate) × IsTextOf bytes c × (((BeginsWithStep c.proofs → ⊥) × (at ≡ 3)) ⊎ HasSecondAt program c.proofs at)
