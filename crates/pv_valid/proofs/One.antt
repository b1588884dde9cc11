-- Bytes have one answer: each is brought to what decides it (`Seen`), the grammar or the contents of the one certificate.
use Rattle.std.proofs.Common.{◌≡◌, ℕ, List, refl, ap, sym, ◌∙◌, inl, inr, Option, Some, None, Result, Ok, Err}
use Rattle.std.specs.Prelude.{◌⊎◌}
use Rattle.pv_cert.specs.declared.certificate.Certificate.{Certificate}
use Rattle.pv_cert.specs.CertificateText.{IsTextOf, FailsAt}
use Rattle.pv_cert.proofs.ForCallers.{one-certificate, fails-once}
use Rattle.pv_valid.specs.declared.fault.Kind.{Kind}
use Rattle.pv_valid.specs.declared.fault.Kind.TheVariants as kind
use Rattle.pv_valid.specs.declared.fault.Fault.{Fault}
use Rattle.pv_valid.specs.declared.fault.Fault.TheVariants.{TooManyGates, Line, NoMemory}
use Rattle.pv_valid.specs.declared.fault.Verdict.{Verdict}
use Rattle.pv_valid.specs.Cases.{Case}
use Rattle.pv_valid.specs.Validity.{IsValid, verdict_of}
use Rattle.pv_valid.specs.Walk.{certificate_fault}
use Rattle.pv_valid.specs.Faults.{HasContents, IsFirstFault, IsFirstPast, Answers}
use Rattle.pv_valid.proofs.Contents.{right-none}
use Rattle.pv_valid.proofs.FaultKinds.{AreContents, contents}

-- the answer by what is wrong first
abbrev answered : Verdict → Option Fault → Result Verdict Fault
answered verdict None = Ok verdict
answered verdict (Some fault) = Err fault

module _ (case : Case) (bytes : List ℕ) where
  abbrev outcome : Certificate → Result Verdict Fault
  outcome c = answered (verdict_of case c) (certificate_fault case c)

  -- what decides an answer
  data Seen (answer : Result Verdict Fault) : Type 0 where
    memory : answer ≡ Err NoMemory → Seen answer
    grammar : (at : ℕ) → FailsAt bytes at → answer ≡ Err (Line at kind.NotACertificate) → Seen answer
    read : (c : Certificate) → IsTextOf bytes c → answer ≡ outcome c → Seen answer

  of-contents : (fault : Fault) → HasContents case bytes fault → Seen (Err fault)
  of-contents fault h = read h.certificate h.is_text (sym (ap (answered (verdict_of case h.certificate)) h.first))

  of-valid : (verdict : Verdict) → IsValid case bytes verdict → Seen (Ok verdict)
  of-valid verdict v = read v.certificate v.is_text
      (ap (λ (x : Verdict). Ok x) v.says ∙ sym (ap (answered (verdict_of case v.certificate)) ((right-none case v.certificate).1 v.is_right)))

  seen : (answer : Result Verdict Fault) → Answers case bytes answer → Seen answer
  seen (Ok verdict) a = of-valid verdict a
  seen (Err TooManyGates) a = of-contents TooManyGates a
  seen (Err (Line at kind.NotACertificate)) a = grammar at a refl
  seen (Err (Line at (kind.Line fault))) a = of-contents (Line at (kind.Line fault)) a
  seen (Err (Line at kind.NoEmpty)) a = of-contents (Line at kind.NoEmpty) a
  seen (Err (Line at kind.WrongQuery)) a = of-contents (Line at kind.WrongQuery) a
  seen (Err (Line at kind.TraceDiffers)) a = of-contents (Line at kind.TraceDiffers) a
  seen (Err (Line at kind.WrongBudget)) a = of-contents (Line at kind.WrongBudget) a
  seen (Err (Line at kind.WrongNeed)) a = of-contents (Line at kind.WrongNeed) a
  seen (Err NoMemory) a = memory refl

  abbrev Same : Result Verdict Fault → Result Verdict Fault → Type 0
  Same answer other = (answer ≡ Err NoMemory) ⊎ ((other ≡ Err NoMemory) ⊎ (answer ≡ other))

  same : (answer other : Result Verdict Fault) → Seen answer → Seen other → Same answer other
  same answer other (memory e) k = inl e
  same answer other (grammar at f e) (memory k) = inr (inl k)
  same answer other (grammar at f e) (grammar to g k) =
      inr (inr (e ∙ ap (λ (n : ℕ). Err (Line n kind.NotACertificate)) (fails-once bytes at to f g) ∙ sym k))
  same answer other (grammar at f e) (read d u k) = absurd (f.none d u)
  same answer other (read c t e) (memory k) = inr (inl k)
  same answer other (read c t e) (grammar to g k) = absurd (g.none c t)
  same answer other (read c t e) (read d u k) = inr (inr (e ∙ ap outcome (one-certificate bytes c d t u) ∙ sym k))

  -- ---- one holds

  abbrev Some_fault : Type 0
  Some_fault = (at : ℕ) × (why : Kind) × IsFirstFault case bytes at why

  line-fault : (c : Certificate) (at : ℕ) (why : Kind) → IsTextOf bytes c → certificate_fault case c ≡ Some (Line at why)
      → AreContents (Some (Line at why)) → IsFirstFault case bytes at why
  line-fault c at kind.NotACertificate t e are = absurd are
  line-fault c at (kind.Line fault) t e are = record { certificate = c; is_text = t; first = e }
  line-fault c at kind.NoEmpty t e are = record { certificate = c; is_text = t; first = e }
  line-fault c at kind.WrongQuery t e are = record { certificate = c; is_text = t; first = e }
  line-fault c at kind.TraceDiffers t e are = record { certificate = c; is_text = t; first = e }
  line-fault c at kind.WrongBudget t e are = record { certificate = c; is_text = t; first = e }
  line-fault c at kind.WrongNeed t e are = record { certificate = c; is_text = t; first = e }

  by-fault : (c : Certificate) (o : Option Fault) → IsTextOf bytes c → certificate_fault case c ≡ o → AreContents o
      → (IsValid case bytes (verdict_of case c)) ⊎ (IsFirstPast case bytes ⊎ Some_fault)
  by-fault c None t e are =
      inl (record { certificate = c; is_text = t; is_right = (right-none case c).0 e; says = refl })
  by-fault c (Some TooManyGates) t e are = inr (inl (record { certificate = c; is_text = t; first = e }))
  by-fault c (Some (Line at why)) t e are = inr (inr (at, why, line-fault c at why t e are))
  by-fault c (Some NoMemory) t e are = absurd are

pub one-answer : (case : Case) (bytes : List ℕ) (answer other : Result Verdict Fault) → Answers case bytes answer → Answers case bytes other
    → (answer ≡ Err NoMemory) ⊎ ((other ≡ Err NoMemory) ⊎ (answer ≡ other))
one-answer case bytes answer other a b = same case bytes answer other (seen case bytes answer a) (seen case bytes other b)

pub some-answer : (case : Case) (bytes : List ℕ) (c : Certificate) → IsTextOf bytes c
    → (IsValid case bytes (verdict_of case c)) ⊎ (IsFirstPast case bytes
    ⊎ ((at : ℕ) × (why : Kind) × IsFirstFault case bytes at why))
some-answer case bytes c t = by-fault case bytes c (certificate_fault case c) t refl (contents case c)
