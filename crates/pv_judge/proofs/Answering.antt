-- What is judged of the certificate that bytes are read as is what is answered of the bytes. That bytes have one answer is handed in, as
-- the law that says so is called.
use Rattle.std.proofs.Common.{◌≡◌, ℕ, List, sym, ap, ◌∙◌, inl, inr, Option, Some, None, Result, Ok, Err}
use Rattle.std.specs.Prelude.{◌⊎◌}
use Rattle.std.proofs.lemmas.Option.{same_Some}
use Rattle.pv_cert.specs.declared.certificate.Certificate.{Certificate}
use Rattle.pv_cert.specs.CertificateText.{IsTextOf}
use Rattle.pv_cert.proofs.ForCallers.{one-certificate}
use Rattle.pv_valid.specs.declared.fault.Kind.{Kind}
use Rattle.pv_valid.specs.declared.fault.Kind.TheVariants as kind
use Rattle.pv_valid.specs.declared.fault.Fault.{Fault}
use Rattle.pv_valid.specs.declared.fault.Fault.TheVariants.{TooManyGates, Line, NoMemory}
use Rattle.pv_valid.specs.declared.fault.Verdict.{Verdict}
use Rattle.pv_valid.specs.Cases.{Case}
use Rattle.pv_valid.specs.Validity.{IsValid, verdict_of}
use Rattle.pv_valid.specs.Walk.{certificate_fault}
use Rattle.pv_valid.specs.Faults.{HasContents, IsFirstFault, IsFirstPast, Answers}
use Rattle.pv_valid.proofs.ForCallers.{right-none}
use Rattle.pv_judge.specs.Answers.{Judges, IsUnlessNoMemory}

-- ---- faults that differ

line-none : (at : ℕ) → ◌≡◌ {A = Option Fault} (Some (Line at kind.NotACertificate)) None → ⊥
line-none at e = cc

line-gates : (at : ℕ) → ◌≡◌ {A = Option Fault} (Some (Line at kind.NotACertificate)) (Some TooManyGates) → ⊥
line-gates at e = cc

same-line : (at to : ℕ) (k other : Kind) → Line at k ≡ Line to other → k ≡ other
same-line at to k other e = cc

line-line : (at to : ℕ) (other : Kind) → ◌≡◌ {A = Option Fault} (Some (Line at kind.NotACertificate)) (Some (Line to other))
    → kind.NotACertificate ≡ other
line-line at to other e =
    same-line at to kind.NotACertificate other (same_Some (Line at kind.NotACertificate) (Line to other) e)

-- ---- answers

module _ (case : Case) (bytes : List ℕ) (c : Certificate) (is : IsTextOf bytes c) where
  abbrev Some_answer : Type 0
  Some_answer = (IsValid case bytes (verdict_of case c)) ⊎ (IsFirstPast case bytes
      ⊎ ((at : ℕ) × (why : Kind) × IsFirstFault case bytes at why))

  -- the contents of the bytes are these contents
  fault-is : (d : Certificate) (o : Option Fault) → IsTextOf bytes d → certificate_fault case d ≡ o → certificate_fault case c ≡ o
  fault-is d o t e = ap (certificate_fault case) (one-certificate bytes c d is t) ∙ e

  -- what is wrong with contents is never that there are none
  never-right : (at : ℕ) → certificate_fault case c ≡ Some (Line at kind.NotACertificate) → IsValid case bytes (verdict_of case c) → ⊥
  never-right at e v = line-none at (sym e ∙ fault-is v.certificate None v.is_text ((right-none case v.certificate).1 v.is_right))

  never-past : (at : ℕ) → certificate_fault case c ≡ Some (Line at kind.NotACertificate) → IsFirstPast case bytes → ⊥
  never-past at e h = line-gates at (sym e ∙ fault-is h.certificate (Some TooManyGates) h.is_text h.first)

  never-line : (at to : ℕ) (other : Kind) → certificate_fault case c ≡ Some (Line at kind.NotACertificate)
      → HasContents case bytes (Line to other) → kind.NotACertificate ≡ other
  never-line at to other e h = line-line at to other (sym e ∙ fault-is h.certificate (Some (Line to other)) h.is_text h.first)

  never-fault : (at to : ℕ) (other : Kind) → certificate_fault case c ≡ Some (Line at kind.NotACertificate)
      → IsFirstFault case bytes to other → ⊥
  never-fault at to kind.NotACertificate e fails = fails.none c is
  never-fault at to (kind.Line fault) e h = (let k = never-line at to (kind.Line fault) e h in cc)
  never-fault at to kind.NoEmpty e h = (let k = never-line at to kind.NoEmpty e h in cc)
  never-fault at to kind.WrongQuery e h = (let k = never-line at to kind.WrongQuery e h in cc)
  never-fault at to kind.TraceDiffers e h = (let k = never-line at to kind.TraceDiffers e h in cc)
  never-fault at to kind.WrongBudget e h = (let k = never-line at to kind.WrongBudget e h in cc)
  never-fault at to kind.WrongNeed e h = (let k = never-line at to kind.WrongNeed e h in cc)

  never : (at : ℕ) → certificate_fault case c ≡ Some (Line at kind.NotACertificate) → Some_answer → ⊥
  never at e (inl v) = never-right at e v
  never at e (inr (inl h)) = never-past at e h
  never at e (inr (inr (to, why, f))) = never-fault at to why e f

  line-answered : (at : ℕ) (why : Kind) → Some_answer → certificate_fault case c ≡ Some (Line at why) → IsFirstFault case bytes at why
  line-answered at kind.NotACertificate some e = absurd (never at e some)
  line-answered at (kind.Line fault) some e = record { certificate = c; is_text = is; first = e }
  line-answered at kind.NoEmpty some e = record { certificate = c; is_text = is; first = e }
  line-answered at kind.WrongQuery some e = record { certificate = c; is_text = is; first = e }
  line-answered at kind.TraceDiffers some e = record { certificate = c; is_text = is; first = e }
  line-answered at kind.WrongBudget some e = record { certificate = c; is_text = is; first = e }
  line-answered at kind.WrongNeed some e = record { certificate = c; is_text = is; first = e }

  pub bytes-answered : (r : Result Verdict Fault) → Some_answer → Judges case c r → Answers case bytes r
  bytes-answered (Ok verdict) some j = record { certificate = c; is_text = is; is_right = j.0; says = j.1 }
  bytes-answered (Err TooManyGates) some j = record { certificate = c; is_text = is; first = j }
  bytes-answered (Err (Line at why)) some j = line-answered at why some j
  bytes-answered (Err NoMemory) some j = tt

pub only-answer : (result other : Result Verdict Fault) → (other ≡ Err NoMemory → ⊥)
    → (result ≡ Err NoMemory) ⊎ ((other ≡ Err NoMemory) ⊎ (result ≡ other)) → IsUnlessNoMemory result other
only-answer result other full (inl out) = inr out
only-answer result other full (inr (inl out)) = absurd (full out)
only-answer result other full (inr (inr same)) = inl same
