-- What is judged of the certificate that bytes are read as is what is answered of the bytes: what is wrong first with its contents is never
-- that the bytes are no certificate's text. That bytes have an answer is handed in, as the law that says so is called.
use Rattle.std.proofs.Common.{◌≡◌, ℕ, List, sym, ap, subst, ◌∙◌, inl, inr, Option, Some, None, Result, Ok, Err}
use Rattle.std.specs.Prelude.{◌⊎◌}
use Rattle.std.proofs.lemmas.Option.{same_Some}
use Rattle.pv_cert.specs.declared.certificate.Certificate.{Certificate}
use Rattle.pv_cert.specs.CertificateText.{IsTextOf}
use Rattle.pv_cert.proofs.ForCallers.{one-certificate}
use Rattle.pv_valid.specs.declared.fault.Kind.{Kind}
use Rattle.pv_valid.specs.declared.fault.Kind.TheVariants as kind
use Rattle.pv_valid.specs.declared.fault.Fault.{Fault}
use Rattle.pv_valid.specs.declared.fault.Fault.TheVariants.{TooManyGates, Line, NoMemory}
use Rattle.pv_valid.specs.declared.fault.Verdict.{Verdict}
use Rattle.pv_valid.specs.Cases.{Case}
use Rattle.pv_valid.specs.Validity.{IsValid, verdict_of}
use Rattle.pv_valid.specs.Walk.{certificate_fault}
use Rattle.pv_valid.specs.Faults.{HasContents, IsFirstFault, IsFirstPast, Answers}
use Rattle.pv_valid.proofs.ForCallers.{right-none}
use Rattle.pv_judge.specs.Answers.{Judges}

none-line : (at : ℕ) (why : Kind) → ◌≡◌ {A = Option Fault} None (Some (Line at why)) → ⊥
none-line at why e = cc

gates-line : (at : ℕ) (why : Kind) → TooManyGates ≡ Line at why → ⊥
gates-line at why e = cc

-- the bytes are of a certificate with which this is wrong first, in this line
module _ (case : Case) (bytes : List ℕ) (c : Certificate) (is : IsTextOf bytes c) (at : ℕ) (why : Kind)
    (wrong : certificate_fault case c ≡ Some (Line at why)) where
  -- the contents of the bytes are these contents
  fault-is : (d : Certificate) → IsTextOf bytes d → certificate_fault case d ≡ Some (Line at why)
  fault-is d t = ap (certificate_fault case) (one-certificate bytes d c t is) ∙ wrong

  same-fault : (fault : Fault) → HasContents case bytes fault → fault ≡ Line at why
  same-fault fault h = same_Some fault (Line at why) (sym h.first ∙ fault-is h.certificate h.is_text)

  -- so a fault of contents that the bytes have first is this one
  moved : (to : ℕ) (other : Kind) → IsFirstFault case bytes to other → Line to other ≡ Line at why → IsFirstFault case bytes at why
  moved to other f e = subst (λ (x : Fault). Answers case bytes (Err x)) e f

  by-kind : (to : ℕ) (other : Kind) → IsFirstFault case bytes to other → IsFirstFault case bytes at why
  by-kind to kind.NotACertificate f = absurd (f.none c is)
  by-kind to (kind.Line fault) f = moved to (kind.Line fault) f (same-fault (Line to (kind.Line fault)) f)
  by-kind to kind.NoEmpty f = moved to kind.NoEmpty f (same-fault (Line to kind.NoEmpty) f)
  by-kind to kind.WrongQuery f = moved to kind.WrongQuery f (same-fault (Line to kind.WrongQuery) f)
  by-kind to kind.TraceDiffers f = moved to kind.TraceDiffers f (same-fault (Line to kind.TraceDiffers) f)
  by-kind to kind.WrongBudget f = moved to kind.WrongBudget f (same-fault (Line to kind.WrongBudget) f)
  by-kind to kind.WrongNeed f = moved to kind.WrongNeed f (same-fault (Line to kind.WrongNeed) f)

  line-answered : (IsValid case bytes (verdict_of case c)) ⊎ (IsFirstPast case bytes
      ⊎ ((to : ℕ) × (other : Kind) × IsFirstFault case bytes to other)) → IsFirstFault case bytes at why
  line-answered (inl v) = absurd (none-line at why (sym ((right-none case v.certificate).1 v.is_right) ∙ fault-is v.certificate v.is_text))
  line-answered (inr (inl h)) = absurd (gates-line at why (same-fault TooManyGates h))
  line-answered (inr (inr (to, other, f))) = by-kind to other f

-- what the law on answers says of a certificate's text
abbrev pub HasAnswer : Case → List ℕ → Certificate → Type 0
HasAnswer case bytes c = (IsValid case bytes (verdict_of case c)) ⊎ (IsFirstPast case bytes
    ⊎ ((at : ℕ) × (why : Kind) × IsFirstFault case bytes at why))

pub bytes-answered : (case : Case) (bytes : List ℕ) (c : Certificate) → IsTextOf bytes c → HasAnswer case bytes c
    → (r : Result Verdict Fault) → Judges case c r → Answers case bytes r
bytes-answered case bytes c is some (Ok verdict) j = record { certificate = c; is_text = is; is_right = j.0; says = j.1 }
bytes-answered case bytes c is some (Err TooManyGates) j = record { certificate = c; is_text = is; first = j }
bytes-answered case bytes c is some (Err (Line at why)) j = line-answered case bytes c is at why j some
bytes-answered case bytes c is some (Err NoMemory) j = tt
