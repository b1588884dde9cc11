-- The files that a recheck asks for, and why it is refused, in the order of work: what it works on; its certificate.
use Rattle.std.specs.Prelude.{◌⊎◌, ◌≡◌, ℕ, List, Option}
use Rattle.pv_edge.specs.Files.{FileMap}
use Rattle.pv_command_verdict.specs.Handed.{AtOne, IsAsked, SubjectData, OfCase, IsFirstCase, ReadsFirst, FirstRefusal, first_refusal_status, first_refusal_line, RefusesFirst}
use Rattle.pv_command_recheck.specs.Certificates.{CertificateRefusal, RefusesCertificate, certificate_status, certificate_line}

-- ---- the files that a recheck asks for, each where all before it is as it should be: the case's, its source's, its certificate's

abbrev pub AsksRecheck : Option FileMap → List ℕ → List ℕ → List ℕ → Type 0
AsksRecheck told case_file file asked =
    (asked ≡ case_file)
    ⊎ (OfCase told case_file (λ case. IsFirstCase case × AtOne (IsAsked asked) told 0 case.sources)
    ⊎ (((s : SubjectData) × ReadsFirst told case_file s) × (asked ≡ file)))

-- ---- the refusals

-- as whatever works on what the files hold; by the certificate
pub data RecheckRefusal : Type 0 where
  as_first : FirstRefusal → RecheckRefusal
  by_certificate : CertificateRefusal → RecheckRefusal

-- it is refused so, and all before is as it should be
abbrev pub RefusesRecheck : Option FileMap → List ℕ → List ℕ → RecheckRefusal → Type 0
RefusesRecheck told case_file file (as_first r) = RefusesFirst told case_file r
RefusesRecheck told case_file file (by_certificate r) =
    (s : SubjectData) × ReadsFirst told case_file s × RefusesCertificate told file s r

abbrev pub recheck_refusal_status : RecheckRefusal → ℕ
recheck_refusal_status (as_first r) = first_refusal_status r
recheck_refusal_status (by_certificate r) = certificate_status r

abbrev pub recheck_refusal_line : RecheckRefusal → List ℕ
recheck_refusal_line (as_first r) = first_refusal_line r
recheck_refusal_line (by_certificate r) = certificate_line r
