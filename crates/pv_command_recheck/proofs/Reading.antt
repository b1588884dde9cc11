-- What the certificate's file is told to hold, by its bytes as they were read.
use Rattle.std.proofs.Common.{◌≡◌, ℕ, List, Option, refl, subst}
use Rattle.pv_edge.specs.Files.{FileMap}
use Rattle.pv_claims.specs.declared.fault.CertFault.{CertFault}
use Rattle.pv_claims.specs.declared.fault.CertFault.TheVariants as cert_fault
use Rattle.pv_cert.specs.declared.certificate.Certificate.{Certificate}
use Rattle.pv_cert.specs.CertificateText.{IsTextOf, FailsAt}
use Rattle.pv_command_verdict.specs.Handed.{Holds, HoldsBytes, SubjectData}
use Rattle.pv_command_recheck.specs.Certificates.{StopsCertificate}
use Rattle.pv_command_recheck.specs.Made.{no_certificate}

module _ (told : Option FileMap) (file bytes read : List ℕ) (held : Holds told file bytes) (same : read ≡ bytes) where
  pub holds_text : (c : Certificate) → IsTextOf read c → HoldsBytes told file (λ b. IsTextOf b c)
  holds_text c is = record { bytes = bytes; held = held; are = subst (λ (b : List ℕ). IsTextOf b c) same is }

  -- bytes that are no certificate's text
  no_text : (s : SubjectData) (line : ℕ) → FailsAt read line → StopsCertificate told file s (no_certificate (cert_fault.NotACertificate line))
  no_text s line fails =
      let at = subst (λ (b : List ℕ). FailsAt b line) same fails in
      record { bytes = bytes; held = held; are = record { answers = at; few = λ text. absurd (at.none text.0 text.1) } }

  pub stops_at_text : (s : SubjectData) (fault : CertFault) → ((line : ℕ) → fault ≡ cert_fault.NotACertificate line → FailsAt read line)
      → StopsCertificate told file s (no_certificate fault)
  stops_at_text s (cert_fault.NotACertificate line) stuck = no_text s line (stuck line refl)
  stops_at_text s cert_fault.NoMemory stuck = tt
