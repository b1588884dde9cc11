use Rattle.std.proofs.Common.{Err, ap}
use Rattle.pv_claims.specs.declared.fault.CertFault.{CertFault}
use Rattle.pv_command_verdict.proofs.ForCallers.{passed}
use Rattle.pv_command_recheck.specs.Made.{no_certificate}
use Rattle.pv_command_recheck.proofs.Reading.{holds_text, stops_at_text}
use Rattle.pv_command_recheck.proofs.certificate.certificate_in.Goals as goal

pub returns-clause-found : goal.returns-clause-found
returns-clause-found g c =
    holds_text (g.F.Files.told c.args.files.now) c.args.file.now c.in_ok-bytes.bytes.items c.as_slice.result.now c.in_ok-bytes.ensures.held
    c.as_slice.ensures.value c.in_ok-certificate.certificate c.in_ok-certificate.ensures.found

pub returns-in_err-certificate-clause-stopped : goal.returns-in_err-certificate-clause-stopped
returns-in_err-certificate-clause-stopped g c =
    passed _ c.from_residual-in_err-certificate.result (no_certificate c.in_err-certificate.field-0.0)
    c.from_residual-in_err-certificate.ensures.1
    (λ s. stops_at_text (g.F.Files.told c.args.files.now) c.args.file.now c.in_ok-bytes.bytes.items c.as_slice.result.now
    c.in_ok-bytes.ensures.held c.as_slice.ensures.value s c.in_err-certificate.field-0.0
    (λ line e. c.in_err-certificate.ensures.stuck line (ap (λ (x : CertFault). Err x) e)))
