use Rattle.std.proofs.Common.{Bool, Option, sym, subst}
use Rattle.pv_log.specs.declared.line.Line.{Line}
use Rattle.pv_claims.specs.Lines.{StopsAt}
use Rattle.pv_claims.proofs.ForCallers.{passed}
use Rattle.pv_cert.specs.CertificateText.{HasNext, tail_lines}
use Rattle.pv_cert.proofs.BodyLaws.{end-stops}
use Rattle.pv_cert.proofs.parts.tail.Goals as goal

pub returns-in_err-after-clause-stuck : goal.returns-in_err-after-clause-stuck
returns-in_err-after-clause-stuck c =
    passed _ c.from_residual.result c.in_err-after.field-0.0 c.from_residual.ensures.1
    (subst (λ (asked : Bool). StopsAt (Option Line) (HasNext asked) (tail_lines asked) c.args.text.now c.in_err-after.field-0.0) (sym c.if-region.false)
    (end-stops c.args.text.now c.in_err-after.field-0.0 c.in_err-after.ensures.stuck))
