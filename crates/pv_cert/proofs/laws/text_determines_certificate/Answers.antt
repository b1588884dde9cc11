use Rattle.pv_cert.proofs.Wholes.{one-certificate}
use Rattle.pv_cert.proofs.laws.text_determines_certificate.Goals as goal

pub returns : goal.returns
returns c = one-certificate
