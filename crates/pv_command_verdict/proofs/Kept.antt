-- The text of a verdict's certificate is valid.
use Rattle.std.proofs.Common.{ℕ, List, Option, ap}
use Rattle.pv_claims.specs.declared.trace.Ending.{Ending}
use Rattle.pv_cert.specs.declared.certificate.Certificate.{Certificate}
use Rattle.pv_bool_load.specs.Handed.{SubjectData}
use Rattle.pv_command_verdict.specs.Verdicts.{IsVerdict, IsValidFor}

pub valid_for : (s : SubjectData) (bytes : List ℕ) (c : Certificate) (told : Option Ending) → IsVerdict s bytes c told
    → IsValidFor s bytes (record { claim = c.claim; ending = told })
valid_for s bytes c told v = record {
  certificate = c;
  is_text = v.is_text;
  is_right = v.is_right;
  says = ap (λ (e : Option Ending). record { claim = c.claim; ending = e }) v.ending;
}
