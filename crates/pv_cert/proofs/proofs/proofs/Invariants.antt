use Rattle.std.proofs.Common.{◌≡◌, ◌++◌, length}
use Rattle.std.specs.List.{flat_map, AllByRecursion}
use Rattle.pv_claims.specs.Lines.{text_of_lines}
use Rattle.pv_cert.specs.CertificateText.{proof_lines, HasProofText}
use Rattle.pv_cert.proofs.proofs.proofs.Given as goal

-- the proofs so far are read
abbrev pub invariant-loop-query : goal.invariant-loop-query
invariant-loop-query l = record {
  split : l.text ≡ text_of_lines (flat_map proof_lines l.proofs) ++ l.rest;
  fit : AllByRecursion HasProofText l.proofs;
}

abbrev pub decreases-loop-query : goal.decreases-loop-query
decreases-loop-query l = length l.rest
