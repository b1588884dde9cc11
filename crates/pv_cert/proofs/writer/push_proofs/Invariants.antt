use Rattle.std.proofs.Common.{◌≡◌, ◌++◌, take}
use Rattle.std.specs.List.{flat_map, AllByRecursion}
use Rattle.pv_claims.specs.Lines.{text_of_lines}
use Rattle.pv_cert.specs.CertificateText.{proof_lines, HasProofText}
use Rattle.pv_cert.proofs.writer.push_proofs.Given as goal

-- the proofs so far are written, and have a text
abbrev pub invariant-loop-proof : goal.invariant-loop-proof
invariant-loop-proof l = record {
  text : l.text.items ≡ l.initial.text.items ++ text_of_lines (flat_map proof_lines (take l.proof-index l.proofs));
  valid : AllByRecursion HasProofText (take l.proof-index l.proofs);
}
