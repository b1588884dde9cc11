-- A certificate that has a text can be written.
use Rattle.std.proofs.Common.{Bool, true, false, List, [], ◌∷◌, Option, Some, None}
use Rattle.std.specs.List.{AllByRecursion}
use Rattle.pv_log.specs.declared.line.Line.{Line}
use Rattle.pv_log.specs.LineText.{HasText, IsWritable as IsWritableLine}
use Rattle.pv_log.proofs.ForCallers.{text-writable}
use Rattle.pv_cert.specs.declared.proof.Proof.{Proof}
use Rattle.pv_cert.specs.declared.certificate.Certificate.{Certificate}
use Rattle.pv_cert.specs.CertificateText.{asks_next, HasNext, HasProofText, HasCertificateText, IsWritableProof, IsWritableNext, IsWritable}

lines : (ls : List Line) → AllByRecursion HasText ls → AllByRecursion IsWritableLine ls
lines [] h = tt
lines (line ∷ ls) h = (text-writable line h.0, lines ls h.1)

proofs : (ps : List Proof) → AllByRecursion HasProofText ps → AllByRecursion IsWritableProof ps
proofs [] h = tt
proofs (p ∷ ps) h = (record { chain = h.0.chain; lines = lines p.log h.0.lines }, proofs ps h.1)

next : (asked : Bool) (n : Option Line) → HasNext asked n → IsWritableNext asked n
next false n h = h
next true None h = tt
next true (Some line) h = text-writable line h

pub writable : (c : Certificate) → HasCertificateText c → IsWritable c
writable c h = record { trace = h.has_trace.has_form; next = next (asks_next c.claim) c.next h.has_next; proofs = proofs c.proofs h.proofs }
