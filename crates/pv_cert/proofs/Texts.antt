-- The lines of a certificate have no line feeds.
use Rattle.std.proofs.Common.{ℕ, ◌+◌, ◌^◌, ◌<◌, Bool, true, false, cond, List, [], ◌∷◌, ◌++◌, length, map, refl, arith, Option, Some, None}
use Rattle.std.specs.Prelude.{codes}
use Rattle.std.specs.List.{flat_map, AllByRecursion}
use Rattle.std.specs.Fmt.{decimal}
use Rattle.pv_cnf.specs.Literal.{variable_of, is_negated}
use Rattle.pv_cnf.specs.Dimacs.{literal_text}
use Rattle.pv_log.specs.declared.line.Line.{Line}
use Rattle.pv_log.specs.LineText.{literals_text, hints_text, line_text, IsLiteral, IsHint, HasText}
use Rattle.pv_claims.specs.Lines.{NoFeed}
use Rattle.pv_claims.specs.Heads.{head_lines}
use Rattle.pv_claims.specs.TracePart.{trace_form, trace_lines}
use Rattle.pv_claims.proofs.ForCallers.{all-append, plain, feedless-append, feedless-decimal, head-plain, trace-plain}
use Rattle.pv_cert.specs.declared.proof.Query.{Query}
use Rattle.pv_cert.specs.declared.proof.Query.TheVariants.{Base, Step}
use Rattle.pv_cert.specs.declared.proof.Chain.{Chain}
use Rattle.pv_cert.specs.declared.proof.Proof.{Proof}
use Rattle.pv_cert.specs.declared.certificate.Certificate.{Certificate}
use Rattle.pv_cert.specs.ChainText.{constants_text, cells_text, havoc_text, cone_text, chain_line, RiseFrom, HasChainText}
use Rattle.pv_cert.specs.CertificateText.{query_line, log_line, proof_lines, asks_next, tail_lines, certificate_lines, QueryFits, HasProofText, HasNext, HasCertificateText}
use Rattle.pv_cert.specs.Reading.{lines_behind_head}

signed : (b : Bool) (n : ℕ) → n < 2 ^ 64 → NoFeed (cond b (codes "-") [] ++ decimal n)
signed true n h = feedless-append (codes "-") (decimal n) (plain (codes "-") refl) (feedless-decimal n h)
signed false n h = feedless-decimal n h

feedless-literal : (lit : ℕ) → IsLiteral lit → NoFeed (literal_text lit)
feedless-literal lit h = signed (is_negated lit) (variable_of lit) (omega (arith, h.1))

feedless-literals : (lits : List ℕ) → AllByRecursion IsLiteral lits → NoFeed (literals_text lits)
feedless-literals [] h = tt
feedless-literals (lit ∷ lits) h =
    feedless-append (literal_text lit ++ codes " ") (literals_text lits) (feedless-append (literal_text lit) (codes " ") (feedless-literal lit h.0) (plain (codes " ") refl)) (feedless-literals lits h.1)

feedless-hints : (hints : List ℕ) → AllByRecursion IsHint hints → NoFeed (hints_text hints)
feedless-hints [] h = tt
feedless-hints (hint ∷ hints) h =
    feedless-append (decimal hint ++ codes " ") (hints_text hints) (feedless-append (decimal hint) (codes " ") (feedless-decimal hint (omega (arith, h.0.1))) (plain (codes " ") refl)) (feedless-hints hints h.1)

pub feedless-line : (line : Line) → HasText line → NoFeed (line_text line)
feedless-line line h =
    let a = feedless-append (decimal line.id) (codes " ") (feedless-decimal line.id (omega (arith, h.id))) (plain (codes " ") refl) in
    let b = feedless-append (decimal line.id ++ codes " ") (literals_text line.lits) a (feedless-literals line.lits h.lits) in
    let c = feedless-append (decimal line.id ++ codes " " ++ literals_text line.lits) (codes "0 ") b (plain (codes "0 ") refl) in
    let d = feedless-append (decimal line.id ++ codes " " ++ literals_text line.lits ++ codes "0 ") (hints_text line.hints) c (feedless-hints line.hints h.hints) in
    feedless-append (decimal line.id ++ codes " " ++ literals_text line.lits ++ codes "0 " ++ hints_text line.hints) (codes "0") d (plain (codes "0") refl)

pub feedless-query : (query : Query) → QueryFits query → NoFeed (query_line query)
feedless-query (Base k) h = feedless-append (codes "query base ") (decimal k) (plain (codes "query base ") refl) (feedless-decimal k (omega (arith, h)))
feedless-query (Step k) h = feedless-append (codes "query step ") (decimal k) (plain (codes "query step ") refl) (feedless-decimal k (omega (arith, h)))

feedless-cells : (least : ℕ) (cells : List ℕ) → RiseFrom least cells → NoFeed (cells_text cells)
feedless-cells least [] h = tt
feedless-cells least (cell ∷ cells) h =
    feedless-append (codes " " ++ decimal cell) (cells_text cells) (feedless-append (codes " ") (decimal cell) (plain (codes " ") refl) (feedless-decimal cell (omega (arith, h.1)))) (feedless-cells (cell + 1) cells h.2)

feedless-constants : (is_there : Bool) → NoFeed (constants_text is_there)
feedless-constants true = plain (codes " constants") refl
feedless-constants false = tt

feedless-havoc : (cells : List ℕ) → RiseFrom 0 cells → NoFeed (havoc_text cells)
feedless-havoc [] h = tt
feedless-havoc (cell ∷ cells) h = feedless-append (codes " havoc") (cells_text (cell ∷ cells)) (plain (codes " havoc") refl) (feedless-cells 0 (cell ∷ cells) h)

feedless-cone : (is_there : Bool) → NoFeed (cone_text is_there)
feedless-cone true = plain (codes " cone") refl
feedless-cone false = tt

pub feedless-chain : (chain : Chain) → HasChainText chain → NoFeed (chain_line chain)
feedless-chain chain h =
    let a = feedless-append (codes "chain") (constants_text chain.constants) (plain (codes "chain") refl) (feedless-constants chain.constants) in
    let b = feedless-append (codes "chain" ++ constants_text chain.constants) (havoc_text chain.havoc) a (feedless-havoc chain.havoc h) in
    feedless-append (codes "chain" ++ constants_text chain.constants ++ havoc_text chain.havoc) (cone_text chain.cone) b (feedless-cone chain.cone)

feedless-log : (lines : List Line) → AllByRecursion HasText lines → AllByRecursion NoFeed (map line_text lines)
feedless-log [] h = tt
feedless-log (line ∷ lines) h = (feedless-line line h.0, feedless-log lines h.1)

pub feedless-count : (n : ℕ) → n < 2 ^ 32 → NoFeed (log_line n)
feedless-count n h = feedless-append (codes "log ") (decimal n) (plain (codes "log ") refl) (feedless-decimal n (omega (arith, h)))

pub feedless-proof : (p : Proof) → HasProofText p → AllByRecursion NoFeed (proof_lines p)
feedless-proof p h = (feedless-query p.query h.query, (feedless-chain p.chain h.chain, (feedless-count (length p.log) h.few, feedless-log p.log h.lines)))

pub feedless-proofs : (ps : List Proof) → AllByRecursion HasProofText ps → AllByRecursion NoFeed (flat_map proof_lines ps)
feedless-proofs [] h = tt
feedless-proofs (p ∷ ps) h = all-append NoFeed (proof_lines p) (flat_map proof_lines ps) (feedless-proof p h.0) (feedless-proofs ps h.1)

feedless-tail : (asked : Bool) (next : Option Line) → HasNext asked next → AllByRecursion NoFeed (tail_lines asked next)
feedless-tail false next h = (plain (codes "end") refl, tt)
feedless-tail true None h = (plain (codes "next none") refl, (plain (codes "end") refl, tt))
feedless-tail true (Some line) h = (plain (codes "next") refl, (feedless-line line h, (plain (codes "end") refl, tt)))

pub feedless : (c : Certificate) → HasCertificateText c → AllByRecursion NoFeed (certificate_lines c)
feedless c h =
    let behind = all-append NoFeed (flat_map proof_lines c.proofs) (tail_lines (asks_next c.claim) c.next) (feedless-proofs c.proofs h.proofs) (feedless-tail (asks_next c.claim) c.next h.has_next) in
    let shown = all-append NoFeed (trace_lines c.trace) (flat_map proof_lines c.proofs ++ tail_lines (asks_next c.claim) c.next) (trace-plain (trace_form c.claim) c.trace h.has_trace) behind in
    all-append NoFeed (head_lines c.claim) (lines_behind_head c) (head-plain c.claim h.claim) shown
