-- Logs and proofs: what stops within them, and that their lines say one thing.
use Rattle.std.proofs.Common.{◌≡◌, ℕ, ◌+◌, ◌^◌, ◌<◌, List, [], ◌∷◌, ◌++◌, length, drop, map, append_assoc, append-nil, refl, ap, subst, ◌∙◌, sym, arith}
use Rattle.std.specs.List.{AllByRecursion}
use Rattle.std.proofs.lemmas.List.{map-append}
use Rattle.pv_log.specs.declared.line.Line.{Line}
use Rattle.pv_log.specs.LineText.{line_text, HasText}
use Rattle.pv_claims.specs.declared.stop.Stop.{Stop}
use Rattle.pv_claims.specs.Lines.{text_of_lines, StuckAt, StopsAt, HasMany}
use Rattle.pv_claims.proofs.ForCallers.{all-append, head, tail, text-append, text-more, text-first, IsFree, IsOne, stops-within, many-stuck, many-free, many-one}
use Rattle.pv_cert.specs.declared.proof.Query.{Query}
use Rattle.pv_cert.specs.declared.proof.Chain.{Chain}
use Rattle.pv_cert.specs.declared.proof.Proof.{Proof}
use Rattle.pv_cert.specs.ChainText.{chain_line, HasChainText}
use Rattle.pv_cert.specs.CertificateText.{query_line, log_line, proof_lines, no_reduction, QueryFits, HasProofText}
use Rattle.pv_cert.specs.Reading.{IsProofOf, lines_behind_query}
use Rattle.pv_cert.proofs.Texts.{feedless-line, feedless-chain, feedless-count}
use Rattle.pv_cert.proofs.Chains.{same-chain}
use Rattle.pv_cert.proofs.Parsing.{same-number, same-query, same-lemma}

-- ---- logs

abbrev pub Logs : ℕ → List Line → Type 0
Logs count log = HasMany Line HasText count log

-- a line that has a text
abbrev pub blank_line : Line
blank_line = record { id = 0; lits = []; hints = [] }

pub log-stuck : (count left : ℕ) (text rest : List ℕ) (log : List Line) → text ≡ text_of_lines (map line_text log) ++ rest → AllByRecursion HasText log → length log + left ≡ count → 0 < left
    → ((line : Line) (after : List ℕ) → HasText line → rest ≡ line_text line ++ 10 ∷ after → ⊥)
    → StuckAt (List Line) (Logs count) (map line_text) text (length rest)
log-stuck count left text rest log split are sum some never =
    many-stuck Line HasText line_text feedless-line count text rest log blank_line (record { id = omega arith; lits = tt; hints = tt }) are (omega (arith, sum, some)) split never

pub log-more : (text rest after : List ℕ) (log : List Line) (line : Line) → text ≡ text_of_lines (map line_text log) ++ rest → rest ≡ line_text line ++ 10 ∷ after
    → text ≡ text_of_lines (map line_text (log ++ line ∷ [])) ++ after
log-more text rest after log line split e = text-more text rest (line_text line) after (map line_text log) split e ∙ ap (λ ls. text_of_lines ls ++ after) (sym (map-append line_text log (line ∷ [])))

pub log-fit : (log : List Line) (line : Line) → AllByRecursion HasText log → HasText line → AllByRecursion HasText (log ++ line ∷ [])
log-fit log line a h = all-append HasText log (line ∷ []) a (h, tt)

-- ---- the proof of a query

abbrev proof_by : Query → Chain → List Line → Proof
proof_by query chain log = record { query = query; chain = chain; log = log }

pub is-proof : (query : Query) (chain : Chain) (count : ℕ) (log : List Line) → QueryFits query → HasChainText chain → count < 2 ^ 32 → Logs count log → IsProofOf query (proof_by query chain log)
is-proof query chain count log fits rise few h = record { is = refl; has = record { query = fits; chain = rise; few = subst (λ n. n < 2 ^ 32) (sym h.many) few; lines = h.each } }

no-log : Logs 0 []
no-log = record { many = refl; each = tt }

pub chain-stuck : (query : Query) (text : List ℕ) → QueryFits query → ((chain : Chain) (after : List ℕ) → HasChainText chain → text ≡ chain_line chain ++ 10 ∷ after → ⊥)
    → StuckAt Proof (IsProofOf query) lines_behind_query text (length text)
chain-stuck query text fits never =
    record {
      before = [];
      rest = text;
      split = refl;
      whole = tt;
      size = refl;
      some = proof_by query no_reduction [];
      has = is-proof query no_reduction 0 [] fits tt (omega arith) no-log;
      next = chain_line no_reduction;
      more = log_line 0 ∷ [];
      goes_on = refl;
      stuck = λ line after clean e p others has is.
          never p.chain after has.has.chain (e ∙ ap (λ l. l ++ 10 ∷ after) (sym (head (chain_line p.chain) line (log_line (length p.log) ∷ map line_text p.log) others is)));
    }

pub count-stuck : (query : Query) (text rest : List ℕ) (chain : Chain) → QueryFits query → HasChainText chain → text ≡ chain_line chain ++ 10 ∷ rest
    → ((n : ℕ) (after : List ℕ) → n < 2 ^ 32 → rest ≡ log_line n ++ 10 ∷ after → ⊥) → StuckAt Proof (IsProofOf query) lines_behind_query text (length rest)
count-stuck query text rest chain fits rise e never =
    record {
      before = chain_line chain ∷ [];
      rest = rest;
      split = e ∙ text-first (chain_line chain) rest;
      whole = (feedless-chain chain rise, tt);
      size = refl;
      some = proof_by query chain [];
      has = is-proof query chain 0 [] fits rise (omega arith) no-log;
      next = log_line 0;
      more = [];
      goes_on = refl;
      stuck = λ line after clean f p others has is.
          (let behind = tail (chain_line p.chain) (chain_line chain) (log_line (length p.log) ∷ map line_text p.log) (line ∷ others) is in
          never (length p.log) after has.has.few (f ∙ ap (λ l. l ++ 10 ∷ after) (sym (head (log_line (length p.log)) line (map line_text p.log) others behind))));
    }

front-of : (text rest behind : List ℕ) (chain : Chain) (count : ℕ) → text ≡ chain_line chain ++ 10 ∷ rest → rest ≡ log_line count ++ 10 ∷ behind → text ≡ text_of_lines (chain_line chain ∷ log_line count ∷ []) ++ behind
front-of text rest behind chain count e f = text-more text rest (log_line count) behind (chain_line chain ∷ []) (e ∙ text-first (chain_line chain) rest) f

pub log-within : (query : Query) (text rest behind : List ℕ) (chain : Chain) (count : ℕ) (stop : Stop) → QueryFits query → HasChainText chain → count < 2 ^ 32
    → text ≡ chain_line chain ++ 10 ∷ rest → rest ≡ log_line count ++ 10 ∷ behind
    → StopsAt (List Line) (Logs count) (map line_text) behind stop → StopsAt Proof (IsProofOf query) lines_behind_query text stop
log-within query text rest behind chain count stop fits rise few e f s =
    let front = chain_line chain ∷ log_line count ∷ [] in
    stops-within Proof (List Line) (IsProofOf query) (Logs count) lines_behind_query (map line_text) front text behind stop
    (feedless-chain chain rise, (feedless-count count few, tt)) (front-of text rest behind chain count e f)
    (λ log h. record {
      whole = proof_by query chain log;
      has = is-proof query chain count log fits rise few h;
      more = [];
      lines_are = ap (λ n. chain_line chain ∷ log_line n ∷ map line_text log) h.many ∙ ap (λ ls. front ++ ls) (sym (append-nil (map line_text log)));
    })
    (λ p others h is.
    (let second = tail (chain_line p.chain) (chain_line chain) (log_line (length p.log) ∷ map line_text p.log) (log_line count ∷ others) is in
    let number = same-number (length p.log) count h.has.few few (ap (drop 4) (head (log_line (length p.log)) (log_line count) (map line_text p.log) others second)) in
    record {
      part = p.log;
      has = record { many = number; each = h.has.lines };
      more = [];
      lines_are = sym (tail (log_line (length p.log)) (log_line count) (map line_text p.log) others second) ∙ sym (append-nil (map line_text p.log));
    }))
    (many-free Line HasText line_text feedless-line count) s

pub proof-read : (query : Query) (text rest behind after : List ℕ) (chain : Chain) (count : ℕ) (log : List Line) → text ≡ chain_line chain ++ 10 ∷ rest → rest ≡ log_line count ++ 10 ∷ behind
    → Logs count log → behind ≡ text_of_lines (map line_text log) ++ after → text ≡ text_of_lines (lines_behind_query (proof_by query chain log)) ++ after
proof-read query text rest behind after chain count log e f h g =
    let front = chain_line chain ∷ log_line count ∷ [] in
    front-of text rest behind chain count e f ∙ ap (λ t. text_of_lines front ++ t) g ∙ sym (append_assoc (text_of_lines front) (text_of_lines (map line_text log)) after)
    ∙ ap (λ t. t ++ after) (sym (text-append front (map line_text log))) ∙ ap (λ n. text_of_lines (chain_line chain ∷ log_line n ∷ map line_text log) ++ after) (sym h.many)

-- ---- the lines of a proof are those of one

proof-same : (p r : Proof) → p.query ≡ r.query → p.chain ≡ r.chain → p.log ≡ r.log → p ≡ r
proof-same p r q c l = ap (λ x. proof_by x p.chain p.log) q ∙ ap (λ x. proof_by r.query x p.log) c ∙ ap (λ x. proof_by r.query r.chain x) l

pub one-proof : IsOne Proof HasProofText proof_lines
one-proof p r ls ms hp hr e =
    let lp = map line_text p.log ++ ls in
    let lr = map line_text r.log ++ ms in
    let second = tail (query_line p.query) (query_line r.query) (chain_line p.chain ∷ log_line (length p.log) ∷ lp) (chain_line r.chain ∷ log_line (length r.log) ∷ lr) e in
    let third = tail (chain_line p.chain) (chain_line r.chain) (log_line (length p.log) ∷ lp) (log_line (length r.log) ∷ lr) second in
    let fourth = tail (log_line (length p.log)) (log_line (length r.log)) lp lr third in
    let query = same-query p.query r.query hp.query hr.query (head (query_line p.query) (query_line r.query) (chain_line p.chain ∷ log_line (length p.log) ∷ lp) (chain_line r.chain ∷ log_line (length r.log) ∷ lr) e) in
    let chain = same-chain p.chain r.chain hp.chain hr.chain (head (chain_line p.chain) (chain_line r.chain) (log_line (length p.log) ∷ lp) (log_line (length r.log) ∷ lr) second) in
    let number = same-number (length p.log) (length r.log) hp.few hr.few (ap (drop 4) (head (log_line (length p.log)) (log_line (length r.log)) lp lr third)) in
    let logs = many-one Line HasText line_text feedless-line same-lemma (length r.log) p.log r.log ls ms (record { many = number; each = hp.lines }) (record { many = refl; each = hr.lines }) fourth in
    (proof-same p r query chain logs.0, logs.1)

pub behind-free : (query : Query) → IsFree Proof (IsProofOf query) lines_behind_query
behind-free query y z more hy hz e =
    let whole : proof_lines y ++ more ≡ proof_lines z ++ [] =
    ap (λ q. query_line q ∷ (lines_behind_query y ++ more)) (hy.is ∙ sym hz.is) ∙ ap (λ ls. query_line z.query ∷ ls) (sym e ∙ sym (append-nil (lines_behind_query z))) in
    (one-proof y z more [] hy.has hz.has whole).1
