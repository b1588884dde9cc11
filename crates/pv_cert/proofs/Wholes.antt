-- The parts of a certificate joined to the whole, and where a text fails as one.
use Rattle.std.proofs.Common.{◌≡◌, ℕ, ◌+◌, ◌<◌, List, [], ◌∷◌, ◌++◌, length, append_assoc, append-nil, refl, ap, subst, ◌∙◌, sym, arith, inl, inr, Option, None, Result, Ok, Err}
use Rattle.std.specs.Prelude.{IfOk, IfErr}
use Rattle.std.specs.List.{AllByRecursion}
use Rattle.std.proofs.lemmas.Bool.{cases_order}
use Rattle.pv_log.specs.declared.line.Line.{Line}
use Rattle.pv_claims.specs.declared.claim.Claim.{Claim}
use Rattle.pv_claims.specs.declared.claim.Claim.TheVariants.{Satisfied}
use Rattle.pv_claims.specs.declared.trace.Trace.{Trace}
use Rattle.pv_claims.specs.declared.stop.Stop.{Stop}
use Rattle.pv_claims.specs.declared.stop.Stop.TheVariants.{Left}
use Rattle.pv_claims.specs.declared.stop.Stop.TheVariants as stop
use Rattle.pv_claims.specs.declared.fault.CertFault.{CertFault}
use Rattle.pv_claims.specs.declared.fault.CertFault.TheVariants.{NotACertificate, NoMemory}
use Rattle.pv_claims.specs.Lines.{text_of_lines, NoFeed, StuckAt, StopsAt}
use Rattle.pv_claims.specs.Heads.{head_lines, ClaimFits}
use Rattle.pv_claims.specs.TracePart.{trace_form, HasTrace, trace_lines}
use Rattle.pv_claims.proofs.ForCallers.{all-append, all-behind, onto, not-empty, IsCut, cut-short, cut-lines, text-append, text-push, IsFree, IsOne, stops-within, one-free, head-plain, head-one, trace-plain, one-trace, some-trace}
use Rattle.pv_cert.specs.declared.proof.Proof.{Proof}
use Rattle.pv_cert.specs.declared.certificate.Certificate.{Certificate}
use Rattle.pv_cert.specs.CertificateText.{asks_next, certificate_lines, certificate_text, satisfied_by, HasNext, HasCertificateText, IsTextOf, BeginsOne, FailsAt, IsWritable, IsUnlessNoMemory}
use Rattle.pv_cert.specs.Reading.{Body, HasBody, body_lines, HasClaim, lines_behind_head, StopsWith, Reads}
use Rattle.pv_cert.proofs.Texts.{feedless}
use Rattle.pv_cert.proofs.BodyLaws.{no-next, one-body}
use Rattle.pv_cert.proofs.Writable.{writable}

-- ---- the parts behind the head

abbrev certificate_by : Claim → Option Trace → List Proof → Option Line → Certificate
certificate_by claim trace proofs next = record { claim = claim; trace = trace; proofs = proofs; next = next }

pub has-claim : (claim : Claim) (trace : Option Trace) (proofs : List Proof) (next : Option Line) → ClaimFits claim → HasTrace (trace_form claim) trace → HasBody (asks_next claim) (proofs, next)
    → HasClaim claim (certificate_by claim trace proofs next)
has-claim claim trace proofs next fits t b = record { is = refl; has = record { claim = fits; has_trace = t; has_next = b.1; proofs = b.0 } }

trace-of : (claim : Claim) (c : Certificate) → HasClaim claim c → HasTrace (trace_form claim) c.trace
trace-of claim c h = subst (λ (k : Claim). HasTrace (trace_form k) c.trace) h.is h.has.has_trace

body-of : (claim : Claim) (c : Certificate) → HasClaim claim c → HasBody (asks_next claim) (c.proofs, c.next)
body-of claim c h = (h.has.proofs, subst (λ (k : Claim). HasNext (asks_next k) c.next) h.is h.has.has_next)

-- the lines behind the trace part, by the claim
lines-by : (claim : Claim) (c : Certificate) → HasClaim claim c → lines_behind_head c ≡ trace_lines c.trace ++ body_lines (asks_next claim) (c.proofs, c.next)
lines-by claim c h = ap (λ (k : Claim). trace_lines c.trace ++ body_lines (asks_next k) (c.proofs, c.next)) h.is

pub trace-within : (claim : Claim) (text : List ℕ) (stop : Stop) → ClaimFits claim → StopsAt (Option Trace) (HasTrace (trace_form claim)) trace_lines text stop → StopsAt Certificate (HasClaim claim) lines_behind_head text stop
trace-within claim text stop fits s =
    stops-within Certificate (Option Trace) (HasClaim claim) (HasTrace (trace_form claim)) lines_behind_head trace_lines [] text text stop
    tt refl
    (λ t h. record { whole = certificate_by claim t [] None; has = has-claim claim t [] None fits h (tt, no-next (asks_next claim)); more = body_lines (asks_next claim) ([], None); lines_are = refl })
    (λ c others h is. record { part = c.trace; has = trace-of claim c h; more = body_lines (asks_next c.claim) (c.proofs, c.next); lines_are = sym is })
    (one-free (Option Trace) (HasTrace (trace_form claim)) trace_lines (one-trace (trace_form claim))) s

pub body-within : (claim : Claim) (trace : Option Trace) (text rest : List ℕ) (stop : Stop) → ClaimFits claim → HasTrace (trace_form claim) trace → text ≡ text_of_lines (trace_lines trace) ++ rest
    → StopsAt Body (HasBody (asks_next claim)) (body_lines (asks_next claim)) rest stop → StopsAt Certificate (HasClaim claim) lines_behind_head text stop
body-within claim trace text rest stop fits t e s =
    stops-within Certificate Body (HasClaim claim) (HasBody (asks_next claim)) lines_behind_head (body_lines (asks_next claim)) (trace_lines trace) text rest stop
    (trace-plain (trace_form claim) trace t) e
    (λ b h. record {
      whole = certificate_by claim trace b.0 b.1;
      has = has-claim claim trace b.0 b.1 fits t h;
      more = [];
      lines_are = ap (λ l. trace_lines trace ++ l) (sym (append-nil (body_lines (asks_next claim) b)));
    })
    (λ c others h is.
    (let both = one-trace (trace_form claim) c.trace trace (body_lines (asks_next claim) (c.proofs, c.next)) others (trace-of claim c h) t (sym (lines-by claim c h) ∙ is) in
    record { part = (c.proofs, c.next); has = body-of claim c h; more = []; lines_are = sym both.1 ∙ sym (append-nil (body_lines (asks_next claim) (c.proofs, c.next))) }))
    (one-free Body (HasBody (asks_next claim)) (body_lines (asks_next claim)) (one-body (asks_next claim))) s

pub shown-read : (claim : Claim) (trace : Option Trace) (text rest after : List ℕ) (proofs : List Proof) (next : Option Line) → text ≡ text_of_lines (trace_lines trace) ++ rest
    → rest ≡ text_of_lines (body_lines (asks_next claim) (proofs, next)) ++ after → text ≡ text_of_lines (lines_behind_head (certificate_by claim trace proofs next)) ++ after
shown-read claim trace text rest after proofs next e f =
    let body = body_lines (asks_next claim) (proofs, next) in
    e ∙ ap (λ t. text_of_lines (trace_lines trace) ++ t) f ∙ sym (append_assoc (text_of_lines (trace_lines trace)) (text_of_lines body) after) ∙ ap (λ t. t ++ after) (sym (text-append (trace_lines trace) body))

-- ---- the lines of a certificate are those of one

certificate-same : (c d : Certificate) → c.claim ≡ d.claim → c.trace ≡ d.trace → c.proofs ≡ d.proofs → c.next ≡ d.next → c ≡ d
certificate-same c d k t p n =
    ap (λ x. certificate_by x c.trace c.proofs c.next) k ∙ ap (λ x. certificate_by d.claim x c.proofs c.next) t ∙ ap (λ x. certificate_by d.claim d.trace x c.next) p ∙ ap (λ x. certificate_by d.claim d.trace d.proofs x) n

one-shown : (claim : Claim) → IsOne Certificate (HasClaim claim) lines_behind_head
one-shown claim c d ls ms hc hd e =
    let bc = body_lines (asks_next claim) (c.proofs, c.next) in
    let bd = body_lines (asks_next claim) (d.proofs, d.next) in
    let whole : trace_lines c.trace ++ (bc ++ ls) ≡ trace_lines d.trace ++ (bd ++ ms) =
    sym (append_assoc (trace_lines c.trace) bc ls) ∙ ap (λ l. l ++ ls) (sym (lines-by claim c hc)) ∙ e ∙ ap (λ l. l ++ ms) (lines-by claim d hd) ∙ append_assoc (trace_lines d.trace) bd ms in
    let traces = one-trace (trace_form claim) c.trace d.trace (bc ++ ls) (bd ++ ms) (trace-of claim c hc) (trace-of claim d hd) whole in
    let bodies = one-body (asks_next claim) (c.proofs, c.next) (d.proofs, d.next) ls ms (body-of claim c hc) (body-of claim d hd) traces.1 in
    (certificate-same c d (hc.is ∙ sym hd.is) traces.0 (ap (λ (b : Body). b.0) bodies.0) (ap (λ (b : Body). b.1) bodies.0), bodies.1)

one-lines : IsOne Certificate HasCertificateText certificate_lines
one-lines c d ls ms hc hd e =
    let heads = head-one c.claim d.claim (lines_behind_head c ++ ls) (lines_behind_head d ++ ms) hc.claim hd.claim
    (sym (append_assoc (head_lines c.claim) (lines_behind_head c) ls) ∙ e ∙ append_assoc (head_lines d.claim) (lines_behind_head d) ms) in
    one-shown d.claim c d ls ms (record { is = heads.0; has = hc }) (record { is = refl; has = hd }) heads.1

-- ---- the head

pub head-within : (text : List ℕ) (stop : Stop) → StopsAt Claim ClaimFits head_lines text stop → StopsAt Certificate HasCertificateText certificate_lines text stop
head-within text stop s =
    stops-within Certificate Claim HasCertificateText ClaimFits certificate_lines head_lines [] text text stop
    tt refl
    (λ claim h.
    (let t = some-trace (trace_form claim) in
    record { whole = certificate_by claim t.0 [] None; has = (has-claim claim t.0 [] None h t.1 (tt, no-next (asks_next claim))).has; more = lines_behind_head (certificate_by claim t.0 [] None); lines_are = refl }))
    (λ c others h is. record { part = c.claim; has = h.claim; more = lines_behind_head c; lines_are = sym is })
    (one-free Claim ClaimFits head_lines head-one) s

pub shown-within : (claim : Claim) (text rest : List ℕ) (stop : Stop) → ClaimFits claim → text ≡ text_of_lines (head_lines claim) ++ rest
    → StopsAt Certificate (HasClaim claim) lines_behind_head rest stop → StopsAt Certificate HasCertificateText certificate_lines text stop
shown-within claim text rest stop fits e s =
    stops-within Certificate Certificate HasCertificateText (HasClaim claim) certificate_lines lines_behind_head (head_lines claim) text rest stop
    (head-plain claim fits) e
    (λ c h. record {
      whole = c;
      has = h.has;
      more = [];
      lines_are = ap (λ k. head_lines k ++ lines_behind_head c) h.is ∙ ap (λ l. head_lines claim ++ l) (sym (append-nil (lines_behind_head c)));
    })
    (λ c others h is.
    (let both = head-one c.claim claim (lines_behind_head c) others h.claim fits is in
    record { part = c; has = record { is = both.0; has = h }; more = []; lines_are = sym both.1 ∙ sym (append-nil (lines_behind_head c)) }))
    (one-free Certificate (HasClaim claim) lines_behind_head (one-shown claim)) s

pub whole-read : (claim : Claim) (c : Certificate) (text rest after : List ℕ) → text ≡ text_of_lines (head_lines claim) ++ rest → c.claim ≡ claim → rest ≡ text_of_lines (lines_behind_head c) ++ after
    → text ≡ text_of_lines (certificate_lines c) ++ after
whole-read claim c text rest after e is f =
    e ∙ ap (λ k. text_of_lines (head_lines k) ++ rest) (sym is) ∙ ap (λ t. text_of_lines (head_lines c.claim) ++ t) f
    ∙ sym (append_assoc (text_of_lines (head_lines c.claim)) (text_of_lines (lines_behind_head c)) after) ∙ ap (λ t. t ++ after) (sym (text-append (head_lines c.claim) (lines_behind_head c)))

-- ---- a text is that of one certificate

lines-free : IsFree Certificate HasCertificateText certificate_lines
lines-free = one-free Certificate HasCertificateText certificate_lines one-lines

-- the lines of a certificate whose text begins with these lines
text-cut : (before : List (List ℕ)) (rest bytes : List ℕ) (c : Certificate) → AllByRecursion NoFeed before → bytes ≡ text_of_lines before ++ rest → IsTextOf bytes c → IsCut before (certificate_lines c) rest []
text-cut before rest bytes c whole e s =
    cut-lines before (certificate_lines c) rest whole (feedless c s.valid) (sym e ∙ s.text ∙ sym (append-nil (certificate_text c)))

pub one-certificate : (bytes : List ℕ) (c other : Certificate) → IsTextOf bytes c → IsTextOf bytes other → c ≡ other
one-certificate bytes c other s t =
    let cut = text-cut (certificate_lines c) [] bytes other (feedless c s.valid) (s.text ∙ sym (append-nil (certificate_text c))) t in
    (one-lines c other cut.more [] s.valid t.valid (sym cut.lines ∙ sym (append-nil (certificate_lines other)))).0

-- ---- where a text fails

begun : (before : List (List ℕ)) (next bytes : List ℕ) → AllByRecursion NoFeed before → NoFeed next → (b : BeginsOne (text_of_lines before ++ (next ++ 10 ∷ [])))
    → (more : List (List ℕ)) × (certificate_lines b.certificate ≡ before ++ next ∷ more)
begun before next bytes whole plain b =
    let lines = before ++ next ∷ [] in
    let e : (text_of_lines before ++ (next ++ 10 ∷ [])) ++ b.rest ≡ text_of_lines lines ++ b.rest = ap (λ (t : List ℕ). t ++ b.rest) (sym (text-push before next)) in
    let cut = text-cut lines b.rest ((text_of_lines before ++ (next ++ 10 ∷ [])) ++ b.rest) b.certificate (all-append NoFeed before (next ∷ []) whole (plain, tt)) e b.is_text in
    (cut.more, cut.lines ∙ append_assoc before (next ∷ []) cut.more)

stuck-fails : (bytes : List ℕ) (left : ℕ) → StuckAt Certificate HasCertificateText certificate_lines bytes left → StopsWith bytes (Left left)
stuck-fails bytes left s = (
  length s.before + 1,
  record {
    before = s.before;
    rest = s.rest;
    split = s.split;
    whole = s.whole;
    number = refl;
    begins = record {
      certificate = s.some;
      rest = text_of_lines (s.next ∷ s.more);
      is_text = record { valid = s.has; text = sym (text-append s.before (s.next ∷ s.more)) ∙ ap text_of_lines (sym s.goes_on) };
    };
    stuck = λ next after plain e b. (let on = begun s.before next bytes s.whole plain b in s.stuck next after plain e b.certificate on.0 b.is_text.valid on.1);
    none = λ c t. (let cut = text-cut s.before s.rest bytes c s.whole s.split t in never c t cut.more cut.lines cut.rest);
  },
  s.size,
)
  where
    never : (c : Certificate) → IsTextOf bytes c → (more : List (List ℕ)) → certificate_lines c ≡ s.before ++ more → s.rest ≡ text_of_lines more ++ [] → ⊥
    never c t [] e r =
        not-empty [] s.next s.more (lines-free c s.some (s.next ∷ s.more) t.valid s.has (s.goes_on ∙ ap (λ ls. ls ++ s.next ∷ s.more) (sym (append-nil s.before) ∙ sym e)))
    never c t (next ∷ more) e r =
        let all = subst (λ (ls : List (List ℕ)). AllByRecursion NoFeed ls) e (feedless c t.valid) in
        let plain = all-behind NoFeed s.before (next ∷ more) all in
        s.stuck next (text_of_lines more ++ []) plain.0 (r ∙ onto next (text_of_lines more) []) c more t.valid e

pub stops-with : (bytes : List ℕ) (at : Stop) → StopsAt Certificate HasCertificateText certificate_lines bytes at → StopsWith bytes at
stops-with bytes (stop.Left left) s = stuck-fails bytes left s
stops-with bytes stop.NoMemory s = tt

-- something stands behind a certificate
pub left-over : (bytes rest : List ℕ) (c : Certificate) → HasCertificateText c → bytes ≡ text_of_lines (certificate_lines c) ++ rest → (rest ≡ [] → ⊥) → StopsWith bytes (Left (length rest))
left-over bytes rest c h split some = (
  length (certificate_lines c) + 1,
  record {
    before = certificate_lines c;
    rest = rest;
    split = split;
    whole = feedless c h;
    number = refl;
    begins = record { certificate = c; rest = []; is_text = record { valid = h; text = append-nil (certificate_text c) } };
    stuck = λ next after plain e b.
        (let on = begun (certificate_lines c) next bytes (feedless c h) plain b in not-empty [] next on.0 (lines-free c b.certificate (next ∷ on.0) h b.is_text.valid on.1));
    none = λ d t.
        (let cut = text-cut (certificate_lines c) rest bytes d (feedless c h) split t in
        let none = lines-free c d cut.more h t.valid cut.lines in
        some (cut.rest ∙ ap (λ ls. text_of_lines ls ++ []) none));
  },
  refl,
)

pub read-whole : (bytes rest : List ℕ) (c : Certificate) → HasCertificateText c → bytes ≡ text_of_lines (certificate_lines c) ++ rest → rest ≡ [] → IsTextOf bytes c
read-whole bytes rest c h split none = record { valid = h; text = split ∙ ap (λ t. certificate_text c ++ t) none ∙ append-nil (certificate_text c) }

-- ---- a text fails at one line

begins-less : (front more : List ℕ) → BeginsOne (front ++ more) → BeginsOne front
begins-less front more b = record {
  certificate = b.certificate;
  rest = more ++ b.rest;
  is_text = record { valid = b.is_text.valid; text = sym (append_assoc front more b.rest) ∙ b.is_text.text };
}

-- a line that fails isn't before another that does
earlier : (bytes : List ℕ) (m n : ℕ) (s : FailsAt bytes m) (t : FailsAt bytes n) (more : List (List ℕ)) → t.before ≡ s.before ++ more → s.rest ≡ text_of_lines more ++ t.rest → m < n → ⊥
earlier bytes m n s t [] e r lt =
    let size : length t.before ≡ length s.before = ap (λ (ls : List (List ℕ)). length ls) (e ∙ append-nil s.before) in
    let a = s.number in
    let b = t.number in
    absurd (omega (arith, size, a, b, lt))
earlier bytes m n s t (next ∷ more) e r lt =
    let all = subst (λ (ls : List (List ℕ)). AllByRecursion NoFeed ls) e t.whole in
    let plain = all-behind NoFeed s.before (next ∷ more) all in
    let lines : t.before ≡ (s.before ++ next ∷ []) ++ more = e ∙ sym (append_assoc s.before (next ∷ []) more) in
    let front : text_of_lines t.before ≡ (text_of_lines s.before ++ (next ++ 10 ∷ [])) ++ text_of_lines more =
    ap text_of_lines lines ∙ text-append (s.before ++ next ∷ []) more ∙ ap (λ (x : List ℕ). x ++ text_of_lines more) (text-push s.before next) in
    s.stuck next (text_of_lines more ++ t.rest) plain.0 (r ∙ onto next (text_of_lines more) t.rest)
    (begins-less (text_of_lines s.before ++ (next ++ 10 ∷ [])) (text_of_lines more) (subst BeginsOne front t.begins))

not-before : (bytes : List ℕ) (m n : ℕ) → FailsAt bytes m → FailsAt bytes n → m < n → ⊥
not-before bytes m n s t lt =
    let a = s.number in
    let b = t.number in
    let cut = cut-short s.before t.before s.rest t.rest s.whole t.whole (omega (arith, a, b, lt)) (sym s.split ∙ t.split) in
    earlier bytes m n s t cut.more cut.lines cut.rest lt

pub fails-once : (bytes : List ℕ) (m n : ℕ) → FailsAt bytes m → FailsAt bytes n → m ≡ n
fails-once bytes m n s t =
    elim (cases_order m n) [
      | inl e ↦ e
      | inr (inl lt) ↦ absurd (not-before bytes m n s t lt)
      | inr (inr gt) ↦ absurd (not-before bytes n m t s gt)
    ]

-- ---- what reading gives

pub reads-ok : (bytes : List ℕ) (r : Result Certificate CertFault) → Reads bytes r → IfOk r (IsTextOf bytes)
reads-ok bytes (Ok c) h = h
reads-ok bytes (Err f) h = tt

pub reads-writable : (bytes : List ℕ) (r : Result Certificate CertFault) → Reads bytes r → IfOk r IsWritable
reads-writable bytes (Ok c) h = writable c h.valid
reads-writable bytes (Err f) h = tt

pub reads-complete : (bytes : List ℕ) (r : Result Certificate CertFault) → Reads bytes r → (c : Certificate) → IsTextOf bytes c → IsUnlessNoMemory r (Ok c)
reads-complete bytes (Ok k) h c s = inl (ap (λ (x : Certificate). Ok x) (one-certificate bytes k c h s))
reads-complete bytes (Err (NotACertificate line)) h c s = absurd (h.none c s)
reads-complete bytes (Err NoMemory) h c s = inr refl

pub reads-stuck : (bytes : List ℕ) (r : Result Certificate CertFault) → Reads bytes r → (line : ℕ) → r ≡ Err (NotACertificate line) → FailsAt bytes line
reads-stuck bytes r h line e = subst (Reads bytes) e h

pub reads-refused : (bytes : List ℕ) (r : Result Certificate CertFault) → Reads bytes r → (line : ℕ) → FailsAt bytes line → IsUnlessNoMemory r (Err (NotACertificate line))
reads-refused bytes (Ok c) h line s = absurd (s.none c h)
reads-refused bytes (Err (NotACertificate m)) h line s = inl (ap (λ (k : ℕ). Err (NotACertificate k)) (fails-once bytes m line h s))
reads-refused bytes (Err NoMemory) h line s = inr refl

-- where reading stops is told by its line
pub told-line : (bytes : List ℕ) (left line : ℕ) → StopsWith bytes (Left left)
    → ((before : List (List ℕ)) (rest : List ℕ) → bytes ≡ text_of_lines before ++ rest → AllByRecursion NoFeed before → left ≡ length rest → line ≡ length before + 1) → FailsAt bytes line
told-line bytes left line s at =
    let f = s.1 in
    subst (FailsAt bytes) (f.number ∙ sym (at f.before f.rest f.split f.whole s.2)) f

-- ---- certificates of 'satisfied' with k = 0

-- such a certificate is made of its proofs
pub made-of-proofs : (c : Certificate) → HasCertificateText c → c.claim ≡ Satisfied 0 → c ≡ satisfied_by c.proofs
made-of-proofs c h is =
    certificate-same c (satisfied_by c.proofs) is (subst (λ (k : Claim). HasTrace (trace_form k) c.trace) is h.has_trace).has_form refl (subst (λ (k : Claim). HasNext (asks_next k) c.next) is h.has_next)

-- ---- what calls answer

pub stops-on : {T E : Type 0} {P Q : E → Type 0} (r : Result T E) → ((stop : E) → P stop → Q stop) → IfErr r P → IfErr r Q
stops-on (Ok x) f h = tt
stops-on (Err stop) f h = f stop h
