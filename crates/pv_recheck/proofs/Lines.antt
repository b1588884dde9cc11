-- A text has one line of each number. `IsLine` is a recursion by `zero` and `suc`, so `IsLine 2 text line` computes; two calls of `cut_line`
-- with a clause on the rest (line n + 3 of the text is line n + 1 of the rest) serve for line 4.
--
-- `text.starts_with(prefix)` and `match text.strip_prefix(prefix)` say the comparison pointwise: `strip_prefix_is Decides-eqb` with the
-- arm's `ensures.cases` gives `text ≡ prefix ++ rest`.
use Rattle.std.proofs.Common.{◌≡◌, ◌≢◌, ℕ, zero, suc, Bool, true, false, not, List, [], ◌∷◌, ◌++◌, length, map, append_assoc, refl, sym}
use Rattle.std.proofs.Common.{subst, ◌∙◌, Option, Some, None, Bor}
use Rattle.std.specs.Prelude.{◌↔◌, IsTrue, IfSome, IfNone, codes}
use Rattle.std.specs.List.{flat_map}
use Rattle.std.proofs.lemmas.Bool.{false≢true}
use Rattle.pv_cert.specs.declared.proof.Proof.{Proof}
use Rattle.pv_claims.specs.declared.claim.Claim.TheVariants.{Satisfied}
use Rattle.pv_claims.specs.Lines.{NoFeed, text_of_lines}
use Rattle.pv_claims.specs.Heads.{verdict_line}
use Rattle.pv_claims.specs.TracePart.{trace_lines}
use Rattle.pv_claims.proofs.ForCallers.{cut-one, all-behind, verdict-zero}
use Rattle.pv_cert.specs.declared.certificate.Certificate.{Certificate}
use Rattle.pv_cert.specs.CertificateText.{query_line, log_line, proof_lines, asks_next, tail_lines, satisfied_by}
use Rattle.pv_cert.specs.CertificateText.{IsTextOf}
use Rattle.pv_cert.specs.ChainText.{chain_line}
use Rattle.pv_log.specs.LineText.{line_text}
use Rattle.pv_cert.proofs.ForCallers.{feedless}
use Rattle.pv_recheck.specs.Form.{IsLine, BeginsWith, HasOtherVerdict, HasReductions}

no_feed : (text line rest : List ℕ) → NoFeed text → text ≡ line ++ 10 ∷ rest → ⊥
no_feed text line rest plain e = (all-behind (λ byte. byte ≡ 10 → ⊥) line (10 ∷ rest) (subst NoFeed e plain)).0 refl

-- without a line feed there is no line
pub no_line : (n : ℕ) (text line : List ℕ) → NoFeed text → IsLine n text line → ⊥
no_line zero text line plain h = h
no_line (suc zero) text line plain h = no_feed text line h.0 plain h.2
no_line (suc (suc n)) text line plain h = no_feed text h.0 h.1 plain h.3

pub same_line : (n : ℕ) (text line other : List ℕ) → IsLine n text line → IsLine n text other → line ≡ other
same_line zero text line other h k = absurd h
same_line (suc zero) text line other h k = (cut-one line other h.0 k.0 h.1 k.1 (sym h.2 ∙ k.2)).0
same_line (suc (suc n)) text line other h k =
    let same = cut-one h.0 k.0 h.1 k.1 h.2 k.2 (sym h.3 ∙ k.3) in
    same_line (suc n) k.1 line other (subst (λ r. IsLine (suc n) r line) same.1 h.4) k.4

-- the lines behind the first are those of the rest
pub behind : (n : ℕ) (text head rest line : List ℕ) → NoFeed head → text ≡ head ++ 10 ∷ rest → IsLine (suc (suc n)) text line
    → IsLine (suc n) rest line
behind n text head rest line plain e h =
    let same = cut-one h.0 head h.1 rest h.2 plain (sym h.3 ∙ e) in
    subst (λ r. IsLine (suc n) r line) same.1 h.4

pub ahead : (n : ℕ) (text head rest line : List ℕ) → NoFeed head → text ≡ head ++ 10 ∷ rest → IsLine (suc n) rest line
    → IsLine (suc (suc n)) text line
ahead n text head rest line plain e h = (head, rest, plain, e, h)

-- ---- what the readers of lines answer

pub second_rest : (text head rest : List ℕ) (o : Option (Bor (List ℕ) × Bor (List ℕ))) → NoFeed head → text ≡ head ++ 10 ∷ rest
    → IfSome o (λ cut. NoFeed cut.0.now × (rest ≡ cut.0.now ++ 10 ∷ cut.1.now))
    → IfSome o (λ cut. (n : ℕ) (line : List ℕ) → IsLine (suc (suc (suc n))) text line ↔ IsLine (suc n) cut.1.now line)
second_rest text head rest None plain e f = tt
second_rest text head rest (Some cut) plain e f = λ n line. (
  (λ h. behind n rest cut.0.now cut.1.now line f.0 f.1 (behind (suc n) text head rest line plain e h)),
  (λ h. ahead (suc n) text head rest line plain e (ahead n rest cut.0.now cut.1.now line f.0 f.1 h)),
)

pub second_none : (text head rest : List ℕ) (o : Option (Bor (List ℕ) × Bor (List ℕ))) → NoFeed head → text ≡ head ++ 10 ∷ rest
    → IfNone o (NoFeed rest)
    → IfNone o ((n : ℕ) (line : List ℕ) → IsLine (suc (suc n)) text line → ⊥)
second_none text head rest None plain e f = λ n line h. no_line (suc n) rest line f (behind n text head rest line plain e h)
second_none text head rest (Some cut) plain e f = tt

pub not_same : (b : Bool) (P Q : Type 0) → P → IsTrue b ↔ Q → IsTrue (not b) ↔ (P × (Q → ⊥))
not_same true P Q p e = ((λ h. absurd cc), (λ k. absurd (k.1 (e.0 refl))))
not_same false P Q p e = ((λ h. (p, λ q. false≢true (e.1 q))), (λ k. refl))

pub other_verdict : (bytes line : List ℕ) (b : Bool) → IsLine 2 bytes line
    → IsTrue b ↔ (BeginsWith (codes "verdict ") line × (line ≢ codes "verdict satisfied 0")) → IsTrue b ↔ HasOtherVerdict bytes
other_verdict bytes line b at e = (
  (λ h. (line, at, (e.0 h).0, (e.0 h).1)),
  (λ k. e.1 (subst (λ (l : List ℕ). BeginsWith (codes "verdict ") l × (l ≢ codes "verdict satisfied 0"))
      (same_line 2 bytes k.0 line k.1 at) (k.2, k.3))),
)

pub reductions : (bytes line : List ℕ) (b : Bool) → IsLine 4 bytes line → IsTrue b ↔ BeginsWith (codes "chain ") line
    → IsTrue b ↔ HasReductions bytes
reductions bytes line b at e = (
  (λ h. (line, at, e.0 h)),
  (λ k. e.1 (subst (λ (l : List ℕ). BeginsWith (codes "chain ") l) (same_line 4 bytes k.0 line k.1 at) k.2)),
)

pub no_other_verdict : (bytes : List ℕ) → ((n : ℕ) (line : List ℕ) → IsLine (suc (suc n)) bytes line → ⊥)
    → IsTrue false ↔ HasOtherVerdict bytes
no_other_verdict bytes none = ((λ h. absurd cc), (λ k. absurd (none 0 k.0 k.1)))

pub no_reductions : (bytes : List ℕ) → ((line : List ℕ) → IsLine 4 bytes line → ⊥) → IsTrue false ↔ HasReductions bytes
no_reductions bytes none = ((λ h. absurd cc), (λ k. absurd (none k.0 k.1)))

-- ---- the lines of a certificate

-- the second and the fourth line of a text of at least four
lines_built : (one two three four : List ℕ) (lines : List (List ℕ)) (bytes : List ℕ)
    → bytes ≡ text_of_lines (one ∷ two ∷ three ∷ four ∷ lines) → NoFeed one → NoFeed two → NoFeed three → NoFeed four
    → IsLine 2 bytes two × IsLine 4 bytes four
lines_built one two three four lines bytes e a b c d =
    let fourth : IsLine 1 (text_of_lines (four ∷ lines)) four = (
      text_of_lines lines,
      d,
      append_assoc four (10 ∷ [])
          (text_of_lines lines),
    ) in
    let third : IsLine 2 (text_of_lines (three ∷ four ∷ lines)) four = ahead 0 (text_of_lines (three ∷ four ∷ lines)) three
    (text_of_lines (four ∷ lines)) four c (append_assoc three (10 ∷ []) (text_of_lines (four ∷ lines))) fourth in
    let more = text_of_lines (three ∷ four ∷ lines) in
    let second : IsLine 3 (text_of_lines (two ∷ three ∷ four ∷ lines)) four = ahead 1
    (text_of_lines (two ∷ three ∷ four ∷ lines)) two more four b (append_assoc two (10 ∷ []) more) third in
    let here : IsLine 1 (text_of_lines (two ∷ three ∷ four ∷ lines)) two = (more, b, append_assoc two (10 ∷ []) more) in
    let rest = text_of_lines (two ∷ three ∷ four ∷ lines) in
    let cut : bytes ≡ one ++ 10 ∷ rest = e ∙ append_assoc one (10 ∷ []) rest in
    (ahead 0 bytes one rest two a cut here, ahead 2 bytes one rest four a cut second)

-- the lines of a certificate behind the fourth
abbrev rest_of : Proof → List Proof → List (List ℕ)
rest_of p ps = log_line (length p.log) ∷ (map line_text p.log ++ flat_map proof_lines ps) ++ codes "end" ∷ []

-- its second line is the verdict, and its fourth the first proof's chain
pub second_and_fourth : (bytes : List ℕ) (p : Proof) (ps : List Proof) → IsTextOf bytes (satisfied_by (p ∷ ps))
    → IsLine 2 bytes (codes "verdict satisfied 0") × IsLine 4 bytes (chain_line p.chain)
second_and_fourth bytes p ps t =
    let plain = feedless (satisfied_by (p ∷ ps)) t.valid in
    let lines = lines_built (codes "PLCVCERT 1") (verdict_line (Satisfied 0)) (query_line p.query) (chain_line p.chain)
    (rest_of p ps) bytes t.text plain.0 plain.1.0 plain.1.1.0 plain.1.1.1.0 in
    (subst (λ (line : List ℕ). IsLine 2 bytes line) verdict-zero lines.0, lines.1)

pub fourth_of : (bytes : List ℕ) (p : Proof) (ps : List Proof) → IsTextOf bytes (satisfied_by (p ∷ ps))
    → IsLine 4 bytes (chain_line p.chain)
fourth_of bytes p ps t = (second_and_fourth bytes p ps t).1

-- the lines of a certificate behind the second
abbrev behind_head : Certificate → List (List ℕ)
behind_head c = trace_lines c.trace ++ (flat_map proof_lines c.proofs ++ tail_lines (asks_next c.claim) c.next)

-- the second line of any certificate
pub second_of : (bytes : List ℕ) (c : Certificate) → IsTextOf bytes c → IsLine 2 bytes (verdict_line c.claim)
second_of bytes c t =
    let plain = feedless c t.valid in
    let rest = text_of_lines (behind_head c) in
    let here : IsLine 1 (text_of_lines (verdict_line c.claim ∷ behind_head c)) (verdict_line c.claim) = (
      rest,
      plain.1.0,
      append_assoc (verdict_line c.claim) (10 ∷ []) rest,
    ) in
    let behind = text_of_lines (verdict_line c.claim ∷ behind_head c) in
    ahead 0 bytes (codes "PLCVCERT 1") behind (verdict_line c.claim) plain.0 (t.text ∙ append_assoc (codes "PLCVCERT 1") (10 ∷ []) behind) here
