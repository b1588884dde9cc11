-- The proofs of a certificate and what stands behind them.
use Rattle.std.proofs.Common.{◌≡◌, ℕ, ◌<◌, ◌==◌, Bool, true, false, List, [], ◌∷◌, ◌++◌, length, get_or, append_assoc, append-nil, length-append, arith, refl, ap, subst, ◌∙◌, sym, Option, Some, None}
use Rattle.std.specs.Prelude.{codes}
use Rattle.std.specs.List.{flat_map, AllByRecursion}
use Rattle.std.proofs.lemmas.Bool.{false≢true}
use Rattle.std.proofs.lemmas.Grind.{flat_map-append}
use Rattle.pv_log.specs.declared.line.Line.{Line}
use Rattle.pv_log.specs.LineText.{line_text, HasText}
use Rattle.pv_claims.specs.declared.stop.Stop.{Stop}
use Rattle.pv_claims.specs.declared.stop.Stop.TheVariants.{Left, NoMemory}
use Rattle.pv_claims.specs.Lines.{text_of_lines, NoFeed, StuckAt, StopsAt}
use Rattle.pv_claims.proofs.ForCallers.{all-append, head, tail, plain, text-append, text-more, text-first, IsPart, IsOne, stops-within, one-free, one-then}
use Rattle.pv_cert.specs.declared.proof.Query.{Query}
use Rattle.pv_cert.specs.declared.proof.Proof.{Proof}
use Rattle.pv_cert.specs.CertificateText.{query_line, proof_lines, tail_lines, QueryFits, HasProofText, HasNext}
use Rattle.pv_cert.specs.Reading.{IsProofOf, lines_behind_query, IsNoQuery, IsNoEnd, Body, HasBody, body_lines}
use Rattle.pv_cert.proofs.Texts.{feedless-line, feedless-query, feedless-proofs}
use Rattle.pv_cert.proofs.Parsing.{same-query, same-lemma, begins-not}
use Rattle.pv_cert.proofs.ProofLaws.{blank_line, one-proof, behind-free}

-- ---- what stands behind the proofs

-- no next lemma
pub no-next : (asked : Bool) → HasNext asked None
no-next false = refl
no-next true = tt

-- it begins with no line of a query
tail-first : (asked : Bool) (next : Option Line) (q : Query) (line : List ℕ) (others more : List (List ℕ)) → tail_lines asked next ++ more ≡ line ∷ others → line ≡ query_line q → ⊥
tail-first false next q line others more e f = begins-not (codes "end") q refl (head (codes "end") line more others e ∙ f)
tail-first true None q line others more e f = begins-not (codes "next none") q refl (head (codes "next none") line (codes "end" ∷ more) others e ∙ f)
tail-first true (Some l) q line others more e f = begins-not (codes "next") q refl (head (codes "next") line (line_text l ∷ codes "end" ∷ more) others e ∙ f)

none-or-some : codes "next none" ≡ codes "next" → ⊥
none-or-some e = (let differ : true ≡ false = ap (λ l. get_or l 4 0 == 32) e in false≢true (sym differ))

pub one-tail : (asked : Bool) → IsOne (Option Line) (HasNext asked) (tail_lines asked)
one-tail false n m ls ms hn hm e = one-then (Option Line) (tail_lines false) n m ls ms (hn ∙ sym hm) e
one-tail true None None ls ms hn hm e = one-then (Option Line) (tail_lines true) None None ls ms refl e
one-tail true None (Some m) ls ms hn hm e = absurd (none-or-some (head (codes "next none") (codes "next") (codes "end" ∷ ls) (line_text m ∷ codes "end" ∷ ms) e))
one-tail true (Some n) None ls ms hn hm e = absurd (none-or-some (sym (head (codes "next") (codes "next none") (line_text n ∷ codes "end" ∷ ls) (codes "end" ∷ ms) e)))
one-tail true (Some n) (Some m) ls ms hn hm e =
    let behind = tail (codes "next") (codes "next") (line_text n ∷ codes "end" ∷ ls) (line_text m ∷ codes "end" ∷ ms) e in
    one-then (Option Line) (tail_lines true) (Some n) (Some m) ls ms (ap (λ l. Some l) (same-lemma n m hn hm (head (line_text n) (line_text m) (codes "end" ∷ ls) (codes "end" ∷ ms) behind))) e

-- ---- stops behind the proofs

-- the end is missing behind no further lines
pub end-stuck : (text : List ℕ) → ((rest : List ℕ) → text ≡ codes "end\n" ++ rest → ⊥) → StuckAt (Option Line) (HasNext false) (tail_lines false) text (length text)
end-stuck text never =
    record {
      before = [];
      rest = text;
      split = refl;
      whole = tt;
      size = refl;
      some = None;
      has = refl;
      next = codes "end";
      more = [];
      goes_on = refl;
      stuck = λ line after clean e n others has is. never after (e ∙ ap (λ l. l ++ 10 ∷ after) (sym (head (codes "end") line [] others is)));
    }

-- no line `next`
pub next-stuck : (text : List ℕ) → ((rest : List ℕ) → text ≡ codes "next none\n" ++ rest → ⊥) → ((rest : List ℕ) → text ≡ codes "next\n" ++ rest → ⊥)
    → StuckAt (Option Line) (HasNext true) (tail_lines true) text (length text)
next-stuck text none some =
    record {
      before = [];
      rest = text;
      split = refl;
      whole = tt;
      size = refl;
      some = None;
      has = tt;
      next = codes "next none";
      more = codes "end" ∷ [];
      goes_on = refl;
      stuck = λ line after clean e n others has is. first line after e n others is;
    }
  where
    first : (line after : List ℕ) → text ≡ line ++ 10 ∷ after → (n : Option Line) (others : List (List ℕ)) → tail_lines true n ≡ line ∷ others → ⊥
    first line after e None others is = none after (e ∙ ap (λ l. l ++ 10 ∷ after) (sym (head (codes "next none") line (codes "end" ∷ []) others is)))
    first line after e (Some l) others is = some after (e ∙ ap (λ l. l ++ 10 ∷ after) (sym (head (codes "next") line (line_text l ∷ codes "end" ∷ []) others is)))

-- the end is missing behind `next none`
pub none-end-stuck : (text rest : List ℕ) → text ≡ codes "next none\n" ++ rest → ((after : List ℕ) → rest ≡ codes "end\n" ++ after → ⊥)
    → StuckAt (Option Line) (HasNext true) (tail_lines true) text (length rest)
none-end-stuck text rest e never =
    record {
      before = codes "next none" ∷ [];
      rest = rest;
      split = e;
      whole = (plain (codes "next none") refl, tt);
      size = refl;
      some = None;
      has = tt;
      next = codes "end";
      more = [];
      goes_on = refl;
      stuck = λ line after clean f n others has is. second line after f n others is;
    }
  where
    second : (line after : List ℕ) → rest ≡ line ++ 10 ∷ after → (n : Option Line) (others : List (List ℕ)) → tail_lines true n ≡ codes "next none" ∷ line ∷ others → ⊥
    second line after f None others is =
        never after (f ∙ ap (λ l. l ++ 10 ∷ after) (sym (head (codes "end") line [] others (tail (codes "next none") (codes "next none") (codes "end" ∷ []) (line ∷ others) is))))
    second line after f (Some l) others is = none-or-some (sym (head (codes "next") (codes "next none") (line_text l ∷ codes "end" ∷ []) (line ∷ others) is))

-- no next lemma behind `next`
pub lemma-stuck : (text rest : List ℕ) → text ≡ codes "next\n" ++ rest → ((l : Line) (after : List ℕ) → HasText l → rest ≡ line_text l ++ 10 ∷ after → ⊥)
    → StuckAt (Option Line) (HasNext true) (tail_lines true) text (length rest)
lemma-stuck text rest e never =
    record {
      before = codes "next" ∷ [];
      rest = rest;
      split = e;
      whole = (plain (codes "next") refl, tt);
      size = refl;
      some = Some blank_line;
      has = record { id = omega arith; lits = tt; hints = tt };
      next = line_text blank_line;
      more = codes "end" ∷ [];
      goes_on = refl;
      stuck = λ line after clean f n others has is. second line after f n others has is;
    }
  where
    second : (line after : List ℕ) → rest ≡ line ++ 10 ∷ after → (n : Option Line) (others : List (List ℕ)) → HasNext true n → tail_lines true n ≡ codes "next" ∷ line ∷ others → ⊥
    second line after f None others has is = none-or-some (head (codes "next none") (codes "next") (codes "end" ∷ []) (line ∷ others) is)
    second line after f (Some m) others has is =
        never m after has (f ∙ ap (λ l. l ++ 10 ∷ after) (sym (head (line_text m) line (codes "end" ∷ []) others (tail (codes "next") (codes "next") (line_text m ∷ codes "end" ∷ []) (line ∷ others) is))))

-- the end is missing behind the next lemma
pub lemma-end-stuck : (text rest behind : List ℕ) (l : Line) → text ≡ codes "next\n" ++ rest → HasText l → rest ≡ line_text l ++ 10 ∷ behind → ((after : List ℕ) → behind ≡ codes "end\n" ++ after → ⊥)
    → StuckAt (Option Line) (HasNext true) (tail_lines true) text (length behind)
lemma-end-stuck text rest behind l e h f never =
    record {
      before = codes "next" ∷ line_text l ∷ [];
      rest = behind;
      split = text-more text rest (line_text l) behind (codes "next" ∷ []) e f;
      whole = (plain (codes "next") refl, (feedless-line l h, tt));
      size = refl;
      some = Some l;
      has = h;
      next = codes "end";
      more = [];
      goes_on = refl;
      stuck = λ line after clean g n others has is. third line after g n others is;
    }
  where
    third : (line after : List ℕ) → behind ≡ line ++ 10 ∷ after → (n : Option Line) (others : List (List ℕ)) → tail_lines true n ≡ codes "next" ∷ line_text l ∷ line ∷ others → ⊥
    third line after g None others is = none-or-some (head (codes "next none") (codes "next") (codes "end" ∷ []) (line_text l ∷ line ∷ others) is)
    third line after g (Some m) others is =
        let second = tail (codes "next") (codes "next") (line_text m ∷ codes "end" ∷ []) (line_text l ∷ line ∷ others) is in
        never after (g ∙ ap (λ k. k ++ 10 ∷ after) (sym (head (codes "end") line [] others (tail (line_text m) (line_text l) (codes "end" ∷ []) (line ∷ others) second))))

pub end-stops : (text : List ℕ) (stop : Stop) → IsNoEnd text stop → StopsAt (Option Line) (HasNext false) (tail_lines false) text stop
end-stops text (Left left) h = subst (StuckAt (Option Line) (HasNext false) (tail_lines false) text) (sym h.0) (end-stuck text h.1)
end-stops text NoMemory h = tt

pub none-end-stops : (text rest : List ℕ) (stop : Stop) → text ≡ codes "next none\n" ++ rest → IsNoEnd rest stop → StopsAt (Option Line) (HasNext true) (tail_lines true) text stop
none-end-stops text rest (Left left) e h = subst (StuckAt (Option Line) (HasNext true) (tail_lines true) text) (sym h.0) (none-end-stuck text rest e h.1)
none-end-stops text rest NoMemory e h = tt

pub lemma-end-stops : (text rest behind : List ℕ) (l : Line) (stop : Stop) → text ≡ codes "next\n" ++ rest → HasText l → rest ≡ line_text l ++ 10 ∷ behind → IsNoEnd behind stop
    → StopsAt (Option Line) (HasNext true) (tail_lines true) text stop
lemma-end-stops text rest behind l (Left left) e h f n = subst (StuckAt (Option Line) (HasNext true) (tail_lines true) text) (sym n.0) (lemma-end-stuck text rest behind l e h f n.1)
lemma-end-stops text rest behind l NoMemory e h f n = tt

pub lemma-tail-read : (whole text behind after : List ℕ) (l : Line) → whole ≡ codes "next\n" ++ text → text ≡ line_text l ++ 10 ∷ behind → behind ≡ codes "end\n" ++ after → whole ≡ text_of_lines (tail_lines true (Some l)) ++ after
lemma-tail-read whole text behind after l e f g =
    text-more whole text (line_text l) behind (codes "next" ∷ []) e f ∙ ap (λ t. text_of_lines (codes "next" ∷ line_text l ∷ []) ++ t) g
    ∙ sym (append_assoc (text_of_lines (codes "next" ∷ line_text l ∷ [])) (codes "end\n") after)
    ∙ ap (λ t. t ++ after) (sym (text-append (codes "next" ∷ line_text l ∷ []) (codes "end" ∷ [])))

-- ---- stops among the proofs

abbrev with-first : Proof → Body → Body
with-first p b = (p ∷ b.0, b.1)

abbrev bare : Option Line → Body
bare next = ([], next)

module _ (asked : Bool) where
  -- a body that begins with a proof
  with-proof : (p : Proof) (ps : List Proof) (next : Option Line) → body_lines asked (p ∷ ps, next) ≡ proof_lines p ++ body_lines asked (ps, next)
  with-proof p ps next = append_assoc (proof_lines p) (flat_map proof_lines ps) (tail_lines asked next)

  pub proof-within : (query : Query) (text behind : List ℕ) (stop : Stop) → QueryFits query → text ≡ query_line query ++ 10 ∷ behind
      → StopsAt Proof (IsProofOf query) lines_behind_query behind stop → StopsAt Body (HasBody asked) (body_lines asked) text stop
  proof-within query text behind stop fits e s =
      stops-within Body Proof (HasBody asked) (IsProofOf query) (body_lines asked) lines_behind_query (query_line query ∷ []) text behind stop
      (feedless-query query fits, tt) (e ∙ text-first (query_line query) behind)
      (λ p h. record {
        whole = (p ∷ [], None);
        has = ((h.has, tt), no-next asked);
        more = tail_lines asked None;
        lines_are = with-proof p [] None ∙ ap (λ q. query_line q ∷ (lines_behind_query p ++ tail_lines asked None)) h.is;
      })
      (λ x others h is. back x.0 x.1 others h is)
      (behind-free query) s
    where
      back : (ps : List Proof) (next : Option Line) (others : List (List ℕ)) → HasBody asked (ps, next) → body_lines asked (ps, next) ≡ query_line query ∷ others → IsPart Proof (IsProofOf query) lines_behind_query others
      back [] next others h is = absurd (tail-first asked next query (query_line query) others [] (append-nil (tail_lines asked next) ∙ is) refl)
      back (p ∷ ps) next others h is =
          let whole = sym (with-proof p ps next) ∙ is in
          let first = same-query p.query query h.0.0.query fits (head (query_line p.query) (query_line query) (lines_behind_query p ++ body_lines asked (ps, next)) others whole) in
          record {
            part = p;
            has = record { is = first; has = h.0.0 };
            more = body_lines asked (ps, next);
            lines_are = sym (tail (query_line p.query) (query_line query) (lines_behind_query p ++ body_lines asked (ps, next)) others whole);
          }

  pub one-body : IsOne Body (HasBody asked) (body_lines asked)
  one-body x y ls ms hx hy e = go x.0 x.1 y.0 y.1 hx hy e
    where
      go : (ps : List Proof) (n : Option Line) (qs : List Proof) (m : Option Line) → HasBody asked (ps, n) → HasBody asked (qs, m)
          → body_lines asked (ps, n) ++ ls ≡ body_lines asked (qs, m) ++ ms → (◌≡◌ {A = Body} (ps, n) (qs, m)) × (ls ≡ ms)
      go [] n [] m hx hy e = (let t = one-tail asked n m ls ms hx.1 hy.1 e in (ap (λ (k : Option Line). bare k) t.0, t.1))
      go [] n (q ∷ qs) m hx hy e =
          absurd (tail-first asked n q.query (query_line q.query) ((lines_behind_query q ++ body_lines asked (qs, m)) ++ ms) ls (e ∙ ap (λ l. l ++ ms) (with-proof q qs m)) refl)
      go (p ∷ ps) n [] m hx hy e =
          absurd (tail-first asked m p.query (query_line p.query) ((lines_behind_query p ++ body_lines asked (ps, n)) ++ ls) ms (sym e ∙ ap (λ l. l ++ ls) (with-proof p ps n)) refl)
      go (p ∷ ps) n (q ∷ qs) m hx hy e =
          let whole : proof_lines p ++ (body_lines asked (ps, n) ++ ls) ≡ proof_lines q ++ (body_lines asked (qs, m) ++ ms) =
          sym (append_assoc (proof_lines p) (body_lines asked (ps, n)) ls) ∙ ap (λ l. l ++ ls) (sym (with-proof p ps n)) ∙ e ∙ ap (λ l. l ++ ms) (with-proof q qs m)
          ∙ append_assoc (proof_lines q) (body_lines asked (qs, m)) ms in
          let first = one-proof p q (body_lines asked (ps, n) ++ ls) (body_lines asked (qs, m) ++ ms) hx.0.0 hy.0.0 whole in
          let rest = go ps n qs m (hx.0.1, hx.1) (hy.0.1, hy.1) first.1 in
          (ap (λ (b : Body). with-first p b) rest.0 ∙ ap (λ (x : Proof). with-first x (qs, m)) first.0, rest.1)

  -- behind the first proofs there is a body
  body-back : (ps qs : List Proof) (next : Option Line) (others : List (List ℕ)) → AllByRecursion HasProofText ps → HasBody asked (qs, next) → body_lines asked (qs, next) ≡ flat_map proof_lines ps ++ others
      → IsPart Body (HasBody asked) (body_lines asked) others
  body-back [] qs next others a h is = record { part = (qs, next); has = h; more = []; lines_are = sym is ∙ sym (append-nil (body_lines asked (qs, next))) }
  body-back (p ∷ ps) [] next others a h is =
      absurd (tail-first asked next p.query (query_line p.query) ((lines_behind_query p ++ flat_map proof_lines ps) ++ others) [] (append-nil (tail_lines asked next) ∙ is) refl)
  body-back (p ∷ ps) (q ∷ qs) next others a h is =
      let whole = sym (with-proof q qs next) ∙ is ∙ append_assoc (proof_lines p) (flat_map proof_lines ps) others in
      let first = one-proof q p (body_lines asked (qs, next)) (flat_map proof_lines ps ++ others) h.0.0 a.0 whole in
      body-back ps qs next others a.1 (h.0.1, h.1) first.1

  pub body-under : (ps : List Proof) (text rest : List ℕ) (stop : Stop) → AllByRecursion HasProofText ps → text ≡ text_of_lines (flat_map proof_lines ps) ++ rest
      → StopsAt Body (HasBody asked) (body_lines asked) rest stop → StopsAt Body (HasBody asked) (body_lines asked) text stop
  body-under ps text rest stop a e s =
      stops-within Body Body (HasBody asked) (HasBody asked) (body_lines asked) (body_lines asked) (flat_map proof_lines ps) text rest stop
      (feedless-proofs ps a) e
      (λ b h. record {
        whole = (ps ++ b.0, b.1);
        has = (all-append HasProofText ps b.0 a h.0, h.1);
        more = [];
        lines_are = ap (λ l. l ++ tail_lines asked b.1) (flat_map-append proof_lines ps b.0) ∙ append_assoc (flat_map proof_lines ps) (flat_map proof_lines b.0) (tail_lines asked b.1)
            ∙ ap (λ l. flat_map proof_lines ps ++ l) (sym (append-nil (body_lines asked b)));
      })
      (λ x others h is. body-back ps x.0 x.1 others a h is)
      (one-free Body (HasBody asked) (body_lines asked) one-body) s

  -- where no query stands, what stops behind the proofs stops in the body
  tail-stuck : (text : List ℕ) (left : ℕ) → IsNoQuery text → StuckAt (Option Line) (HasNext asked) (tail_lines asked) text left → StuckAt Body (HasBody asked) (body_lines asked) text left
  tail-stuck text left none s =
      record {
        before = s.before;
        rest = s.rest;
        split = s.split;
        whole = s.whole;
        size = s.size;
        some = ([], s.some);
        has = (tt, s.has);
        next = s.next;
        more = s.more;
        goes_on = s.goes_on;
        stuck = λ line after clean e x others has is. go x.0 x.1 line after clean e others has is;
      }
    where
      first : (before : List (List ℕ)) (rest line after : List ℕ) (p : Proof) (more others : List (List ℕ)) → text ≡ text_of_lines before ++ rest → rest ≡ line ++ 10 ∷ after → QueryFits p.query
          → (next : List ℕ) (behind : List (List ℕ)) → tail_lines asked s.some ≡ before ++ next ∷ behind → query_line p.query ∷ more ≡ before ++ line ∷ others → ⊥
      first [] rest line after p more others split e fits next behind on is = none p.query after fits (split ∙ e ∙ ap (λ l. l ++ 10 ∷ after) (sym (head (query_line p.query) line more others is)))
      first (b ∷ before) rest line after p more others split e fits next behind on is =
          tail-first asked s.some p.query b (before ++ next ∷ behind) [] (append-nil (tail_lines asked s.some) ∙ on) (sym (head (query_line p.query) b more (before ++ line ∷ others) is))

      go : (ps : List Proof) (n : Option Line) (line after : List ℕ) → NoFeed line → s.rest ≡ line ++ 10 ∷ after → (others : List (List ℕ)) → HasBody asked (ps, n) → body_lines asked (ps, n) ≡ s.before ++ line ∷ others → ⊥
      go [] n line after clean e others has is = s.stuck line after clean e n others has.1 is
      go (p ∷ ps) n line after clean e others has is =
          first s.before s.rest line after p (lines_behind_query p ++ body_lines asked (ps, n)) others s.split e has.0.0.query s.next s.more s.goes_on (sym (with-proof p ps n) ∙ is)

  pub tail-within : (text : List ℕ) (stop : Stop) → IsNoQuery text → StopsAt (Option Line) (HasNext asked) (tail_lines asked) text stop → StopsAt Body (HasBody asked) (body_lines asked) text stop
  tail-within text (Left left) none s = tail-stuck text left none s
  tail-within text NoMemory none s = tt

  pub body-read : (text rest after : List ℕ) (ps : List Proof) (next : Option Line) → text ≡ text_of_lines (flat_map proof_lines ps) ++ rest → rest ≡ text_of_lines (tail_lines asked next) ++ after
      → text ≡ text_of_lines (body_lines asked (ps, next)) ++ after
  body-read text rest after ps next e f =
      e ∙ ap (λ t. text_of_lines (flat_map proof_lines ps) ++ t) f ∙ sym (append_assoc (text_of_lines (flat_map proof_lines ps)) (text_of_lines (tail_lines asked next)) after)
      ∙ ap (λ t. t ++ after) (sym (text-append (flat_map proof_lines ps) (tail_lines asked next)))

-- ---- one more proof

pub proofs-fit : (ps : List Proof) (p : Proof) → AllByRecursion HasProofText ps → HasProofText p → AllByRecursion HasProofText (ps ++ p ∷ [])
proofs-fit ps p a h = all-append HasProofText ps (p ∷ []) a (h, tt)

pub proofs-more : (query : Query) (text rest behind after : List ℕ) (ps : List Proof) (p : Proof) → text ≡ text_of_lines (flat_map proof_lines ps) ++ rest → rest ≡ query_line query ++ 10 ∷ behind → p.query ≡ query
    → behind ≡ text_of_lines (lines_behind_query p) ++ after → text ≡ text_of_lines (flat_map proof_lines (ps ++ p ∷ [])) ++ after
proofs-more query text rest behind after ps p split e is f =
    let whole : rest ≡ text_of_lines (proof_lines p) ++ after =
    e ∙ ap (λ q. query_line q ++ 10 ∷ behind) (sym is) ∙ text-first (query_line p.query) behind ∙ ap (λ t. text_of_lines (query_line p.query ∷ []) ++ t) f
    ∙ sym (append_assoc (text_of_lines (query_line p.query ∷ [])) (text_of_lines (lines_behind_query p)) after) ∙ ap (λ t. t ++ after) (sym (text-append (query_line p.query ∷ []) (lines_behind_query p))) in
    let lines : flat_map proof_lines (ps ++ p ∷ []) ≡ flat_map proof_lines ps ++ proof_lines p =
    flat_map-append proof_lines ps (p ∷ []) ∙ ap (λ l. flat_map proof_lines ps ++ l) (append-nil (proof_lines p)) in
    split ∙ ap (λ t. text_of_lines (flat_map proof_lines ps) ++ t) whole ∙ sym (append_assoc (text_of_lines (flat_map proof_lines ps)) (text_of_lines (proof_lines p)) after)
    ∙ ap (λ t. t ++ after) (sym (text-append (flat_map proof_lines ps) (proof_lines p)) ∙ ap text_of_lines (sym lines))

-- less is left behind a proof
pub proof-shorter : (query : Query) (rest behind after : List ℕ) (p : Proof) → rest ≡ query_line query ++ 10 ∷ behind → behind ≡ text_of_lines (lines_behind_query p) ++ after → length after < length rest
proof-shorter query rest behind after p e f =
    let one = ap length e ∙ length-append (query_line query) (10 ∷ behind) in
    let two = ap length f ∙ length-append (text_of_lines (lines_behind_query p)) after in
    omega (arith, one, two)

pub none-tail-read : (text rest after : List ℕ) → text ≡ codes "next none\n" ++ rest → rest ≡ codes "end\n" ++ after → HasNext true None × (text ≡ text_of_lines (tail_lines true None) ++ after)
none-tail-read text rest after e f = (tt, e ∙ ap (λ t. codes "next none\n" ++ t) f)
