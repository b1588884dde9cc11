-- What reading line by line finds, as the text of traces says it.
use Rattle.std.proofs.Common.{◌≡◌, ℕ, zero, suc, ◌+◌, ◌<◌, ℤ, pos, negsuc, List, [], ◌∷◌, ◌++◌, length, drop, map, length-append, append_assoc, append-nil, refl, ap, subst, sym, ◌∙◌, arith, inl, inr, Option, Some, None, MatchOption, Result, Ok, Err}
use Rattle.std.specs.Prelude.{◌≤ℤ◌, codes, IfOk, IsErrAnd}
use Rattle.std.specs.List.{AllByRecursion}
use Rattle.std.proofs.lemmas.Int.{ints}
use Rattle.pv_claims.specs.declared.trace.Trace.{Trace}
use Rattle.pv_claims.specs.declared.fault.CertFault.{CertFault}
use Rattle.pv_claims.specs.declared.fault.CertFault.TheVariants.{NotACertificate, NoMemory}
use Rattle.pv_claims.specs.Lines.{text_of_lines, NoFeed}
use Rattle.pv_claims.proofs.ForCallers.{cut-one}
use Rattle.pv_trace.specs.TraceText.{values_text, params_line, scan_line, trace_lines, trace_text, Bounds, AreBetween, IsRange, IsTrace, IsTextOf, BeginsOne, FailsAt, IsUnlessNoMemory}
use Rattle.pv_trace.specs.Scans.{scan_lines, HasScans, IsNoScan, StopsAt, at_line, behind_end, ReadsScans, ReadsTrace}
use Rattle.pv_trace.proofs.Words.{one-values, cancel}
use Rattle.pv_trace.proofs.Lines.{cut-short, cut-whole, no-lines, text-push, first-of, tail-of, no-scan, head-plain, params-plain, scans-plain, with-end, lines-plain, onto}

-- ---- values behind a word

pub behind : (ranges : List Bounds) (line word rest : List ℕ) (found : Option (List ℤ)) → line ≡ word ++ rest
    → MatchOption found ((values : List ℤ) → AreBetween ranges values → rest ≡ values_text values → ⊥) (λ values. AreBetween ranges values × (rest ≡ values_text values))
    → MatchOption found ((values : List ℤ) → AreBetween ranges values → line ≡ word ++ values_text values → ⊥) (λ values. AreBetween ranges values × (line ≡ word ++ values_text values))
behind ranges line word rest None e none = λ values are is. none values are (cancel word rest (values_text values) (sym e ∙ is))
behind ranges line word rest (Some values) e some = (some.0, e ∙ ap (λ t. word ++ t) some.1)

-- ---- scans

pub no-scans : (ranges : List Bounds) (text : List ℕ) → HasScans ranges text text []
no-scans ranges text = record { within = tt; split = refl }

within-more : (ranges : List Bounds) (scans : List (List ℤ)) (values : List ℤ) → AllByRecursion (AreBetween ranges) scans → AreBetween ranges values → AllByRecursion (AreBetween ranges) (scans ++ values ∷ [])
within-more ranges [] values are is = (is, tt)
within-more ranges (s ∷ scans) values are is = (are.0, within-more ranges scans values are.1 is)

lines-more : (scans : List (List ℤ)) (values : List ℤ) → map scan_line (scans ++ values ∷ []) ≡ map scan_line scans ++ scan_line values ∷ []
lines-more [] values = refl
lines-more (s ∷ scans) values = ap (λ l. scan_line s ∷ l) (lines-more scans values)

-- one more scan
pub more-scans : (ranges : List Bounds) (text rest : List ℕ) (scans : List (List ℤ)) (values : List ℤ) (next after : List ℕ) → HasScans ranges text rest scans
    → rest ≡ next ++ 10 ∷ after → AreBetween ranges values → next ≡ scan_line values → HasScans ranges text after (scans ++ values ∷ [])
more-scans ranges text rest scans values next after so e are is =
    let lines = ap text_of_lines (lines-more scans values) ∙ text-push (map scan_line scans) (scan_line values) in
    record {
      within = within-more ranges scans values so.within are;
      split = so.split ∙ ap (λ r. text_of_lines (map scan_line scans) ++ r) (e ∙ ap (λ l. l ++ 10 ∷ after) is ∙ sym (append_assoc (scan_line values) (10 ∷ []) after))
          ∙ sym (append_assoc (text_of_lines (map scan_line scans)) (scan_line values ++ 10 ∷ []) after)
          ∙ ap (λ t. t ++ after) (sym lines);
    }

-- the end, with nothing behind it
pub ended : (ranges : List Bounds) (text rest : List ℕ) (scans : List (List ℤ)) (next after : List ℕ) → HasScans ranges text rest scans
    → rest ≡ next ++ 10 ∷ after → next ≡ codes "end" → after ≡ [] → text ≡ text_of_lines (scan_lines scans)
ended ranges text rest scans next after so e is none =
    so.split ∙ ap (λ r. text_of_lines (map scan_line scans) ++ r) (e ∙ ap (λ l. l ++ 10 ∷ after) is ∙ ap (λ l. codes "end" ++ 10 ∷ l) none)
    ∙ sym (text-push (map scan_line scans) (codes "end"))

pub over-ended : (ranges : List Bounds) (text rest : List ℕ) (scans : List (List ℤ)) (line : ℕ) (next after : List ℕ) → HasScans ranges text rest scans
    → rest ≡ next ++ 10 ∷ after → next ≡ codes "end" → (after ≡ [] → ⊥) → line ≡ length scans + 3 → StopsAt ranges text (line + 1)
over-ended ranges text rest scans line next after so e is some l =
    behind_end after scans
    (record {
      within = so.within;
      split = so.split ∙ ap (λ r. text_of_lines (map scan_line scans) ++ r) (e ∙ ap (λ l. l ++ 10 ∷ after) is);
    })
    (omega (arith, l)) some

pub stuck-at : (ranges : List Bounds) (text rest : List ℕ) (scans : List (List ℤ)) (line : ℕ) (next after : List ℕ) → HasScans ranges text rest scans
    → NoFeed next → rest ≡ next ++ 10 ∷ after → (next ≡ codes "end" → ⊥) → ((values : List ℤ) → AreBetween ranges values → next ≡ codes "scan" ++ values_text values → ⊥)
    → line ≡ length scans + 3 → StopsAt ranges text line
stuck-at ranges text rest scans line next after so plain e no-end none l =
    at_line rest scans so l
    (λ other behind plain' e'.
    let same = (cut-one other next behind after plain' plain (sym e' ∙ e)).0 in
    record {
      not_end = λ is. no-end (sym same ∙ is);
      not_scan = λ values are is. none values are (sym same ∙ is);
    })

feed-inside : (next after : List ℕ) → NoFeed (next ++ 10 ∷ after) → ⊥
feed-inside [] after plain = plain.0 refl
feed-inside (x ∷ next) after plain = feed-inside next after plain.1

pub no-line : (ranges : List Bounds) (text rest : List ℕ) (scans : List (List ℤ)) (line : ℕ) → HasScans ranges text rest scans → NoFeed rest → line ≡ length scans + 3 → StopsAt ranges text line
no-line ranges text rest scans line so plain l =
    at_line rest scans so l (λ next after plain' e. absurd (feed-inside next after (subst NoFeed e plain)))

-- ---- a text is that of one trace

scans-once : (ranges : List Bounds) (ss ts : List (List ℤ)) → AllByRecursion IsRange ranges → AllByRecursion (AreBetween ranges) ss → AllByRecursion (AreBetween ranges) ts
    → map scan_line ss ++ codes "end" ∷ [] ≡ map scan_line ts ++ codes "end" ∷ [] → ss ≡ ts
scans-once ranges [] [] are s t e = refl
scans-once ranges [] (t ∷ ts) are s t' e = absurd (no-scan t (first-of [] _ _ _ _ e))
scans-once ranges (s ∷ ss) [] are s' t e = absurd (no-scan s (sym (first-of [] _ _ _ _ e)))
scans-once ranges (s ∷ ss) (t ∷ ts) are s' t' e =
    let one = one-values ranges s t are s'.0 t'.0 (cancel (codes "scan") (values_text s) (values_text t) (first-of [] _ _ _ _ e)) in
    ap (λ v. v ∷ ss) one ∙ ap (λ vs. t ∷ vs) (scans-once ranges ss ts are s'.1 t'.1 (tail-of _ _ _ _ e))

by-parts : (t u : Trace) → t.image ≡ u.image → t.prev ≡ u.prev → t.params ≡ u.params → t.inputs ≡ u.inputs → t ≡ u
by-parts t u a b c d =
    ap (λ x. record { image = x; prev = t.prev; params = t.params; inputs = t.inputs }) a ∙ ap (λ x. record { image = u.image; prev = x; params = t.params; inputs = t.inputs }) b
    ∙ ap (λ x. record { image = u.image; prev = u.prev; params = x; inputs = t.inputs }) c ∙ ap (λ x. record { image = u.image; prev = u.prev; params = u.params; inputs = x }) d

pub one-trace : (params inputs : List Bounds) (bytes : List ℕ) (t u : Trace) → AllByRecursion IsRange params → AllByRecursion IsRange inputs
    → IsTextOf params inputs bytes t → IsTextOf params inputs bytes u → t ≡ u
one-trace params inputs bytes t u p i is is' =
    let cut = cut-whole (trace_lines t) (trace_lines u) [] (lines-plain params inputs t p i is.valid) (lines-plain params inputs u p i is'.valid)
    (append-nil (trace_text t) ∙ sym is.text ∙ is'.text ∙ sym (append-nil (trace_text u))) in
    let lines : trace_lines u ≡ trace_lines t = cut.lines ∙ ap (λ more. trace_lines t ++ more) (no-lines cut.more cut.rest) ∙ append-nil (trace_lines t) in
    let behind-head = tail-of _ _ _ _ lines in
    let same-params : u.params ≡ t.params = one-values params u.params t.params p is'.valid.params_within is.valid.params_within
    (cancel (codes "params") (values_text u.params) (values_text t.params) (first-of [] _ _ _ _ behind-head)) in
    let same-inputs : u.inputs ≡ t.inputs = scans-once inputs u.inputs t.inputs i is'.valid.inputs_within is.valid.inputs_within (tail-of _ _ _ _ behind-head) in
    by-parts t u (is.valid.image ∙ sym is'.valid.image) (is.valid.prev ∙ sym is'.valid.prev) (sym same-params) (sym same-inputs)

-- ---- where no trace goes on

lines-behind : (before more : List (List ℕ)) → AllByRecursion NoFeed (before ++ more) → AllByRecursion NoFeed more
lines-behind [] more plain = plain
lines-behind (l ∷ before) more plain = lines-behind before more plain.1

goes-on : (params inputs : List Bounds) (before : List (List ℕ)) (rest : List ℕ) (t : Trace) → IsTrace params inputs t → (more : List (List ℕ)) → trace_lines t ≡ before ++ more
    → rest ≡ text_of_lines more ++ [] → AllByRecursion NoFeed (before ++ more)
    → ((next after : List ℕ) → NoFeed next → rest ≡ next ++ 10 ∷ after → BeginsOne params inputs (before ++ next ∷ []) → ⊥)
    → (rest ≡ [] → (t : Trace) → IsTrace params inputs t → trace_lines t ≡ before → ⊥) → ⊥
goes-on params inputs before rest t is [] lines left plain stuck unfinished = unfinished left t is (lines ∙ append-nil before)
goes-on params inputs before rest t is (next ∷ more) lines left plain stuck unfinished =
    stuck next (text_of_lines more ++ []) (lines-behind before (next ∷ more) plain).0 (left ∙ onto next (text_of_lines more) [])
    (record { trace = t; valid = is; more = more; lines = lines ∙ sym (append_assoc before (next ∷ []) more) })

-- the line behind these is the first at fault, if no trace has these lines and another, or these alone where nothing is left
pub fails : (params inputs : List Bounds) (bytes : List ℕ) (before : List (List ℕ)) (rest : List ℕ) (line : ℕ) → AllByRecursion IsRange params → AllByRecursion IsRange inputs
    → bytes ≡ text_of_lines before ++ rest → AllByRecursion NoFeed before → line ≡ length before + 1 → BeginsOne params inputs before
    → ((next after : List ℕ) → NoFeed next → rest ≡ next ++ 10 ∷ after → BeginsOne params inputs (before ++ next ∷ []) → ⊥)
    → (rest ≡ [] → (t : Trace) → IsTrace params inputs t → trace_lines t ≡ before → ⊥)
    → FailsAt params inputs bytes line
fails params inputs bytes before rest line p i split whole number begins stuck unfinished =
    record {
      before = before;
      rest = rest;
      split = split;
      whole = whole;
      number = number;
      begins = begins;
      stuck = stuck;
      none = λ t is.
          (let plain = lines-plain params inputs t p i is.valid in
          let cut = cut-whole before (trace_lines t) rest whole plain (sym split ∙ is.text ∙ sym (append-nil (trace_text t))) in
          goes-on params inputs before rest t is.valid cut.more cut.lines cut.rest (subst (AllByRecursion NoFeed) cut.lines plain) stuck unfinished);
    }

no-less : (z : ℤ) → z ≤ℤ z
no-less (pos n) = omega (arith, ints)
no-less (negsuc n) = omega (arith, ints)

-- the least values of ranges
least-within : (ranges : List Bounds) → AllByRecursion IsRange ranges → AreBetween ranges (map (λ r. r.0) ranges)
least-within [] are = tt
least-within (r ∷ ranges) are = (record { from = no-less r.0; to = are.0.least }, least-within ranges are.1)

-- a trace without scans
abbrev bare : List ℤ → Trace
bare values = record { image = None; prev = None; params = values; inputs = [] }

bare-is : (params inputs : List Bounds) (values : List ℤ) → AreBetween params values → IsTrace params inputs (bare values)
bare-is params inputs values are = record { image = refl; prev = refl; params_within = are; inputs_within = tt }

-- no whole line that begins a trace
pub fails-first : (params inputs : List Bounds) (bytes : List ℕ) → AllByRecursion IsRange params → AllByRecursion IsRange inputs
    → ((next after : List ℕ) → NoFeed next → bytes ≡ next ++ 10 ∷ after → next ≡ codes "PLCVTRACE 1" → ⊥) → FailsAt params inputs bytes 1
fails-first params inputs bytes p i none =
    fails params inputs bytes [] bytes 1 p i refl tt refl
    (record { trace = bare (map (λ r. r.0) params); valid = bare-is params inputs _ (least-within params p); more = trace_lines (bare (map (λ r. r.0) params)); lines = refl })
    (λ next after plain e begins. none next after plain e (sym (first-of [] _ _ _ _ begins.lines)))
    (λ e t is lines. cc)

-- no whole line of parameters behind the head
pub fails-second : (params inputs : List Bounds) (bytes head rest : List ℕ) → AllByRecursion IsRange params → AllByRecursion IsRange inputs
    → bytes ≡ head ++ 10 ∷ rest → head ≡ codes "PLCVTRACE 1"
    → ((next after : List ℕ) → NoFeed next → rest ≡ next ++ 10 ∷ after → (values : List ℤ) → AreBetween params values → next ≡ params_line values → ⊥) → FailsAt params inputs bytes 2
fails-second params inputs bytes head rest p i e is none =
    fails params inputs bytes (codes "PLCVTRACE 1" ∷ []) rest 2 p i (e ∙ ap (λ h. h ++ 10 ∷ rest) is) (head-plain, tt) refl
    (record { trace = bare (map (λ r. r.0) params); valid = bare-is params inputs _ (least-within params p); more = drop 1 (trace_lines (bare (map (λ r. r.0) params))); lines = refl })
    (λ next after plain e begins. none next after plain e begins.trace.params begins.valid.params_within (sym (first-of [] _ _ _ _ (tail-of _ _ _ _ begins.lines))))
    (λ e t is lines. cc)

-- the lines before the scans
abbrev front : List ℤ → List (List ℤ) → List (List ℕ)
front values scans = codes "PLCVTRACE 1" ∷ params_line values ∷ map scan_line scans

next-line : (ranges : List Bounds) (ss ts : List (List ℤ)) (next : List ℕ) (more : List (List ℕ)) → AllByRecursion (AreBetween ranges) ts
    → map scan_line ts ++ codes "end" ∷ [] ≡ (map scan_line ss ++ next ∷ []) ++ more → IsNoScan ranges next → ⊥
next-line ranges [] [] next more within e other = other.not_end (sym (first-of [] _ _ _ _ e))
next-line ranges [] (t ∷ ts) next more within e other = other.not_scan t within.0 (sym (first-of [] _ _ _ _ e))
next-line ranges (s ∷ ss) [] next more within e other = absurd (no-scan s (first-of [] _ _ _ _ e))
next-line ranges (s ∷ ss) (t ∷ ts) next more within e other = next-line ranges ss ts next more within.1 (tail-of _ _ _ _ e) other

no-more : (ss ts : List (List ℤ)) (next : List ℕ) (more : List (List ℕ)) → map scan_line ts ++ codes "end" ∷ [] ≡ ((map scan_line ss ++ codes "end" ∷ []) ++ next ∷ []) ++ more → ⊥
no-more [] [] next more e = let rest : [] ≡ next ∷ more = tail-of _ _ _ _ e in cc
no-more [] (t ∷ ts) next more e = no-scan t (sym (first-of [] _ _ _ _ e))
no-more (s ∷ ss) [] next more e = no-scan s (first-of [] _ _ _ _ e)
no-more (s ∷ ss) (t ∷ ts) next more e = no-more ss ts next more (tail-of _ _ _ _ e)

not-ended : (ss ts : List (List ℤ)) → map scan_line ts ++ codes "end" ∷ [] ≡ map scan_line ss → ⊥
not-ended [] [] e = cc
not-ended [] (t ∷ ts) e = cc
not-ended (s ∷ ss) [] e = no-scan s (first-of [] _ _ _ _ e)
not-ended (s ∷ ss) (t ∷ ts) e = not-ended ss ts (tail-of _ _ _ _ e)

long-front : (scans : List (List ℤ)) → length (map scan_line scans) ≡ length scans
long-front [] = refl
long-front (s ∷ scans) = ap suc (long-front scans)

front-text : (values : List ℤ) (more rest : List ℕ) → ((codes "PLCVTRACE 1" ++ 10 ∷ []) ++ ((params_line values ++ 10 ∷ []) ++ more)) ++ rest ≡ codes "PLCVTRACE 1" ++ 10 ∷ (params_line values ++ 10 ∷ (more ++ rest))
front-text values more rest = onto (codes "PLCVTRACE 1") ((params_line values ++ 10 ∷ []) ++ more) rest ∙ ap (λ t. codes "PLCVTRACE 1" ++ 10 ∷ t) (onto (params_line values) more rest)

-- a fault among the scans
pub fails-later : (params inputs : List Bounds) (bytes head second text : List ℕ) (values : List ℤ) (line : ℕ) → AllByRecursion IsRange params → AllByRecursion IsRange inputs
    → bytes ≡ head ++ 10 ∷ (second ++ 10 ∷ text) → head ≡ codes "PLCVTRACE 1" → AreBetween params values → second ≡ params_line values → StopsAt inputs text line → FailsAt params inputs bytes line
fails-later params inputs bytes head second text values line p i e is are is' (at_line rest scans so number none) =
    fails params inputs bytes (front values scans) rest line p i
    (e ∙ ap (λ h. h ++ 10 ∷ (second ++ 10 ∷ text)) is ∙ ap (λ l. codes "PLCVTRACE 1" ++ 10 ∷ (l ++ 10 ∷ text)) is' ∙ ap (λ t. codes "PLCVTRACE 1" ++ 10 ∷ (params_line values ++ 10 ∷ t)) so.split
    ∙ sym (front-text values (text_of_lines (map scan_line scans)) rest))
    (head-plain, (params-plain params values p are, scans-plain inputs scans i so.within))
    (let long = long-front scans in omega (arith, number, long))
    (record {
      trace = record { image = None; prev = None; params = values; inputs = scans };
      valid = record { image = refl; prev = refl; params_within = are; inputs_within = so.within };
      more = codes "end" ∷ [];
      lines = refl;
    })
    (λ next after plain e begins. next-line inputs scans begins.trace.inputs next begins.more begins.valid.inputs_within (tail-of _ _ _ _ (tail-of _ _ _ _ begins.lines)) (none next after plain e))
    (λ e t is lines. not-ended scans t.inputs (tail-of _ _ _ _ (tail-of _ _ _ _ lines)))
fails-later params inputs bytes head second text values line p i e is are is' (behind_end rest scans so number some) =
    fails params inputs bytes (codes "PLCVTRACE 1" ∷ params_line values ∷ (map scan_line scans ++ codes "end" ∷ [])) rest line p i
    (e ∙ ap (λ h. h ++ 10 ∷ (second ++ 10 ∷ text)) is ∙ ap (λ l. codes "PLCVTRACE 1" ++ 10 ∷ (l ++ 10 ∷ text)) is' ∙ ap (λ t. codes "PLCVTRACE 1" ++ 10 ∷ (params_line values ++ 10 ∷ t))
    (so.split ∙ sym (append_assoc (text_of_lines (map scan_line scans)) (codes "end\n") rest) ∙ ap (λ t. t ++ rest) (sym (text-push (map scan_line scans) (codes "end"))))
    ∙ sym (front-text values (text_of_lines (map scan_line scans ++ codes "end" ∷ [])) rest))
    (head-plain, (params-plain params values p are, with-end inputs scans i so.within))
    (let long = long-front scans in let all = length-append (map scan_line scans) (codes "end" ∷ []) in omega (arith, number, long, all))
    (record {
      trace = record { image = None; prev = None; params = values; inputs = scans };
      valid = record { image = refl; prev = refl; params_within = are; inputs_within = so.within };
      more = [];
      lines = ap (λ ls. codes "PLCVTRACE 1" ∷ params_line values ∷ ls) (sym (append-nil (map scan_line scans ++ codes "end" ∷ [])));
    })
    (λ next after plain e begins. no-more scans begins.trace.inputs next begins.more (tail-of _ _ _ _ (tail-of _ _ _ _ begins.lines)))
    (λ e t is lines. some e)

-- what was read whole
pub read-whole : (params inputs : List Bounds) (bytes head second text : List ℕ) (values : List ℤ) (scans : List (List ℤ)) → bytes ≡ head ++ 10 ∷ (second ++ 10 ∷ text)
    → head ≡ codes "PLCVTRACE 1" → AreBetween params values → second ≡ params_line values → AllByRecursion (AreBetween inputs) scans → text ≡ text_of_lines (scan_lines scans)
    → IsTextOf params inputs bytes (record { image = None; prev = None; params = values; inputs = scans })
read-whole params inputs bytes head second text values scans e is are is' within whole =
    record {
      valid = record { image = refl; prev = refl; params_within = are; inputs_within = within };
      text = e ∙ ap (λ h. h ++ 10 ∷ (second ++ 10 ∷ text)) is ∙ ap (λ l. codes "PLCVTRACE 1" ++ 10 ∷ (l ++ 10 ∷ text)) is'
          ∙ ap (λ t. codes "PLCVTRACE 1" ++ 10 ∷ (params_line values ++ 10 ∷ t)) (whole ∙ sym (append-nil (text_of_lines (scan_lines scans))))
          ∙ sym (front-text values (text_of_lines (scan_lines scans)) []) ∙ append-nil _;
    }

-- ---- one line is at fault

no-longer : (params inputs : List Bounds) (bytes : List ℕ) (m n : ℕ) (f : FailsAt params inputs bytes m) (g : FailsAt params inputs bytes n) → m < n → (more : List (List ℕ))
    → g.before ≡ f.before ++ more → f.rest ≡ text_of_lines more ++ g.rest → ⊥
no-longer params inputs bytes m n f g lt [] lines rest =
    let long = ap length (lines ∙ append-nil f.before) in
    omega (arith, f.number, g.number, lt, long)
no-longer params inputs bytes m n f g lt (next ∷ more) lines rest =
    f.stuck next (text_of_lines more ++ g.rest) (lines-behind f.before (next ∷ more) (subst (AllByRecursion NoFeed) lines g.whole)).0
    (rest ∙ onto next (text_of_lines more) g.rest)
    (record {
      trace = g.begins.trace;
      valid = g.begins.valid;
      more = more ++ g.begins.more;
      lines = g.begins.lines ∙ ap (λ ls. ls ++ g.begins.more) lines ∙ append_assoc f.before (next ∷ more) g.begins.more ∙ sym (append_assoc f.before (next ∷ []) (more ++ g.begins.more));
    })

fault-within : (params inputs : List Bounds) (bytes : List ℕ) (m n : ℕ) → FailsAt params inputs bytes m → FailsAt params inputs bytes n → m < n → ⊥
fault-within params inputs bytes m n f g lt =
    let cut = cut-short f.before g.before f.rest g.rest f.whole g.whole (omega (arith, f.number, g.number, lt)) (sym f.split ∙ g.split) in
    no-longer params inputs bytes m n f g lt cut.more cut.lines cut.rest

apart : (m n : ℕ) → (m < n → ⊥) → (n < m → ⊥) → m ≡ n
apart zero zero a b = refl
apart zero (suc n) a b = absurd (a (omega arith))
apart (suc m) zero a b = absurd (b (omega arith))
apart (suc m) (suc n) a b = ap suc (apart m n (λ lt. a (omega (arith, lt))) (λ lt. b (omega (arith, lt))))

pub one-fault : (params inputs : List Bounds) (bytes : List ℕ) (m n : ℕ) → FailsAt params inputs bytes m → FailsAt params inputs bytes n → m ≡ n
one-fault params inputs bytes m n f g = apart m n (fault-within params inputs bytes m n f g) (fault-within params inputs bytes n m g f)

-- ---- the answer

pub reads-ok : (params inputs : List Bounds) (bytes : List ℕ) (r : Result Trace CertFault) → ReadsTrace params inputs bytes r → IfOk r (IsTextOf params inputs bytes)
reads-ok params inputs bytes (Ok t) h = h
reads-ok params inputs bytes (Err e) h = tt

pub reads-complete : (params inputs : List Bounds) (bytes : List ℕ) (r : Result Trace CertFault) → AllByRecursion IsRange params → AllByRecursion IsRange inputs → ReadsTrace params inputs bytes r
    → (t : Trace) → IsTextOf params inputs bytes t → IsUnlessNoMemory r (Ok t)
reads-complete params inputs bytes (Ok u) p i h t is = inl (ap (λ x. Ok x) (one-trace params inputs bytes u t p i h is))
reads-complete params inputs bytes (Err (NotACertificate line)) p i h t is = absurd (h.none t is)
reads-complete params inputs bytes (Err NoMemory) p i h t is = inr refl

pub reads-stuck : (params inputs : List Bounds) (bytes : List ℕ) (r : Result Trace CertFault) → ReadsTrace params inputs bytes r → (line : ℕ) → r ≡ Err (NotACertificate line) → FailsAt params inputs bytes line
reads-stuck params inputs bytes r h line is = subst (ReadsTrace params inputs bytes) is h

pub reads-refused : (params inputs : List Bounds) (bytes : List ℕ) (r : Result Trace CertFault) → ReadsTrace params inputs bytes r
    → (line : ℕ) → FailsAt params inputs bytes line → IsUnlessNoMemory r (Err (NotACertificate line))
reads-refused params inputs bytes (Ok t) h line f = absurd (f.none t h)
reads-refused params inputs bytes (Err (NotACertificate other)) h line f = inl (ap (λ n. Err (NotACertificate n)) (one-fault params inputs bytes other line h f))
reads-refused params inputs bytes (Err NoMemory) h line f = inr refl

-- ---- what a call that found nothing says

pub at-none : {A : Type 0} (N : Type 0) (S : A → Type 0) (o : Option A) → o ≡ None → MatchOption o N S → N
at-none N S None e n = n
at-none N S (Some x) e s = absurd cc

pub at-some : {A : Type 0} (N : Type 0) (S : A → Type 0) (o : Option A) (x : A) → o ≡ Some x → MatchOption o N S → S x
at-some N S None x e n = absurd cc
at-some N S (Some y) x e s = (let same : y ≡ x = cc in subst S same s)

-- what an answer that is an error says of the whole
pub later-fault : (params inputs : List Bounds) (bytes head second text : List ℕ) (values : List ℤ) (e : CertFault) → AllByRecursion IsRange params → AllByRecursion IsRange inputs
    → bytes ≡ head ++ 10 ∷ (second ++ 10 ∷ text) → head ≡ codes "PLCVTRACE 1" → AreBetween params values → second ≡ params_line values
    → ReadsScans inputs text (Err e) → ReadsTrace params inputs bytes (Err e)
later-fault params inputs bytes head second text values (NotACertificate line) p i e is are is' stops = fails-later params inputs bytes head second text values line p i e is are is' stops
later-fault params inputs bytes head second text values NoMemory p i e is are is' stops = tt

pub no-whole-line : (text next after : List ℕ) → NoFeed text → text ≡ next ++ 10 ∷ after → ⊥
no-whole-line text next after plain e = feed-inside next after (subst NoFeed e plain)

-- the first whole line of a text is one
pub other-line : (text next after next' after' : List ℕ) → NoFeed next → NoFeed next' → text ≡ next ++ 10 ∷ after → text ≡ next' ++ 10 ∷ after' → next ≡ next'
other-line text next after next' after' plain plain' e e' = (cut-one next next' after after' plain plain' (sym e ∙ e')).0

-- an error is handed on as it is
pub passed-on : (params inputs : List Bounds) (bytes : List ℕ) (r : Result Trace CertFault) (e : CertFault) → IsErrAnd r (λ x. x ≡ e) → ReadsTrace params inputs bytes (Err e) → ReadsTrace params inputs bytes r
passed-on params inputs bytes (Ok t) e is h = absurd is
passed-on params inputs bytes (Err x) e is h = subst (λ f. ReadsTrace params inputs bytes (Err f)) (sym is) h
