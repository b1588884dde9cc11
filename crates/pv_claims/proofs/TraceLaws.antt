-- The trace part of a certificate.
use Rattle.std.proofs.Common.{◌≡◌, ℕ, ◌+◌, ◌<◌, ◌==◌, ℤ, Bool, true, false, List, [], ◌∷◌, ◌++◌, length, get_or, map, append_assoc, append-nil, refl, ap, ◌∙◌, sym, arith, Option, Some, None}
use Rattle.std.specs.Prelude.{codes}
use Rattle.std.specs.List.{AllByRecursion}
use Rattle.std.proofs.lemmas.Bool.{false≢true}
use Rattle.pv_claims.specs.declared.claim.TraceForm.{TraceForm}
use Rattle.pv_claims.specs.declared.claim.TraceForm.TheVariants.{Nothing, Run, Stretch}
use Rattle.pv_claims.specs.declared.trace.Trace.{Trace}
use Rattle.pv_claims.specs.declared.stop.Stop.{Stop}
use Rattle.pv_claims.specs.Lines.{text_of_lines, NoFeed, StuckAt, StopsAt, HasMany}
use Rattle.pv_claims.specs.TracePart.{AllFit, BeginFits, HasTrace, values_text, params_line, image_line, scan_line, prev_line, begin_lines, trace_lines}
use Rattle.pv_claims.proofs.LineLaws.{all-append, plain, feedless-append, head, tail, text-append, text-more, text-first}
use Rattle.pv_claims.proofs.NumberLaws.{cancel}
use Rattle.pv_claims.proofs.ValueLaws.{values-plain, values-one}
use Rattle.pv_claims.proofs.PartLaws.{copies, long-copies, all-copies, IsOne, stops-within, many-plain, many-stuck, many-free, many-one, one-then}

-- ---- lines of values

scan-plain : (values : List ℤ) → AllFit values → NoFeed (scan_line values)
scan-plain values h = feedless-append (codes "scan") (values_text values) (plain (codes "scan") refl) (values-plain values h)

params-plain : (values : List ℤ) → AllFit values → NoFeed (params_line values)
params-plain values h = feedless-append (codes "params") (values_text values) (plain (codes "params") refl) (values-plain values h)

image-plain : (values : List ℤ) → AllFit values → NoFeed (image_line values)
image-plain values h = feedless-append (codes "image") (values_text values) (plain (codes "image") refl) (values-plain values h)

one-scan : (us vs : List ℤ) → AllFit us → AllFit vs → scan_line us ≡ scan_line vs → us ≡ vs
one-scan us vs a b e = values-one us vs a b (cancel (codes "scan") (values_text us) (values_text vs) e)

-- some scans, without values
some-scans : (count : ℕ) → (scans : List (List ℤ)) × HasMany (List ℤ) AllFit count scans
some-scans count = (copies count [], record { many = long-copies count []; each = all-copies AllFit count [] tt })

-- ---- scans

abbrev pub Scans : ℕ → List (List ℤ) → Type 0
Scans count scans = HasMany (List ℤ) AllFit count scans

pub scans-stuck : (count left : ℕ) (text rest : List ℕ) (scans : List (List ℤ)) → text ≡ text_of_lines (map scan_line scans) ++ rest → AllByRecursion AllFit scans → length scans + left ≡ count → 0 < left
    → ((values : List ℤ) (after : List ℕ) → AllFit values → rest ≡ (codes "scan" ++ values_text values) ++ 10 ∷ after → ⊥)
    → StuckAt (List (List ℤ)) (Scans count) (map scan_line) text (length rest)
scans-stuck count left text rest scans split are sum some never =
    many-stuck (List ℤ) AllFit scan_line scan-plain count text rest scans [] tt are (omega (arith, sum, some)) split never

lines-more : (scans : List (List ℤ)) (values : List ℤ) → map scan_line (scans ++ values ∷ []) ≡ map scan_line scans ++ scan_line values ∷ []
lines-more [] values = refl
lines-more (s ∷ scans) values = ap (λ l. scan_line s ∷ l) (lines-more scans values)

pub scans-more : (text rest after : List ℕ) (scans : List (List ℤ)) (values : List ℤ) → text ≡ text_of_lines (map scan_line scans) ++ rest → rest ≡ (codes "scan" ++ values_text values) ++ 10 ∷ after
    → text ≡ text_of_lines (map scan_line (scans ++ values ∷ [])) ++ after
scans-more text rest after scans values split e = text-more text rest (scan_line values) after (map scan_line scans) split e ∙ ap (λ ls. text_of_lines ls ++ after) (sym (lines-more scans values))

pub scans-fit : (scans : List (List ℤ)) (values : List ℤ) → AllByRecursion AllFit scans → AllFit values → AllByRecursion AllFit (scans ++ values ∷ [])
scans-fit scans values a h = all-append AllFit scans (values ∷ []) a (h, tt)

-- ---- a run from the start

abbrev run_of : List ℤ → List (List ℤ) → Option Trace
run_of params scans = Some (record { image = None; prev = None; params = params; inputs = scans })

pub has-run : (count : ℕ) (params : List ℤ) (scans : List (List ℤ)) → AllFit params → Scans count scans → HasTrace (Run count) (run_of params scans)
has-run count params scans p s = record { has_form = record { image = refl; prev = refl; scans = s.many }; fits = record { begin = p; inputs = s.each } }

-- the parts of a run
abbrev RunParts : ℕ → Option Trace → Type 0
RunParts count t = (params : List ℤ) × (scans : List (List ℤ)) × AllFit params × Scans count scans × (t ≡ run_of params scans)

run-fields : (count : ℕ) (image : Option (List ℤ)) (prev : Option Bool) (params : List ℤ) (inputs : List (List ℤ))
    → HasTrace (Run count) (Some (record { image = image; prev = prev; params = params; inputs = inputs })) → RunParts count (Some (record { image = image; prev = prev; params = params; inputs = inputs }))
run-fields count None None params inputs h = (params, inputs, h.fits.begin, record { many = h.has_form.scans; each = h.fits.inputs }, refl)
run-fields count None (Some p) params inputs h = absurd (let no = h.has_form.prev in cc)
run-fields count (Some i) prev params inputs h = absurd (let no = h.has_form.image in cc)

run-parts : (count : ℕ) (t : Option Trace) → HasTrace (Run count) t → RunParts count t
run-parts count None h = absurd h.has_form
run-parts count (Some t) h = run-fields count t.image t.prev t.params t.inputs h

pub run-stuck : (count : ℕ) (text : List ℕ) → ((values : List ℤ) (after : List ℕ) → AllFit values → text ≡ (codes "params" ++ values_text values) ++ 10 ∷ after → ⊥)
    → StuckAt (Option Trace) (HasTrace (Run count)) trace_lines text (length text)
run-stuck count text never =
    let scans = some-scans count in
    record {
      before = [];
      rest = text;
      split = refl;
      whole = tt;
      size = refl;
      some = run_of [] scans.0;
      has = has-run count [] scans.0 tt scans.1;
      next = params_line [];
      more = map scan_line scans.0;
      goes_on = refl;
      stuck = λ line after clean e t others has is.
          (let b = run-parts count t has in
          never b.0 after b.2 (e ∙ ap (λ l. l ++ 10 ∷ after) (sym (head (params_line b.0) line (map scan_line b.1) others (ap trace_lines (sym b.4) ∙ is)))));
    }

pub run-within : (count : ℕ) (text rest : List ℕ) (params : List ℤ) (stop : Stop) → AllFit params → text ≡ (codes "params" ++ values_text params) ++ 10 ∷ rest
    → StopsAt (List (List ℤ)) (Scans count) (map scan_line) rest stop → StopsAt (Option Trace) (HasTrace (Run count)) trace_lines text stop
run-within count text rest params stop p e s =
    stops-within (Option Trace) (List (List ℤ)) (HasTrace (Run count)) (Scans count) trace_lines (map scan_line) (params_line params ∷ []) text rest stop
    (params-plain params p, tt) (e ∙ text-first (params_line params) rest)
    (λ scans h. record { whole = run_of params scans; has = has-run count params scans p h; more = []; lines_are = ap (λ ls. params_line params ∷ ls) (sym (append-nil (map scan_line scans))) })
    (λ t others h is.
    (let b = run-parts count t h in
    let behind = tail (params_line b.0) (params_line params) (map scan_line b.1) others (ap trace_lines (sym b.4) ∙ is) in
    record { part = b.1; has = b.3; more = []; lines_are = sym behind ∙ sym (append-nil (map scan_line b.1)) }))
    (many-free (List ℤ) AllFit scan_line scan-plain count) s

pub run-read : (text rest after : List ℕ) (params : List ℤ) (scans : List (List ℤ)) → text ≡ (codes "params" ++ values_text params) ++ 10 ∷ rest → rest ≡ text_of_lines (map scan_line scans) ++ after
    → text ≡ text_of_lines (trace_lines (run_of params scans)) ++ after
run-read text rest after params scans e f =
    e ∙ text-first (params_line params) rest ∙ ap (λ t. text_of_lines (params_line params ∷ []) ++ t) f ∙ sym (append_assoc (text_of_lines (params_line params ∷ [])) (text_of_lines (map scan_line scans)) after)
    ∙ ap (λ t. t ++ after) (sym (text-append (params_line params ∷ []) (map scan_line scans)))

-- ---- a stretch from an image

abbrev stretch_of : List ℤ → Option Bool → List (List ℤ) → Option Trace
stretch_of image prev scans = Some (record { image = Some image; prev = prev; params = []; inputs = scans })

pub has-stretch : (count : ℕ) (image : List ℤ) (prev : Option Bool) (scans : List (List ℤ)) → AllFit image → Scans count scans → HasTrace (Stretch count) (stretch_of image prev scans)
has-stretch count image prev scans i s = record { has_form = record { image = (image, refl); params = refl; scans = s.many }; fits = record { begin = i; inputs = s.each } }

-- the parts of a stretch
record IsStretchOf (count : ℕ) (t : Option Trace) (lines : List (List ℕ)) : Type 0 where
  image : List ℤ
  prev : Option Bool
  scans : List (List ℤ)
  fits : AllFit image
  has : Scans count scans
  lines_are : lines ≡ image_line image ∷ prev_line prev ∷ map scan_line scans
  trace_is : t ≡ stretch_of image prev scans

stretch-fields : (count : ℕ) (image : Option (List ℤ)) (prev : Option Bool) (params : List ℤ) (inputs : List (List ℤ))
    → HasTrace (Stretch count) (Some (record { image = image; prev = prev; params = params; inputs = inputs }))
    → IsStretchOf count (Some (record { image = image; prev = prev; params = params; inputs = inputs })) (begin_lines image prev params ++ map scan_line inputs)
stretch-fields count None prev params inputs h = absurd (let no = h.has_form.image.1 in cc)
stretch-fields count (Some i) prev (v ∷ params) inputs h = absurd (let no = h.has_form.params in cc)
stretch-fields count (Some i) prev [] inputs h = record {
  image = i;
  prev = prev;
  scans = inputs;
  fits = h.fits.begin;
  has = record { many = h.has_form.scans; each = h.fits.inputs };
  lines_are = refl;
  trace_is = refl;
}

stretch-back : (count : ℕ) (t : Option Trace) → HasTrace (Stretch count) t → IsStretchOf count t (trace_lines t)
stretch-back count None h = absurd h.has_form
stretch-back count (Some t) h = stretch-fields count t.image t.prev t.params t.inputs h

pub stretch-stuck-first : (count : ℕ) (text : List ℕ) → ((values : List ℤ) (after : List ℕ) → AllFit values → text ≡ (codes "image" ++ values_text values) ++ 10 ∷ after → ⊥)
    → StuckAt (Option Trace) (HasTrace (Stretch count)) trace_lines text (length text)
stretch-stuck-first count text never =
    let scans = some-scans count in
    record {
      before = [];
      rest = text;
      split = refl;
      whole = tt;
      size = refl;
      some = stretch_of [] None scans.0;
      has = has-stretch count [] None scans.0 tt scans.1;
      next = image_line [];
      more = prev_line None ∷ map scan_line scans.0;
      goes_on = refl;
      stuck = λ line after clean e t others has is.
          (let b = stretch-back count t has in
          never b.image after b.fits (e ∙ ap (λ l. l ++ 10 ∷ after) (sym (head (image_line b.image) line (prev_line b.prev ∷ map scan_line b.scans) others (sym b.lines_are ∙ is)))));
    }

pub stretch-stuck-second : (count : ℕ) (text rest : List ℕ) (image : List ℤ) → AllFit image → text ≡ (codes "image" ++ values_text image) ++ 10 ∷ rest
    → ((prev : Option Bool) (after : List ℕ) → rest ≡ prev_line prev ++ 10 ∷ after → ⊥) → StuckAt (Option Trace) (HasTrace (Stretch count)) trace_lines text (length rest)
stretch-stuck-second count text rest image i e never =
    let scans = some-scans count in
    record {
      before = image_line image ∷ [];
      rest = rest;
      split = e ∙ text-first (image_line image) rest;
      whole = (image-plain image i, tt);
      size = refl;
      some = stretch_of image None scans.0;
      has = has-stretch count image None scans.0 i scans.1;
      next = prev_line None;
      more = map scan_line scans.0;
      goes_on = refl;
      stuck = λ line after clean f t others has is.
          (let b = stretch-back count t has in
          let behind = tail (image_line b.image) (image_line image) (prev_line b.prev ∷ map scan_line b.scans) (line ∷ others) (sym b.lines_are ∙ is) in
          never b.prev after (f ∙ ap (λ l. l ++ 10 ∷ after) (sym (head (prev_line b.prev) line (map scan_line b.scans) others behind))));
    }

prev-plain : (prev : Option Bool) → NoFeed (prev_line prev)
prev-plain None = plain (codes "prev none") refl
prev-plain (Some false) = plain (codes "prev 0") refl
prev-plain (Some true) = plain (codes "prev 1") refl

stretch-front : (text rest behind : List ℕ) (image : List ℤ) (prev : Option Bool) → text ≡ (codes "image" ++ values_text image) ++ 10 ∷ rest → rest ≡ prev_line prev ++ 10 ∷ behind
    → text ≡ text_of_lines (image_line image ∷ prev_line prev ∷ []) ++ behind
stretch-front text rest behind image prev e f = text-more text rest (prev_line prev) behind (image_line image ∷ []) (e ∙ text-first (image_line image) rest) f

pub stretch-within : (count : ℕ) (text rest behind : List ℕ) (image : List ℤ) (prev : Option Bool) (stop : Stop) → AllFit image → text ≡ (codes "image" ++ values_text image) ++ 10 ∷ rest → rest ≡ prev_line prev ++ 10 ∷ behind
    → StopsAt (List (List ℤ)) (Scans count) (map scan_line) behind stop → StopsAt (Option Trace) (HasTrace (Stretch count)) trace_lines text stop
stretch-within count text rest behind image prev stop i e f s =
    let front = image_line image ∷ prev_line prev ∷ [] in
    stops-within (Option Trace) (List (List ℤ)) (HasTrace (Stretch count)) (Scans count) trace_lines (map scan_line) front text behind stop
    (image-plain image i, (prev-plain prev, tt)) (stretch-front text rest behind image prev e f)
    (λ scans h. record { whole = stretch_of image prev scans; has = has-stretch count image prev scans i h; more = []; lines_are = ap (λ ls. front ++ ls) (sym (append-nil (map scan_line scans))) })
    (λ t others h is.
    (let b = stretch-back count t h in
    let second = tail (image_line b.image) (image_line image) (prev_line b.prev ∷ map scan_line b.scans) (prev_line prev ∷ others) (sym b.lines_are ∙ is) in
    record { part = b.scans; has = b.has; more = []; lines_are = sym (tail (prev_line b.prev) (prev_line prev) (map scan_line b.scans) others second) ∙ sym (append-nil (map scan_line b.scans)) }))
    (many-free (List ℤ) AllFit scan_line scan-plain count) s

pub stretch-read : (text rest behind after : List ℕ) (image : List ℤ) (prev : Option Bool) (scans : List (List ℤ)) → text ≡ (codes "image" ++ values_text image) ++ 10 ∷ rest → rest ≡ prev_line prev ++ 10 ∷ behind
    → behind ≡ text_of_lines (map scan_line scans) ++ after → text ≡ text_of_lines (trace_lines (stretch_of image prev scans)) ++ after
stretch-read text rest behind after image prev scans e f g =
    let front = image_line image ∷ prev_line prev ∷ [] in
    stretch-front text rest behind image prev e f ∙ ap (λ t. text_of_lines front ++ t) g ∙ sym (append_assoc (text_of_lines front) (text_of_lines (map scan_line scans)) after)
    ∙ ap (λ t. t ++ after) (sym (text-append front (map scan_line scans)))

-- ---- any trace part

fields-plain : (image : Option (List ℤ)) (prev : Option Bool) (params : List ℤ) (inputs : List (List ℤ)) → BeginFits image params → AllByRecursion AllFit inputs
    → AllByRecursion NoFeed (begin_lines image prev params ++ map scan_line inputs)
fields-plain None prev params inputs b a = (params-plain params b, many-plain (List ℤ) AllFit scan_line scan-plain inputs a)
fields-plain (Some i) prev params inputs b a = (image-plain i b, (prev-plain prev, many-plain (List ℤ) AllFit scan_line scan-plain inputs a))

pub trace-plain : (form : TraceForm) (t : Option Trace) → HasTrace form t → AllByRecursion NoFeed (trace_lines t)
trace-plain form None h = tt
trace-plain form (Some t) h = fields-plain t.image t.prev t.params t.inputs h.fits.begin h.fits.inputs

one-prev : (p q : Option Bool) → prev_line p ≡ prev_line q → p ≡ q
one-prev None None e = refl
one-prev None (Some false) e = (let differ : true ≡ false = ap (λ l. get_or l 5 0 == 110) e in absurd (false≢true (sym differ)))
one-prev None (Some true) e = (let differ : true ≡ false = ap (λ l. get_or l 5 0 == 110) e in absurd (false≢true (sym differ)))
one-prev (Some false) None e = (let differ : false ≡ true = ap (λ l. get_or l 5 0 == 110) e in absurd (false≢true differ))
one-prev (Some true) None e = (let differ : false ≡ true = ap (λ l. get_or l 5 0 == 110) e in absurd (false≢true differ))
one-prev (Some false) (Some false) e = refl
one-prev (Some false) (Some true) e = (let differ : true ≡ false = ap (λ l. get_or l 5 0 == 48) e in absurd (false≢true (sym differ)))
one-prev (Some true) (Some false) e = (let differ : false ≡ true = ap (λ l. get_or l 5 0 == 48) e in absurd (false≢true differ))
one-prev (Some true) (Some true) e = refl

one-stretch : (count : ℕ) → IsOne (Option Trace) (HasTrace (Stretch count)) trace_lines
one-stretch count t u ls ms h k e =
    let a = stretch-back count t h in
    let b = stretch-back count u k in
    let whole : image_line a.image ∷ prev_line a.prev ∷ (map scan_line a.scans ++ ls) ≡ image_line b.image ∷ prev_line b.prev ∷ (map scan_line b.scans ++ ms) =
    ap (λ xs. xs ++ ls) (sym a.lines_are) ∙ e ∙ ap (λ xs. xs ++ ms) b.lines_are in
    let second = tail (image_line a.image) (image_line b.image) (prev_line a.prev ∷ (map scan_line a.scans ++ ls)) (prev_line b.prev ∷ (map scan_line b.scans ++ ms)) whole in
    let images = values-one a.image b.image a.fits b.fits
    (cancel (codes "image") (values_text a.image) (values_text b.image) (head (image_line a.image) (image_line b.image) (prev_line a.prev ∷ (map scan_line a.scans ++ ls)) (prev_line b.prev ∷ (map scan_line b.scans ++ ms)) whole)) in
    let prevs = one-prev a.prev b.prev (head (prev_line a.prev) (prev_line b.prev) (map scan_line a.scans ++ ls) (map scan_line b.scans ++ ms) second) in
    let scans = many-one (List ℤ) AllFit scan_line scan-plain one-scan count a.scans b.scans ls ms a.has b.has
    (tail (prev_line a.prev) (prev_line b.prev) (map scan_line a.scans ++ ls) (map scan_line b.scans ++ ms) second) in
    (a.trace_is ∙ ap (λ i. stretch_of i a.prev a.scans) images ∙ ap (λ p. stretch_of b.image p a.scans) prevs ∙ ap (λ s. stretch_of b.image b.prev s) scans.0 ∙ sym b.trace_is, scans.1)

one-run : (count : ℕ) → IsOne (Option Trace) (HasTrace (Run count)) trace_lines
one-run count t u ls ms h k e =
    let a = run-parts count t h in
    let b = run-parts count u k in
    let whole : params_line a.0 ∷ (map scan_line a.1 ++ ls) ≡ params_line b.0 ∷ (map scan_line b.1 ++ ms) =
    ap (λ x. trace_lines x ++ ls) (sym a.4) ∙ e ∙ ap (λ x. trace_lines x ++ ms) b.4 in
    let params = values-one a.0 b.0 a.2 b.2 (cancel (codes "params") (values_text a.0) (values_text b.0) (head (params_line a.0) (params_line b.0) (map scan_line a.1 ++ ls) (map scan_line b.1 ++ ms) whole)) in
    let scans = many-one (List ℤ) AllFit scan_line scan-plain one-scan count a.1 b.1 ls ms a.3 b.3 (tail (params_line a.0) (params_line b.0) (map scan_line a.1 ++ ls) (map scan_line b.1 ++ ms) whole) in
    (a.4 ∙ ap (λ p. run_of p a.1) params ∙ ap (λ s. run_of b.0 s) scans.0 ∙ sym b.4, scans.1)

-- a trace part is told from another of its form, however they go on
pub one-trace : (form : TraceForm) → IsOne (Option Trace) (HasTrace form) trace_lines
one-trace Nothing t u ls ms h k e = one-then (Option Trace) trace_lines t u ls ms (h.has_form ∙ sym k.has_form) e
one-trace (Run count) t u ls ms h k e = one-run count t u ls ms h k e
one-trace (Stretch count) t u ls ms h k e = one-stretch count t u ls ms h k e

-- each form has a trace part
pub some-trace : (form : TraceForm) → (t : Option Trace) × HasTrace form t
some-trace Nothing = (None, record { has_form = refl; fits = tt })
some-trace (Run count) = (let scans = some-scans count in (run_of [] scans.0, has-run count [] scans.0 tt scans.1))
some-trace (Stretch count) = (let scans = some-scans count in (stretch_of [] None scans.0, has-stretch count [] None scans.0 tt scans.1))

-- ---- what the reader of `prev` answers

pub no-prev : (text : List ℕ) → ((rest : List ℕ) → text ≡ codes "prev none\n" ++ rest → ⊥) → ((rest : List ℕ) → text ≡ codes "prev 0\n" ++ rest → ⊥) → ((rest : List ℕ) → text ≡ codes "prev 1\n" ++ rest → ⊥)
    → (prev : Option Bool) (after : List ℕ) → text ≡ prev_line prev ++ 10 ∷ after → ⊥
no-prev text none off on None after e = none after e
no-prev text none off on (Some false) after e = off after e
no-prev text none off on (Some true) after e = on after e
