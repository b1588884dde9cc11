-- A report determines its verdict.
use Rattle.std.proofs.Common.{◌≡◌, ℕ, ◌+◌, ◌==◌, List, [], ◌++◌, get_or, append_assoc, Bool, true, false, Option, Some, None, refl, sym, ap, subst, ◌∙◌, arith}
use Rattle.std.specs.Prelude.{codes}
use Rattle.std.proofs.lemmas.List.{append_cancel_left}
use Rattle.pv_place.specs.declared.trap.TrapKind.{TrapKind}
use Rattle.pv_place.specs.declared.trap.TrapKind.TheVariants.{DivideByZero, Index, Unset}
use Rattle.pv_mean.specs.declared.cell.Cell.{Cell}
use Rattle.pv_mean.specs.Frames.{stored_cells, free_cells}
use Rattle.pv_case.specs.declared.case.PatternKind.{PatternKind}
use Rattle.pv_case.specs.declared.case.PatternKind.TheVariants as kind
use Rattle.pv_case.specs.declared.case.Limits.{Limits}
use Rattle.pv_claims.specs.Lines.{NoFeed}
use Rattle.pv_claims.specs.declared.claim.Claim.{Claim}
use Rattle.pv_claims.specs.declared.claim.Claim.TheVariants.{Satisfied, Unreachable, Violated, Trapped, Reached, Depth, Loop, Lemmas, Region}
use Rattle.pv_cert.specs.declared.proof.Query.{Query}
use Rattle.pv_cert.specs.declared.proof.Query.TheVariants.{Base, Step}
use Rattle.pv_claims.specs.declared.trace.Ending.{Ending}
use Rattle.pv_claims.specs.declared.trace.Ending.TheVariants as ending
use Rattle.pv_claims.specs.declared.trace.Trace.{Trace}
use Rattle.pv_claims.proofs.ForCallers.{cut-one}
use Rattle.pv_report.specs.declared.verdict.Verdict.{Verdict}
use Rattle.pv_report.specs.Words.{trap_word, head_text}
use Rattle.pv_report.specs.Places.{Lines, place_text}
use Rattle.pv_report.specs.Reports.{image_lines, scan_lines, trace_lines, mark_word, prev_line, state_lines, ending_text, ending_line, query_line, numbered, claim_lines, shown_lines, report_text}
use Rattle.pv_report.specs.Correct.{AreFiles, EndsIn, IsRun, IsMark, IsStretch, IsSome, IsTrap, IsOver, IsAsked, Shows, IsVerdictOf}
use Rattle.pv_report.proofs.Cuts.{both_without, place_feed, cut_front, numbered_cut, values_cut, scans_cut, same_place}

-- ---- endings

trap_feed : (k : TrapKind) → NoFeed (trap_word k)
trap_feed DivideByZero = search arith
trap_feed Index = search arith
trap_feed Unset = search arith

-- different words begin with different letters
trap_same : (k l : TrapKind) (x y : List ℕ) → trap_word k ++ x ≡ trap_word l ++ y → (k ≡ l) × (x ≡ y)
trap_same DivideByZero DivideByZero x y e = (refl, append_cancel_left (codes "DivideByZero") x y e)
trap_same Index Index x y e = (refl, append_cancel_left (codes "Index") x y e)
trap_same Unset Unset x y e = (refl, append_cancel_left (codes "Unset") x y e)
trap_same DivideByZero Index x y e = let d : 68 ≡ 73 = ap (λ l. get_or l 0 0) e in absurd (omega (arith, d))
trap_same DivideByZero Unset x y e = let d : 68 ≡ 85 = ap (λ l. get_or l 0 0) e in absurd (omega (arith, d))
trap_same Index DivideByZero x y e = let d : 73 ≡ 68 = ap (λ l. get_or l 0 0) e in absurd (omega (arith, d))
trap_same Index Unset x y e = let d : 73 ≡ 85 = ap (λ l. get_or l 0 0) e in absurd (omega (arith, d))
trap_same Unset DivideByZero x y e = let d : 85 ≡ 68 = ap (λ l. get_or l 0 0) e in absurd (omega (arith, d))
trap_same Unset Index x y e = let d : 85 ≡ 73 = ap (λ l. get_or l 0 0) e in absurd (omega (arith, d))

module _ (files : List Lines) (are : AreFiles files) where
  ending_feed : (e : Ending) → EndsIn files e → NoFeed (ending_text files e)
  ending_feed ending.Pattern at = search arith
  ending_feed (ending.Trap k place) at =
      both_without 10 (codes "trap ") (trap_word k ++ (codes " " ++ place_text files place)) (search arith)
      (both_without 10 (trap_word k) (codes " " ++ place_text files place) (trap_feed k)
      (both_without 10 (codes " ") (place_text files place) (search arith) (place_feed files place are at)))
  ending_feed (ending.Over place) at =
      both_without 10 (codes "over ") (place_text files place) (search arith) (place_feed files place are at)

  ending_same : (e f : Ending) → EndsIn files e → EndsIn files f → ending_text files e ≡ ending_text files f → e ≡ f
  ending_same ending.Pattern ending.Pattern a b h = refl
  ending_same ending.Pattern (ending.Trap k p) a b h = let d : 112 ≡ 116 = ap (λ l. get_or l 0 0) h in absurd (omega (arith, d))
  ending_same ending.Pattern (ending.Over p) a b h = let d : 112 ≡ 111 = ap (λ l. get_or l 0 0) h in absurd (omega (arith, d))
  ending_same (ending.Trap k p) ending.Pattern a b h = let d : 116 ≡ 112 = ap (λ l. get_or l 0 0) h in absurd (omega (arith, d))
  ending_same (ending.Trap k p) (ending.Trap l q) a b h =
      let word = trap_same k l (codes " " ++ place_text files p) (codes " " ++ place_text files q)
      (append_cancel_left (codes "trap ") (trap_word k ++ (codes " " ++ place_text files p)) (trap_word l ++ (codes " " ++ place_text files q)) h) in
      let place = same_place files p q are a b (append_cancel_left (codes " ") (place_text files p) (place_text files q) word.1) in
      ap (λ z. ending.Trap z p) word.0 ∙ ap (λ z. ending.Trap l z) place
  ending_same (ending.Trap k p) (ending.Over q) a b h = let d : 116 ≡ 111 = ap (λ l. get_or l 0 0) h in absurd (omega (arith, d))
  ending_same (ending.Over p) ending.Pattern a b h = let d : 111 ≡ 112 = ap (λ l. get_or l 0 0) h in absurd (omega (arith, d))
  ending_same (ending.Over p) (ending.Trap l q) a b h = let d : 111 ≡ 116 = ap (λ l. get_or l 0 0) h in absurd (omega (arith, d))
  ending_same (ending.Over p) (ending.Over q) a b h =
      ap (λ z. ending.Over z)
      (same_place files p q are a b (append_cancel_left (codes "over ") (place_text files p) (place_text files q) h))

  ending_cut : (front : List ℕ) (e f : Option Ending) (x y : List ℕ) → IsSome (EndsIn files) e → IsSome (EndsIn files) f
      → ending_line front files e ++ x ≡ ending_line front files f ++ y → (e ≡ f) × (x ≡ y)
  ending_cut front None f x y a b h = absurd a
  ending_cut front (Some e) None x y a b h = absurd b
  ending_cut front (Some e) (Some f) x y a b h =
      let parts = cut_front front (ending_text files e ++ codes "\n") (ending_text files f ++ codes "\n") x y h in
      let cut = cut-one (ending_text files e) (ending_text files f) x y (ending_feed e a) (ending_feed f b)
      (sym (append_assoc (ending_text files e) (codes "\n") x) ∙ parts ∙ append_assoc (ending_text files f) (codes "\n") y) in
      (ap (λ z. Some z) (ending_same e f a b cut.0), cut.1)

trap_ends : (files : List Lines) (e : Option Ending) → IsSome (IsTrap files) e → IsSome (EndsIn files) e
trap_ends files None h = h
trap_ends files (Some ending.Pattern) h = absurd h
trap_ends files (Some (ending.Trap k p)) h = h
trap_ends files (Some (ending.Over p)) h = absurd h

over_ends : (files : List Lines) (e : Option Ending) → IsSome (IsOver files) e → IsSome (EndsIn files) e
over_ends files None h = h
over_ends files (Some ending.Pattern) h = absurd h
over_ends files (Some (ending.Trap k p)) h = absurd h
over_ends files (Some (ending.Over p)) h = h

-- ---- queries

query_same : (q r : Option Query) → IsSome IsAsked q → IsSome IsAsked r → query_line q ≡ query_line r → q ≡ r
query_same None r a b e = absurd a
query_same (Some q) None a b e = absurd b
query_same (Some (Base k)) (Some (Base m)) a b e =
    ap (λ n. Some (Base n)) (numbered_cut (codes "query base ") k m [] [] a b (ap (λ l. l ++ []) e)).0
query_same (Some (Step k)) (Some (Step m)) a b e =
    ap (λ n. Some (Step n)) (numbered_cut (codes "query step ") k m [] [] a b (ap (λ l. l ++ []) e)).0
query_same (Some (Base k)) (Some (Step m)) a b e = let d : 98 ≡ 115 = ap (λ l. get_or l 6 0) e in absurd (omega (arith, d))
query_same (Some (Step k)) (Some (Base m)) a b e = let d : 115 ≡ 98 = ap (λ l. get_or l 6 0) e in absurd (omega (arith, d))

-- ---- traces

trace_is : (t u : Trace) → t.image ≡ u.image → t.prev ≡ u.prev → t.params ≡ u.params → t.inputs ≡ u.inputs → t ≡ u
trace_is t u image prev params inputs =
    ap (λ z. record { image = z; prev = t.prev; params = t.params; inputs = t.inputs }) image
    ∙ ap (λ z. record { image = u.image; prev = z; params = t.params; inputs = t.inputs }) prev
    ∙ ap (λ z. record { image = u.image; prev = u.prev; params = z; inputs = t.inputs }) params
    ∙ ap (λ z. record { image = u.image; prev = u.prev; params = u.params; inputs = z }) inputs

run_is : (cells : List Cell) (n m : ℕ) (t u : Trace) → n ≡ m → IsRun cells n t → IsRun cells m u
    → trace_lines cells (Some t) ≡ trace_lines cells (Some u) → t ≡ u
run_is cells n m t u same a b e =
    let params = values_cut (codes "param ") (free_cells cells) t.params u.params (scan_lines cells 1 t.inputs) (scan_lines cells 1 u.inputs)
    a.params b.params e in
    let inputs = scans_cut cells 1 t.inputs u.inputs [] [] a.inputs b.inputs (a.count ∙ same ∙ sym b.count) (ap (λ l. l ++ []) params.1) in
    trace_is t u (a.image ∙ sym b.image) (a.prev ∙ sym b.prev) params.0 inputs.0

run_same : (cells : List Cell) (n m : ℕ) (t u : Option Trace) → n ≡ m → IsSome (IsRun cells n) t → IsSome (IsRun cells m) u
    → trace_lines cells t ≡ trace_lines cells u → t ≡ u
run_same cells n m None u same a b e = absurd a
run_same cells n m (Some t) None same a b e = absurd b
run_same cells n m (Some t) (Some u) same a b e = ap (λ z. Some z) (run_is cells n m t u same a b e)

mark_cut : (p q : Option Bool) (x y : List ℕ) → (mark_word p ++ codes "\n") ++ x ≡ (mark_word q ++ codes "\n") ++ y → (p ≡ q) × (x ≡ y)
mark_cut None None x y e = (refl, append_cancel_left (codes "none\n") x y e)
mark_cut (Some false) (Some false) x y e = (refl, append_cancel_left (codes "0\n") x y e)
mark_cut (Some true) (Some true) x y e = (refl, append_cancel_left (codes "1\n") x y e)
mark_cut None (Some false) x y e = let d : 110 ≡ 48 = ap (λ l. get_or l 0 0) e in absurd (omega (arith, d))
mark_cut None (Some true) x y e = let d : 110 ≡ 49 = ap (λ l. get_or l 0 0) e in absurd (omega (arith, d))
mark_cut (Some false) None x y e = let d : 48 ≡ 110 = ap (λ l. get_or l 0 0) e in absurd (omega (arith, d))
mark_cut (Some false) (Some true) x y e = let d : 48 ≡ 49 = ap (λ l. get_or l 0 0) e in absurd (omega (arith, d))
mark_cut (Some true) None x y e = let d : 49 ≡ 110 = ap (λ l. get_or l 0 0) e in absurd (omega (arith, d))
mark_cut (Some true) (Some false) x y e = let d : 49 ≡ 48 = ap (λ l. get_or l 0 0) e in absurd (omega (arith, d))

prev_cut : (k : PatternKind) (p q : Option Bool) (x y : List ℕ) → IsMark k p → IsMark k q → prev_line k p ++ x ≡ prev_line k q ++ y
    → (p ≡ q) × (x ≡ y)
prev_cut kind.Invariant p q x y a b e = (a ∙ sym b, e)
prev_cut kind.Forbidden p q x y a b e = (a ∙ sym b, e)
prev_cut kind.Implication p q x y a b e = (a ∙ sym b, e)
prev_cut kind.Within p q x y a b e = (a ∙ sym b, e)
prev_cut kind.Between p q x y a b e =
    mark_cut p q x y (cut_front (codes "prev ") (mark_word p ++ codes "\n") (mark_word q ++ codes "\n") x y e)
prev_cut kind.Reach p q x y a b e = (a ∙ sym b, e)

state_is : (k : PatternKind) (cells : List Cell) (n m : ℕ) (t u : Trace) → n ≡ m → IsStretch k cells n t → IsStretch k cells m u
    → state_lines k cells (Some t) ≡ state_lines k cells (Some u) → t ≡ u
state_is k cells n m t u same a b e =
    let prev = prev_cut k t.prev u.prev (image_lines cells t.image ++ scan_lines cells 1 t.inputs)
    (image_lines cells u.image ++ scan_lines cells 1 u.inputs) a.prev b.prev e in
    let image = values_cut (codes "image ") (stored_cells cells) a.image b.image (scan_lines cells 1 t.inputs) (scan_lines cells 1 u.inputs)
    a.values b.values
    (ap (λ i. image_lines cells i ++ scan_lines cells 1 t.inputs) (sym a.is_image) ∙ prev.1
    ∙ ap (λ i. image_lines cells i ++ scan_lines cells 1 u.inputs) b.is_image) in
    let inputs = scans_cut cells 1 t.inputs u.inputs [] [] a.inputs b.inputs (a.count ∙ same ∙ sym b.count) (ap (λ l. l ++ []) image.1) in
    trace_is t u (a.is_image ∙ ap (λ i. Some i) image.0 ∙ sym b.is_image) prev.0 (a.params ∙ sym b.params) inputs.0

state_same : (k : PatternKind) (cells : List Cell) (n m : ℕ) (t u : Option Trace) → n ≡ m → IsSome (IsStretch k cells n) t
    → IsSome (IsStretch k cells m) u → state_lines k cells t ≡ state_lines k cells u → t ≡ u
state_same k cells n m None u same a b e = absurd a
state_same k cells n m (Some t) None same a b e = absurd b
state_same k cells n m (Some t) (Some u) same a b e = ap (λ z. Some z) (state_is k cells n m t u same a b e)

-- ---- which claim it is, by letters of its lines

data Tag : Type 0 where
  satisfied : Tag
  unreachable : Tag
  violated : Tag
  trapped : Tag
  reached : Tag
  depth : Tag
  loop : Tag
  lemmas : Tag
  region : Tag

abbrev tag_of : Claim → Tag
tag_of (Satisfied k) = satisfied
tag_of (Unreachable k) = unreachable
tag_of (Violated n) = violated
tag_of (Trapped n) = trapped
tag_of (Reached n) = reached
tag_of (Depth k) = depth
tag_of (Loop n) = loop
tag_of (Lemmas b) = lemmas
tag_of (Region x) = region

abbrev number_of : Claim → ℕ
number_of (Satisfied k) = k
number_of (Unreachable k) = k
number_of (Violated n) = n
number_of (Trapped n) = n
number_of (Reached n) = n
number_of (Depth k) = k
number_of (Loop n) = n
number_of (Lemmas b) = b
number_of (Region x) = x

abbrev claim_from : Tag → ℕ → Claim
claim_from satisfied n = Satisfied n
claim_from unreachable n = Unreachable n
claim_from violated n = Violated n
claim_from trapped n = Trapped n
claim_from reached n = Reached n
claim_from depth n = Depth n
claim_from loop n = Loop n
claim_from lemmas n = Lemmas n
claim_from region n = Region n

claim_back : (c : Claim) → c ≡ claim_from (tag_of c) (number_of c)
claim_back (Satisfied k) = refl
claim_back (Unreachable k) = refl
claim_back (Violated n) = refl
claim_back (Trapped n) = refl
claim_back (Reached n) = refl
claim_back (Depth k) = refl
claim_back (Loop n) = refl
claim_back (Lemmas b) = refl
claim_back (Region x) = refl

abbrev limit_by : ℕ → ℕ → Tag
limit_by first second = elim (first == 100) [
  | true ↦ depth
  | false ↦ elim (first == 114) [ true ↦ region | false ↦ elim (second == 111) [ true ↦ loop | false ↦ lemmas ] ]
]

abbrev tag_by : ℕ → ℕ → Tag → Tag
tag_by first third limit = elim (first == 115) [
  | true ↦ satisfied
  | false ↦ elim (first == 118) [
    | true ↦ violated
    | false ↦ elim (first == 116) [
      | true ↦ trapped
      | false ↦ elim (first == 114) [ true ↦ reached | false ↦ elim (third == 114) [ true ↦ unreachable | false ↦ limit ] ]
    ]
  ]
]

abbrev read_tag : List ℕ → Tag
read_tag text = tag_by (get_or text 8 0) (get_or text 10 0) (limit_by (get_or text 24 0) (get_or text 25 0))

tag_read : (limits : Limits) (c : Claim) (rest : List ℕ) → read_tag (claim_lines limits c ++ rest) ≡ tag_of c
tag_read limits (Satisfied k) rest = refl
tag_read limits (Unreachable k) rest = refl
tag_read limits (Violated n) rest = refl
tag_read limits (Trapped n) rest = refl
tag_read limits (Reached n) rest = refl
tag_read limits (Depth k) rest = refl
tag_read limits (Loop n) rest = refl
tag_read limits (Lemmas b) rest = refl
tag_read limits (Region x) rest = refl

-- ---- verdicts of one kind of claim

record AreSame (c d : Claim) (v w : Verdict) : Type 0 where
  claim : c ≡ d
  trace : v.trace ≡ w.trace
  ending : v.ending ≡ w.ending
  query : v.query ≡ w.query

module _ (limits : Limits) (k : PatternKind) (cells : List Cell) (files : List Lines) (are : AreFiles files) (v w : Verdict) where
  abbrev Is : Claim → Verdict → Type 0
  Is c x = Shows limits k cells files c x

  abbrev says : Claim → Verdict → List ℕ
  says c x = claim_lines limits c ++ shown_lines k cells files c x

  by_satisfied : (n m : ℕ) → Is (Satisfied n) v → Is (Satisfied m) w → says (Satisfied n) v ≡ says (Satisfied m) w
      → AreSame (Satisfied n) (Satisfied m) v w
  by_satisfied n m a b e =
      let cut = numbered_cut (codes "verdict satisfied\nk ") n m [] [] a.0 b.0 e in
      record {
        claim = ap (λ z. Satisfied z) cut.0;
        trace = (a.1).trace ∙ sym (b.1).trace;
        ending = (a.1).ending ∙ sym (b.1).ending;
        query = (a.1).query ∙ sym (b.1).query;
      }

  by_unreachable : (n m : ℕ) → Is (Unreachable n) v → Is (Unreachable m) w → says (Unreachable n) v ≡ says (Unreachable m) w
      → AreSame (Unreachable n) (Unreachable m) v w
  by_unreachable n m a b e =
      let cut = numbered_cut (codes "verdict unreachable\nk ") n m [] [] a.0 b.0 e in
      record {
        claim = ap (λ z. Unreachable z) cut.0;
        trace = (a.1).trace ∙ sym (b.1).trace;
        ending = (a.1).ending ∙ sym (b.1).ending;
        query = (a.1).query ∙ sym (b.1).query;
      }

  by_violated : (n m : ℕ) → Is (Violated n) v → Is (Violated m) w → says (Violated n) v ≡ says (Violated m) w
      → AreSame (Violated n) (Violated m) v w
  by_violated n m a b e =
      let cut = numbered_cut (codes "verdict violated\nscan ") n m (trace_lines cells v.trace) (trace_lines cells w.trace) a.0 b.0 e in
      record {
        claim = ap (λ z. Violated z) cut.0;
        trace = run_same cells n m v.trace w.trace cut.0 (a.1).trace (b.1).trace cut.1;
        ending = (a.1).ending ∙ sym (b.1).ending;
        query = (a.1).query ∙ sym (b.1).query;
      }

  by_reached : (n m : ℕ) → Is (Reached n) v → Is (Reached m) w → says (Reached n) v ≡ says (Reached m) w
      → AreSame (Reached n) (Reached m) v w
  by_reached n m a b e =
      let cut = numbered_cut (codes "verdict reached\nscan ") n m (trace_lines cells v.trace) (trace_lines cells w.trace) a.0 b.0 e in
      record {
        claim = ap (λ z. Reached z) cut.0;
        trace = run_same cells n m v.trace w.trace cut.0 (a.1).trace (b.1).trace cut.1;
        ending = (a.1).ending ∙ sym (b.1).ending;
        query = (a.1).query ∙ sym (b.1).query;
      }

  by_trapped : (n m : ℕ) → Is (Trapped n) v → Is (Trapped m) w → says (Trapped n) v ≡ says (Trapped m) w
      → AreSame (Trapped n) (Trapped m) v w
  by_trapped n m a b e =
      let cut = numbered_cut (codes "verdict trapped\nscan ") n m (ending_line [] files v.ending ++ trace_lines cells v.trace)
      (ending_line [] files w.ending ++ trace_lines cells w.trace) a.0 b.0 e in
      let end = ending_cut files are [] v.ending w.ending (trace_lines cells v.trace) (trace_lines cells w.trace)
      (trap_ends files v.ending (a.1).ending) (trap_ends files w.ending (b.1).ending) cut.1 in
      record {
        claim = ap (λ z. Trapped z) cut.0;
        trace = run_same cells n m v.trace w.trace cut.0 (a.1).trace (b.1).trace end.1;
        ending = end.0;
        query = (a.1).query ∙ sym (b.1).query;
      }

  by_depth : (n m : ℕ) → Is (Depth n) v → Is (Depth m) w → says (Depth n) v ≡ says (Depth m) w → AreSame (Depth n) (Depth m) v w
  by_depth n m a b e =
      let same : n ≡ m = a.0 ∙ sym b.0 in
      let shown = append_cancel_left (numbered (codes "verdict undecided\nlimit depth ") limits.depth)
      (shown_lines k cells files (Depth n) v) (shown_lines k cells files (Depth m) w) e in
      let end = ending_cut files are (codes "cause ") v.ending w.ending (state_lines k cells v.trace) (state_lines k cells w.trace)
      (a.1).ending (b.1).ending shown in
      record {
        claim = ap (λ z. Depth z) same;
        trace = state_same k cells (n + 1) (m + 1) v.trace w.trace (ap (λ z. z + 1) same) (a.1).trace (b.1).trace end.1;
        ending = end.0;
        query = (a.1).query ∙ sym (b.1).query;
      }

  by_loop : (n m : ℕ) → Is (Loop n) v → Is (Loop m) w → says (Loop n) v ≡ says (Loop m) w → AreSame (Loop n) (Loop m) v w
  by_loop n m a b e =
      let cut = numbered_cut (codes "scan ") n m (ending_line [] files v.ending ++ trace_lines cells v.trace)
      (ending_line [] files w.ending ++ trace_lines cells w.trace) a.0 b.0
      (cut_front (numbered (codes "verdict undecided\nlimit loop ") limits.loop_bound) (numbered (codes "scan ") n) (numbered (codes "scan ") m)
      (ending_line [] files v.ending ++ trace_lines cells v.trace) (ending_line [] files w.ending ++ trace_lines cells w.trace) e) in
      let end = ending_cut files are [] v.ending w.ending (trace_lines cells v.trace) (trace_lines cells w.trace)
      (over_ends files v.ending (a.1).ending) (over_ends files w.ending (b.1).ending) cut.1 in
      record {
        claim = ap (λ z. Loop z) cut.0;
        trace = run_same cells n m v.trace w.trace cut.0 (a.1).trace (b.1).trace end.1;
        ending = end.0;
        query = (a.1).query ∙ sym (b.1).query;
      }

  by_lemmas : (n m : ℕ) → Is (Lemmas n) v → Is (Lemmas m) w → says (Lemmas n) v ≡ says (Lemmas m) w → AreSame (Lemmas n) (Lemmas m) v w
  by_lemmas n m a b e =
      let shown = append_cancel_left (numbered (codes "verdict undecided\nlimit lemmas ") limits.lemmas) (query_line v.query)
      (query_line w.query) e in
      record {
        claim = ap (λ z. Lemmas z) (a.0 ∙ sym b.0);
        trace = (a.1).trace ∙ sym (b.1).trace;
        ending = (a.1).ending ∙ sym (b.1).ending;
        query = query_same v.query w.query (a.1).query (b.1).query shown;
      }

  by_region : (n m : ℕ) → Is (Region n) v → Is (Region m) w → says (Region n) v ≡ says (Region m) w → AreSame (Region n) (Region m) v w
  by_region n m a b e =
      let cut = numbered_cut (codes "need ") n m (query_line v.query) (query_line w.query) a.0 b.0
      (cut_front (numbered (codes "verdict undecided\nlimit region ") limits.region_words) (numbered (codes "need ") n)
      (numbered (codes "need ") m) (query_line v.query) (query_line w.query) e) in
      record {
        claim = ap (λ z. Region z) cut.0;
        trace = (a.1).trace ∙ sym (b.1).trace;
        ending = (a.1).ending ∙ sym (b.1).ending;
        query = query_same v.query w.query (a.1).query (b.1).query cut.1;
      }

  -- a claim of the same kind, with its number
  abbrev Agrees : Claim → Claim → Type 0
  Agrees c d = Is c v → Is d w → says c v ≡ says d w → AreSame c d v w

  agree_by : (c : Claim) (m : ℕ) → Agrees c (claim_from (tag_of c) m)
  agree_by (Satisfied n) m = by_satisfied n m
  agree_by (Unreachable n) m = by_unreachable n m
  agree_by (Violated n) m = by_violated n m
  agree_by (Trapped n) m = by_trapped n m
  agree_by (Reached n) m = by_reached n m
  agree_by (Depth n) m = by_depth n m
  agree_by (Loop n) m = by_loop n m
  agree_by (Lemmas n) m = by_lemmas n m
  agree_by (Region n) m = by_region n m

  agree : (c d : Claim) → Agrees c d
  agree c d a b e =
      let tags : tag_of c ≡ tag_of d =
      sym (tag_read limits c (shown_lines k cells files c v)) ∙ ap read_tag e ∙ tag_read limits d (shown_lines k cells files d w) in
      let is : claim_from (tag_of c) (number_of d) ≡ d = ap (λ t. claim_from t (number_of d)) tags ∙ sym (claim_back d) in
      subst (λ x. Agrees c x) is (agree_by c (number_of d)) a b e

pub one_verdict : (name : List ℕ) (limits : Limits) (k : PatternKind) (cells : List Cell) (files : List Lines) (v w : Verdict)
    → AreFiles files → IsVerdictOf limits k cells files v → IsVerdictOf limits k cells files w
    → report_text name k limits cells files v ≡ report_text name k limits cells files w → v ≡ w
one_verdict name limits k cells files v w are a b e =
    let same = agree limits k cells files are v w v.claim w.claim a b
    (append_cancel_left (head_text name k) (claim_lines limits v.claim ++ shown_lines k cells files v.claim v)
    (claim_lines limits w.claim ++ shown_lines k cells files w.claim w) e) in
    ap (λ z. record { claim = z; trace = v.trace; ending = v.ending; query = v.query }) same.claim
    ∙ ap (λ z. record { claim = w.claim; trace = z; ending = v.ending; query = v.query }) same.trace
    ∙ ap (λ z. record { claim = w.claim; trace = w.trace; ending = z; query = v.query }) same.ending
    ∙ ap (λ z. record { claim = w.claim; trace = w.trace; ending = w.ending; query = z }) same.query
