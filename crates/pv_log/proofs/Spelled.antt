-- Each text of a line is read whole, and what was read goes on to some line.
use Rattle.std.proofs.Common.{◌≡◌, ℕ, suc, get_or, ◌+◌, ◌-◌, ◌*◌, ◌/◌, ◌%◌, ◌^◌, ◌<◌, ◌≤◌, ◌&&◌, Bool, true, false, cond, eqb, leb, List, [], ◌∷◌, ◌++◌, length, take, drop, Option, Some, None, Result, Ok, Err, refl, sym, ap, subst, ◌∙◌, arith, inl, inr, append_assoc}
use Rattle.std.specs.Prelude.{codes, IfOk}
use Rattle.std.specs.Option.{option_map}
use Rattle.std.specs.List.{AllByRecursion}
use Rattle.std.specs.Fmt.{decimal}
use Rattle.std.proofs.lemmas.Fmt.{decimal_by_steps}
use Rattle.std.proofs.lemmas.List.{append-nil, take-append-drop, take_all, take-take}
use Rattle.std.proofs.lemmas.Bool.{cases_lt, cases_order, ne_eqb, le-leb, both_ways, eqb-true, eqb-false}
use Rattle.pv_cnf.specs.Literal.{is_negated}
use Rattle.pv_cnf.specs.Dimacs.{literal_text}
use Rattle.pv_log.specs.declared.line.Line.{Line}
use Rattle.pv_log.specs.declared.stage.Stage.{Stage}
use Rattle.pv_log.specs.declared.stage.Stage.TheVariants.{Start, Id, Literals, Minus, Literal, Break, Hints, Hint, End}
use Rattle.pv_log.specs.declared.fault.LratFault.{LratFault}
use Rattle.pv_log.specs.declared.fault.LratFault.TheVariants.{NotLrat, NoMemory}
use Rattle.pv_log.specs.LineText.{literals_text, hints_text, line_text, IsLiteral, IsHint, HasText, IsWritable, Spells, Begins, IsStuckAt, IsUnlessNoMemory}
use Rattle.pv_log.specs.Reading.{is_digit_from, with_digit, first_digit, code_of, after_byte, after_bytes, at_start, is_end, StopsAt, Reads}
use Rattle.pv_log.proofs.ReadingLaws.{onward, after_bytes-append, after-one, then-read}
use Rattle.pv_log.proofs.Spelling.{so_far, IsGood, some-is, start-good, digit-is, byte-other, bytes-lead}

-- ---- numbers are read

abbrev chosen : {X : Type 0} → X → Bool → Option X
chosen x b = cond b (Some x) None

first-reads : (least d : ℕ) → least ≤ 48 + d → d < 10 → first_digit least (48 + d) ≡ Some d
first-reads least d low high =
    ap (chosen (48 + d - 48)) (digit-is least (48 + d) low (omega arith)) ∙ ap (λ (k : ℕ). Some k) (omega arith)

more-reads : (greatest n d : ℕ) → 1 ≤ n → d < 10 → 10 * n + d ≤ greatest → with_digit greatest n (48 + d) ≡ Some (10 * n + d)
more-reads greatest n d some high fits =
    let back : 48 + d - 48 ≡ d = omega arith in
    ap (λ (k : ℕ). cond (leb 1 n && (is_digit_from 48 (48 + d) && leb (10 * n + k) greatest)) (Some (10 * n + k)) None) back
    ∙ ap (λ (b : Bool). cond (b && (is_digit_from 48 (48 + d) && leb (10 * n + d) greatest)) (Some (10 * n + d)) None) (le-leb 1 n some)
    ∙ ap (λ (b : Bool). cond (b && leb (10 * n + d) greatest) (Some (10 * n + d)) None) (digit-is 48 (48 + d) (omega arith) (omega arith))
    ∙ ap (chosen (10 * n + d)) (le-leb (10 * n + d) greatest fits)

module _ (line : Line) (start : Stage) (wrap : ℕ → Stage) (least greatest : ℕ) (small : least ≤ 1) (fits : greatest < 2 ^ 64)
    (first : (d : ℕ) → least ≤ d → d < 10 → after_byte (line, start) (48 + d) ≡ Some (line, wrap d))
    (more : (n d : ℕ) → 1 ≤ n → d < 10 → 10 * n + d ≤ greatest → after_byte (line, wrap n) (48 + d) ≡ Some (line, wrap (10 * n + d))) where
  ReadsSo : ℕ → List ℕ → Type 0
  ReadsSo n ds = least ≤ n → n ≤ greatest → after_bytes (line, start) ds ≡ Some (line, wrap n)

  one-reads : (n : ℕ) → n < 10 → ReadsSo n ((48 + n) ∷ [])
  unfolding ReadsSo
  one-reads n lt low high = after-one (line, start) (48 + n) ∙ first n low lt

  next-reads : (n : ℕ) (ds : List ℕ) → 10 ≤ n → ReadsSo (n / 10) ds → ReadsSo n (ds ++ (48 + n % 10) ∷ [])
  unfolding ReadsSo
  next-reads n ds ten front low high =
      let whole : 10 * (n / 10) + n % 10 ≡ n = omega arith in
      then-read (line, start) (line, wrap (n / 10)) ds ((48 + n % 10) ∷ []) (Some (line, wrap n)) (front (omega arith) (omega arith))
      (after-one (line, wrap (n / 10)) (48 + n % 10) ∙ more (n / 10) (n % 10) (omega arith) (omega arith) (omega arith) ∙ ap (λ (k : ℕ). Some (line, wrap k)) whole)

  pub number-reads : (n : ℕ) → least ≤ n → n ≤ greatest → after_bytes (line, start) (decimal n) ≡ Some (line, wrap n)
  unfolding ReadsSo
  number-reads n low high = decimal_by_steps ReadsSo one-reads next-reads n (omega arith) low high

not-blank : (d : ℕ) → eqb (48 + d) 32 ≡ false
not-blank d = ne_eqb (48 + d) 32 (λ e. omega arith)

abbrev at_stage : Line → Stage → Line × Stage
at_stage line stage = (line, stage)

id-reads : (line : Line) (n : ℕ) → n < 2 ^ 32 → after_bytes (line, Start) (decimal n) ≡ Some (line, Id n)
id-reads line n lt =
    number-reads line Start Id 0 4294967295 (omega arith) (omega arith)
    (λ d low high. byte-other line Start (48 + d) (not-blank d) ∙ ap (λ (o : Option ℕ). option_map (at_stage line) (option_map Id o)) (first-reads 48 d (omega arith) high))
    (λ k d some high fits. byte-other line (Id k) (48 + d) (not-blank d) ∙ ap (λ (o : Option ℕ). option_map (at_stage line) (option_map Id o)) (more-reads 4294967295 k d some high fits))
    n (omega arith) (omega arith)

hint-reads : (line : Line) (n : ℕ) → IsHint n → after_bytes (line, Hints) (decimal n) ≡ Some (line, Hint n)
hint-reads line n h =
    number-reads line Hints Hint 1 4294967295 (omega arith) (omega arith)
    (λ d low high. byte-other line Hints (48 + d) (not-blank d)
    ∙ ap (λ (b : Bool). option_map (at_stage line) (cond b (Some End) (option_map Hint (first_digit 49 (48 + d))))) (ne_eqb (48 + d) 48 (λ e. omega arith))
    ∙ ap (λ (o : Option ℕ). option_map (at_stage line) (option_map Hint o)) (first-reads 49 d (omega arith) high))
    (λ k d some high fits. byte-other line (Hint k) (48 + d) (not-blank d) ∙ ap (λ (o : Option ℕ). option_map (at_stage line) (option_map Hint o)) (more-reads 4294967295 k d some high fits))
    n h.0 (omega (arith, h.1))

variable-reads : (line : Line) (n : ℕ) → 1 ≤ n → n < 2 ^ 31 → after_bytes (line, Literals) (decimal n) ≡ Some (line, Literal false n)
variable-reads line n low lt =
    number-reads line Literals (Literal false) 1 2147483647 (omega arith) (omega arith)
    (λ d some high. byte-other line Literals (48 + d) (not-blank d)
    ∙ ap (λ (b : Bool). option_map (at_stage line) (cond b (Some Break) (cond (eqb (48 + d) 45) (Some Minus) (option_map (Literal false) (first_digit 49 (48 + d)))))) (ne_eqb (48 + d) 48 (λ e. omega arith))
    ∙ ap (λ (b : Bool). option_map (at_stage line) (cond b (Some Minus) (option_map (Literal false) (first_digit 49 (48 + d))))) (ne_eqb (48 + d) 45 (λ e. omega arith))
    ∙ ap (λ (o : Option ℕ). option_map (at_stage line) (option_map (Literal false) o)) (first-reads 49 d (omega arith) high))
    (λ k d some high fits. byte-other line (Literal false k) (48 + d) (not-blank d) ∙ ap (λ (o : Option ℕ). option_map (at_stage line) (option_map (Literal false) o)) (more-reads 2147483647 k d some high fits))
    n low (omega arith)

negation-reads : (line : Line) (n : ℕ) → 1 ≤ n → n < 2 ^ 31 → after_bytes (line, Minus) (decimal n) ≡ Some (line, Literal true n)
negation-reads line n low lt =
    number-reads line Minus (Literal true) 1 2147483647 (omega arith) (omega arith)
    (λ d some high. byte-other line Minus (48 + d) (not-blank d) ∙ ap (λ (o : Option ℕ). option_map (at_stage line) (option_map (Literal true) o)) (first-reads 49 d (omega arith) high))
    (λ k d some high fits. byte-other line (Literal true k) (48 + d) (not-blank d) ∙ ap (λ (o : Option ℕ). option_map (at_stage line) (option_map (Literal true) o)) (more-reads 2147483647 k d some high fits))
    n low (omega arith)

-- ---- lists are read

signed-reads : (line : Line) (negated : Bool) (n : ℕ) → 1 ≤ n → n < 2 ^ 31 → after_bytes (line, Literals) (cond negated (codes "-") [] ++ decimal n) ≡ Some (line, Literal negated n)
signed-reads line false n low lt = variable-reads line n low lt
signed-reads line true n low lt = negation-reads line n low lt

code-is : (lit : ℕ) (negated : Bool) → eqb (lit % 2) 1 ≡ negated → code_of negated (lit / 2) ≡ lit
code-is lit true e = (let odd = eqb-true (lit % 2) 1 e in omega arith)
code-is lit false e = (let even = eqb-false (lit % 2) 1 e in omega arith)

with_lits : Line → List ℕ → Line
with_lits line lits = record line { lits = lits }

literal-reads : (line : Line) (lit : ℕ) → IsLiteral lit → after_bytes (line, Literals) (literal_text lit ++ codes " ") ≡ Some (with_lits line (line.lits ++ lit ∷ []), Literals)
unfolding with_lits
literal-reads line lit h =
    then-read (line, Literals) (line, Literal (is_negated lit) (lit / 2)) (literal_text lit) (codes " ") (Some (with_lits line (line.lits ++ lit ∷ []), Literals))
    (signed-reads line (is_negated lit) (lit / 2) (omega (arith, h.0)) (omega (arith, h.1)))
    (after-one (line, Literal (is_negated lit) (lit / 2)) 32 ∙ ap (λ (k : ℕ). Some (with_lits line (line.lits ++ k ∷ []), Literals)) (code-is lit (is_negated lit) refl))

literals-read : (lits : List ℕ) (line : Line) → AllByRecursion IsLiteral lits → after_bytes (line, Literals) (literals_text lits) ≡ Some (with_lits line (line.lits ++ lits), Literals)
unfolding with_lits
literals-read [] line h = ap (λ (ls : List ℕ). Some (with_lits line ls, Literals)) (sym (append-nil line.lits))
literals-read (lit ∷ lits) line h =
    then-read (line, Literals) (with_lits line (line.lits ++ lit ∷ []), Literals) (literal_text lit ++ codes " ") (literals_text lits) (Some (with_lits line (line.lits ++ lit ∷ lits), Literals))
    (literal-reads line lit h.0)
    (literals-read lits (with_lits line (line.lits ++ lit ∷ [])) h.1 ∙ ap (λ (ls : List ℕ). Some (with_lits line ls, Literals)) (append_assoc line.lits (lit ∷ []) lits))

with_hints : Line → List ℕ → Line
with_hints line hints = record line { hints = hints }

hints-read : (hints : List ℕ) (line : Line) → AllByRecursion IsHint hints → after_bytes (line, Hints) (hints_text hints) ≡ Some (with_hints line (line.hints ++ hints), Hints)
unfolding with_hints
hints-read [] line h = ap (λ (hs : List ℕ). Some (with_hints line hs, Hints)) (sym (append-nil line.hints))
hints-read (hint ∷ hints) line h =
    then-read (line, Hints) (with_hints line (line.hints ++ hint ∷ []), Hints) (decimal hint ++ codes " ") (hints_text hints) (Some (with_hints line (line.hints ++ hint ∷ hints), Hints))
    (then-read (line, Hints) (line, Hint hint) (decimal hint) (codes " ") (Some (with_hints line (line.hints ++ hint ∷ []), Hints)) (hint-reads line hint h.0) (after-one (line, Hint hint) 32))
    (hints-read hints (with_hints line (line.hints ++ hint ∷ [])) h.1 ∙ ap (λ (hs : List ℕ). Some (with_hints line hs, Hints)) (append_assoc line.hints (hint ∷ []) hints))

-- the text of a line is read whole
pub line-reads : (line : Line) → HasText line → after_bytes at_start (line_text line) ≡ Some (line, End)
unfolding with_lits with_hints
line-reads line h =
    let none : Line = at_start.0 in
    let first : Line = record { id = line.id; lits = []; hints = [] } in
    let second : Line = record { id = line.id; lits = line.lits; hints = [] } in
    let r1 = id-reads none line.id h.id in
    let r2 = then-read at_start (none, Id line.id) (decimal line.id) (codes " ") (Some (first, Literals)) r1 (after-one (none, Id line.id) 32) in
    let r3 = then-read at_start (first, Literals) (decimal line.id ++ codes " ") (literals_text line.lits) (Some (second, Literals)) r2 (literals-read line.lits first h.lits) in
    let r4 = then-read at_start (second, Literals) (decimal line.id ++ codes " " ++ literals_text line.lits) (codes "0 ") (Some (second, Hints)) r3 refl in
    let r5 = then-read at_start (second, Hints) (decimal line.id ++ codes " " ++ literals_text line.lits ++ codes "0 ") (hints_text line.hints) (Some (line, Hints)) r4 (hints-read line.hints second h.hints) in
    then-read at_start (line, Hints) (decimal line.id ++ codes " " ++ literals_text line.lits ++ codes "0 " ++ hints_text line.hints) (codes "0") (Some (line, End)) r5 (after-one (line, Hints) 48)

-- ---- what was read goes on

begins-by : (front rest : List ℕ) (line : Line) → HasText line → front ++ rest ≡ line_text line → Begins front
begins-by front rest line h e = record { line = line; rest = rest; spells = record { valid = h; text = e } }

-- a stage from which more bytes lead on goes on as that one does
begins-before : (line : Line) (stage : Stage) (more : List ℕ) → Begins (so_far line stage ++ more) → Begins (so_far line stage)
begins-before line stage more b = record {
  line = b.line;
  rest = more ++ b.rest;
  spells = record { valid = b.spells.valid; text = sym (append_assoc (so_far line stage) more b.rest) ∙ b.spells.text };
}

goes-by : (line : Line) (stage : Stage) (more : List ℕ) (next : Line × Stage) → IsGood line stage → after_bytes (line, stage) more ≡ Some next → (IsGood next.0 next.1 → Begins (so_far next.0 next.1)) → Begins (so_far line stage)
goes-by line stage more next g e b =
    let leads = bytes-lead more line stage next g e in
    begins-before line stage more (subst Begins leads.1 (b leads.0))

goes-end : (line : Line) → IsGood line End → Begins (so_far line End)
goes-end line g = begins-by (so_far line End) [] line g.valid (append-nil (so_far line End))

goes-hints : (line : Line) → IsGood line Hints → Begins (so_far line Hints)
goes-hints line g = goes-by line Hints (codes "0") (line, End) g refl (goes-end line)

goes-break : (line : Line) → IsGood line Break → Begins (so_far line Break)
goes-break line g = goes-by line Break (codes " ") (line, Hints) g refl (goes-hints line)

goes-literals : (line : Line) → IsGood line Literals → Begins (so_far line Literals)
goes-literals line g = goes-by line Literals (codes "0") (line, Break) g refl (goes-break line)

pub good-begins : (line : Line) (stage : Stage) → IsGood line stage → Begins (so_far line stage)
good-begins line Start g = goes-by line Start (codes "0 ") (record line { id = 0 }, Literals) g refl (goes-literals (record line { id = 0 }))
good-begins line (Id n) g = goes-by line (Id n) (codes " ") (record line { id = n }, Literals) g refl (goes-literals (record line { id = n }))
good-begins line Literals g = goes-literals line g
good-begins line Minus g = goes-by line Minus (codes "1 ") (record line { lits = line.lits ++ 3 ∷ [] }, Literals) g refl (goes-literals (record line { lits = line.lits ++ 3 ∷ [] }))
good-begins line (Literal negated n) g = goes-by line (Literal negated n) (codes " ") (record line { lits = line.lits ++ code_of negated n ∷ [] }, Literals) g refl (goes-literals (record line { lits = line.lits ++ code_of negated n ∷ [] }))
good-begins line Break g = goes-break line g
good-begins line Hints g = goes-hints line g
good-begins line (Hint n) g = goes-by line (Hint n) (codes " ") (record line { hints = line.hints ++ n ∷ [] }, Hints) g refl (goes-hints (record line { hints = line.hints ++ n ∷ [] }))
good-begins line End g = goes-end line g

-- ---- the answers of a reader

onward-some : (o : Option (Line × Stage)) (rest : List ℕ) (q : Line × Stage) → onward o rest ≡ Some q → o ≡ None → ⊥
onward-some None rest q e none = absurd cc
onward-some (Some p) rest q e none = absurd cc

-- what begins a line is read
pub begins-read : (front : List ℕ) → Begins front → after_bytes at_start front ≡ None → ⊥
begins-read front b none =
    onward-some (after_bytes at_start front) b.rest (b.line, End)
    (sym (after_bytes-append at_start front b.rest) ∙ ap (after_bytes at_start) b.spells.text ∙ line-reads b.line b.spells.valid) none

pub read-spells : (bytes : List ℕ) (line : Line) → after_bytes at_start bytes ≡ Some (line, End) → Spells bytes line
read-spells bytes line e =
    let leads = bytes-lead bytes at_start.0 at_start.1 (line, End) start-good e in
    record { valid = leads.0.valid; text = sym leads.1 }

same-line : (p q : Line) (s t : Stage) (x y : Option (Line × Stage)) → x ≡ Some (p, s) → y ≡ Some (q, t) → x ≡ y → (p ≡ q) × (s ≡ t)
same-line p q s t x y e f same = (let pair : at_stage p s ≡ at_stage q t = some-is (p, s) (q, t) (sym e ∙ same ∙ f) in (ap (λ (x : Line × Stage). x.0) pair, ap (λ (x : Line × Stage). x.1) pair))

-- a text is that of at most one line
pub one-line : (bytes : List ℕ) (line other : Line) → Spells bytes line → Spells bytes other → line ≡ other
one-line bytes line other s t =
    (same-line line other End End (after_bytes at_start (line_text line)) (after_bytes at_start (line_text other)) (line-reads line s.valid) (line-reads other t.valid) (ap (after_bytes at_start) (sym s.text ∙ t.text))).0

end-not : (p : Line) (s : Stage) (bytes : List ℕ) (line : Line) → after_bytes at_start bytes ≡ Some (p, s) → is_end s ≡ false → Spells bytes line → ⊥
end-not p s bytes line e open_yet t =
    let same = same-line p line s End (after_bytes at_start bytes) (after_bytes at_start (line_text line)) e (line-reads line t.valid) (ap (after_bytes at_start) t.text) in
    both_ways (is_end s) open_yet (ap is_end same.1)

pub stops-stuck : (bytes : List ℕ) (at : ℕ) → StopsAt bytes at → IsStuckAt bytes at
stops-stuck bytes at s =
    let leads = bytes-lead (take at bytes) at_start.0 at_start.1 (s.line, s.stage) start-good s.read in
    record {
      within = s.within;
      begins = subst Begins leads.1 (good-begins s.line s.stage leads.0);
      stuck = λ lt b. begins-read (take (at + 1) bytes) b (s.refused lt);
      no_line = λ line t. elim (cases_lt at (length bytes)) [
        | inl lt ↦ begins-read (take (at + 1) bytes) (record { line = line; rest = drop (at + 1) bytes; spells = record { valid = t.valid; text = take-append-drop (at + 1) bytes ∙ t.text } }) (s.refused lt)
        | inr ge ↦ (let whole : take at bytes ≡ bytes = take_all at bytes ge in
            let here : at ≡ length bytes = omega (arith, s.within) in
            end-not s.line s.stage bytes line (subst (λ (b : List ℕ). after_bytes at_start b ≡ Some (s.line, s.stage)) whole s.read) (s.unfinished here) t)
      ];
    }

-- a shorter front of what begins a line begins one
begins-shorter : (bytes : List ℕ) (m n : ℕ) → m ≤ n → Begins (take n bytes) → Begins (take m bytes)
begins-shorter bytes m n le b = record {
  line = b.line;
  rest = drop m (take n bytes) ++ b.rest;
  spells = record {
    valid = b.spells.valid;
    text = sym (append_assoc (take m bytes) (drop m (take n bytes)) b.rest) ∙ ap (λ (t : List ℕ). t ++ b.rest) (ap (λ (t : List ℕ). t ++ drop m (take n bytes)) (sym (take-take m n bytes le)) ∙ take-append-drop m (take n bytes)) ∙ b.spells.text;
  };
}

pub stuck-once : (bytes : List ℕ) (m n : ℕ) → IsStuckAt bytes m → IsStuckAt bytes n → m ≡ n
stuck-once bytes m n s t =
    elim (cases_order m n) [
      | inl e ↦ e
      | inr (inl lt) ↦ absurd (s.stuck (omega (arith, t.within)) (begins-shorter bytes (m + 1) n (omega arith) t.begins))
      | inr (inr gt) ↦ absurd (t.stuck (omega (arith, s.within)) (begins-shorter bytes (n + 1) m (omega arith) s.begins))
    ]

-- ---- what reading gives, as the grammar says it

pub reads-complete : (bytes : List ℕ) (r : Result Line LratFault) → Reads bytes r → (line : Line) → Spells bytes line → IsUnlessNoMemory r (Ok line)
reads-complete bytes (Ok l) h line s = inl (ap (λ (x : Line). Ok x) (one-line bytes l line (read-spells bytes l h) s))
reads-complete bytes (Err (NotLrat at)) h line s = absurd ((stops-stuck bytes at h).no_line line s)
reads-complete bytes (Err NoMemory) h line s = inr refl

pub reads-stuck : (bytes : List ℕ) (r : Result Line LratFault) → Reads bytes r → (at : ℕ) → r ≡ Err (NotLrat at) → IsStuckAt bytes at
reads-stuck bytes (Ok l) h at e = absurd cc
reads-stuck bytes (Err (NotLrat m)) h at e = (let same : m ≡ at = cc in subst (IsStuckAt bytes) same (stops-stuck bytes m h))
reads-stuck bytes (Err NoMemory) h at e = absurd cc

pub reads-refused : (bytes : List ℕ) (r : Result Line LratFault) → Reads bytes r → (at : ℕ) → IsStuckAt bytes at → IsUnlessNoMemory r (Err (NotLrat at))
reads-refused bytes (Ok l) h at s = absurd (s.no_line l (read-spells bytes l h))
reads-refused bytes (Err (NotLrat m)) h at s = inl (ap (λ (k : ℕ). Err (NotLrat k)) (stuck-once bytes m at (stops-stuck bytes m h) s))
reads-refused bytes (Err NoMemory) h at s = inr refl

pub reads-ok : (bytes : List ℕ) (r : Result Line LratFault) → Reads bytes r → IfOk r (Spells bytes)
reads-ok bytes (Ok l) h = read-spells bytes l h
reads-ok bytes (Err f) h = tt

-- ---- what has a text can be written

literals-writable : (lits : List ℕ) → AllByRecursion IsLiteral lits → AllByRecursion (λ lit. 2 ≤ lit) lits
literals-writable [] h = tt
literals-writable (lit ∷ lits) h = (h.0.0, literals-writable lits h.1)

hints-writable : (hints : List ℕ) → AllByRecursion IsHint hints → AllByRecursion (λ hint. 1 ≤ hint) hints
hints-writable [] h = tt
hints-writable (hint ∷ hints) h = (h.0.0, hints-writable hints h.1)

pub text-writable : (line : Line) → HasText line → IsWritable line
text-writable line h = record { lits = literals-writable line.lits h.lits; hints = hints-writable line.hints h.hints }

pub reads-writable : (bytes : List ℕ) (r : Result Line LratFault) → Reads bytes r → IfOk r IsWritable
reads-writable bytes (Ok l) h = text-writable l (read-spells bytes l h).valid
reads-writable bytes (Err f) h = tt

-- ---- what is written is the line's text

pub all-small : (xs : List ℕ) → ((i : ℕ) → get_or xs i 0 < 2 ^ 32) → AllByRecursion (λ x. x < 2 ^ 32) xs
all-small [] small = tt
all-small (x ∷ xs) small = (small 0, all-small xs (λ i. small (suc i)))

all-both : (least : ℕ) (xs : List ℕ) → AllByRecursion (λ x. least ≤ x) xs → AllByRecursion (λ x. x < 2 ^ 32) xs → AllByRecursion (λ x. (least ≤ x) × (x < 2 ^ 32)) xs
all-both least [] low small = tt
all-both least (x ∷ xs) low small = ((low.0, small.0), all-both least xs low.1 small.1)

pub written-spells : (bytes : List ℕ) (line : Line) (lits hints : List ℕ) → line.id < 2 ^ 32 → lits ≡ line.lits → hints ≡ line.hints
    → AllByRecursion (λ lit. 2 ≤ lit) line.lits → AllByRecursion (λ hint. 1 ≤ hint) line.hints
    → AllByRecursion (λ lit. lit < 2 ^ 32) lits → AllByRecursion (λ hint. hint < 2 ^ 32) hints → bytes ≡ line_text line → Spells bytes line
written-spells bytes line lits hints id e f low_lits low_hints small_lits small_hints text = record {
  valid = record {
    id = id;
    lits = all-both 2 line.lits low_lits (subst (λ xs. AllByRecursion (λ lit. lit < 2 ^ 32) xs) e small_lits);
    hints = all-both 1 line.hints low_hints (subst (λ xs. AllByRecursion (λ hint. hint < 2 ^ 32) xs) f small_hints);
  };
  text = text;
}
