-- What of a line's text was read at each stage, and how it goes on.
-- A reader by stages: a step on lists (`after_byte`), the text so far as a function of line and stage (`so_far`), and three laws:
-- a step adds its byte to that text, each stage goes on to some line, the text of a line is read whole. Then the first byte with
-- which nothing begins is exactly where the step fails. Texts are appended from the left (`a ++ b ++ c`), so that the laws go by
-- `append_assoc` alone. `cases_eq byte 32` first: at the literal byte everything computes.
use Rattle.std.proofs.Common.{◌≡◌, ℕ, ◌+◌, ◌-◌, ◌*◌, ◌/◌, ◌%◌, ◌^◌, ◌<◌, ◌≤◌, ◌&&◌, Bool, true, false, cond, eqb, leb, List, [], ◌∷◌, ◌++◌, Option, Some, None, refl, sym, ap, subst, ◌∙◌, arith, inl, inr, append_assoc}
use Rattle.std.specs.Prelude.{codes}
use Rattle.std.specs.Option.{option_map}
use Rattle.std.specs.List.{AllByRecursion}
use Rattle.std.specs.Fmt.{decimal}
use Rattle.std.proofs.lemmas.Fmt.{decimal_digit, decimal_step}
use Rattle.std.proofs.lemmas.List.{append-nil, flat_map_more}
use Rattle.std.proofs.lemmas.Bool.{cases_eq, eq-eqb, ne_eqb, and_parts, leb-true, le-leb}
use Rattle.pv_cnf.specs.Dimacs.{literal_text}
use Rattle.pv_log.specs.declared.line.Line.{Line}
use Rattle.pv_log.specs.declared.stage.Stage.{Stage}
use Rattle.pv_log.specs.declared.stage.Stage.TheVariants.{Start, Id, Literals, Minus, Literal, Break, Hints, Hint, End}
use Rattle.pv_log.specs.LineText.{literals_text, hints_text, IsLiteral, IsHint, HasText}
use Rattle.pv_log.specs.Reading.{is_digit_from, with_digit, first_digit, stage_after, code_of, with_number, after_byte, after_bytes, at_start}

-- ---- the text so far

abbrev front : Line → List ℕ
front line = decimal line.id ++ codes " " ++ literals_text line.lits

abbrev back : Line → List ℕ
back line = front line ++ codes "0 " ++ hints_text line.hints

abbrev pub so_far : Line → Stage → List ℕ
so_far line Start = []
so_far line (Id n) = decimal n
so_far line Literals = front line
so_far line Minus = front line ++ codes "-"
so_far line (Literal negated n) = front line ++ literal_text (code_of negated n)
so_far line Break = front line ++ codes "0"
so_far line Hints = back line
so_far line (Hint n) = back line ++ decimal n
so_far line End = back line ++ codes "0"

-- the numbers that are being read fit, and what is still to come is empty
abbrev StageIsGood : Line → Stage → Type 0
StageIsGood line Start = (line.lits ≡ []) × (line.hints ≡ [])
StageIsGood line (Id n) = (n < 2 ^ 32) × (line.lits ≡ []) × (line.hints ≡ [])
StageIsGood line Literals = line.hints ≡ []
StageIsGood line Minus = line.hints ≡ []
StageIsGood line (Literal negated n) = (1 ≤ n) × (n < 2 ^ 31) × (line.hints ≡ [])
StageIsGood line Break = line.hints ≡ []
StageIsGood line Hints = Unit {0}
StageIsGood line (Hint n) = (1 ≤ n) × (n < 2 ^ 32)
StageIsGood line End = Unit {0}

pub record IsGood (line : Line) (stage : Stage) : Type 0 where
  pub valid : HasText line
  pub here : StageIsGood line stage

pub start-good : IsGood at_start.0 at_start.1
start-good = record { valid = record { id = omega arith; lits = tt; hints = tt }; here = (refl, refl) }

-- ---- digits

is-digit : (least byte : ℕ) → is_digit_from least byte ≡ true → (least ≤ byte) × (byte ≤ 57)
is-digit least byte e = (let parts = and_parts (leb least byte) (leb byte 57) e in (leb-true least byte parts.0, leb-true byte 57 parts.1))

pub digit-is : (least byte : ℕ) → least ≤ byte → byte ≤ 57 → is_digit_from least byte ≡ true
digit-is least byte low high = ap (λ (b : Bool). b && leb byte 57) (le-leb least byte low) ∙ le-leb byte 57 high

cond-some : {X : Type 0} (b : Bool) (x y : X) → cond b (Some x) None ≡ Some y → (b ≡ true) × (x ≡ y)
cond-some true x y e = (refl, cc)
cond-some false x y e = absurd cc

pub first-is : (least byte d : ℕ) → first_digit least byte ≡ Some d → (least ≤ byte) × (byte ≤ 57) × (byte - 48 ≡ d)
first-is least byte d e =
    let c = cond-some (is_digit_from least byte) (byte - 48) d e in
    let b = is-digit least byte c.0 in
    (b.0, b.1, c.1)

pub more-is : (greatest n byte m : ℕ) → with_digit greatest n byte ≡ Some m → (1 ≤ n) × (48 ≤ byte) × (byte ≤ 57) × (10 * n + (byte - 48) ≤ greatest) × (10 * n + (byte - 48) ≡ m)
more-is greatest n byte m e =
    let c = cond-some (leb 1 n && (is_digit_from 48 byte && leb (10 * n + (byte - 48)) greatest)) (10 * n + (byte - 48)) m e in
    let p = and_parts (leb 1 n) (is_digit_from 48 byte && leb (10 * n + (byte - 48)) greatest) c.0 in
    let q = and_parts (is_digit_from 48 byte) (leb (10 * n + (byte - 48)) greatest) p.1 in
    let b = is-digit 48 byte q.0 in
    (leb-true 1 n p.0, b.0, b.1, leb-true (10 * n + (byte - 48)) greatest q.1, c.1)

digit-text : (byte d : ℕ) → 48 ≤ byte → byte ≤ 57 → byte - 48 ≡ d → decimal d ≡ byte ∷ []
digit-text byte d low high e = decimal_digit d (omega arith) ∙ ap (λ (x : ℕ). x ∷ []) (omega arith)

more-text : (n byte m : ℕ) → 1 ≤ n → 48 ≤ byte → byte ≤ 57 → 10 * n + (byte - 48) ≡ m → m < 2 ^ 64 → decimal m ≡ decimal n ++ byte ∷ []
more-text n byte m some low high e fits =
    let front-is : m / 10 ≡ n = omega arith in
    let last-is : 48 + m % 10 ≡ byte = omega arith in
    decimal_step m (omega arith) fits ∙ ap (λ (k : ℕ). decimal k ++ (48 + m % 10) ∷ []) front-is ∙ ap (λ (b : ℕ). decimal n ++ b ∷ []) last-is

-- ---- literals

plain-text : (n : ℕ) → literal_text (code_of false n) ≡ decimal n
plain-text n =
    let sign : eqb (code_of false n % 2) 1 ≡ false = ne_eqb (code_of false n % 2) 1 (λ e. omega arith) in
    let variable : code_of false n / 2 ≡ n = omega arith in
    ap (λ (b : Bool). cond b (codes "-") [] ++ decimal (code_of false n / 2)) sign ∙ ap decimal variable

negated-text : (n : ℕ) → literal_text (code_of true n) ≡ codes "-" ++ decimal n
negated-text n =
    let sign : eqb (code_of true n % 2) 1 ≡ true = eq-eqb (code_of true n % 2) 1 (omega arith) in
    let variable : code_of true n / 2 ≡ n = omega arith in
    ap (λ (b : Bool). cond b (codes "-") [] ++ decimal (code_of true n / 2)) sign ∙ ap (λ (k : ℕ). codes "-" ++ decimal k) variable

literal-more : (negated : Bool) (n m byte : ℕ) → decimal m ≡ decimal n ++ byte ∷ [] → literal_text (code_of negated m) ≡ literal_text (code_of negated n) ++ byte ∷ []
literal-more false n m byte e = plain-text m ∙ e ∙ ap (λ (t : List ℕ). t ++ byte ∷ []) (sym (plain-text n))
literal-more true n m byte e = negated-text m ∙ ap (λ (t : List ℕ). codes "-" ++ t) e ∙ ap (λ (t : List ℕ). t ++ byte ∷ []) (sym (negated-text n))

code-fits : (negated : Bool) (n : ℕ) → 1 ≤ n → n < 2 ^ 31 → IsLiteral (code_of negated n)
code-fits false n low high = (omega arith, omega arith)
code-fits true n low high = (omega arith, omega arith)

all-push : (P : ℕ → Type 0) (xs : List ℕ) (x : ℕ) → AllByRecursion P xs → P x → AllByRecursion P (xs ++ x ∷ [])
all-push P [] x all h = (h, tt)
all-push P (y ∷ xs) x all h = (all.0, all-push P xs x all.1 h)

-- ---- a blank

-- what a byte leads to
abbrev pub LeadsTo : Line → Stage → ℕ → Line × Stage → Type 0
LeadsTo line stage byte next = IsGood next.0 next.1 × (so_far next.0 next.1 ≡ so_far line stage ++ byte ∷ [])

pub some-is : (p q : Line × Stage) → Some p ≡ Some q → p ≡ q
some-is p q e = cc

blank-leads : (line : Line) (stage : Stage) (next : Line × Stage) → IsGood line stage → after_byte (line, stage) 32 ≡ Some next → LeadsTo line stage 32 next
blank-leads line Start next g e = absurd cc
blank-leads line (Id n) next g e =
    subst (LeadsTo line (Id n) 32) (some-is (record line { id = n }, Literals) next e) (
      record { valid = record { id = g.here.0; lits = g.valid.lits; hints = g.valid.hints }; here = g.here.2 },
      ap (λ (lits : List ℕ). decimal n ++ codes " " ++ literals_text lits) g.here.1 ∙ append-nil (decimal n ++ codes " "),
    )
blank-leads line Literals next g e = absurd cc
blank-leads line Minus next g e = absurd cc
blank-leads line (Literal negated n) next g e =
    subst (LeadsTo line (Literal negated n) 32) (some-is (record line { lits = line.lits ++ code_of negated n ∷ [] }, Literals) next e) (
      record { valid = record { id = g.valid.id; lits = all-push IsLiteral line.lits (code_of negated n) g.valid.lits (code-fits negated n g.here.0 g.here.1); hints = g.valid.hints }; here = g.here.2 },
      sym (flat_map_more (λ (lit : ℕ). literal_text lit ++ codes " ") (decimal line.id ++ codes " ") line.lits (code_of negated n)) ∙ sym (append_assoc (front line) (literal_text (code_of negated n)) (codes " ")),
    )
blank-leads line Break next g e =
    subst (LeadsTo line Break 32) (some-is (line, Hints) next e) (
      record { valid = g.valid; here = tt },
      ap (λ (hints : List ℕ). front line ++ codes "0 " ++ hints_text hints) g.here ∙ append-nil (front line ++ codes "0 ") ∙ sym (append_assoc (front line) (codes "0") (codes " ")),
    )
blank-leads line Hints next g e = absurd cc
blank-leads line (Hint n) next g e =
    subst (LeadsTo line (Hint n) 32) (some-is (record line { hints = line.hints ++ n ∷ [] }, Hints) next e) (
      record { valid = record { id = g.valid.id; lits = g.valid.lits; hints = all-push IsHint line.hints n g.valid.hints g.here }; here = tt },
      sym (flat_map_more (λ (h : ℕ). decimal h ++ codes " ") (front line ++ codes "0 ") line.hints n) ∙ sym (append_assoc (back line) (decimal n) (codes " ")),
    )
blank-leads line End next g e = absurd cc

-- ---- another byte

abbrev pub other_stage : Stage → ℕ → Option Stage
other_stage (Id n) byte = option_map Id (with_digit 4294967295 n byte)
other_stage (Literal negated n) byte = option_map (Literal negated) (with_digit 2147483647 n byte)
other_stage Break byte = None
other_stage (Hint n) byte = option_map Hint (with_digit 4294967295 n byte)
other_stage Start byte = option_map Id (first_digit 48 byte)
other_stage Literals byte = cond (eqb byte 48) (Some Break) (cond (eqb byte 45) (Some Minus) (option_map (Literal false) (first_digit 49 byte)))
other_stage Minus byte = option_map (Literal true) (first_digit 49 byte)
other_stage Hints byte = cond (eqb byte 48) (Some End) (option_map Hint (first_digit 49 byte))
other_stage End byte = None

abbrev choose : {X : Type 0} → X → X → Bool → X
choose x y b = cond b x y

pub other-is : (stage : Stage) (byte : ℕ) → eqb byte 32 ≡ false → stage_after stage byte ≡ other_stage stage byte
other-is Start byte ne = refl
other-is (Id n) byte ne = ap (choose (Some Literals) (option_map Id (with_digit 4294967295 n byte))) ne
other-is Literals byte ne = refl
other-is Minus byte ne = refl
other-is (Literal negated n) byte ne = ap (choose (Some Literals) (option_map (Literal negated) (with_digit 2147483647 n byte))) ne
other-is Break byte ne = ap (choose (Some Hints) None) ne
other-is Hints byte ne = refl
other-is (Hint n) byte ne = ap (choose (Some Hints) (option_map Hint (with_digit 4294967295 n byte))) ne
other-is End byte ne = refl

pub byte-other : (line : Line) (stage : Stage) (byte : ℕ) → eqb byte 32 ≡ false → after_byte (line, stage) byte ≡ option_map (λ (s : Stage). (line, s)) (other_stage stage byte)
byte-other line stage byte ne =
    ap (λ (b : Bool). option_map (λ (s : Stage). (cond b (with_number line stage) line, s)) (stage_after stage byte)) ne ∙ ap (option_map (λ (s : Stage). (line, s))) (other-is stage byte ne)

-- the number that an option holds
mapped : {X Y : Type 0} (f : X → Y) (o : Option X) (y : Y) → option_map f o ≡ Some y → (x : X) × (o ≡ Some x) × (f x ≡ y)
mapped f None y e = absurd cc
mapped f (Some x) y e = (x, refl, cc)

abbrev Goes : Line → Stage → ℕ → Stage → Type 0
Goes line stage byte next = StageIsGood line next × (so_far line next ≡ so_far line stage ++ byte ∷ [])

-- a digit behind a number
goes-id : (line : Line) (n byte : ℕ) (next : Stage) → IsGood line (Id n) → option_map Id (with_digit 4294967295 n byte) ≡ Some next → Goes line (Id n) byte next
goes-id line n byte next g e =
    let m = mapped Id (with_digit 4294967295 n byte) next e in
    let d = more-is 4294967295 n byte m.0 m.1 in
    subst (Goes line (Id n) byte) m.2 ((omega arith, g.here.1, g.here.2), more-text n byte m.0 d.0 d.1 d.2 d.4 (omega arith))

goes-literal : (line : Line) (negated : Bool) (n byte : ℕ) (next : Stage) → IsGood line (Literal negated n) → option_map (Literal negated) (with_digit 2147483647 n byte) ≡ Some next → Goes line (Literal negated n) byte next
goes-literal line negated n byte next g e =
    let m = mapped (Literal negated) (with_digit 2147483647 n byte) next e in
    let d = more-is 2147483647 n byte m.0 m.1 in
    subst (Goes line (Literal negated n) byte) m.2 (
      (omega arith, omega arith, g.here.2),
      ap (λ (t : List ℕ). front line ++ t) (literal-more negated n m.0 byte (more-text n byte m.0 d.0 d.1 d.2 d.4 (omega arith))) ∙ sym (append_assoc (front line) (literal_text (code_of negated n)) (byte ∷ [])),
    )

goes-hint : (line : Line) (n byte : ℕ) (next : Stage) → IsGood line (Hint n) → option_map Hint (with_digit 4294967295 n byte) ≡ Some next → Goes line (Hint n) byte next
goes-hint line n byte next g e =
    let m = mapped Hint (with_digit 4294967295 n byte) next e in
    let d = more-is 4294967295 n byte m.0 m.1 in
    subst (Goes line (Hint n) byte) m.2
    ((omega arith, omega arith), ap (λ (t : List ℕ). back line ++ t) (more-text n byte m.0 d.0 d.1 d.2 d.4 (omega arith)) ∙ sym (append_assoc (back line) (decimal n) (byte ∷ [])))

-- a first digit
goes-start : (line : Line) (byte : ℕ) (next : Stage) → IsGood line Start → option_map Id (first_digit 48 byte) ≡ Some next → Goes line Start byte next
goes-start line byte next g e =
    let m = mapped Id (first_digit 48 byte) next e in
    let d = first-is 48 byte m.0 m.1 in
    subst (Goes line Start byte) m.2 ((omega arith, g.here.0, g.here.1), digit-text byte m.0 d.0 d.1 d.2)

goes-minus : (line : Line) (byte : ℕ) (next : Stage) → IsGood line Minus → option_map (Literal true) (first_digit 49 byte) ≡ Some next → Goes line Minus byte next
goes-minus line byte next g e =
    let m = mapped (Literal true) (first_digit 49 byte) next e in
    let d = first-is 49 byte m.0 m.1 in
    subst (Goes line Minus byte) m.2 (
      (omega arith, omega arith, g.here),
      ap (λ (t : List ℕ). front line ++ t) (negated-text m.0 ∙ ap (λ (t : List ℕ). codes "-" ++ t) (digit-text byte m.0 (omega arith) d.1 d.2)) ∙ sym (append_assoc (front line) (codes "-") (byte ∷ [])),
    )

goes-first : (line : Line) (byte : ℕ) (next : Stage) → IsGood line Literals → option_map (Literal false) (first_digit 49 byte) ≡ Some next → Goes line Literals byte next
goes-first line byte next g e =
    let m = mapped (Literal false) (first_digit 49 byte) next e in
    let d = first-is 49 byte m.0 m.1 in
    subst (Goes line Literals byte) m.2
    ((omega arith, omega arith, g.here), ap (λ (t : List ℕ). front line ++ t) (plain-text m.0 ∙ digit-text byte m.0 (omega arith) d.1 d.2))

goes-hints : (line : Line) (byte : ℕ) (next : Stage) → IsGood line Hints → option_map Hint (first_digit 49 byte) ≡ Some next → Goes line Hints byte next
goes-hints line byte next g e =
    let m = mapped Hint (first_digit 49 byte) next e in
    let d = first-is 49 byte m.0 m.1 in
    subst (Goes line Hints byte) m.2
    ((omega arith, omega arith), ap (λ (t : List ℕ). back line ++ t) (digit-text byte m.0 (omega arith) d.1 d.2))

stage-is : (s t : Stage) → Some s ≡ Some t → s ≡ t
stage-is s t e = cc

pub other-goes : (line : Line) (stage : Stage) (byte : ℕ) (next : Stage) → IsGood line stage → other_stage stage byte ≡ Some next → Goes line stage byte next
other-goes line Start byte next g e = goes-start line byte next g e
other-goes line (Id n) byte next g e = goes-id line n byte next g e
other-goes line Literals byte next g e =
    elim (cases_eq byte 48) [
      | inl is ↦ (let done = stage-is Break next (sym (ap (choose (Some Break) (cond (eqb byte 45) (Some Minus) (option_map (Literal false) (first_digit 49 byte)))) (eq-eqb byte 48 is)) ∙ e) in
          subst (Goes line Literals byte) done (g.here, ap (λ (b : ℕ). front line ++ b ∷ []) (sym is)))
      | inr ne ↦ elim (cases_eq byte 45) [
        | inl is ↦ (let done = stage-is Minus next (sym (ap (choose (Some Break) (cond (eqb byte 45) (Some Minus) (option_map (Literal false) (first_digit 49 byte)))) (ne_eqb byte 48 ne) ∙ ap (choose (Some Minus) (option_map (Literal false) (first_digit 49 byte))) (eq-eqb byte 45 is)) ∙ e) in
            subst (Goes line Literals byte) done (g.here, ap (λ (b : ℕ). front line ++ b ∷ []) (sym is)))
        | inr other ↦ goes-first line byte next g (sym (ap (choose (Some Break) (cond (eqb byte 45) (Some Minus) (option_map (Literal false) (first_digit 49 byte)))) (ne_eqb byte 48 ne) ∙ ap (choose (Some Minus) (option_map (Literal false) (first_digit 49 byte))) (ne_eqb byte 45 other)) ∙ e)
      ]
    ]
other-goes line Minus byte next g e = goes-minus line byte next g e
other-goes line (Literal negated n) byte next g e = goes-literal line negated n byte next g e
other-goes line Break byte next g e = absurd cc
other-goes line Hints byte next g e =
    elim (cases_eq byte 48) [
      | inl is ↦ (let done = stage-is End next (sym (ap (choose (Some End) (option_map Hint (first_digit 49 byte))) (eq-eqb byte 48 is)) ∙ e) in
          subst (Goes line Hints byte) done (tt, ap (λ (b : ℕ). back line ++ b ∷ []) (sym is)))
      | inr ne ↦ goes-hints line byte next g (sym (ap (choose (Some End) (option_map Hint (first_digit 49 byte))) (ne_eqb byte 48 ne)) ∙ e)
    ]
other-goes line (Hint n) byte next g e = goes-hint line n byte next g e
other-goes line End byte next g e = absurd cc

-- ---- any byte, and any bytes

pub byte-leads : (line : Line) (stage : Stage) (byte : ℕ) (next : Line × Stage) → IsGood line stage → after_byte (line, stage) byte ≡ Some next → LeadsTo line stage byte next
byte-leads line stage byte next g e =
    elim (cases_eq byte 32) [
      | inl is ↦ subst (λ (b : ℕ). LeadsTo line stage b next) (sym is) (blank-leads line stage next g (subst (λ (b : ℕ). after_byte (line, stage) b ≡ Some next) is e))
      | inr ne ↦ (let m = mapped (λ (s : Stage). (line, s)) (other_stage stage byte) next (sym (byte-other line stage byte (ne_eqb byte 32 ne)) ∙ e) in
          let goes = other-goes line stage byte m.0 g m.1 in
          subst (LeadsTo line stage byte) m.2 (record { valid = g.valid; here = goes.0 }, goes.1))
    ]

bytes-next : (line : Line) (stage : Stage) (byte : ℕ) (bytes : List ℕ) (last : Line × Stage) (next : Option (Line × Stage)) → after_byte (line, stage) byte ≡ next
    → (elim next as (λ _. Option (Line × Stage)) [ None ↦ None | Some q ↦ after_bytes q bytes ]) ≡ Some last → (q : Line × Stage) × (after_byte (line, stage) byte ≡ Some q) × (after_bytes q bytes ≡ Some last)
bytes-next line stage byte bytes last None at e = absurd cc
bytes-next line stage byte bytes last (Some q) at e = (q, at, e)

pub bytes-lead : (bytes : List ℕ) (line : Line) (stage : Stage) (last : Line × Stage) → IsGood line stage → after_bytes (line, stage) bytes ≡ Some last → IsGood last.0 last.1 × (so_far last.0 last.1 ≡ so_far line stage ++ bytes)
bytes-lead [] line stage last g e =
    subst (λ (p : Line × Stage). IsGood p.0 p.1 × (so_far p.0 p.1 ≡ so_far line stage ++ [])) (some-is (line, stage) last e) (g, sym (append-nil (so_far line stage)))
bytes-lead (byte ∷ bytes) line stage last g e =
    let n = bytes-next line stage byte bytes last (after_byte (line, stage) byte) refl e in
    let first = byte-leads line stage byte n.0 g n.1 in
    let rest = bytes-lead bytes n.0.0 n.0.1 last first.0 n.2 in
    (rest.0, rest.1 ∙ ap (λ (t : List ℕ). t ++ bytes) first.1 ∙ append_assoc (so_far line stage) (byte ∷ []) bytes)
