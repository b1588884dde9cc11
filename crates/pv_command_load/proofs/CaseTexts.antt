-- What a case's text says of its requirement: as many expressions as its kind has, none of them longer than a source may be.
use Rattle.std.proofs.Common.{◌≡◌, ◌≤◌, ℕ, ◌+◌, List, [], ◌∷◌, length, map, All, Bool, true, false, Option, Some, None, is_some, refl, sym, ap, subst, ◌∙◌, arith}
use Rattle.std.specs.Prelude.{codes, IsTrue, nat_le, option_and_then, unwrap_or, String, string_bytes}
use Rattle.std.specs.List.{cons_option}
use Rattle.std.specs.declared.alloc.Global.{Global}
use Rattle.std.proofs.lemmas.Bool.{leb-true, and_parts}
use Rattle.std.proofs.lemmas.List.{length-map}
use Rattle.std.proofs.lemmas.List.Elements.{All-nil, All-cons, All-head, All-tail}
use Rattle.serde_json.specs.Data.{Data}
use Rattle.serde_json.specs.Find.{get, as_str}
use Rattle.pv_lex.specs.declared.lex.TheConstants.{MAX_SOURCE}
use Rattle.pv_pattern_read.specs.Kinds.{count_of}
use Rattle.pv_case.specs.declared.case.PatternKind.{PatternKind}
use Rattle.pv_case.specs.declared.case.PatternKind.TheVariants.{Invariant, Forbidden, Implication, Within, Between, Reach}
use Rattle.pv_case.specs.declared.fault.Kind.TheVariants.{WrongKind}
use Rattle.pv_case.specs.Checks.{ask, of_any}
use Rattle.pv_case.specs.Members.{is_text, is_short, has, text_at, text_in}
use Rattle.pv_case.specs.Patterns.{kind_named, expressions_of}
use Rattle.pv_case.specs.Fields.{agree, has_count, pattern_in}
use Rattle.pv_case.specs.Cases.{CaseData, expressions_in, IsCaseText}

-- ---- how many there are

abbrev bit : Bool → ℕ
bit true = 1
bit false = 0

with_length : {A : Type 0} (o : Option A) (xs : List A) → length (cons_option o xs) ≡ bit (is_some o) + length xs
with_length None xs = omega arith
with_length (Some x) xs = omega arith

three : {A : Type 0} (x y z : Option A) → length (cons_option x (cons_option y (cons_option z [])))
    ≡ bit (is_some x) + (bit (is_some y) + bit (is_some z))
three {A = A} x y z =
    let none : length (cons_option z []) ≡ bit (is_some z) + length {A = A} [] = with_length z [] in
    omega (arith, with_length x (cons_option y (cons_option z [])), with_length y (cons_option z []), none)

of_kinds : (kind : PatternKind) → bit (nat_le 1 (expressions_of (Some kind)))
    + (bit (nat_le 2 (expressions_of (Some kind))) + bit (nat_le 3 (expressions_of (Some kind)))) ≡ count_of kind
of_kinds Invariant = refl
of_kinds Forbidden = refl
of_kinds Implication = refl
of_kinds Within = refl
of_kinds Between = refl
of_kinds Reach = refl

agreed : (b t : Bool) → agree b t ≡ true → b ≡ t
agreed true true h = refl
agreed true false h = sym h
agreed false true h = h
agreed false false h = refl

-- a member that is there has a text
text_there : (key : List ℕ) (g : Option Data) → (of_any (λ e. ask (is_text e) WrongKind key) g).keeps
    → is_some (option_and_then as_str g) ≡ is_some g
text_there key None h = refl
text_there key (Some e) h = h

-- of a member's texts those that are there, where so many are to be
counted : (v : Data) (kind : PatternKind) → is_some (text_at v (codes "a")) ≡ nat_le 1 (expressions_of (Some kind))
    → is_some (text_at v (codes "b")) ≡ nat_le 2 (expressions_of (Some kind))
    → is_some (text_at v (codes "c")) ≡ nat_le 3 (expressions_of (Some kind)) → length (expressions_in v) ≡ count_of kind
counted v kind a b c =
    three (text_at v (codes "a")) (text_at v (codes "b")) (text_at v (codes "c"))
    ∙ ap (λ t. bit t + (bit (is_some (text_at v (codes "b"))) + bit (is_some (text_at v (codes "c"))))) a
    ∙ ap (λ t. bit (nat_le 1 (expressions_of (Some kind))) + (bit t + bit (is_some (text_at v (codes "c"))))) b
    ∙ ap (λ t. bit (nat_le 1 (expressions_of (Some kind))) + (bit (nat_le 2 (expressions_of (Some kind))) + bit t)) c
    ∙ of_kinds kind

as_many : (v : Data) (kind : PatternKind) → kind_named (text_in v (codes "kind")) ≡ Some kind → (pattern_in v).keeps
    → length (expressions_in v) ≡ count_of kind
as_many v kind named h =
    let texts = h.1.1.1.0 in
    let n = expressions_of (Some kind) in
    let all : has_count v n ≡ true = subst (λ k. has_count v (expressions_of k) ≡ true) named h.1.1.1.1.1.1 in
    let first = and_parts (agree (has v (codes "a")) (nat_le 1 n)) _ all in
    let others = and_parts (agree (has v (codes "b")) (nat_le 2 n)) (agree (has v (codes "c")) (nat_le 3 n)) first.1 in
    counted v kind
    (text_there (codes "a") (get (codes "a") v) texts.0 ∙ agreed (has v (codes "a")) (nat_le 1 n) first.0)
    (text_there (codes "b") (get (codes "b") v) texts.1.0 ∙ agreed (has v (codes "b")) (nat_le 2 n) others.0)
    (text_there (codes "c") (get (codes "c") v) texts.1.1.0 ∙ agreed (has v (codes "c")) (nat_le 3 n) others.1)

-- ---- how long they are

abbrev IsShort : List ℕ → Type 0
IsShort text = length text ≤ MAX_SOURCE

short_more : (o : Option (List ℕ)) (xs : List (List ℕ)) → IsTrue (is_short (unwrap_or o [])) → All IsShort xs
    → All IsShort (cons_option o xs)
short_more None xs h all = all
short_more (Some t) xs h all = All-cons IsShort t xs (leb-true (length t) MAX_SOURCE h) all

all_short : (v : Data) → (pattern_in v).keeps → All IsShort (expressions_in v)
all_short v h =
    let short = h.1.1.1.1.0.1 in
    let a = text_at v (codes "a") in
    let b = text_at v (codes "b") in
    let c = text_at v (codes "c") in
    short_more a (cons_option b (cons_option c [])) short.0
    (short_more b (cons_option c []) short.1.0 (short_more c [] short.1.1.0 (All-nil IsShort)))

-- ---- of a case

pub record HasTexts (case : CaseData) : Type 0 where
  pub count : length case.expressions ≡ count_of case.kind
  pub short : All IsShort case.expressions

pub has_texts : (bytes : List ℕ) (case : CaseData) → IsCaseText bytes case → HasTexts case
has_texts bytes case is =
    let p = is.says.pattern in
    let keeps : (pattern_in p.value).keeps = subst (λ g. (of_any pattern_in g).keeps) p.there is.keeps.1.1.1.0.1 in
    record {
      count = ap length p.are ∙ as_many p.value case.kind p.of_kind keeps;
      short = subst (λ l. All IsShort l) (sym p.are) (all_short p.value keeps);
    }

-- so of one of the code

of_texts : (xs : List (String Global)) → All IsShort (map string_bytes xs) → All (λ t. length (string_bytes t) ≤ MAX_SOURCE) xs
of_texts [] h = All-nil (λ t. length (string_bytes t) ≤ MAX_SOURCE)
of_texts (x ∷ xs) h =
    All-cons (λ t. length (string_bytes t) ≤ MAX_SOURCE) x xs (All-head IsShort (string_bytes x) (map string_bytes xs) h)
    (of_texts xs (All-tail IsShort (string_bytes x) (map string_bytes xs) h))

pub code_count : (d : CaseData) (kind : PatternKind) (texts : List (String Global)) → HasTexts d → kind ≡ d.kind
    → map string_bytes texts ≡ d.expressions → length texts ≡ count_of kind
code_count d kind texts has is_kind are =
    sym (length-map texts string_bytes) ∙ ap length are ∙ has.count ∙ ap (λ k. count_of k) (sym is_kind)

pub code_short : (d : CaseData) (texts : List (String Global)) → HasTexts d → map string_bytes texts ≡ d.expressions
    → All (λ t. length (string_bytes t) ≤ MAX_SOURCE) texts
code_short d texts has are = of_texts texts (subst (λ l. All IsShort l) (sym are) has.short)
