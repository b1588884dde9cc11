-- Stretches with a line feed in them: white space, comments and attributes alone.
use Rattle.std.proofs.Common.{◌≡◌, ◌⊎◌, ℕ, Bool, true, false, cond, not, inl, inr, List, [], ◌∷◌, ◌++◌, Option, Some, None, refl, ap, sym, ◌∙◌}
use Rattle.std.specs.Prelude.{◌&&◌, ◌||◌, ◌==◌}
use Rattle.std.specs.List.{list_all}
use Rattle.std.proofs.lemmas.Bool.{false≢true, eqb-true, cases_Bool, or_cases, and_parts, and_from}
use Rattle.pv_lex.specs.declared.class.Class.{Class}
use Rattle.pv_lex.specs.declared.class.Class.TheVariants as c
use Rattle.pv_lex.specs.declared.context.Context.{Context}
use Rattle.pv_lex.specs.declared.token.Language.{Language}
use Rattle.pv_lex.specs.declared.token.Language.TheVariants as l
use Rattle.pv_lex.specs.declared.token.Kind.{Kind}
use Rattle.pv_lex.specs.declared.token.Kind.TheVariants as k
use Rattle.pv_lex.specs.Classes.{has}
use Rattle.pv_lex.specs.Shapes.{
  Shape,
  Spells,
  begins,
  is_joined,
  is_number,
  is_word,
  is_one_of,
  decimal_prefixes,
  hex_prefixes,
  time_prefixes,
  behind_prefix,
  signed,
  hex,
  duration,
  never,
  white,
  line_comment,
  comment,
  attribute,
  quoted,
  address,
  plain_number,
  real,
  signs,
}
use Rattle.pv_lex.specs.Shapes.Shape.{done, one, many, number, led, either, closing}
use Rattle.pv_lex.specs.Tokens.{IsStretch, IsHeaderLine, opens_comment}
use Rattle.pv_lex.proofs.Scanning.{not_of, word-passes}
use Rattle.pv_lex.proofs.Within.{cons_first, cons_rest}

-- ---- lists

pub all-append : (p : ℕ → Bool) (xs ys : List ℕ) → list_all p xs ≡ true → list_all p ys ≡ true → list_all p (xs ++ ys) ≡ true
all-append p [] ys e g = g
all-append p (x ∷ xs) ys e g =
    let parts = and_parts (p x) (list_all p xs) e in
    and_from (p x) (list_all p (xs ++ ys)) parts.0 (all-append p xs ys parts.1 g)

pub all-front : (p : ℕ → Bool) (xs ys : List ℕ) → list_all p (xs ++ ys) ≡ true → list_all p xs ≡ true
all-front p [] ys e = refl
all-front p (x ∷ xs) ys e =
    let parts = and_parts (p x) (list_all p (xs ++ ys)) e in
    and_from (p x) (list_all p xs) parts.0 (all-front p xs ys parts.1)

pub and_out : (x y : Bool) → y ≡ false → (x && y) ≡ false
and_out true y e = e
and_out false y e = refl

-- a line feed in a text
pub feed-off : (xs tail : List ℕ) → list_all (has c.Inline) (xs ++ 10 ∷ tail) ≡ false
feed-off [] tail = refl
feed-off (x ∷ xs) tail = and_out (has c.Inline x) (list_all (has c.Inline) (xs ++ 10 ∷ tail)) (feed-off xs tail)

-- a front of a text with a line feed behind it lies within the text, or goes beyond it
abbrev pub Reach : List ℕ → List ℕ → List ℕ → List ℕ → Type 0
Reach text others more left =
    ((rest : List ℕ) × (text ≡ more ++ rest) × (left ≡ rest ++ 10 ∷ others)) ⊎ ((tail : List ℕ) × (more ≡ text ++ 10 ∷ tail))

pub reach : (text others more left : List ℕ) → text ++ 10 ∷ others ≡ more ++ left → Reach text others more left
reach text others [] left e = inl (text, refl, sym e)
reach [] others (m ∷ more) left e = inr (more, ap (λ (x : ℕ). x ∷ more) (sym (cons_first 10 m others (more ++ left) e)))
reach (t ∷ text) others (m ∷ more) left e =
    elim (reach text others more left (cons_rest t m (text ++ 10 ∷ others) (more ++ left) e)) [
      | inl r ↦ inl (
        r.0,
        ap (λ (x : ℕ). x ∷ text) (cons_first t m (text ++ 10 ∷ others) (more ++ left) e) ∙ ap (λ (xs : List ℕ). m ∷ xs) r.1,
        r.2,
      )
      | inr r ↦ inr (
        r.0,
        ap (λ (x : ℕ). x ∷ more) (sym (cons_first t m (text ++ 10 ∷ others) (more ++ left) e)) ∙ ap (λ (xs : List ℕ). t ∷ xs) r.1,
      )
    ]

pub opens-feed : (text others : List ℕ) → opens_comment (text ++ 10 ∷ others) ≡ opens_comment text
opens-feed [] others = refl
opens-feed (b ∷ []) others = refl
opens-feed (b ∷ x ∷ text) others = refl

pub begins-feed : (n : ℕ) (text others : List ℕ) → (10 == n) ≡ false → begins (c.Byte n) (text ++ 10 ∷ others) ≡ begins (c.Byte n) text
begins-feed n [] others off = off
begins-feed n (b ∷ text) others off = refl

-- ---- shapes of one line

-- no line feed stands in what spells the shape
abbrev pub flat : Shape → Bool
flat done = true
flat (one class s) = not (has class 10) && flat s
flat (many class s) = not (has class 10) && flat s
flat (number class s) = not (has class 10) && flat s
flat (led wants) = false
flat (either a b) = flat a && flat b
flat closing = false

flat-byte : (class : Class) (b : ℕ) → not (has class 10) ≡ true → has class b ≡ true → has c.Inline b ≡ true
flat-byte class b off on =
    elim (cases_Bool (b == 10)) [
      | inl is ↦ absurd (false≢true (ap not (sym (ap (has class) (sym (eqb-true b 10 is)) ∙ on)) ∙ off))
      | inr out ↦ not_of (b == 10) out
    ]

flat-front : (class : Class) (front : List ℕ) → not (has class 10) ≡ true → list_all (has class) front ≡ true
    → list_all (has c.Inline) front ≡ true
flat-front class [] off on = refl
flat-front class (b ∷ front) off on =
    let parts = and_parts (has class b) (list_all (has class) front) on in
    and_from (has c.Inline b) (list_all (has c.Inline) front) (flat-byte class b off parts.0) (flat-front class front off parts.1)

flat-joint : (class : Class) (b : ℕ) (others : List ℕ) → not (has class 10) ≡ true → (has class b || ((b == 95) && begins class others)) ≡
    true → has c.Inline b ≡ true
flat-joint class b others off on = elim (or_cases (has class b) ((b == 95) && begins class others) on) [
  | inl is ↦ flat-byte class b off is
  | inr is ↦ ap (has c.Inline) (eqb-true b 95 (and_parts (b == 95) (begins class others) is).0)
]

flat-joined : (class : Class) (front : List ℕ) → not (has class 10) ≡ true → is_joined class front ≡ true
    → list_all (has c.Inline) front ≡ true
flat-joined class [] off on = refl
flat-joined class (b ∷ front) off on =
    let parts = and_parts (has class b || ((b == 95) && begins class front)) (is_joined class front) on in
    and_from (has c.Inline b) (list_all (has c.Inline) front) (flat-joint class b front off parts.0) (flat-joined class front off parts.1)

flat-number : (class : Class) (front : List ℕ) → not (has class 10) ≡ true → is_number class front ≡ true
    → list_all (has c.Inline) front ≡ true
flat-number class [] off on = refl
flat-number class (b ∷ front) off on =
    let parts = and_parts (has class b) (is_joined class front) on in
    and_from (has c.Inline b) (list_all (has c.Inline) front) (flat-byte class b off parts.0) (flat-joined class front off parts.1)

flat-word : (word : List ℕ) → is_word word ≡ true → list_all (has c.Inline) word ≡ true
flat-word word e = flat-front c.WordByte word refl (word-passes word e)

pub spelled-flat : (s : Shape) → flat s ≡ true → (bytes : List ℕ) → Spells s bytes → list_all (has c.Inline) bytes ≡ true
spelled-flat done e bytes x = ap (list_all (has c.Inline)) x
spelled-flat (one class s) e bytes x =
    let parts = and_parts (not (has class 10)) (flat s) e in
    ap (list_all (has c.Inline)) x.spelled ∙ and_from (has c.Inline x.byte) (list_all (has c.Inline) x.rest) (flat-byte class x.byte
    parts.0 x.passes) (spelled-flat s parts.1 x.rest x.behind)
spelled-flat (many class s) e bytes x =
    let parts = and_parts (not (has class 10)) (flat s) e in
    ap (list_all (has c.Inline)) x.spelled
    ∙ all-append (has c.Inline) x.front x.rest (flat-front class x.front parts.0 x.passes) (spelled-flat s parts.1 x.rest x.behind)
spelled-flat (number class s) e bytes x =
    let parts = and_parts (not (has class 10)) (flat s) e in
    ap (list_all (has c.Inline)) x.spelled
    ∙ all-append (has c.Inline) x.front x.rest (flat-number class x.front parts.0 x.passes) (spelled-flat s parts.1 x.rest x.behind)
spelled-flat (led wants) e bytes x = absurd (false≢true e)
spelled-flat (either a b) e bytes x =
    let parts = and_parts (flat a) (flat b) e in
    elim x [ inl sp ↦ spelled-flat a parts.0 bytes sp | inr sp ↦ spelled-flat b parts.1 bytes sp ]
spelled-flat closing e bytes x = absurd (false≢true e)

-- a word, and what is wanted behind it
led-flat : (wants : List ℕ → Shape) → ((word : List ℕ) → flat (wants word) ≡ true) → (bytes : List ℕ) → Spells (led wants) bytes
    → list_all (has c.Inline) bytes ≡ true
led-flat wants e bytes x =
    ap (list_all (has c.Inline)) x.spelled
    ∙ all-append (has c.Inline) x.front x.rest (flat-word x.front x.passes) (spelled-flat (wants x.front) (e x.front) x.rest x.behind)

flat_body : (decimal hexadecimal time : Bool) → flat (cond decimal (one (c.Byte 35) signed) (cond hexadecimal (one (c.Byte 35) hex) (cond
    time (one (c.Byte 35) duration) never))) ≡ true
flat_body true hexadecimal time = refl
flat_body false true time = refl
flat_body false false true = refl
flat_body false false false = refl

flat-body : (prefix : List ℕ) → flat (behind_prefix prefix) ≡ true
unfolding behind_prefix
flat-body prefix = flat_body (is_one_of decimal_prefixes prefix) (is_one_of hex_prefixes prefix) (is_one_of time_prefixes prefix)

header-flat : (language : Language) (context : Context) (bytes : List ℕ) → IsHeaderLine language context bytes
    → list_all (has c.Inline) bytes ≡ true
header-flat language context bytes h = ap (list_all (has c.Inline)) h.spelled
    ∙ all-append (has c.Inline) h.word h.line (flat-word h.word h.of_word) h.inline

-- ---- stretches of several lines

abbrev pub Long : List ℕ → Type 0
Long bytes = Spells white bytes ⊎ (Spells comment bytes ⊎ Spells attribute bytes)

flat-not : (bytes : List ℕ) → list_all (has c.Inline) bytes ≡ false → list_all (has c.Inline) bytes ≡ true → ⊥
flat-not bytes off on = false≢true (sym off ∙ on)

pub long-of : (language : Language) (context : Context) (kind : Option Kind) (bytes : List ℕ) → IsStretch language context kind bytes
    → list_all (has c.Inline) bytes ≡ false → Long bytes
long-of language context None bytes (inl (inl sp)) off = inl sp
long-of language context None bytes (inl (inr (inl sp))) off = absurd (flat-not bytes off (spelled-flat line_comment refl bytes sp))
long-of language context None bytes (inl (inr (inr (inl sp)))) off = inr (inl sp)
long-of language context None bytes (inl (inr (inr (inr sp)))) off = inr (inr sp)
long-of language context None bytes (inr h) off = absurd (flat-not bytes off (header-flat language context bytes h))
long-of language context (Some k.Address) bytes sp off = absurd (flat-not bytes off (spelled-flat address refl bytes sp))
long-of language context (Some k.Word) bytes sp off = absurd (flat-not bytes off (led-flat (λ w. done) (λ w. refl) bytes sp))
long-of language context (Some k.Quoted) bytes sp off = absurd (flat-not bytes off (spelled-flat quoted refl bytes sp))
long-of language context (Some k.Number) bytes (inl sp) off = absurd (flat-not bytes off (spelled-flat plain_number refl bytes sp))
long-of language context (Some k.Number) bytes (inr sp) off = absurd (flat-not bytes off (led-flat behind_prefix flat-body bytes sp))
long-of language context (Some k.Real) bytes sp off = absurd (flat-not bytes off (spelled-flat real refl bytes sp))
long-of l.Scl context (Some k.Sign) bytes sp off = absurd (flat-not bytes off (spelled-flat (signs l.Scl) refl bytes sp))
long-of l.Stl context (Some k.Sign) bytes sp off = absurd (flat-not bytes off (spelled-flat (signs l.Stl) refl bytes sp))
long-of language context (Some k.End) bytes sp off = absurd sp
