-- A text is cut in one way: it has one list of tokens or one first fault.
use Rattle.std.proofs.Common.{◌≡◌, ◌⊎◌, ℕ, zero, suc, ◌+◌, ◌<◌, ◌≤◌, length, drop, take, true, false, inl, inr, List, [], ◌∷◌, ◌++◌, Option, Some, None, Result, Ok, Err, refl, ap, sym, ◌∙◌, subst, arith, lit<}
use Rattle.std.specs.Prelude.{◌||◌, ◌==◌}
use Rattle.std.proofs.lemmas.Bool.{false≢true, eqb-true, cases_eq, or_cases, and_parts}
use Rattle.pv_place.specs.declared.place.Place.{Place}
use Rattle.pv_lex.specs.declared.class.Class.TheVariants as c
use Rattle.pv_lex.specs.declared.context.Context.{Context}
use Rattle.pv_lex.specs.declared.stretch.Next.{Next}
use Rattle.pv_lex.specs.declared.fault.FaultKind.{FaultKind}
use Rattle.pv_lex.specs.declared.fault.FaultKind.TheVariants as f
use Rattle.pv_lex.specs.declared.token.Token.{Token}
use Rattle.pv_lex.specs.declared.token.Language.{Language}
use Rattle.pv_lex.specs.declared.token.Language.TheVariants as l
use Rattle.pv_lex.specs.declared.token.Kind.{Kind}
use Rattle.pv_lex.specs.declared.token.Kind.TheVariants as k
use Rattle.pv_lex.specs.Shapes.{begins, any_number, address, Spells, signs}
use Rattle.pv_lex.specs.Tokens.{IsStretch, IsNext, NoneIsNext, NoneBegins, IsNumeric, IsOfFault, opens_comment, behind, at_start, Piece, behind_all, IsCut, token_at, tokens_of, tokens_from, CutTo, AreTokens, IsFault, LieFrom}
use Rattle.pv_lex.specs.Scans.{next_of, next_tokens}
use Rattle.pv_lex.proofs.Scanning.{of_not}
use Rattle.pv_lex.proofs.Within.{not_nil}
use Rattle.pv_lex.proofs.Starts.{Start, start-of, no_start}
use Rattle.pv_lex.proofs.Least.{longest-one, stretch-some}
use Rattle.pv_lex.proofs.Answered.{IsAnswer, answered}
use Rattle.pv_lex.proofs.Cuts.{size, rest-is, start, step, finish, refuse, found-fits}

pub next-one : (language : Language) (context : Context) (kind other : Option Kind) (bytes more rest left : List ℕ)
    → bytes ++ rest ≡ more ++ left
    → IsNext language context kind bytes rest → IsNext language context other more left → (kind ≡ other) × (bytes ≡ more) × (rest ≡ left)
next-one language context kind other bytes more rest left whole a b =
    let s = longest-one language context kind other bytes more rest left whole a.longest b.longest in
    (s.kinds, s.fronts, s.rests)

none_of : (language : Language) (context : Context) (kind : Option Kind) (bytes rest : List ℕ) → [] ≡ bytes ++ rest
    → IsNext language context kind bytes rest → ⊥
none_of language context kind [] rest is n = stretch-some language context kind n.longest.stretch
none_of language context kind (b ∷ bytes) rest is n = not_nil b (bytes ++ rest) (sym is)

-- nothing is next in an empty text
pub nil-none : (language : Language) (context : Context) → NoneIsNext language context []
nil-none language context = λ kind bytes rest is n. none_of language context kind bytes rest is n

piece_is : (p q : Piece) → p.kind ≡ q.kind → p.bytes ≡ q.bytes → p ≡ q
piece_is p q e g = ap (λ (x : Option Kind). record { kind = x; bytes = p.bytes }) e
    ∙ ap (λ (x : List ℕ). record { kind = q.kind; bytes = x }) g

-- two cuts that go no further are one
pub cut-one : (language : Language) (context : Context) (ps qs : List Piece) (text rest left : List ℕ)
    → IsCut language context ps text rest → IsCut language context qs text left
    → NoneIsNext language (behind_all context ps) rest → NoneIsNext language (behind_all context qs) left → (ps ≡ qs) × (rest ≡ left)
cut-one language context [] [] text rest left a b stuck halt = (refl, sym a ∙ b)
cut-one language context [] (q ∷ qs) text rest left a b stuck halt = absurd (stuck q.kind q.bytes b.0 (sym a ∙ b.1) b.2)
cut-one language context (p ∷ ps) [] text rest left a b stuck halt = absurd (halt p.kind p.bytes a.0 (sym b ∙ a.1) a.2)
cut-one language context (p ∷ ps) (q ∷ qs) text rest left a b stuck halt =
    let s = longest-one language context p.kind q.kind p.bytes q.bytes a.0 b.0 (sym a.1 ∙ b.1) a.2.longest b.2.longest in
    let same : q ≡ p = sym (piece_is p q s.kinds s.fronts) in
    let cut : IsCut language (behind context p.kind p.bytes) qs a.0 left =
    subst (λ (t : List ℕ). IsCut language (behind context p.kind p.bytes) qs t left) (sym s.rests)
    (subst (λ (x : Piece). IsCut language (behind context x.kind x.bytes) qs b.0 left) same b.3) in
    let end : NoneIsNext language (behind_all (behind context p.kind p.bytes) qs) left =
    subst (λ (x : Piece). NoneIsNext language (behind_all (behind context x.kind x.bytes) qs) left) same halt in
    let r = cut-one language (behind context p.kind p.bytes) ps qs a.0 rest left a.3 cut stuck end in
    (ap (λ (x : Piece). x ∷ ps) (sym same) ∙ ap (λ (xs : List Piece). q ∷ xs) r.0, r.1)

empty : (xs : List ℕ) → length xs ≡ 0 → xs ≡ []
empty [] e = refl
empty (x ∷ xs) e = absurd (omega (arith, e))

-- the rest of a cut, where nothing is next in it
whole-end : (language : Language) (file : ℕ) (text : List ℕ) (context : Context) (front : List Token)
    → (cut : CutTo language file text (length text) context front)
    → NoneIsNext language (behind_all at_start cut.pieces) cut.rest
whole-end language file text context front cut =
    subst (NoneIsNext language (behind_all at_start cut.pieces)) (sym (empty cut.rest (omega (arith, cut.place)))) (nil-none language
    (behind_all at_start cut.pieces))

fault-end : (language : Language) (file : ℕ) (text : List ℕ) (kind : FaultKind) (place : Place)
    → (x : IsFault language file text kind place)
    → NoneIsNext language (behind_all at_start x.cut.pieces) x.cut.rest
fault-end language file text kind place x =
    let r = rest-is language file text place.offset x.context x.tokens x.cut in
    subst (λ (d : Context). NoneIsNext language d x.cut.rest) x.cut.context_is (subst (NoneIsNext language x.context) (sym r.0) x.stuck)

pub tokens-one : (language : Language) (file : ℕ) (text : List ℕ) (tokens others : List Token) → AreTokens language file text tokens
    → AreTokens language file text others → tokens ≡ others
tokens-one language file text tokens others a b =
    let s = cut-one language at_start a.cut.pieces b.cut.pieces text a.cut.rest b.cut.rest a.cut.cut b.cut.cut
    (whole-end language file text a.context a.front a.cut) (whole-end language file text b.context b.front b.cut) in
    let fronts : a.front ≡ b.front = a.cut.tokens_are ∙ ap (tokens_from file 0) s.0 ∙ sym b.cut.tokens_are in
    a.tokens_are ∙ ap (λ (t : List Token). t ++ token_at file (length text) k.End [] ∷ []) fronts ∙ sym b.tokens_are

not_below : (at len m n : ℕ) → len + m ≡ len → at + n ≡ len → m ≡ n → at < len → ⊥
not_below at len m n e g h low = omega arith

pub tokens-faultless : (language : Language) (file : ℕ) (text : List ℕ) (tokens : List Token) (kind : FaultKind) (place : Place)
    → AreTokens language file text tokens
    → IsFault language file text kind place → ⊥
tokens-faultless language file text tokens kind place a x =
    let s = cut-one language at_start a.cut.pieces x.cut.pieces text a.cut.rest x.cut.rest a.cut.cut x.cut.cut
    (whole-end language file text a.context a.front a.cut) (fault-end language file text kind place x) in
    not_below place.offset (length text) (length a.cut.rest) (length x.cut.rest) a.cut.place x.cut.place (ap length s.1) x.within

-- ---- the fault is one

pub low-byte : (n : ℕ) → n < 128 → (b : ℕ) → (b == n) ≡ true → b < 128
low-byte n h b is = omega (arith, eqb-true b n is)

-- an address or a number doesn't begin as a quote, an attribute or a comment does
pub numeric-start : (language : Language) (context : Context) (text : List ℕ) → (x : IsNumeric language context text)
    → (Start any_number text) ⊎ (Start address text)
numeric-start language context text x = elim x.numeric [
  | inl e ↦ inl (start-of any_number text x.bytes x.rest refl x.whole (subst (λ (y : Kind). IsStretch language context (Some y) x.bytes) e
      x.longest.stretch))
  | inr e ↦ inr (start-of address text x.bytes x.rest refl x.whole (subst (λ (y : Kind). IsStretch language context (Some y) x.bytes) e
      x.longest.stretch))
]

no_quote : (text : List ℕ) → begins (c.Byte 34) text ≡ true → (Start any_number text) ⊎ (Start address text) → ⊥
no_quote text on (inl x) = no_start (c.Byte 34) any_number text (low-byte 34 (lit< tt)) refl on x
no_quote text on (inr x) = no_start (c.Byte 34) address text (low-byte 34 (lit< tt)) refl on x

pub no_brace : (text : List ℕ) → begins (c.Byte 123) text ≡ true → (Start any_number text) ⊎ (Start address text) → ⊥
no_brace text on (inl x) = no_start (c.Byte 123) any_number text (low-byte 123 (lit< tt)) refl on x
no_brace text on (inr x) = no_start (c.Byte 123) address text (low-byte 123 (lit< tt)) refl on x

pub no_open : (text : List ℕ) → begins (c.Byte 40) text ≡ true → (Start any_number text) ⊎ (Start address text) → ⊥
no_open text on (inl x) = no_start (c.Byte 40) any_number text (low-byte 40 (lit< tt)) refl on x
no_open text on (inr x) = no_start (c.Byte 40) address text (low-byte 40 (lit< tt)) refl on x

pub open-begins : (text : List ℕ) → opens_comment text ≡ true → begins (c.Byte 40) text ≡ true
open-begins [] on = on
open-begins (b ∷ others) on = (and_parts (b == 40) (begins (c.Byte 42) others) on).0

two_bytes : (m n : ℕ) (text : List ℕ) → (m == n) ≡ false → begins (c.Byte m) text ≡ true → begins (c.Byte n) text ≡ true → ⊥
two_bytes m n [] off on there = false≢true on
two_bytes m n (b ∷ others) off on there = false≢true (sym off ∙ (ap (λ (x : ℕ). x == n) (sym (eqb-true b m on)) ∙ there))

-- a parenthesis is a sign
spelled-open : (language : Language) → Spells (signs language) (40 ∷ [])
spelled-open l.Scl = inl (record { byte = 40; rest = []; spelled = refl; passes = refl; behind = refl })
spelled-open l.Stl = inl (inl (record { byte = 40; rest = []; spelled = refl; passes = refl; behind = refl }))

open-stretch : (language : Language) (context : Context) (text : List ℕ) → begins (c.Byte 40) text ≡ true
    → NoneBegins language context text → ⊥
open-stretch language context [] on none = false≢true on
open-stretch language context (b ∷ others) on none = none (Some k.Sign) (40 ∷ []) others (ap (λ (x : ℕ). x ∷ others) (eqb-true b 40 on))
    (spelled-open language)

bad_comment : (language : Language) (context : Context) (text : List ℕ) → IsOfFault language context text f.BadByte
    → (opens_comment text || begins (c.Byte 123) text) ≡ true → ⊥
bad_comment language context text x y = elim (or_cases (opens_comment text) (begins (c.Byte 123) text) y) [
  | inl on ↦ open-stretch language context text (open-begins text on) x.0
  | inr on ↦ false≢true (sym (of_not (begins (c.Byte 123) text) x.1) ∙ on)
]

comment_quote : (text : List ℕ) → (opens_comment text || begins (c.Byte 123) text) ≡ true → begins (c.Byte 34) text ≡ true → ⊥
comment_quote text x y = elim (or_cases (opens_comment text) (begins (c.Byte 123) text) x) [
  | inl on ↦ two_bytes 40 34 text refl (open-begins text on) y
  | inr on ↦ two_bytes 123 34 text refl on y
]

comment_wide : (language : Language) (context : Context) (text : List ℕ) → (opens_comment text || begins (c.Byte 123) text) ≡ true
    → IsNumeric language context text → ⊥
comment_wide language context text x y = elim (or_cases (opens_comment text) (begins (c.Byte 123) text) x) [
  | inl on ↦ no_open text (open-begins text on) (numeric-start language context text y)
  | inr on ↦ no_brace text on (numeric-start language context text y)
]

pub kind-one : (language : Language) (context : Context) (text : List ℕ) (kind other : FaultKind) → IsOfFault language context text kind
    → IsOfFault language context text other → kind ≡ other
kind-one language context text f.BadByte f.BadByte x y = refl
kind-one language context text f.OpenComment f.OpenComment x y = refl
kind-one language context text f.OpenQuote f.OpenQuote x y = refl
kind-one language context text f.NumberTooWide f.NumberTooWide x y = refl
kind-one language context text f.BadByte f.OpenComment x y = absurd (bad_comment language context text x y)
kind-one language context text f.BadByte f.OpenQuote x y = absurd (false≢true (sym (of_not (begins (c.Byte 34) text) x.2) ∙ y))
kind-one language context text f.BadByte f.NumberTooWide x y = absurd (x.0 (Some y.kind) y.bytes y.rest y.whole y.longest.stretch)
kind-one language context text f.OpenComment f.BadByte x y = absurd (bad_comment language context text y x)
kind-one language context text f.OpenComment f.OpenQuote x y = absurd (comment_quote text x y)
kind-one language context text f.OpenComment f.NumberTooWide x y = absurd (comment_wide language context text x y)
kind-one language context text f.OpenQuote f.BadByte x y = absurd (false≢true (sym (of_not (begins (c.Byte 34) text) y.2) ∙ x))
kind-one language context text f.OpenQuote f.OpenComment x y = absurd (comment_quote text y x)
kind-one language context text f.OpenQuote f.NumberTooWide x y = absurd (no_quote text x (numeric-start language context text y))
kind-one language context text f.NumberTooWide f.BadByte x y = absurd (y.0 (Some x.kind) x.bytes x.rest x.whole x.longest.stretch)
kind-one language context text f.NumberTooWide f.OpenComment x y = absurd (comment_wide language context text y x)
kind-one language context text f.NumberTooWide f.OpenQuote x y = absurd (no_quote text y (numeric-start language context text x))

place_is : (p q : Place) → p.file ≡ q.file → p.offset ≡ q.offset → p ≡ q
place_is p q e g = ap (λ (n : ℕ). record { file = n; offset = p.offset }) e ∙ ap (λ (n : ℕ). record { file = q.file; offset = n }) g

pub fault-one : (language : Language) (file : ℕ) (text : List ℕ) (kind other : FaultKind) (place there : Place)
    → IsFault language file text kind place → IsFault language file text other there
    → (kind ≡ other) × (place ≡ there)
fault-one language file text kind other place there a b =
    let s = cut-one language at_start a.cut.pieces b.cut.pieces text a.cut.rest b.cut.rest a.cut.cut b.cut.cut
    (fault-end language file text kind place a) (fault-end language file text other there b) in
    let r = rest-is language file text place.offset a.context a.tokens a.cut in
    let q = rest-is language file text there.offset b.context b.tokens b.cut in
    let contexts : b.context ≡ a.context = b.cut.context_is ∙ ap (behind_all at_start) (sym s.0) ∙ sym a.cut.context_is in
    let rests : drop there.offset text ≡ drop place.offset text = sym q.0 ∙ sym s.1 ∙ r.0 in
    let kinds : IsOfFault language a.context (drop place.offset text) other =
    subst (λ (t : List ℕ). IsOfFault language a.context t other) rests (subst (λ (d : Context). IsOfFault language d (drop there.offset
    text) other) contexts b.of_kind) in (
      kind-one language a.context (drop place.offset text) kind other a.of_kind kinds,
      place_is place there (a.of_file ∙ sym b.of_file) (r.1 ∙ ap size s.0 ∙ sym q.1),
    )

-- ---- there is one or the other

below_of : (m n : ℕ) → m ≤ n → (m ≡ n → ⊥) → m < n
below_of m n h e = omega (arith, e)

abbrev Either : Language → ℕ → List ℕ → Type 0
Either language file text = ((tokens : List Token) × AreTokens language file text tokens) ⊎ ((kind : FaultKind) × (place : Place) × IsFault
    language file text kind place)

goes : (n : ℕ) (language : Language) (file : ℕ) (text : List ℕ) (at : ℕ) (context : Context) (tokens : List Token)
    → length text ≤ at + suc n → at < length text
    → CutTo language file text at context tokens → (result : Result Next FaultKind) → IsAnswer language context (drop at text) result
    → ((at : ℕ) (context : Context) (tokens : List Token) → length text ≤ at + n → at ≤ length text
    → CutTo language file text at context tokens → Either language file text)
    → Either language file text
goes n language file text at context tokens h low cut (Ok next) x further =
    let g = found-fits language context text at next (omega arith) x in
    further (at + next.len) (behind context next.kind (take next.len (drop at text))) (tokens ++ next_tokens file at next) (omega (
      arith,
      g.1,
    )) g.0
    (step language file text at context tokens next cut x)
goes n language file text at context tokens h low cut (Err kind) x further =
    inr (kind, record { file = file; offset = at }, refuse language file text at context tokens kind low cut x)

ends : (language : Language) (file : ℕ) (text : List ℕ) (at : ℕ) (context : Context) (tokens : List Token) → at ≡ length text
    → CutTo language file text at context tokens → Either language file text
ends language file text at context tokens e cut = inl (
  tokens ++ token_at file at k.End [] ∷ [],
  finish language file text at context
      tokens e cut,
)

from : (n : ℕ) (language : Language) (file : ℕ) (text : List ℕ) (at : ℕ) (context : Context) (tokens : List Token) → length text ≤ at + n
    → at ≤ length text
    → CutTo language file text at context tokens → Either language file text
from zero language file text at context tokens h low cut = ends language file text at context tokens (omega arith) cut
from (suc n) language file text at context tokens h low cut =
    elim (cases_eq at (length text)) [
      | inl e ↦ ends language file text at context tokens e cut
      | inr e ↦ goes n language file text at context tokens h (below_of at (length text) low e) cut (next_of language context (drop at
          text)) (answered language context (drop at text))
          (λ m d ts g k x. from n language file text m d ts g k x)
    ]

pub either-one : (language : Language) (file : ℕ) (text : List ℕ) → Either language file text
either-one language file text = from (length text) language file text 0 at_start [] (omega arith) (omega arith) (start language file text)

-- ---- the tokens lie one behind the other

lies_piece : (file len : ℕ) (kind : Option Kind) (bytes : List ℕ) (at first : ℕ) (tokens others : List Token) → first ≤ at
    → at + length bytes ≤ len
    → ((n : ℕ) → n ≤ at + length bytes → LieFrom file n len (tokens ++ others))
    → LieFrom file first len ((tokens_of file at kind bytes ++ tokens) ++ others)
lies_piece file len None bytes at first tokens others h fits next = next first (omega arith)
lies_piece file len (Some kind) bytes at first tokens others h fits next = (refl, h, fits, next (at + length bytes) (omega arith))

pub lies : (file len : ℕ) (pieces : List Piece) (at first : ℕ) (others : List Token) → first ≤ at → at + size pieces ≤ len
    → ((n : ℕ) → n ≤ at + size pieces → LieFrom file n len others) → LieFrom file first len (tokens_from file at pieces ++ others)
lies file len [] at first others h fits next = next first (omega arith)
lies file len (piece ∷ pieces) at first others h fits next =
    lies_piece file len piece.kind piece.bytes at first (tokens_from file (at + length piece.bytes) pieces) others h (omega (arith, fits))
    (λ n g. lies file len pieces (at + length piece.bytes) n others g (omega (arith, fits)) (λ m g'. next m (omega (arith, g'))))

pub tokens-lie : (language : Language) (file : ℕ) (text : List ℕ) (tokens : List Token) → AreTokens language file text tokens
    → LieFrom file 0 (length text) tokens
tokens-lie language file text tokens a =
    let r = rest-is language file text (length text) a.context a.front a.cut in
    let end : List Token = token_at file (length text) k.End [] ∷ [] in
    subst (LieFrom file 0 (length text)) (sym (a.tokens_are ∙ ap (λ (t : List Token). t ++ end) a.cut.tokens_are))
    (lies file (length text) a.cut.pieces 0 0 end (omega arith) (omega (arith, r.1)) (λ n g. (
      refl,
      omega (arith, g, r.1),
      omega arith,
      tt,
    )))

pub tokens-last : (language : Language) (file : ℕ) (text : List ℕ) (tokens : List Token) → AreTokens language file text tokens
    → (front : List Token) × (tokens ≡ front ++ token_at file (length text) k.End [] ∷ [])
tokens-last language file text tokens a = (a.front, a.tokens_are)
