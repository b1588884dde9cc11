-- Words, numbers with a point and signs are ASCII, by the shapes of their tokens.
use Rattle.std.proofs.Common.{◌≡◌, ℕ, ◌+◌, ◌<◌, Bool, true, false, ◌&&◌, ◌||◌, ◌==◌, IsTrue, List, [], ◌∷◌, ◌++◌, length, take, drop, refl, ap, sym, subst, ◌∙◌, arith, inl, inr, Option, Some, None, drop-drop, zero, suc}
use Rattle.std.specs.Prelude.{nat_lt, IsAscii}
use Rattle.std.specs.List.{list_all}
use Rattle.pv_lex.specs.declared.token.Kind.{Kind}
use Rattle.pv_lex.specs.declared.token.Kind.TheVariants as k
use Rattle.pv_lex.specs.declared.token.Language.{Language}
use Rattle.pv_lex.specs.declared.token.Language.TheVariants.{Scl, Stl}
use Rattle.pv_lex.specs.declared.token.Token.{Token}
use Rattle.pv_lex.specs.declared.context.Context.{Context}
use Rattle.pv_lex.specs.declared.class.Class.{Class}
use Rattle.pv_lex.specs.declared.class.Class.TheVariants as c
use Rattle.pv_lex.specs.Classes.{has, is_letter, is_word_byte}
use Rattle.pv_lex.specs.Shapes.{Shape, done, one, many, number, led, either, closing, Spells, is_word, word, real, signs}
use Rattle.pv_lex.specs.Tokens.{IsStretch, IsCut, Piece, behind, tokens_of, tokens_from, AreTokens}
use Rattle.pv_tree.specs.Lexemes.{Lexeme, lexeme_of, lexemes_of}
use Rattle.pv_tree.specs.Outside.{Spot, first_spot, behind_all, is_outside_kind, IsFirstOutside}

-- ---- bytes

abbrev pub Ascii : List ℕ → Type 0
Ascii [] = Unit {0}
Ascii (b ∷ others) = (b < 128) × Ascii others

pub is_ascii : (bytes : List ℕ) → Ascii bytes → IsAscii bytes
is_ascii [] h i = omega arith
is_ascii (b ∷ others) h zero = h.0
is_ascii (b ∷ others) h (suc i) = is_ascii others h.1 i

ascii_both : (xs ys : List ℕ) → Ascii xs → Ascii ys → Ascii (xs ++ ys)
ascii_both [] ys p q = q
ascii_both (x ∷ xs) ys p q = (p.0, ascii_both xs ys p.1 q)

along : (P : List ℕ → Type 0) (bytes other : List ℕ) → bytes ≡ other → P other → P bytes
along P bytes other e p = subst P (sym e) p

-- ---- classes

-- the class has ASCII bytes alone; classes that the shapes below don't name aren't asked
abbrev is_plain : Class → Bool
is_plain (c.Byte b) = nat_lt b 128
is_plain (c.Either a b) = nat_lt a 128 && nat_lt b 128
is_plain c.Digit = true
is_plain c.Sign = true
is_plain c.Step = true
is_plain c.Type = true
is_plain c.Nothing = true
is_plain _ = false

byte_is : (b other : ℕ) → nat_lt other 128 ≡ true → (b == other) ≡ true → b < 128
byte_is b other e h = grind arith

either_is : (b x y : ℕ) → (nat_lt x 128 && nat_lt y 128) ≡ true → (b == x || b == y) ≡ true → b < 128
either_is b x y e h = grind arith

sign_is : (b : ℕ) → IsTrue (has c.Sign b) → b < 128
sign_is b h = grind arith

step_is : (b : ℕ) → IsTrue (has c.Step b) → b < 128
step_is b h = grind arith

type_is : (b : ℕ) → IsTrue (has c.Type b) → b < 128
type_is b h = grind arith

digit_is : (b : ℕ) → IsTrue (has c.Digit b) → b < 128
digit_is b h = grind arith

word_byte_is : (b : ℕ) → IsTrue (is_word_byte b) → b < 128
word_byte_is b h = grind arith

letter_is : (b : ℕ) → IsTrue (is_letter b) → b < 128
letter_is b h = grind arith

plain_is : (class : Class) (b : ℕ) → is_plain class ≡ true → IsTrue (has class b) → b < 128
plain_is (c.Byte other) b e h = byte_is b other e h
plain_is (c.Either x y) b e h = either_is b x y e h
plain_is c.Digit b e h = digit_is b h
plain_is c.Sign b e h = sign_is b h
plain_is c.Step b e h = step_is b h
plain_is c.Type b e h = type_is b h
plain_is c.Nothing b e h = absurd (cc h)
plain_is c.Space b e h = absurd (cc e)
plain_is c.Blank b e h = absurd (cc e)
plain_is c.Letter b e h = absurd (cc e)
plain_is c.WordByte b e h = absurd (cc e)
plain_is c.WordEnd b e h = absurd (cc e)
plain_is c.Hex b e h = absurd (cc e)
plain_is c.Octal b e h = absurd (cc e)
plain_is c.Area b e h = absurd (cc e)
plain_is c.Width b e h = absurd (cc e)
plain_is c.Quotable b e h = absurd (cc e)
plain_is c.Braced b e h = absurd (cc e)
plain_is c.Inline b e h = absurd (cc e)

parts_true : (p q : Bool) → (p && q) ≡ true → (p ≡ true) × (q ≡ true)
parts_true true q e = (refl, e)
parts_true false q e = absurd (cc e)

all_ascii : (test : ℕ → Bool) → ((b : ℕ) → IsTrue (test b) → b < 128) → (bytes : List ℕ) → IsTrue (list_all test bytes) → Ascii bytes
all_ascii test known [] h = tt
all_ascii test known (b ∷ others) h =
    let both = parts_true (test b) (list_all test others) h in (known b both.0, all_ascii test known others both.1)

-- ---- shapes

-- the shape is made of such classes
abbrev is_plain_shape : Shape → Bool
is_plain_shape done = true
is_plain_shape (one class rest) = is_plain class && is_plain_shape rest
is_plain_shape (many class rest) = is_plain class && is_plain_shape rest
is_plain_shape (either a b) = is_plain_shape a && is_plain_shape b
is_plain_shape _ = false

spells_ascii : (s : Shape) → is_plain_shape s ≡ true → (bytes : List ℕ) → Spells s bytes → Ascii bytes
spells_ascii done e bytes h = along Ascii bytes [] h tt
spells_ascii (one class rest) e bytes h =
    let both = parts_true (is_plain class) (is_plain_shape rest) e in
    along Ascii bytes (h.byte ∷ h.rest) h.spelled (plain_is class h.byte both.0 h.passes, spells_ascii rest both.1 h.rest h.behind)
spells_ascii (many class rest) e bytes h =
    let both = parts_true (is_plain class) (is_plain_shape rest) e in
    along Ascii bytes (h.front ++ h.rest) h.spelled
    (ascii_both h.front h.rest (all_ascii (has class) (λ b. plain_is class b both.0) h.front h.passes) (spells_ascii rest both.1 h.rest h.behind))
spells_ascii (either a b) e bytes (inl h) = spells_ascii a (parts_true (is_plain_shape a) (is_plain_shape b) e).0 bytes h
spells_ascii (either a b) e bytes (inr h) = spells_ascii b (parts_true (is_plain_shape a) (is_plain_shape b) e).1 bytes h
spells_ascii (number class rest) e bytes h = absurd (cc e)
spells_ascii (led wants) e bytes h = absurd (cc e)
spells_ascii closing e bytes h = absurd (cc e)

word_front : (bytes : List ℕ) → IsTrue (is_word bytes) → Ascii bytes
word_front [] h = tt
word_front (b ∷ others) h =
    let both = parts_true (is_letter b) (list_all is_word_byte others) h in
    (letter_is b both.0, all_ascii is_word_byte word_byte_is others both.1)

word_ascii : (bytes : List ℕ) → Spells word bytes → Ascii bytes
word_ascii bytes h =
    along Ascii bytes (h.front ++ h.rest) h.spelled
    (ascii_both h.front h.rest (word_front h.front h.passes) (along Ascii h.rest [] h.behind tt))

-- ---- by the token's kind

abbrev AsciiBy : Kind → List ℕ → Type 0
AsciiBy k.Word bytes = Ascii bytes
AsciiBy k.Real bytes = Ascii bytes
AsciiBy k.Sign bytes = Ascii bytes
AsciiBy _ bytes = Unit {0}

plain_signs : (its : Language) → is_plain_shape (signs its) ≡ true
plain_signs Scl = refl
plain_signs Stl = refl

stretch_ascii : (its : Language) (context : Context) (kind : Kind) (bytes : List ℕ) → IsStretch its context (Some kind) bytes → AsciiBy kind bytes
stretch_ascii its context k.Word bytes h = word_ascii bytes h
stretch_ascii its context k.Real bytes h = spells_ascii real refl bytes h
stretch_ascii its context k.Sign bytes h = spells_ascii (signs its) (plain_signs its) bytes h
stretch_ascii its context k.Quoted bytes h = tt
stretch_ascii its context k.Number bytes h = tt
stretch_ascii its context k.Address bytes h = tt
stretch_ascii its context k.End bytes h = tt

-- ---- along a text

abbrev AreAscii : List Lexeme → Type 0
AreAscii [] = Unit {0}
AreAscii (t ∷ others) = AsciiBy t.kind t.bytes × AreAscii others

both_ascii : (xs ys : List Lexeme) → AreAscii xs → AreAscii ys → AreAscii (xs ++ ys)
both_ascii [] ys p q = q
both_ascii (x ∷ xs) ys p q = (p.0, both_ascii xs ys p.1 q)

-- that of a token behind others
at_ascii : (xs : List Lexeme) (t : Lexeme) (ys : List Lexeme) → AreAscii (xs ++ t ∷ ys) → AsciiBy t.kind t.bytes
at_ascii [] t ys h = h.0
at_ascii (x ∷ xs) t ys h = at_ascii xs t ys h.1

front_taken : (bytes left : List ℕ) → take (length bytes) (bytes ++ left) ≡ bytes
front_taken [] left = refl
front_taken (b ∷ others) left = ap (λ (xs : List ℕ). b ∷ xs) (front_taken others left)

front_dropped : (bytes left : List ℕ) → drop (length bytes) (bytes ++ left) ≡ left
front_dropped [] left = refl
front_dropped (b ∷ others) left = front_dropped others left

piece_ascii : (its : Language) (file at : ℕ) (whole : List ℕ) (context : Context) (kind : Option Kind) (bytes left : List ℕ) → drop at whole ≡ bytes ++ left
    → IsStretch its context kind bytes → AreAscii (lexemes_of whole (tokens_of file at kind bytes))
piece_ascii its file at whole context None bytes left e s = tt
piece_ascii its file at whole context (Some kind) bytes left e s = (
  along (AsciiBy kind) (take (length bytes) (drop at whole)) bytes (ap (take (length bytes)) e ∙ front_taken bytes left)
      (stretch_ascii its context kind bytes s),
  tt,
)

of_append : (text : List ℕ) (xs ys : List Token) → lexemes_of text (xs ++ ys) ≡ lexemes_of text xs ++ lexemes_of text ys
of_append text [] ys = refl
of_append text (x ∷ xs) ys = ap (λ (ls : List Lexeme). lexeme_of text x ∷ ls) (of_append text xs ys)

append_ascii : (text : List ℕ) (xs ys : List Token) → AreAscii (lexemes_of text xs) → AreAscii (lexemes_of text ys)
    → AreAscii (lexemes_of text (xs ++ ys))
append_ascii text xs ys p q = subst AreAscii (sym (of_append text xs ys)) (both_ascii (lexemes_of text xs) (lexemes_of text ys) p q)

pieces_ascii : (its : Language) (pieces : List Piece) (file at : ℕ) (whole text rest : List ℕ) (context : Context) → drop at whole ≡ text
    → IsCut its context pieces text rest → AreAscii (lexemes_of whole (tokens_from file at pieces))
pieces_ascii its [] file at whole text rest context e h = tt
pieces_ascii its (piece ∷ others) file at whole text rest context e (left, f, next, more) =
    append_ascii whole (tokens_of file at piece.kind piece.bytes) (tokens_from file (at + length piece.bytes) others)
    (piece_ascii its file at whole context piece.kind piece.bytes left (e ∙ f) next.longest.stretch)
    (pieces_ascii its others file (at + length piece.bytes) whole left rest (behind context piece.kind piece.bytes)
    (sym (drop-drop (length piece.bytes) at whole) ∙ ap (drop (length piece.bytes)) (e ∙ f) ∙ front_dropped piece.bytes left) more)

tokens_ascii : (its : Language) (file : ℕ) (text : List ℕ) (tokens : List Token) → AreTokens its file text tokens → AreAscii (lexemes_of text tokens)
tokens_ascii its file text tokens a =
    subst (λ ts. AreAscii (lexemes_of text ts)) (sym (a.tokens_are ∙ ap (λ (ts : List Token). ts ++ _) a.cut.tokens_are))
    (append_ascii text (tokens_from file 0 a.cut.pieces) _ (pieces_ascii its a.cut.pieces file 0 text text a.cut.rest _ refl a.cut.cut) (tt, tt))

-- ---- words outside the profile

outside_by : (its : Language) (kind : Kind) (spot : Spot) (bytes : List ℕ) (others : List Lexeme) → is_outside_kind kind its spot bytes others ≡ true
    → AsciiBy kind bytes → Ascii bytes
outside_by its k.Word spot bytes others e h = h
outside_by its k.Real spot bytes others e h = h
outside_by its k.Sign spot bytes others e h = h
outside_by its k.Quoted spot bytes others e h = absurd (cc e)
outside_by its k.Number spot bytes others e h = absurd (cc e)
outside_by its k.Address spot bytes others e h = absurd (cc e)
outside_by its k.End spot bytes others e h = absurd (cc e)

pub outside_ascii : (its : Language) (file : ℕ) (text : List ℕ) (tokens : List Token) (t : Lexeme) → AreTokens its file text tokens
    → IsFirstOutside its (lexemes_of text tokens) t → IsAscii t.bytes
outside_ascii its file text tokens t cut is =
    is_ascii t.bytes (outside_by its t.kind (behind_all first_spot is.before) t.bytes is.others is.outside
    (at_ascii is.before t is.others (subst AreAscii is.parts (tokens_ascii its file text tokens cut))))
