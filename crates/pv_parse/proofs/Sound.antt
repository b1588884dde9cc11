-- A text's tokens are sound, and have their kinds: what the shapes of tokens say of their first bytes.
use Rattle.std.proofs.Common.{◌≡◌, ℕ, ◌+◌, ◌<◌, Bool, true, false, cond, ◌||◌, ◌==◌, IsTrue, List, [], ◌∷◌, ◌++◌, length, take, drop, refl, ap, sym, subst, ◌∙◌, arith, inl, inr, Option, Some, None, drop-drop}
use Rattle.pv_lex.specs.declared.token.Kind.{Kind}
use Rattle.pv_lex.specs.declared.token.Kind.TheVariants as k
use Rattle.pv_lex.specs.declared.token.Language.{Language}
use Rattle.pv_lex.specs.declared.token.Token.{Token}
use Rattle.pv_lex.specs.declared.context.Context.{Context}
use Rattle.pv_lex.specs.declared.class.Class.{Class}
use Rattle.pv_lex.specs.declared.class.Class.TheVariants as c
use Rattle.pv_lex.specs.Classes.{has}
use Rattle.pv_lex.specs.Shapes.{Spells, IsOne, IsFront, quoted, address, plain_address, any_number}
use Rattle.pv_lex.specs.Tokens.{IsStretch, IsCut, Piece, behind, tokens_of, tokens_from, AreTokens}
use Rattle.pv_tree.specs.Lexemes.{Lexeme, lexeme_of, lexemes_of}
use Rattle.pv_tree.specs.Words.{begins_quoted}
use Rattle.pv_tree.specs.Literals.{bare_address}
use Rattle.pv_parse.specs.Kinds.{marks, kinds_of, begins_area, IsSoundBy, IsSound, HaveKinds}

-- ---- by the shape

both : (b : Bool) → b ≡ false → b ≡ true → ⊥
both true e f = cc
both false e f = cc

along : (P : List ℕ → Type 0) (bytes other : List ℕ) → bytes ≡ other → P other → P bytes
along P bytes other e p = subst P (sym e) p

some-bytes : (b : ℕ) (rest : List ℕ) → 0 < length (b ∷ rest)
some-bytes b rest = omega arith

one-some : (class : Class) (P : List ℕ → Type 0) (bytes : List ℕ) → IsOne class P bytes → 0 < length bytes
one-some class P bytes h = along (λ xs. 0 < length xs) bytes (h.byte ∷ h.rest) h.spelled (some-bytes h.byte h.rest)

front-by : (front rest : List ℕ) (test : List ℕ → Bool) → test [] ≡ false → IsTrue (test front) → 0 < length (front ++ rest)
front-by [] rest test e h = absurd (both (test []) e h)
front-by (b ∷ others) rest test e h = some-bytes b (others ++ rest)

front-some : (test : List ℕ → Bool) (P : List ℕ → List ℕ → Type 0) (bytes : List ℕ) → test [] ≡ false → IsFront test P bytes
    → 0 < length bytes
front-some test P bytes e h =
    along (λ xs. 0 < length xs) bytes (h.front ++ h.rest) h.spelled (front-by h.front h.rest test e h.passes)

number-some : (bytes : List ℕ) → Spells any_number bytes → 0 < length bytes
number-some bytes (inl (inl h)) = front-some _ _ bytes refl h
number-some bytes (inl (inr (inl h))) = one-some _ _ bytes h
number-some bytes (inl (inr (inr (inl h)))) = one-some _ _ bytes h
number-some bytes (inl (inr (inr (inr h)))) = one-some _ _ bytes h
number-some bytes (inr h) = front-some _ _ bytes refl h

quote-first : (bytes : List ℕ) → Spells quoted bytes → IsTrue (begins_quoted bytes)
quote-first bytes h = along (λ xs. IsTrue (begins_quoted xs)) bytes (h.byte ∷ h.rest) h.spelled h.passes

-- ---- addresses

six : (p q r s t u : Bool) → (p || q || r || s || t || u) ≡ true → ((p || q) || (r || s) || (t || u)) ≡ true
six true q r s t u e = refl
six false true r s t u e = refl
six false false true s t u e = refl
six false false false true t u e = refl
six false false false false true u e = refl
six false false false false false u e = e

area-begins : (b : ℕ) (rest : List ℕ) → IsTrue (has c.Area b) → IsTrue (begins_area (b ∷ rest))
area-begins b rest h = six (b == 73) (b == 105) (b == 81) (b == 113) (b == 77) (b == 109) h

not-percent : (b : ℕ) → IsTrue (has c.Area b) → (b == 37) ≡ false
not-percent b h = grind arith

bare-plain : (b : ℕ) (rest : List ℕ) → (b == 37) ≡ false → bare_address (b ∷ rest) ≡ b ∷ rest
bare-plain b rest e = ap (λ (p : Bool). cond p rest (b ∷ rest)) e

bare-behind : (b : ℕ) (rest : List ℕ) → (b == 37) ≡ true → bare_address (b ∷ rest) ≡ rest
bare-behind b rest e = ap (λ (p : Bool). cond p rest (b ∷ rest)) e

-- the letter begins a plain address, with nothing before it
record Begins (bytes : List ℕ) : Type 0 where
  as_it_is : IsTrue (begins_area bytes)
  bare : IsTrue (begins_area (bare_address bytes))

begins-cons : (b : ℕ) (rest : List ℕ) → IsTrue (has c.Area b) → Begins (b ∷ rest)
begins-cons b rest h =
    record {
      as_it_is = area-begins b rest h;
      bare = along (λ xs. IsTrue (begins_area xs)) (bare_address (b ∷ rest)) (b ∷ rest) (bare-plain b rest (not-percent b h)) (area-begins b rest h);
    }

area-one : (P : List ℕ → Type 0) (bytes : List ℕ) → IsOne c.Area P bytes → Begins bytes
area-one P bytes h = along Begins bytes (h.byte ∷ h.rest) h.spelled (begins-cons h.byte h.rest h.passes)

plain-area : (bytes : List ℕ) → Spells plain_address bytes → Begins bytes
plain-area bytes (inl h) = area-one _ bytes h
plain-area bytes (inr h) = area-one _ bytes h

percent-area : (b : ℕ) (rest : List ℕ) → IsTrue (has (c.Byte 37) b) → Spells plain_address rest → IsTrue (begins_area (bare_address (b ∷ rest)))
percent-area b rest h s =
    along (λ xs. IsTrue (begins_area xs)) (bare_address (b ∷ rest)) rest (bare-behind b rest h) (plain-area rest s).as_it_is

area-first : (bytes : List ℕ) → Spells address bytes → IsTrue (begins_area (bare_address bytes))
area-first bytes (inl h) = (plain-area bytes h).bare
area-first bytes (inr h) =
    along (λ xs. IsTrue (begins_area (bare_address xs))) bytes (h.byte ∷ h.rest) h.spelled (percent-area h.byte h.rest h.passes h.behind)

-- ---- by the token's kind

pub sound-stretch : (language : Language) (context : Context) (kind : Kind) (bytes : List ℕ) → IsStretch language context (Some kind) bytes
    → IsSoundBy kind bytes
sound-stretch language context k.Word bytes h = tt
sound-stretch language context k.Quoted bytes h = quote-first bytes h
sound-stretch language context k.Number bytes h = number-some bytes h
sound-stretch language context k.Real bytes h = tt
sound-stretch language context k.Address bytes h = area-first bytes h
sound-stretch language context k.Sign bytes h = tt
sound-stretch language context k.End bytes h = tt

-- ---- along a text

abbrev pub AreSound : List Lexeme → Type 0
AreSound [] = Unit {0}
AreSound (t ∷ others) = IsSound t × AreSound others

sound-both : (xs ys : List Lexeme) → AreSound xs → AreSound ys → AreSound (xs ++ ys)
sound-both [] ys p q = q
sound-both (x ∷ xs) ys p q = (p.0, sound-both xs ys p.1 q)

front-taken : (bytes left : List ℕ) → take (length bytes) (bytes ++ left) ≡ bytes
front-taken [] left = refl
front-taken (b ∷ others) left = ap (λ (xs : List ℕ). b ∷ xs) (front-taken others left)

front-dropped : (bytes left : List ℕ) → drop (length bytes) (bytes ++ left) ≡ left
front-dropped [] left = refl
front-dropped (b ∷ others) left = front-dropped others left

its-bytes : (whole : List ℕ) (at : ℕ) (bytes left : List ℕ) → drop at whole ≡ bytes ++ left → take (length bytes) (drop at whole) ≡ bytes
its-bytes whole at bytes left e = ap (take (length bytes)) e ∙ front-taken bytes left

dropped-more : (whole : List ℕ) (at : ℕ) (bytes left : List ℕ) → drop at whole ≡ bytes ++ left → drop (at + length bytes) whole ≡ left
dropped-more whole at bytes left e = sym (drop-drop (length bytes) at whole) ∙ ap (drop (length bytes)) e ∙ front-dropped bytes left

piece-sound : (file at : ℕ) (whole : List ℕ) (language : Language) (context : Context) (kind : Option Kind) (bytes left : List ℕ)
    → drop at whole ≡ bytes ++ left → IsStretch language context kind bytes → AreSound (lexemes_of whole (tokens_of file at kind bytes))
piece-sound file at whole language context None bytes left e s = tt
piece-sound file at whole language context (Some kind) bytes left e s =
    (along (IsSoundBy kind) (take (length bytes) (drop at whole)) bytes (its-bytes whole at bytes left e) (sound-stretch language context kind bytes s), tt)

of-append : (text : List ℕ) (xs ys : List Token) → lexemes_of text (xs ++ ys) ≡ lexemes_of text xs ++ lexemes_of text ys
of-append text [] ys = refl
of-append text (x ∷ xs) ys = ap (λ (ls : List Lexeme). lexeme_of text x ∷ ls) (of-append text xs ys)

sound-append : (text : List ℕ) (xs ys : List Token) → AreSound (lexemes_of text xs) → AreSound (lexemes_of text ys)
    → AreSound (lexemes_of text (xs ++ ys))
sound-append text xs ys p q = subst AreSound (sym (of-append text xs ys)) (sound-both (lexemes_of text xs) (lexemes_of text ys) p q)

pieces-sound : (pieces : List Piece) (file at : ℕ) (whole text rest : List ℕ) (language : Language) (context : Context) → drop at whole ≡ text
    → IsCut language context pieces text rest → AreSound (lexemes_of whole (tokens_from file at pieces))
pieces-sound [] file at whole text rest language context e h = tt
pieces-sound (piece ∷ others) file at whole text rest language context e (left, f, next, more) =
    sound-append whole (tokens_of file at piece.kind piece.bytes) (tokens_from file (at + length piece.bytes) others)
    (piece-sound file at whole language context piece.kind piece.bytes left (e ∙ f) next.longest.stretch)
    (pieces-sound others file (at + length piece.bytes) whole left rest language (behind context piece.kind piece.bytes)
    (dropped-more whole at piece.bytes left (e ∙ f)) more)

pub tokens-sound : (language : Language) (file : ℕ) (text : List ℕ) (tokens : List Token) → AreTokens language file text tokens
    → AreSound (lexemes_of text tokens)
tokens-sound language file text tokens a =
    subst (λ ts. AreSound (lexemes_of text ts)) (sym (a.tokens_are ∙ ap (λ (ts : List Token). ts ++ _) a.cut.tokens_are))
    (sound-append text (tokens_from file 0 a.cut.pieces) _ (pieces-sound a.cut.pieces file 0 text text a.cut.rest language _ refl a.cut.cut)
    (tt, tt))

-- ---- kinds

pub have-kinds : (marked : Bool) (ts : List Lexeme) → AreSound ts → HaveKinds ts (kinds_of marked ts)
have-kinds marked [] h = tt
have-kinds marked (t ∷ others) h = (record { marked = marked; is = refl; sound = h.0 }, have-kinds (marks t) others h.1)
