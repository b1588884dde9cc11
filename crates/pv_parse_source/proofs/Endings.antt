-- The tokens of a text without their end.
use Rattle.std.proofs.Common.{◌≡◌, ℕ, zero, suc, ◌+◌, ◌-◌, ◌<◌, ◌≤◌, List, [], ◌∷◌, ◌++◌, map, take, length, get_or, Some, refl, sym, ap, ◌∙◌, subst, arith, false}
use Rattle.std.specs.List.{slice_get}
use Rattle.std.proofs.lemmas.List.{map-append, length-append}
use Rattle.std.proofs.Math.Seq.{take-append_seam}
use Rattle.pv_lex.specs.declared.token.Token.{Token}
use Rattle.pv_lex.specs.declared.token.Kind.TheVariants.{End}
use Rattle.pv_lex.specs.declared.token.Language.{Language as Of}
use Rattle.pv_lex.specs.Tokens.{AreTokens, token_at, LieFrom}
use Rattle.pv_lex.proofs.ForCallers.{tokens-last, tokens-lie}
use Rattle.pv_tree.specs.Lexemes.{Lexeme, lexeme_of, lexemes_of}
use Rattle.pv_tree.specs.Reading.{AreEnded}
use Rattle.pv_parse.specs.Kinds.{HaveKinds, kinds_of}
use Rattle.pv_parse.specs.InOrder.{LieInOrder}
use Rattle.pv_parse.proofs.ForCallers.{AreSound, tokens-sound, have-kinds}

sound_front : (a b : List Lexeme) → AreSound (a ++ b) → AreSound a
sound_front [] b h = tt
sound_front (t ∷ a) b h = (h.0, sound_front a b h.1)

-- all but the last, which ends the text
pub record Ends (text : List ℕ) (tokens inner : List Token) : Type 0 where
  pub last : Token
  pub parts : tokens ≡ inner ++ last ∷ []
  ends : last.kind ≡ End

pub ends : (its : Of) (file : ℕ) (text : List ℕ) (tokens inner : List Token) → AreTokens its file text tokens → inner ≡ take (length tokens - 1) tokens
    → Ends text tokens inner
ends its file text tokens inner are cut =
    let l = tokens-last its file text tokens are in
    let last = token_at file (length text) End [] in
    let len : length tokens - 1 ≡ length l.0 = omega (arith, ap length l.1, length-append l.0 (last ∷ [])) in
    let front : inner ≡ l.0 =
    cut ∙ ap (λ n. take n tokens) len ∙ ap (λ ts. take (length l.0) ts) l.1 ∙ take-append_seam l.0 (last ∷ []) in
    record { last = last; parts = l.1 ∙ ap (λ ts. ts ++ last ∷ []) (sym front); ends = refl }

pub ended : (text : List ℕ) (tokens inner : List Token) → Ends text tokens inner → AreEnded (lexemes_of text inner) (lexemes_of text tokens)
ended text tokens inner e =
    record {
      ending = lexeme_of text e.last;
      parts = ap (λ ts. map (lexeme_of text) ts) e.parts ∙ map-append (lexeme_of text) inner (e.last ∷ []);
      ends = e.ends;
    }

parted : (text : List ℕ) (tokens inner : List Token) (e : Ends text tokens inner)
    → lexemes_of text tokens ≡ lexemes_of text inner ++ lexeme_of text e.last ∷ []
parted text tokens inner e = ap (λ ts. map (lexeme_of text) ts) e.parts ∙ map-append (lexeme_of text) inner (e.last ∷ [])

pub kinds_before : (its : Of) (file : ℕ) (text : List ℕ) (tokens inner : List Token) → AreTokens its file text tokens → Ends text tokens inner
    → HaveKinds (lexemes_of text inner) (kinds_of false (lexemes_of text inner))
kinds_before its file text tokens inner are e =
    have-kinds false (lexemes_of text inner)
    (sound_front (lexemes_of text inner) (lexeme_of text e.last ∷ []) (subst (λ ts. AreSound ts) (parted text tokens inner e) (tokens-sound its file text tokens are)))

pub stands : (f : Token → Lexeme) (xs : List Token) (i : ℕ) (d : Token) → i < length xs → slice_get (map f xs) i ≡ Some (f (get_or xs i d))
stands f [] i d lt = absurd (omega (arith, lt))
stands f (x ∷ xs) zero d lt = refl
stands f (x ∷ xs) (suc i) d lt = stands f xs i d (omega (arith, lt))

-- ---- the order of the tokens

in_order : (file at len : ℕ) (text : List ℕ) (tokens : List Token) (from : ℕ) → from ≤ at → LieFrom file at len tokens → LieInOrder from (lexemes_of text tokens)
in_order file at len text [] from h l = tt
in_order file at len text (t ∷ tokens) from h l = (
  omega (arith, h, l.1),
  in_order file (t.place.offset + t.len) len text tokens t.place.offset (omega arith) l.3,
)

order_front : (at : ℕ) (a b : List Lexeme) → LieInOrder at (a ++ b) → LieInOrder at a
order_front at [] b h = tt
order_front at (t ∷ a) b h = (h.0, order_front t.place.offset a b h.1)

pub order_before : (its : Of) (file : ℕ) (text : List ℕ) (tokens inner : List Token) → AreTokens its file text tokens → Ends text tokens inner
    → LieInOrder 0 (lexemes_of text inner)
order_before its file text tokens inner are e =
    order_front 0 (lexemes_of text inner) (lexeme_of text e.last ∷ [])
    (subst (λ ts. LieInOrder 0 ts) (parted text tokens inner e)
    (in_order file 0 (length text) text tokens 0 (omega arith) (tokens-lie its file text tokens are)))
