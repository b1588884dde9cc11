-- The cut of a text, piece by piece.
use Rattle.std.proofs.Common.{◌≡◌, ℕ, ◌+◌, ◌<◌, ◌≤◌, length, drop, take, List, [], ◌∷◌, ◌++◌, Option, Some, None, Result, Err, refl, ap, sym, ◌∙◌, subst, arith, append_assoc, append-nil, length-append, length-drop, add-zero, zero-add}
use Rattle.std.proofs.Math.Seq.{take-append_seam, drop-append_seam}
use Rattle.pv_place.specs.declared.place.Place.{Place}
use Rattle.pv_lex.specs.declared.context.Context.{Context}
use Rattle.pv_lex.specs.declared.stretch.Next.{Next}
use Rattle.pv_lex.specs.declared.fault.FaultKind.{FaultKind}
use Rattle.pv_lex.specs.declared.fault.LexFault.TheVariants.{NoToken}
use Rattle.pv_lex.specs.declared.token.Token.{Token}
use Rattle.pv_lex.specs.declared.token.Language.{Language}
use Rattle.pv_lex.specs.declared.token.Kind.{Kind}
use Rattle.pv_lex.specs.declared.token.Kind.TheVariants as k
use Rattle.pv_lex.specs.Tokens.{IsNext, NoneIsNext, IsOfFault, behind, at_start, Piece, behind_all, IsCut, token_at, tokens_of, tokens_from, CutTo, AreTokens, IsFault}
use Rattle.pv_lex.specs.Scans.{next_tokens, next_of}
use Rattle.pv_lex.proofs.Answered.{IsFound, IsAnswer, answered}

-- ---- one piece more

pub cut-more : (language : Language) (context : Context) (pieces : List Piece) (text rest : List ℕ) (piece : Piece) (left : List ℕ)
    → IsCut language context pieces text rest
    → rest ≡ piece.bytes ++ left → IsNext language (behind_all context pieces) piece.kind piece.bytes left
    → IsCut language context (pieces ++ piece ∷ []) text left
cut-more language context [] text rest piece left cut is n = (left, cut ∙ is, n, refl)
cut-more language context (first ∷ pieces) text rest piece left cut is n =
    (cut.0, cut.1, cut.2, cut-more language (behind context first.kind first.bytes) pieces cut.0 rest piece left cut.3 is n)

pub behind-more : (context : Context) (pieces : List Piece) (piece : Piece)
    → behind_all context (pieces ++ piece ∷ []) ≡ behind (behind_all context pieces) piece.kind piece.bytes
behind-more context [] piece = refl
behind-more context (first ∷ pieces) piece = behind-more (behind context first.kind first.bytes) pieces piece

abbrev pub size : List Piece → ℕ
size [] = 0
size (piece ∷ others) = length piece.bytes + size others

pub tokens-more : (file at : ℕ) (pieces : List Piece) (piece : Piece)
    → tokens_from file at (pieces ++ piece ∷ []) ≡ tokens_from file at pieces ++ tokens_of file (at + size pieces) piece.kind piece.bytes
tokens-more file at [] piece = append-nil (tokens_of file at piece.kind piece.bytes)
    ∙ ap (λ (n : ℕ). tokens_of file n piece.kind piece.bytes) (sym (add-zero at))
tokens-more file at (first ∷ pieces) piece =
    let front : List Token = tokens_of file at first.kind first.bytes in
    let n : (at + length first.bytes) + size pieces ≡ at + (length first.bytes + size pieces) = omega arith in
    ap (λ (t : List Token). front ++ t) (tokens-more file (at + length first.bytes) pieces piece
    ∙ ap (λ (m : ℕ). tokens_from file (at + length first.bytes) pieces ++ tokens_of file m piece.kind piece.bytes) n)
    ∙ sym (append_assoc front (tokens_from file (at + length first.bytes) pieces) (tokens_of file (at + (length first.bytes + size pieces))
    piece.kind piece.bytes))

-- the bytes before the rest
pub record Front (pieces : List Piece) (text rest : List ℕ) : Type 0 where
  pub front : List ℕ
  pub whole : text ≡ front ++ rest
  pub size_is : length front ≡ size pieces

pub cut-front : (language : Language) (context : Context) (pieces : List Piece) (text rest : List ℕ)
    → IsCut language context pieces text rest → Front pieces text rest
cut-front language context [] text rest cut = record { front = []; whole = cut; size_is = refl }
cut-front language context (first ∷ pieces) text rest cut =
    let f = cut-front language (behind context first.kind first.bytes) pieces cut.0 rest cut.3 in
    record {
      front = first.bytes ++ f.front;
      whole = cut.1 ∙ ap (λ (t : List ℕ). first.bytes ++ t) f.whole ∙ sym (append_assoc first.bytes f.front rest);
      size_is = omega (arith, length-append first.bytes f.front, f.size_is);
    }

-- ---- the loop

pub start : (language : Language) (file : ℕ) (text : List ℕ) → CutTo language file text 0 at_start []
start language file text = record {
  pieces = [];
  rest = text;
  cut = refl;
  place = zero-add (length text);
  tokens_are = refl;
  context_is =
      refl;
}

pub rest-is : (language : Language) (file : ℕ) (text : List ℕ) (at : ℕ) (context : Context) (tokens : List Token) (cut : CutTo language
    file text at context tokens)
    → (cut.rest ≡ drop at text) × (at ≡ size cut.pieces)
rest-is language file text at context tokens cut =
    let f = cut-front language at_start cut.pieces text cut.rest cut.cut in
    let n : at ≡ length f.front = omega (arith, cut.place, ap length f.whole, length-append f.front cut.rest) in
    (sym (ap (λ (m : ℕ). drop m text) n ∙ ap (drop (length f.front)) f.whole ∙ drop-append_seam f.front cut.rest), n ∙ f.size_is)

tokens_same : (file at : ℕ) (kind : Option Kind) (len : ℕ) (bytes : List ℕ) → len ≡ length bytes
    → next_tokens file at (record { kind = kind; len = len }) ≡ tokens_of file at kind bytes
tokens_same file at None len bytes e = refl
tokens_same file at (Some kind) len bytes e = ap (λ (n : ℕ). record { kind = kind; place = record { file = file; offset = at }; len = n } ∷ []) e

pub step : (language : Language) (file : ℕ) (text : List ℕ) (at : ℕ) (context : Context) (tokens : List Token) (next : Next)
    → CutTo language file text at context tokens
    → IsFound language context (drop at text) next
    → CutTo language file text (at + next.len) (behind context next.kind (take next.len (drop at text))) (tokens ++ next_tokens file at
    next)
step language file text at context tokens next cut x =
    let r = rest-is language file text at context tokens cut in
    let piece : Piece = record { kind = next.kind; bytes = x.bytes } in
    let bytes : take next.len (drop at text) ≡ x.bytes = ap (λ (n : ℕ). take n (drop at text)) x.len_is
    ∙ ap (take (length x.bytes)) x.whole ∙ take-append_seam x.bytes x.rest in
    let there : IsNext language (behind_all at_start cut.pieces) next.kind x.bytes x.rest = subst (λ (d : Context). IsNext language d
    next.kind x.bytes x.rest) cut.context_is x.is_next in
    let sizes : length cut.rest ≡ length x.bytes + length x.rest = ap length (r.0 ∙ x.whole) ∙ length-append x.bytes x.rest in
    record {
      pieces = cut.pieces ++ piece ∷ [];
      rest = x.rest;
      cut = cut-more language at_start cut.pieces text cut.rest piece x.rest cut.cut (r.0 ∙ x.whole) there;
      place = omega (arith, cut.place, sizes, x.len_is);
      tokens_are = ap (λ (t : List Token). t ++ next_tokens file at next) cut.tokens_are
          ∙ ap (λ (t : List Token). tokens_from file 0 cut.pieces ++ t) (tokens_same file at next.kind next.len x.bytes x.len_is)
          ∙ ap (λ (n : ℕ). tokens_from file 0 cut.pieces ++ tokens_of file n next.kind x.bytes) (r.1 ∙ sym (zero-add (size cut.pieces)))
          ∙ sym (tokens-more file 0 cut.pieces piece);
      context_is = ap (λ (d : Context). behind d next.kind (take next.len (drop at text))) cut.context_is
          ∙ ap (behind (behind_all at_start cut.pieces) next.kind) bytes
          ∙ sym (behind-more at_start cut.pieces piece);
    }

pub finish : (language : Language) (file : ℕ) (text : List ℕ) (at : ℕ) (context : Context) (tokens : List Token) → at ≡ length text
    → CutTo language file text at context tokens
    → AreTokens language file text (tokens ++ token_at file at k.End [] ∷ [])
finish language file text at context tokens e cut = record {
  context = context;
  front = tokens;
  cut = subst (λ (n : ℕ). CutTo language file text n context tokens) e cut;
  tokens_are = ap (λ (n : ℕ). tokens ++ token_at file n k.End [] ∷ []) e;
}

pub refuse : (language : Language) (file : ℕ) (text : List ℕ) (at : ℕ) (context : Context) (tokens : List Token) (kind : FaultKind)
    → at < length text → CutTo language file text at context tokens
    → NoneIsNext language context (drop at text) × IsOfFault language context (drop at text) kind
    → IsFault language file text kind (record { file = file; offset = at })
refuse language file text at context tokens kind h cut x = record {
  tokens = tokens;
  context = context;
  cut = cut;
  within = h;
  stuck = x.0;
  of_kind = x.1;
  of_file = refl;
}

-- ---- what the code's calls say

pub answer-at : (language : Language) (context : Context) (text : List ℕ) (at : ℕ) (rest : List ℕ) (result : Result Next FaultKind)
    → result ≡ next_of language context rest
    → rest ≡ drop at text → IsAnswer language context (drop at text) result
answer-at language context text at rest result e r =
    subst (IsAnswer language context (drop at text)) (sym (e ∙ ap (next_of language context) r)) (answered language context (drop at text))

pub found-fits : (language : Language) (context : Context) (text : List ℕ) (at : ℕ) (next : Next) → at ≤ length text
    → IsFound language context (drop at text) next
    → (at + next.len ≤ length text) × (0 < next.len)
found-fits language context text at next h x = (
  omega (
    arith,
    ap length x.whole,
    length-append x.bytes x.rest,
    length-drop at text,
    x.len_is,
  ),
  x.some,
)

pub stepped : (language : Language) (file : ℕ) (text : List ℕ) (at : ℕ) (context : Context) (tokens : List Token) (next : Next) (then :
    Context) (bytes rest : List ℕ) (more : List Token)
    → CutTo language file text at context tokens → IsFound language context (drop at text) next → then ≡ behind context next.kind bytes
    → bytes ≡ take next.len rest → rest ≡ drop at text
    → more ≡ tokens ++ next_tokens file at next → CutTo language file text (at + next.len) then more
stepped language file text at context tokens next then bytes rest more cut x t b r m =
    let there : then ≡ behind context next.kind (take next.len (drop at text)) = t ∙ ap (behind context next.kind) (b
    ∙ ap (take next.len) r) in
    subst (λ (d : Context). CutTo language file text (at + next.len) d more) (sym there)
    (subst (CutTo language file text (at + next.len) (behind context next.kind (take next.len (drop at text)))) (sym m) (step language file
    text at context tokens next cut x))

kinds_of : (a b : FaultKind) (p q : Place) → NoToken a p ≡ NoToken b q → a ≡ b
kinds_of a b p q e = cc

places_of : (a b : FaultKind) (p q : Place) → NoToken a p ≡ NoToken b q → p ≡ q
places_of a b p q e = cc

pub refused : (language : Language) (file : ℕ) (text : List ℕ) (at : ℕ) (context : Context) (tokens : List Token) (kind : FaultKind) (place
    : Place) (rest : List ℕ) → at < length text
    → CutTo language file text at context tokens → Err kind ≡ next_of language context rest → rest ≡ drop at text
    → place ≡ record { file = file; offset = at }
    → (other : FaultKind) (there : Place) → NoToken kind place ≡ NoToken other there → IsFault language file text other there
refused language file text at context tokens kind place rest h cut e r p other there same =
    let x = refuse language file text at context tokens kind h cut (answer-at language context text at rest (Err kind) e r) in
    subst (λ (o : FaultKind). IsFault language file text o there) (kinds_of kind other place there same)
    (subst (IsFault language file text kind) (sym p ∙ places_of kind other place there same) x)

pub left-fits : (text : List ℕ) (at len : ℕ) (rest : List ℕ) → at + len ≤ length text → rest ≡ drop at text → len ≤ length rest
left-fits text at len rest h e = omega (arith, ap length e, length-drop at text)
