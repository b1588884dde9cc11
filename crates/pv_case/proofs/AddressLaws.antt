-- A text that is one address, by its tokens.
use Rattle.std.proofs.Common.{◌≡◌, ℕ, ◌+◌, ◌<◌, ◌≤◌, List, [], ◌∷◌, length, slice_index_or, IsTrue, Option, Some, None, IfSome, IfNone, sym, subst, ap, ◌∙◌, arith}
use Rattle.pv_place.specs.declared.place.Place.{Place}
use Rattle.pv_lex.specs.declared.token.Token.{Token}
use Rattle.pv_lex.specs.declared.token.Kind.{Kind}
use Rattle.pv_lex.specs.declared.fault.FaultKind.{FaultKind}
use Rattle.pv_lex.specs.declared.token.Language.TheVariants.{Scl}
use Rattle.pv_lex.specs.Tokens.{AreTokens, IsFault, LieFrom}
use Rattle.pv_lex.proofs.ForCallers.{tokens-one, tokens-faultless, tokens-lie}
use Rattle.pv_tree.specs.declared.expr.Area.{Area}
use Rattle.pv_tree.specs.declared.expr.Root.TheVariants as root
use Rattle.pv_tree.specs.Lexemes.{lexeme_of}
use Rattle.pv_tree.specs.Literals.{IsAddress, IsAreaLetter, bare_address}
use Rattle.pv_parse.specs.Kinds.{IsSoundBy}
use Rattle.pv_parse.specs.TokenTexts.{area_of}
use Rattle.pv_parse.proofs.ForCallers.{tokens-sound, area, letter_of}
use Rattle.pv_case.specs.Members.{is_short}
use Rattle.pv_case.specs.Symbols.{IsAddressText}
use Rattle.pv_case.specs.declared.address.Address.{Address}
use Rattle.pv_case.specs.Addresses.{bytes_at, IsAddressAt, IsAddressAmong}

same_area : (a b : Area) (p q r s t u : ℕ) → root.Area a p q r ≡ root.Area b s t u → a ≡ b
same_area a b p q r s t u e = cc

same_bits : (a b : Area) (p q r s t u : ℕ) → root.Area a p q r ≡ root.Area b s t u → s ≡ p
same_bits a b p q r s t u e = cc

same_byte : (a b : Area) (p q r s t u : ℕ) → root.Area a p q r ≡ root.Area b s t u → t ≡ q
same_byte a b p q r s t u e = cc

same_bit : (a b : Area) (p q r s t u : ℕ) → root.Area a p q r ≡ root.Area b s t u → u ≡ r
same_bit a b p q r s t u e = cc

-- a text's token that is an address says it
token_address : (text : List ℕ) (token last : Token) (its : Area) (bits byte bit : ℕ) (place : Place) → AreTokens Scl 0 text (token ∷ last ∷ [])
    → IsAddressAt text token its bits byte bit place → IsAddress its bits byte bit (lexeme_of text token)
unfolding area_of
token_address text token last its bits byte bit place are address =
    let bare = bare_address (bytes_at text token) in
    let sound = subst (λ (kind : Kind). IsSoundBy kind (bytes_at text token)) address.kind (tokens-sound Scl 0 text (token ∷ last ∷ []) are).0 in
    record {
      kind = address.kind;
      of_area = subst (λ (a : Area). IsAreaLetter a bare) (same_area _ its _ _ _ bits byte bit address.reads) (letter_of bare sound);
      of_bits = same_bits _ its _ _ _ bits byte bit address.reads;
      of_byte = same_byte _ its _ _ _ bits byte bit address.reads;
      of_bit = same_bit _ its _ _ _ bits byte bit address.reads;
    }

pub among_text : (text : List ℕ) (tokens : List Token) (its : Area) (bits byte bit : ℕ) (place : Place) → IsTrue (is_short text)
    → AreTokens Scl 0 text tokens → IsAddressAmong text tokens its bits byte bit place → IsAddressText text its bits byte bit place
among_text text tokens its bits byte bit place short are among =
    let cut = subst (AreTokens Scl 0 text) among.are are in
    record {
      short = short;
      token = among.token;
      last = among.last;
      cut = cut;
      reads = token_address text among.token among.last its bits byte bit place cut among.address;
      lies = among.address.lies;
      placed = among.address.placed;
    }

pub text_among : (text : List ℕ) (tokens : List Token) (its : Area) (bits byte bit : ℕ) (place : Place) → AreTokens Scl 0 text tokens
    → IsAddressText text its bits byte bit place → IsAddressAmong text tokens its bits byte bit place
text_among text tokens its bits byte bit place are h = record {
  token = h.token;
  last = h.last;
  are = tokens-one Scl 0 text tokens (h.token ∷ h.last ∷ []) are h.cut;
  address = record {
    kind = h.reads.kind;
    reads = area its bits byte bit (lexeme_of text h.token) h.reads;
    lies = h.lies;
    placed = h.placed;
  };
}

pub text_faultless : (text : List ℕ) (kind : FaultKind) (at : Place) (its : Area) (bits byte bit : ℕ) (place : Place) → IsFault Scl 0 text kind at
    → IsAddressText text its bits byte bit place → ⊥
text_faultless text kind at its bits byte bit place fault h = tokens-faultless Scl 0 text (h.token ∷ h.last ∷ []) kind at h.cut fault

-- the first token lies in its text
first_lies : (text : List ℕ) (tokens : List Token) (other : Token) → 0 < length tokens → LieFrom 0 0 (length text) tokens
    → (slice_index_or tokens 0 other).place.offset + (slice_index_or tokens 0 other).len ≤ length text
first_lies text [] other lt lie = absurd (omega (arith, lt))
first_lies text (t ∷ ts) other lt lie = lie.2

pub token_lies : (text : List ℕ) (tokens : List Token) (other : Token) → 0 < length tokens → AreTokens Scl 0 text tokens
    → (slice_index_or tokens 0 other).place.offset + (slice_index_or tokens 0 other).len ≤ length text
token_lies text tokens other lt are = first_lies text tokens other lt (tokens-lie Scl 0 text tokens are)

-- ---- what is answered

pub found_in : (text bytes other : List ℕ) (tokens given : List Token) (o : Option Address) → IsTrue (is_short text)
    → bytes ≡ text → other ≡ text → given ≡ tokens → AreTokens Scl 0 bytes tokens
    → IfSome o (λ s. IsAddressAmong other given s.area s.bits s.byte s.bit s.place)
    → IfSome o (λ s. IsAddressText text s.area s.bits s.byte s.bit s.place)
found_in text bytes other tokens given None short e f g are found = found
found_in text bytes other tokens given (Some s) short e f g are found =
    let cut = subst (λ (b : List ℕ). AreTokens Scl 0 b tokens) e are in
    let here = subst (λ (b : List ℕ). IsAddressAmong b given s.area s.bits s.byte s.bit s.place) f found in
    among_text text tokens s.area s.bits s.byte s.bit s.place short cut
    (subst (λ (ts : List Token). IsAddressAmong text ts s.area s.bits s.byte s.bit s.place) g here)

pub none_in : (text bytes other : List ℕ) (tokens given : List Token) (o : Option Address)
    → bytes ≡ text → other ≡ text → given ≡ tokens → AreTokens Scl 0 bytes tokens
    → IfNone o ((its : Area) (bits byte bit : ℕ) (place : Place) → IsAddressAmong other given its bits byte bit place → ⊥)
    → IfNone o ((its : Area) (bits byte bit : ℕ) (place : Place) → IsAddressText text its bits byte bit place → ⊥)
none_in text bytes other tokens given None e f g are none = λ its bits byte bit place h.
    let cut = subst (λ (b : List ℕ). AreTokens Scl 0 b tokens) e are in
    let among = text_among text tokens its bits byte bit place cut h in
    let there = subst (λ (b : List ℕ). IsAddressAmong b tokens its bits byte bit place) (sym f) among in
    none its bits byte bit place (subst (λ (ts : List Token). IsAddressAmong other ts its bits byte bit place) (sym g) there)
none_in text bytes other tokens given (Some s) e f g are none = none

-- ---- one text is one address

first_of_two : (t u e g : Token) → t ∷ e ∷ [] ≡ u ∷ g ∷ [] → t ≡ u
first_of_two t u e g h = cc

pub record OneAddress (a b : Area) (p q r s t u : ℕ) (here there : Place) : Type 0 where
  pub root : root.Area a p q r ≡ root.Area b s t u
  pub bits : p ≡ s
  pub place : here ≡ there

pub one_address : (text : List ℕ) (a b : Area) (p q r s t u : ℕ) (here there : Place) → IsAddressText text a p q r here
    → IsAddressText text b s t u there → OneAddress a b p q r s t u here there
one_address text a b p q r s t u here there x y =
    let tokens : x.token ≡ y.token =
    first_of_two x.token y.token x.last y.last
    (tokens-one Scl 0 text (x.token ∷ x.last ∷ []) (y.token ∷ y.last ∷ []) x.cut y.cut) in
    let roots : root.Area a p q r ≡ root.Area b s t u =
    sym (area a p q r (lexeme_of text x.token) x.reads) ∙ ap (λ (k : Token). area_of (lexeme_of text k).bytes) tokens
    ∙ area b s t u (lexeme_of text y.token) y.reads in
    record {
      root = roots;
      bits = sym (same_bits a b p q r s t u roots);
      place = x.placed ∙ ap (λ (k : Token). k.place) tokens ∙ sym y.placed;
    }
