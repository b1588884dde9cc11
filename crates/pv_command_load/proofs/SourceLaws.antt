-- A word outside the profile lies in its text, and is ASCII.
use Rattle.std.proofs.Common.{◌≡◌, ◌≤◌, ◌<◌, ◌+◌, ℕ, zero, suc, List, [], ◌∷◌, length, take, drop, ap, sym, subst, ◌∙◌, arith, Err}
use Rattle.std.specs.Prelude.{slice_index_or, IsAscii, Contains}
use Rattle.pv_place.specs.declared.place.Place.{Place}
use Rattle.pv_lex.specs.declared.token.Language.{Language}
use Rattle.pv_lex.specs.declared.token.Token.{Token}
use Rattle.pv_lex.specs.Tokens.{AreTokens, LieFrom}
use Rattle.pv_lex.proofs.ForCallers.{tokens-lie}
use Rattle.pv_tree.specs.Lexemes.{lexeme_of, lexemes_of}
use Rattle.pv_tree.specs.Outside.{IsFirstOutside}
use Rattle.pv_parse.specs.declared.fault.ParseFault.{ParseFault}
use Rattle.pv_parse.specs.declared.fault.ParseFault.TheVariants as parse_fault
use Rattle.pv_parse_source.specs.Parsing.{AnswersParse, IsOutsideAt}
use Rattle.pv_command_load.specs.Passing.{IsWordAt}
use Rattle.pv_command_load.proofs.AsciiLaws.{outside_ascii}

-- the word's bytes
word_same : (bytes : List ℕ) (place other : Place) (len n : ℕ) → place ≡ other → len ≡ n
    → take len (drop place.offset bytes) ≡ take n (drop other.offset bytes)
word_same bytes place other len n p l =
    ap (λ (q : Place). take len (drop q.offset bytes)) p ∙ ap (λ m. take m (drop other.offset bytes)) l

-- ---- the word lies in the text, and is ASCII

lies : (file at len : ℕ) (tokens : List Token) (t : Token) (k : ℕ) → LieFrom file at len tokens → k < length tokens
    → slice_index_or tokens k t ≡ t → t.place.offset + t.len ≤ len
lies file at len [] t k h short e = absurd (omega (arith, short))
lies file at len (x ∷ xs) t zero h short e = subst (λ (y : Token). y.place.offset + y.len ≤ len) e h.2
lies file at len (x ∷ xs) t (suc k) h short e = lies file (x.place.offset + x.len) len xs t k h.3 (omega (arith, short)) e

pub word_there : (its : Language) (file : ℕ) (bytes : List ℕ) (tokens : List Token) (token : Token) (place : Place) (len : ℕ)
    → AreTokens its file bytes tokens → Contains tokens token → IsFirstOutside its (lexemes_of bytes tokens) (lexeme_of bytes token)
    → place ≡ token.place → len ≡ token.len → IsWordAt bytes place len
word_there its file bytes tokens token place len cut there first placed long =
    let within : token.place.offset + token.len ≤ length bytes =
    lies file 0 (length bytes) tokens token there.0 (tokens-lie its file bytes tokens cut) there.1 there.2 in
    let at = ap (λ (p : Place). p.offset) placed in
    record {
      within = omega (arith, within, at, long);
      ascii = subst IsAscii (sym (word_same bytes place token.place len token.len placed long))
          (outside_ascii its file bytes tokens (lexeme_of bytes token) cut first);
    }

-- by what a reader answers

pub word_told : (its : Language) (file : ℕ) (bytes text : List ℕ) (tokens : List Token) → text ≡ bytes → AreTokens its file bytes tokens
    → (fault : ParseFault) → AnswersParse its text tokens (Err fault) → (place : Place) (len : ℕ) → fault ≡ parse_fault.Outside place len
    → IsWordAt bytes place len
word_told its file bytes text tokens same cut fault h place len e =
    let here : AnswersParse its bytes tokens (Err fault) = subst (λ t. AnswersParse its t tokens (Err fault)) same h in
    let is : IsOutsideAt its bytes tokens place len = subst (λ f. AnswersParse its bytes tokens (Err f)) e here in
    word_there its file bytes tokens is.token place len cut is.there is.first is.placed is.long
