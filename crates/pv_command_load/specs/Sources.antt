-- The sources of a case, in their order: what each one's bytes read as, and why one is refused. A source is read whole before the
-- next one's file is.
use Rattle.std.specs.Prelude.{◌≡◌, ◌⊎◌, ◌<◌, ◌≤◌, ℕ, ◌+◌, List, [], ◌∷◌, length, Option}
use Rattle.pv_place.specs.declared.place.Place.{Place}
use Rattle.pv_edge.specs.Files.{FileMap}
use Rattle.pv_lex.specs.declared.fault.FaultKind.{FaultKind}
use Rattle.pv_lex.specs.declared.token.Token.{Token}
use Rattle.pv_lex.specs.declared.lex.TheConstants.{MAX_SOURCE}
use Rattle.pv_lex.specs.Tokens.{AreTokens, IsFault}
use Rattle.pv_tree.specs.Tree.{BlockTree}
use Rattle.pv_tree.specs.Lexemes.{Lexeme, lexemes_of}
use Rattle.pv_tree.specs.Outside.{IsFirstOutside}
use Rattle.pv_tree.specs.Reading.{ReadAsBlocks, IsRead, IsTooDeep, IsSyntaxFaultAt}
use Rattle.pv_case.specs.Cases.{SourceData}
use Rattle.pv_command_load.specs.Held.{Holds, HoldsBytes}
use Rattle.pv_command_load.specs.Positions.{FileText, position_text}
use Rattle.pv_command_load.specs.Refusals.{SourceRefusal, too_large, lex, outside, syntax, deep}

-- ---- one source, by its number and its bytes, in its language

-- it has no more bytes than a source may have, and these tokens
pub record HasTokens (number : ℕ) (source : SourceData) (bytes : List ℕ) (tokens : List Token) : Type 0 where
  pub short : length bytes ≤ MAX_SOURCE
  pub cut : AreTokens source.language number bytes tokens

-- it reads as these blocks
pub record ReadsAs (number : ℕ) (source : SourceData) (bytes : List ℕ) (blocks : List BlockTree) : Type 0 where
  pub tokens : List Token
  pub cut : HasTokens number source bytes tokens
  pub read : IsRead source.language (lexemes_of bytes tokens) blocks

-- ---- why it is refused

-- this is printed for what begins behind so many of its bytes
abbrev pub IsPosition : SourceData → List ℕ → ℕ → List ℕ → Type 0
IsPosition source bytes offset at = at ≡ position_text (record { file = source.file; bytes = bytes }) offset

-- no token begins there
pub record HasNoToken (number : ℕ) (source : SourceData) (bytes at : List ℕ) (kind : FaultKind) : Type 0 where
  pub short : length bytes ≤ MAX_SOURCE
  pub place : Place
  pub fault : IsFault source.language number bytes kind place
  pub is_there : IsPosition source bytes place.offset at

-- the first word outside the profile stands there
pub record HasOutside (number : ℕ) (source : SourceData) (bytes word at : List ℕ) : Type 0 where
  pub tokens : List Token
  pub cut : HasTokens number source bytes tokens
  pub token : Lexeme
  pub first : IsFirstOutside source.language (lexemes_of bytes tokens) token
  pub spelled : word ≡ token.bytes
  pub is_there : IsPosition source bytes token.place.offset at

-- no blocks read, and none with the tokens up to there and with that one
pub record HasSyntaxFault (number : ℕ) (source : SourceData) (bytes at : List ℕ) : Type 0 where
  pub tokens : List Token
  pub cut : HasTokens number source bytes tokens
  pub place : Place
  pub fault : IsSyntaxFaultAt (ReadAsBlocks source.language) source.language (lexemes_of bytes tokens) place
  pub is_there : IsPosition source bytes place.offset at

-- what begins there is the first that nests too deep
pub record IsNestedTooDeep (number : ℕ) (source : SourceData) (bytes at : List ℕ) : Type 0 where
  pub tokens : List Token
  pub cut : HasTokens number source bytes tokens
  pub place : Place
  pub fault : IsTooDeep source.language (lexemes_of bytes tokens) place
  pub is_there : IsPosition source bytes place.offset at

abbrev pub RefusesSource : ℕ → SourceData → List ℕ → SourceRefusal → Type 0
RefusesSource number source bytes too_large = MAX_SOURCE < length bytes
RefusesSource number source bytes (lex kind at) = HasNoToken number source bytes at kind
RefusesSource number source bytes (outside word at) = HasOutside number source bytes word at
RefusesSource number source bytes (syntax at) = HasSyntaxFault number source bytes at
RefusesSource number source bytes (deep at) = IsNestedTooDeep number source bytes at

-- ---- all sources, by what the files hold

-- a source that is read: its text, and the blocks that this reads as
pub record ReadSource : Type 0 where
  pub text : FileText
  pub blocks : List BlockTree

-- the file of the source of this number holds it so
pub record HoldsSource (told : Option FileMap) (number : ℕ) (source : SourceData) (read : ReadSource) : Type 0 where
  pub named : read.text.file ≡ source.file
  pub held : Holds told source.file read.text.bytes
  pub reads : ReadsAs number source read.text.bytes read.blocks

-- so do the files of all sources from this number on
abbrev pub HoldSources : Option FileMap → ℕ → List SourceData → List ReadSource → Type 0
HoldSources told number [] [] = Unit {0}
HoldSources told number [] (read ∷ others) = ⊥
HoldSources told number (source ∷ more) [] = ⊥
HoldSources told number (source ∷ more) (read ∷ others) =
    HoldsSource told number source read × HoldSources told (number + 1) more others

-- of sources from this number on: one is so, and those before it are read
abbrev pub AtOne : (ℕ → SourceData → Type 0) → Option FileMap → ℕ → List SourceData → Type 0
AtOne Is told number [] = ⊥
AtOne Is told number (source ∷ more) =
    Is number source
    ⊎ (((read : ReadSource) × HoldsSource told number source read) × AtOne Is told (number + 1) more)

-- the file that is asked for next
abbrev pub IsAsked : List ℕ → ℕ → SourceData → Type 0
IsAsked file number source = file ≡ source.file

-- the file of the source of this number holds what is refused so
abbrev pub IsRefused : Option FileMap → SourceRefusal → ℕ → SourceData → Type 0
IsRefused told refusal number source =
    HoldsBytes told source.file (λ bytes. RefusesSource number source bytes refusal)
