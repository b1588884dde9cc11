-- A text has no more blocks than bytes: each begins with a word, and tokens lie one behind the other.
use Prim.Native.String.{String}
use Rattle.std.proofs.Common.{◌≡◌, ℕ, zero, suc, ◌+◌, ◌≤◌, List, [], ◌∷◌, ◌++◌, length, take, drop, false, refl, sym, ap, ◌∙◌, arith}
use Rattle.std.specs.Prelude.{codes, IsTrue}
use Rattle.std.specs.List.{sum_by}
use Rattle.std.specs.Str.{str_eq_ignore_ascii_case}
use Rattle.std.proofs.lemmas.Bool.{false≢true}
use Rattle.std.proofs.lemmas.List.Sums.{sum_by-append, sum_by-cons}
use Rattle.pv_lex.specs.declared.token.Language.{Language}
use Rattle.pv_lex.specs.declared.token.Token.{Token}
use Rattle.pv_lex.specs.Tokens.{LieFrom}
use Rattle.pv_lex.proofs.ForCallers.{tokens-lie}
use Rattle.pv_tree.specs.declared.block.BlockKind.{BlockKind}
use Rattle.pv_tree.specs.declared.block.BlockKind.TheVariants.{Fb, Fc, Ob, Db, Udt}
use Rattle.pv_tree.specs.Tree.{BlockTree}
use Rattle.pv_tree.specs.Lexemes.{Lexeme, lexeme_of, lexemes_of, IsWord, one, ◌⨾◌}
use Rattle.pv_tree.specs.Blocks.{SpellsKind, SpellsBlocks}
use Rattle.pv_laws_places.specs.Sources.{SourceRead, IsOfText}

-- ---- the bytes of tokens

abbrev bytes_of : Lexeme → ℕ
bytes_of t = length t.bytes

take-short : (n : ℕ) (bytes : List ℕ) → length (take n bytes) ≤ n
take-short zero bytes = omega arith
take-short (suc n) [] = omega arith
take-short (suc n) (b ∷ bytes) = let rest = take-short n bytes in omega (arith, rest)

-- those of tokens that lie one behind the other are no more than the text has
lying : (file at : ℕ) (text : List ℕ) (tokens : List Token) → at ≤ length text → LieFrom file at (length text) tokens
    → sum_by bytes_of (lexemes_of text tokens) + at ≤ length text
lying file at text [] within lie = omega (arith, within)
lying file at text (t ∷ tokens) within lie =
    let rest = lying file (t.place.offset + t.len) text tokens lie.2 lie.3 in
    let short = take-short t.len (drop t.place.offset text) in
    let all = sum_by-cons bytes_of (lexeme_of text t) (lexemes_of text tokens) in
    let from = lie.1 in
    omega (arith, rest, short, all, from)

-- ---- blocks

some-byte : (word bytes : List ℕ) → str_eq_ignore_ascii_case [] word ≡ false → IsTrue (str_eq_ignore_ascii_case bytes word)
    → 1 ≤ length bytes
some-byte word [] differ is = absurd (false≢true (sym differ ∙ is))
some-byte word (b ∷ bytes) differ is = omega arith

begins : {rest : List Lexeme → Type 0} (word : String) (ts : List Lexeme) → str_eq_ignore_ascii_case [] (codes word) ≡ false
    → (one (IsWord word) ⨾ rest) ts → 1 ≤ sum_by bytes_of ts
begins word ts differ d =
    let first = d.in_front.token in
    let some = some-byte (codes word) first.bytes differ d.in_front.is.bytes in
    let whole : ts ≡ first ∷ d.back = d.parts ∙ ap (λ (front : List Lexeme). front ++ d.back) d.in_front.alone in
    let all = ap (sum_by bytes_of) whole ∙ sum_by-cons bytes_of first d.back in
    omega (arith, some, all)

by-kind : (language : Language) (kind : BlockKind) (b : BlockTree) (ts : List Lexeme) → SpellsKind language kind b ts → 1 ≤ sum_by bytes_of ts
by-kind language Fb b ts (none, d) = begins "FUNCTION_BLOCK" ts refl d
by-kind language Fc b ts d = begins "FUNCTION" ts refl d
by-kind language Ob b ts (none, d) = begins "ORGANIZATION_BLOCK" ts refl d
by-kind language (Db of) b ts (none, d) = begins "DATA_BLOCK" ts refl d
by-kind language Udt b ts (none, d) = begins "TYPE" ts refl d

blocks-few : (language : Language) (blocks : List BlockTree) (ts : List Lexeme) → SpellsBlocks language blocks ts
    → length blocks ≤ sum_by bytes_of ts
blocks-few language [] ts d = omega arith
blocks-few language (b ∷ others) ts d =
    let first = by-kind language b.kind b d.front d.in_front in
    let rest = blocks-few language others d.back d.behind in
    let all = ap (sum_by bytes_of) d.parts ∙ sum_by-append bytes_of d.front d.back in
    omega (arith, first, rest, all)

-- ---- texts

pub text-few : (number : ℕ) (source : SourceRead) → IsOfText number source → length source.blocks ≤ length source.text
text-few number source is =
    let inner = is.read.inner in
    let few = blocks-few source.language source.blocks inner is.read.read.spelled in
    let within = lying number 0 source.text is.tokens (omega arith) (tokens-lie source.language number source.text is.tokens is.cut) in
    let ended = is.read.ended in
    let all = ap (sum_by bytes_of) ended.parts ∙ sum_by-append bytes_of inner (ended.ending ∷ []) in
    omega (arith, few, within, all)
