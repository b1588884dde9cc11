-- Only functions are spelled with a value's type.
use Rattle.std.proofs.Common.{◌≡◌, ℕ, ◌+◌, List, [], ◌∷◌, true, Option, Some, None, refl, sym, ap, ◌∙◌}
use Rattle.std.specs.Prelude.{is_some, flat_map}
use Rattle.std.specs.List.{AllByRecursion}
use Rattle.std.proofs.lemmas.Bool.{false≢true}
use Rattle.pv_word.specs.declared.types.Ty.{Ty}
use Rattle.pv_lex.specs.declared.token.Language.{Language}
use Rattle.pv_tree.specs.declared.block.BlockKind.{BlockKind}
use Rattle.pv_tree.specs.declared.block.BlockKind.TheVariants.{Fb, Fc, Ob, Db, Udt}
use Rattle.pv_tree.specs.Tree.{BlockTree}
use Rattle.pv_tree.specs.Scopes.{SymbolTree, is_fc}
use Rattle.pv_tree.specs.Lexemes.{Lexeme}
use Rattle.pv_tree.specs.Blocks.{SpellsKind, SpellsBlocks}
use Rattle.pv_laws_places.specs.Sources.{SourceRead, AreOfTexts, project_of}
use Rattle.pv_laws_places.proofs.ForCallers.{each-append}
use Rattle.pv_laws_types.specs.Typed.{ValuesAreFunctions}

abbrev pub IsSo : BlockTree → Type 0
IsSo b = is_some b.value ≡ true → is_fc b.kind ≡ true

no-value : (value : Option Ty) → value ≡ None → is_some value ≡ true → ⊥
no-value value none some = false≢true (sym (ap is_some none) ∙ some)

by-kind : (language : Language) (kind : BlockKind) (b : BlockTree) (ts : List Lexeme) → SpellsKind language kind b ts → is_some b.value ≡ true
    → is_fc kind ≡ true
by-kind language Fb b ts (none, d) some = absurd (no-value b.value none some)
by-kind language Fc b ts d some = refl
by-kind language Ob b ts (none, d) some = absurd (no-value b.value none some)
by-kind language (Db of) b ts (none, d) some = absurd (no-value b.value none some)
by-kind language Udt b ts (none, d) some = absurd (no-value b.value none.0 some)

pub blocks-so : (language : Language) (blocks : List BlockTree) (ts : List Lexeme) → SpellsBlocks language blocks ts → AllByRecursion IsSo blocks
blocks-so language [] ts d = tt
blocks-so language (b ∷ others) ts d = (by-kind language b.kind b d.front d.in_front, blocks-so language others d.back d.behind)

from : (number : ℕ) (sources : List SourceRead) → AreOfTexts number sources → AllByRecursion IsSo (flat_map (λ s. s.blocks) sources)
from number [] are = tt
from number (source ∷ more) are =
    each-append IsSo source.blocks (flat_map (λ s. s.blocks) more) (blocks-so source.language source.blocks are.0.read.inner are.0.read.read.spelled)
    (from (number + 1) more are.1)

pub values-are-functions : (sources : List SourceRead) (symbols : List SymbolTree) → AreOfTexts 0 sources
    → ValuesAreFunctions (project_of sources symbols)
values-are-functions sources symbols are = from 0 sources are
