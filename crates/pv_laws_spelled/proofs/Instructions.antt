-- Tokens spell each instruction of what they spell.
use Rattle.std.proofs.Common.{ℕ, zero, suc, ◌+◌, List, [], ◌∷◌, Contains, sym, subst, arith}
use Rattle.std.specs.Prelude.{flat_map}
use Rattle.std.specs.List.{AllByRecursion}
use Rattle.pv_lex.specs.declared.token.Language.{Language}
use Rattle.pv_lex.specs.declared.token.Language.TheVariants.{Scl, Stl}
use Rattle.pv_tree.specs.declared.block.BlockKind.{BlockKind}
use Rattle.pv_tree.specs.declared.block.BlockKind.TheVariants.{Fb, Fc, Ob, Db, Udt}
use Rattle.pv_tree.specs.Tree.{InstrTree, BodyTree, scl, stl, starts, BlockTree}
use Rattle.pv_tree.specs.Scopes.{SymbolTree}
use Rattle.pv_tree.specs.Lexemes.{Lexeme}
use Rattle.pv_tree.specs.Instructions.{SpellsInstr, SpellsInstrs}
use Rattle.pv_tree.specs.Blocks.{SpellsCode, SpellsData, SpellsKind, SpellsBlocks}
use Rattle.pv_tree.specs.Parts.{instructions_of}
use Rattle.pv_laws_places.specs.Sources.{SourceRead, AreOfTexts, project_of}
use Rattle.pv_laws_places.proofs.ForCallers.{each-append, each-contained}

abbrev pub HasTokens : InstrTree → Type 0
HasTokens i = (ts : List Lexeme) × SpellsInstr i ts

abbrev AllHave : List InstrTree → Type 0
AllHave is = (i : InstrTree) → Contains is i → HasTokens i

abbrev BodyHas : BodyTree → Type 0
BodyHas body = AllHave (instructions_of body)

none-there : AllHave []
none-there i (k, lt, e) = absurd (omega (arith, lt))

instrs-spelled : (is : List InstrTree) (ts : List Lexeme) → SpellsInstrs is ts → AllHave is
instrs-spelled [] ts d i c = none-there i c
instrs-spelled (x ∷ more) ts d i (zero, lt, e) = subst HasTokens e (d.behind.front, d.behind.in_front)
instrs-spelled (x ∷ more) ts d i (suc k, lt, e) = instrs-spelled more d.behind.back d.behind.behind i (k, omega (arith, lt), e)

code-spelled : (language : Language) (body : BodyTree) (ts : List Lexeme) → SpellsCode language body ts → BodyHas body
code-spelled Scl (scl statements) ts d = none-there
code-spelled Scl (stl instructions) ts d = absurd d
code-spelled Scl (starts values) ts d = absurd d
code-spelled Stl (scl statements) ts d = absurd d
code-spelled Stl (stl instructions) ts d = instrs-spelled instructions d.back d.behind
code-spelled Stl (starts values) ts d = absurd d

data-spelled : (language : Language) (body : BodyTree) (ts : List Lexeme) → SpellsData language body ts → BodyHas body
data-spelled language (scl statements) ts d = absurd d
data-spelled language (stl instructions) ts d = absurd d
data-spelled language (starts values) ts d = none-there

pub block-spelled : (language : Language) (kind : BlockKind) (b : BlockTree) (ts : List Lexeme) → SpellsKind language kind b ts → BodyHas b.body
block-spelled language Fb b ts (none, d) =
    code-spelled language b.body d.behind.behind.behind.front d.behind.behind.behind.in_front
block-spelled language Fc b ts d =
    code-spelled language b.body d.behind.behind.behind.behind.behind.front d.behind.behind.behind.behind.behind.in_front
block-spelled language Ob b ts (none, d) =
    code-spelled language b.body d.behind.behind.behind.front d.behind.behind.behind.in_front
block-spelled language (Db of) b ts (none, d) =
    data-spelled language b.body d.behind.behind.behind.front d.behind.behind.behind.in_front
block-spelled language Udt b ts (none, d) = subst BodyHas (sym none.1) none-there

abbrev Spelled : BlockTree → Type 0
Spelled b = BodyHas b.body

blocks-spelled : (language : Language) (blocks : List BlockTree) (ts : List Lexeme) → SpellsBlocks language blocks ts
    → AllByRecursion Spelled blocks
blocks-spelled language [] ts d = tt
blocks-spelled language (b ∷ others) ts d =
    (block-spelled language b.kind b d.front d.in_front, blocks-spelled language others d.back d.behind)

from : (number : ℕ) (sources : List SourceRead) → AreOfTexts number sources → AllByRecursion Spelled (flat_map (λ s. s.blocks) sources)
from number [] are = tt
from number (source ∷ more) are =
    each-append Spelled source.blocks (flat_map (λ s. s.blocks) more)
    (blocks-spelled source.language source.blocks are.0.read.inner are.0.read.read.spelled)
    (from (number + 1) more are.1)

pub sources-spelled : (sources : List SourceRead) (symbols : List SymbolTree) (block : BlockTree) → AreOfTexts 0 sources
    → Contains (project_of sources symbols).blocks block → BodyHas block.body
sources-spelled sources symbols block are c =
    each-contained Spelled (project_of sources symbols).blocks block (from 0 sources are) c
