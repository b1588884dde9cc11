-- The widths of addresses that tokens spell: what is kept of each operand has them (`EachOfRoot`), whatever is said of places.
use Rattle.std.proofs.Common.{List, [], ◌∷◌, Contains}
use Rattle.std.specs.Prelude.{⊤}
use Rattle.pv_place.specs.declared.place.Place.{Place}
use Rattle.pv_lex.specs.declared.token.Language.{Language}
use Rattle.pv_tree.specs.declared.expr.Root.TheVariants.{Local, Named, Area}
use Rattle.pv_tree.specs.Tree.{ExprTree, OperandTree, operand, BlockTree}
use Rattle.pv_tree.specs.Scopes.{SymbolTree, ProjectTree, Scope}
use Rattle.pv_tree.specs.Lexemes.{Lexeme}
use Rattle.pv_tree.specs.Expressions.{SpellsExpr}
use Rattle.pv_tree.specs.Blocks.{SpellsBlock}
use Rattle.pv_tree.specs.LiteralTypes.{nothing}
use Rattle.pv_tree.specs.Parts.{parts_of, reads_of_parts, operands_of}
use Rattle.pv_laws_places.specs.Kept.{EachOfOperand, EachOfBlock}
use Rattle.pv_laws_places.specs.Texts.{LiesInOne}
use Rattle.pv_laws_places.specs.Sources.{SourceRead, AreOfTexts, texts_of, project_of}
use Rattle.pv_laws_places.proofs.ForCallers.{Stand, each-expr, each-block, each-part, reads, operands, sources-lie, each-contained}
use Rattle.pv_laws_room.specs.Reached.{IsShortOperand, AreShort}

operand-short : (P : Place → Type 0) (o : OperandTree) → EachOfOperand P o → IsShortOperand o
operand-short P (operand (Local name hash place) more at) h = tt
operand-short P (operand (Named name) more at) h = tt
operand-short P (operand (Area area bits byte bit) more at) h = h.1.0

block-short : (P : Place → Type 0) (project : ProjectTree) (block : BlockTree) → EachOfBlock P block → AreShort project block
block-short P project block h o c =
    operand-short P o (each-contained (EachOfOperand P) (operands_of project block) o (operands P project block h) c)

anywhere : (ts : List Lexeme) → Stand (λ p. ⊤) ts
anywhere [] = tt
anywhere (t ∷ ts) = (tt, anywhere ts)

pub spelled-short : (language : Language) (project : ProjectTree) (block : BlockTree) (ts : List Lexeme) → SpellsBlock language block ts
    → AreShort project block
spelled-short language project block ts d = block-short (λ p. ⊤) project block (each-block (λ p. ⊤) language block ts d (anywhere ts))

pub sources-short : (sources : List SourceRead) (symbols : List SymbolTree) (block : BlockTree) → AreOfTexts 0 sources
    → Contains (project_of sources symbols).blocks block → AreShort (project_of sources symbols) block
sources-short sources symbols block are c =
    let P = LiesInOne (texts_of sources) in
    block-short P (project_of sources symbols) block
    (each-contained (EachOfBlock P) (project_of sources symbols).blocks block (sources-lie sources are) c)

pub expression-short : (scope : Scope) (e : ExprTree) (ts : List Lexeme) (o : OperandTree) → SpellsExpr e ts
    → Contains (reads_of_parts (parts_of scope nothing e)) o → IsShortOperand o
expression-short scope e ts o d c =
    let all = each-part (λ p. ⊤) scope nothing e (each-expr (λ p. ⊤) e ts d (anywhere ts)) in
    operand-short (λ p. ⊤) o (each-contained (EachOfOperand (λ p. ⊤)) (reads_of_parts (parts_of scope nothing e)) o
    (reads (λ p. ⊤) (parts_of scope nothing e) all) c)
