-- Blocks: which tokens spell them in SCL and in STL, and which are well formed.
use Rattle.std.specs.Prelude.{◌≡◌, List, [], All, Option, Some, None, false}
use Rattle.pv_word.specs.declared.types.Ty.{Ty}
use Rattle.pv_place.specs.declared.place.Place.{Place}
use Rattle.pv_types.specs.declared.declaration.Section.TheVariants as section
use Rattle.pv_types.specs.Tree.{VarTree}
use Rattle.pv_types.specs.View.{listed as fields}
use Rattle.pv_lex.specs.declared.token.Language.{Language}
use Rattle.pv_lex.specs.declared.token.Language.TheVariants as language
use Rattle.pv_tree.specs.declared.block.BlockKind.{BlockKind}
use Rattle.pv_tree.specs.declared.block.BlockKind.TheVariants as kind
use Rattle.pv_tree.specs.declared.expr.Root.{Root}
use Rattle.pv_tree.specs.declared.expr.Root.TheVariants.{Local}
use Rattle.pv_tree.specs.Tree.{PlacedName, ExprTree, lit, OperandTree, operand, StepTree, field, index, StepTrees, no_steps, steps, StartTree, BodyTree, scl, stl, starts, BlockTree}
use Rattle.pv_tree.specs.Lexemes.{Form, nothing, never, one, ◌⨾◌, ◌∣◌, when, maybe, word, sign, sign_at, each}
use Rattle.pv_tree.specs.Words.{SpellsWord, SpellsName, IsFree}
use Rattle.pv_tree.specs.Literals.{SpellsLiteral, SpellsNumber, number_type}
use Rattle.pv_tree.specs.Declarations.{IsTypeWord, SpellsVars, SpellsSections, AreFormedVars}
use Rattle.pv_tree.specs.Expressions.{IsFormedOperand}
use Rattle.pv_tree.specs.Calls.{IsFreeOption}
use Rattle.pv_tree.specs.Statements.{SpellsStmts, AreFormedStmts}
use Rattle.pv_tree.specs.Instructions.{SpellsInstrs, IsFormedInstr}

-- ---- values of data blocks

-- an index in the path of a value: a number with its sign
abbrev pub SpellsPathIndex : ExprTree → Form
SpellsPathIndex (lit own value place) = SpellsNumber number_type
    (record { ty = own; value = value; place = place })
SpellsPathIndex _ = never

abbrev pub SpellsPathStep : StepTree → Form
SpellsPathStep (field name place) = sign "." ⨾ SpellsWord name place
SpellsPathStep (index at place) = sign_at "[" place ⨾ SpellsPathIndex at ⨾ sign "]"

abbrev pub SpellsPathSteps : StepTrees → Form
SpellsPathSteps no_steps = nothing
SpellsPathSteps (steps step others) = SpellsPathStep step ⨾ SpellsPathSteps others

-- a path begins with a word without `#`
abbrev pub SpellsPathRoot : Root → Place → Form
SpellsPathRoot (Local name false at) place = when (place ≡ at) (SpellsWord name at)
SpellsPathRoot _ place = never

abbrev pub SpellsPath : OperandTree → Form
SpellsPath (operand root path place) = SpellsPathRoot root place ⨾ SpellsPathSteps path

abbrev pub SpellsDataValue : StartTree → Form
SpellsDataValue start = SpellsPath start.0 ⨾ sign ":=" ⨾ SpellsLiteral start.1 ⨾ sign ";"

-- BEGIN and the values, which SCL may leave out together
abbrev pub SpellsDataValues : Language → List StartTree → Form
SpellsDataValues language.Scl values =
    when (values ≡ []) nothing ∣ (word "BEGIN" ⨾ each SpellsDataValue values)
SpellsDataValues language.Stl values = word "BEGIN" ⨾ each SpellsDataValue values

-- ---- bodies

-- the body of a block with code: BEGIN may be missing in SCL
abbrev pub SpellsCode : Language → BodyTree → Form
SpellsCode language.Scl (scl statements) = maybe (word "BEGIN") ⨾ SpellsStmts statements
SpellsCode language.Stl (stl instrs) = word "BEGIN" ⨾ SpellsInstrs instrs
SpellsCode _ _ = never

-- the values of a data block
abbrev pub SpellsData : Language → BodyTree → Form
SpellsData its_language (starts values) = SpellsDataValues its_language values
SpellsData its_language _ = never

-- ---- blocks

-- the type of a function's value, or VOID
abbrev pub SpellsValueType : Option Ty → Form
SpellsValueType None = word "VOID"
SpellsValueType (Some simple) = one (IsTypeWord simple)

-- the fields of a data block or a named structure, which are in no section and count as static
abbrev pub SpellsOwnFields : List VarTree → Form
SpellsOwnFields vars =
    word "STRUCT" ⨾ SpellsVars section.Static (fields vars) ⨾ word "END_STRUCT" ⨾ maybe (sign ";")

-- what a data block is of: a function block or a named structure, or its own fields
abbrev pub SpellsDataType : Option PlacedName → List VarTree → Form
SpellsDataType (Some of) vars = when (vars ≡ []) (SpellsName of.0 of.1)
SpellsDataType None vars = SpellsOwnFields vars

-- a block by its kind, from its first word to its last
abbrev pub SpellsKind : Language → BlockKind → BlockTree → Form
SpellsKind its_language kind.Fb block =
    when (block.value ≡ None) (word "FUNCTION_BLOCK" ⨾ SpellsName block.name block.place
    ⨾ SpellsSections block.vars
    ⨾ SpellsCode its_language block.body ⨾ word "END_FUNCTION_BLOCK")
SpellsKind its_language kind.Fc block =
    word "FUNCTION" ⨾ SpellsName block.name block.place ⨾ sign ":" ⨾ SpellsValueType block.value
    ⨾ SpellsSections block.vars ⨾ SpellsCode its_language block.body ⨾ word "END_FUNCTION"
SpellsKind its_language kind.Ob block =
    when (block.value ≡ None) (word "ORGANIZATION_BLOCK" ⨾ SpellsName block.name block.place
    ⨾ SpellsSections block.vars
    ⨾ SpellsCode its_language block.body ⨾ word "END_ORGANIZATION_BLOCK")
SpellsKind its_language (kind.Db of) block =
    when (block.value ≡ None) (word "DATA_BLOCK" ⨾ SpellsName block.name block.place
    ⨾ SpellsDataType of block.vars
    ⨾ SpellsData its_language block.body ⨾ word "END_DATA_BLOCK")
SpellsKind its_language kind.Udt block =
    when ((block.value ≡ None) × (block.body ≡ starts []))
    (word "TYPE" ⨾ SpellsName block.name block.place
    ⨾ SpellsOwnFields block.vars ⨾ word "END_TYPE")

abbrev pub SpellsBlock : Language → BlockTree → Form
SpellsBlock its_language block = SpellsKind its_language block.kind block

-- the blocks of a source
abbrev pub SpellsBlocks : Language → List BlockTree → Form
SpellsBlocks its_language blocks = each (SpellsBlock its_language) blocks

-- ---- well-formed blocks

abbrev pub IsFormedStart : StartTree → Type 0
IsFormedStart start = IsFormedOperand start.0

abbrev pub IsFormedBody : BodyTree → Type 0
IsFormedBody (scl statements) = AreFormedStmts statements
IsFormedBody (stl instrs) = All IsFormedInstr instrs
IsFormedBody (starts values) = All IsFormedStart values

abbrev pub IsFormedKind : BlockKind → Type 0
IsFormedKind (kind.Db of) = IsFreeOption of
IsFormedKind _ = Unit {0}

pub record IsFormedBlock (block : BlockTree) : Type 0 where
  pub its_kind : IsFormedKind block.kind
  pub its_name : IsFree block.name
  pub its_vars : AreFormedVars (fields block.vars)
  pub its_body : IsFormedBody block.body
