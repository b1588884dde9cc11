-- Expressions and operands: which tokens spell them, and which are well formed.
use Prim.Native.String.{String}
use Rattle.std.specs.Prelude.{◌≡◌, ◌⊎◌, ℕ, ℤ, ◌<◌, ◌≤◌, Bool, IsTrue, true, false, List, [], ◌∷◌, Option, Some, None}
use Rattle.std.specs.Str.{str_eq_ignore_ascii_case}
use Rattle.pv_word.specs.declared.types.Ty.{Ty}
use Rattle.pv_place.specs.declared.place.Place.{Place}
use Rattle.pv_lex.specs.declared.token.Kind.TheVariants as k
use Rattle.pv_tree.specs.declared.expr.Root.{Root}
use Rattle.pv_tree.specs.declared.expr.Root.TheVariants.{Local, Named, Area}
use Rattle.pv_tree.specs.declared.expr.UnaryOp.{UnaryOp}
use Rattle.pv_tree.specs.declared.expr.UnaryOp.TheVariants as unary_op
use Rattle.pv_tree.specs.declared.expr.BinaryOp.{BinaryOp}
use Rattle.pv_tree.specs.declared.expr.BinaryOp.TheVariants as op
use Rattle.pv_tree.specs.declared.expr.StdFunction.{StdFunction}
use Rattle.pv_tree.specs.declared.expr.StdFunction.TheVariants as function
use Rattle.pv_tree.specs.Tree.{ExprTree, lit, read, unary, binary, std, paren, ExprTrees, no_exprs, exprs, OperandTree, operand, StepTree, field, index, StepTrees, no_steps, steps}
use Rattle.pv_tree.specs.Lexemes.{Lexeme, Form, nothing, never, one, ◌⨾◌, ◌∣◌, IsAt, IsWord, IsSign, word, sign, sign_at}
use Rattle.pv_tree.specs.Words.{IsFunction, function_word, IsPlain, SpellsWord, SpellsFirm, IsFree}
use Rattle.pv_tree.specs.Literals.{IsNumeral, IsTruth, number_type, IsAddress}

-- ---- operators

-- what an operator before its operand is written as
abbrev pub IsBefore : UnaryOp → Lexeme → Type 0
IsBefore unary_op.Plus t = IsSign "+" t
IsBefore unary_op.Minus t = IsSign "-" t
IsBefore unary_op.Not t = IsWord "NOT" t

-- what an operator between its operands is written as
abbrev pub IsBetween : BinaryOp → Lexeme → Type 0
IsBetween op.Mul t = IsSign "*" t
IsBetween op.Div t = IsSign "/" t ⊎ IsWord "DIV" t
IsBetween op.Mod t = IsWord "MOD" t
IsBetween op.Add t = IsSign "+" t
IsBetween op.Sub t = IsSign "-" t
IsBetween op.Less t = IsSign "<" t
IsBetween op.Greater t = IsSign ">" t
IsBetween op.LessEqual t = IsSign "<=" t
IsBetween op.GreaterEqual t = IsSign ">=" t
IsBetween op.Equal t = IsSign "=" t
IsBetween op.NotEqual t = IsSign "<>" t
IsBetween op.And t = IsWord "AND" t ⊎ IsSign "&" t
IsBetween op.Xor t = IsWord "XOR" t
IsBetween op.Or t = IsWord "OR" t

-- how strongly an operator between two operands binds
abbrev pub strength_of : BinaryOp → ℕ
strength_of op.Or = 0
strength_of op.Xor = 1
strength_of op.And = 2
strength_of op.Equal = 3
strength_of op.NotEqual = 3
strength_of op.Less = 4
strength_of op.Greater = 4
strength_of op.LessEqual = 4
strength_of op.GreaterEqual = 4
strength_of op.Add = 5
strength_of op.Sub = 5
strength_of op.Mul = 6
strength_of op.Div = 6
strength_of op.Mod = 6

-- ---- functions

-- the words that the arguments of a function have before them, in their order; a lone argument has
-- none
abbrev pub parameters_of : StdFunction → List (Option String)
parameters_of (function.Convert from to) = None ∷ []
parameters_of function.Abs = None ∷ []
parameters_of function.Min = Some "IN1" ∷ Some "IN2" ∷ []
parameters_of function.Max = Some "IN1" ∷ Some "IN2" ∷ []
parameters_of function.Limit = Some "MN" ∷ Some "IN" ∷ Some "MX" ∷ []
parameters_of function.Sel = Some "G" ∷ Some "IN0" ∷ Some "IN1" ∷ []
parameters_of function.Shl = Some "IN" ∷ Some "N" ∷ []
parameters_of function.Shr = Some "IN" ∷ Some "N" ∷ []

-- the word of a function that there is
pub record IsOfFunction (its_function : StdFunction) (t : Lexeme) : Type 0 where
  pub is_one : IsFunction its_function
  pub kind : t.kind ≡ k.Word
  pub bytes : IsTrue (str_eq_ignore_ascii_case t.bytes (function_word its_function))

-- an argument's word and `:=`
abbrev pub SpellsParameter : Option String → Form
SpellsParameter None = nothing
SpellsParameter (Some text) = word text ⨾ sign ":="

-- what parts an argument from the one before it; the first has none before it
abbrev pub SpellsComma : Bool → Form
SpellsComma true = nothing
SpellsComma false = sign ","

-- ---- spelling

-- where an operand begins, with the place of its first token
abbrev pub SpellsRoot : Root → Place → Form
SpellsRoot (Local name true at) place = sign_at "#" place ⨾ SpellsWord name at
SpellsRoot (Local name false at) place = one (IsAt (IsAt (IsPlain name) at) place)
SpellsRoot (Named name) place = SpellsFirm name place
SpellsRoot (Area area bits byte bit) place = one (IsAt (IsAddress area bits byte bit) place)

-- a number, TRUE or FALSE
abbrev pub SpellsAtom : Option Ty → ℤ → Place → Form
SpellsAtom own value place =
    one (IsAt (IsNumeral number_type own value) place) ∣ one (IsAt (IsTruth own value) place)

abbrev mutual
  -- an expression
  pub SpellsExpr : ExprTree → Form
  SpellsExpr (lit own value place) = SpellsAtom own value place
  SpellsExpr (read variable) = SpellsOperand variable
  SpellsExpr (unary op place arg) = one (IsAt (IsBefore op) place) ⨾ SpellsExpr arg
  SpellsExpr (binary op place left right) =
      SpellsExpr left ⨾ one (IsAt (IsBetween op) place) ⨾ SpellsExpr right
  SpellsExpr (std function place args) =
      one (IsAt (IsOfFunction function) place) ⨾ sign "("
      ⨾ SpellsArguments true (parameters_of function) args ⨾ sign ")"
  SpellsExpr (paren place inner) = sign_at "(" place ⨾ SpellsExpr inner ⨾ sign ")"

  -- the arguments of a function, with whether they are its first ones
  pub SpellsArguments : Bool → List (Option String) → ExprTrees → Form
  SpellsArguments first [] no_exprs = nothing
  SpellsArguments first [] (exprs arg args) = never
  SpellsArguments first (parameter ∷ parameters) no_exprs = never
  SpellsArguments first (parameter ∷ parameters) (exprs arg args) =
      SpellsComma first ⨾ SpellsParameter parameter ⨾ SpellsExpr arg
      ⨾ SpellsArguments false parameters args

  -- what is read or assigned
  pub SpellsOperand : OperandTree → Form
  SpellsOperand (operand root path place) = SpellsRoot root place ⨾ SpellsSteps path

  pub SpellsSteps : StepTrees → Form
  SpellsSteps no_steps = nothing
  SpellsSteps (steps step others) = SpellsStep step ⨾ SpellsSteps others

  pub SpellsStep : StepTree → Form
  SpellsStep (field name place) = sign "." ⨾ SpellsWord name place
  SpellsStep (index at place) = sign_at "[" place ⨾ SpellsExpr at ⨾ sign "]"

-- ---- well-formed expressions

-- how strongly an expression holds together
abbrev pub strength : ExprTree → ℕ
strength (lit own value place) = 8
strength (read variable) = 8
strength (unary op place arg) = 7
strength (binary op place left right) = strength_of op
strength (std function place args) = 8
strength (paren place inner) = 8

-- an unquoted word without `#` before it is no reserved one
abbrev pub IsFormedRoot : Root → Type 0
IsFormedRoot (Local name true at) = Unit {0}
IsFormedRoot (Local name false at) = IsFree name
IsFormedRoot (Named name) = Unit {0}
IsFormedRoot (Area area bits byte bit) = Unit {0}

abbrev mutual
  -- each operand's strength allows its side of its operator, equal ones going from left to right
  pub IsFormedExpr : ExprTree → Type 0
  IsFormedExpr (lit own value place) = Unit {0}
  IsFormedExpr (read variable) = IsFormedOperand variable
  IsFormedExpr (unary op place arg) = (7 ≤ strength arg) × IsFormedExpr arg
  IsFormedExpr (binary op place left right) =
      (strength_of op ≤ strength left) × (strength_of op < strength right) × IsFormedExpr left
      × IsFormedExpr right
  IsFormedExpr (std function place args) = AreFormedExprs args
  IsFormedExpr (paren place inner) = IsFormedExpr inner

  pub AreFormedExprs : ExprTrees → Type 0
  AreFormedExprs no_exprs = Unit {0}
  AreFormedExprs (exprs arg args) = IsFormedExpr arg × AreFormedExprs args

  pub IsFormedOperand : OperandTree → Type 0
  IsFormedOperand (operand root path place) = IsFormedRoot root × AreFormedSteps path

  pub AreFormedSteps : StepTrees → Type 0
  AreFormedSteps no_steps = Unit {0}
  AreFormedSteps (steps step others) = IsFormedStep step × AreFormedSteps others

  pub IsFormedStep : StepTree → Type 0
  IsFormedStep (field name place) = Unit {0}
  IsFormedStep (index at place) = IsFormedExpr at
