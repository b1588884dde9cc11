-- A well-formed expression is made of each spelling of it.
use Rattle.std.proofs.Common.{List, sym, subst}
use Rattle.pv_ll.specs.Grammar.{Grammar}
use Rattle.pv_tree.specs.Tree.{ExprTree, lit, read, unary, binary, std, paren, ExprTrees, no_exprs, exprs, OperandTree, operand, StepTree, field, index, StepTrees, no_steps, steps}
use Rattle.pv_tree.specs.Lexemes.{Lexeme}
use Rattle.pv_tree.specs.Expressions.{SpellsSteps, SpellsStep, SpellsOperand, IsFormedOperand, AreFormedSteps, IsFormedStep}
use Rattle.pv_parse.specs.declared.action.Action.{Action}
use Rattle.pv_parse.proofs.ChainRuns.{Whole, as_factor}
use Rattle.pv_parse.proofs.ExprRuns.{Steps, OneStep, firm, read_made, atom_made, paren_made, unary_made, binary_made, no_step, more_steps, field_step, index_step}
use Rattle.pv_parse.proofs.FunctionRuns.{Can, AllCan, std_made}

-- steps can be made of each well-formed spelling of them
abbrev CanSteps : Grammar → List Action → StepTrees → Type 0
CanSteps rest acts l = (ts : List Lexeme) → SpellsSteps l ts → AreFormedSteps l → Steps rest acts l ts

abbrev CanStep : Grammar → List Action → StepTree → Type 0
CanStep rest acts x = (ts : List Lexeme) → SpellsStep x ts → IsFormedStep x → OneStep rest acts x ts

abbrev CanRead : Grammar → List Action → OperandTree → Type 0
CanRead rest acts o = (ts : List Lexeme) → SpellsOperand o ts → IsFormedOperand o → Whole rest acts 7 (read o) ts

mutual
  pub can : (rest : Grammar) (acts : List Action) (e : ExprTree) → Can rest acts e
  can rest acts (lit own value place) ts d f = as_factor rest acts (lit own value place) ts (firm rest acts (lit own value place) ts (atom_made rest acts own value place ts d))
  can rest acts (read o) ts d f = as_factor rest acts (read o) ts (can_read rest acts o ts d f)
  can rest acts (unary op place e) ts d f =
      as_factor rest acts (unary op place e) ts
      (firm rest acts (unary op place e) ts (unary_made rest acts op place e ts d f.0 (can rest acts e d.back d.behind f.1)))
  can rest acts (binary op place e r) ts d f =
      binary_made rest acts op place e r ts d f.0 f.1 (can rest acts e d.front d.in_front f.2) (can rest acts r d.behind.back d.behind.behind f.3)
  can rest acts (std function place args) ts d f =
      as_factor rest acts (std function place args) ts
      (firm rest acts (std function place args) ts (std_made rest acts function place args ts d (cans rest acts args) f))
  can rest acts (paren place e) ts d f =
      as_factor rest acts (paren place e) ts
      (firm rest acts (paren place e) ts (paren_made rest acts place e ts d (can rest acts e d.behind.front d.behind.in_front f)))

  pub cans : (rest : Grammar) (acts : List Action) (es : ExprTrees) → AllCan rest acts es
  cans rest acts no_exprs = tt
  cans rest acts (exprs e es) = (can rest acts e, cans rest acts es)

  can_read : (rest : Grammar) (acts : List Action) (o : OperandTree) → CanRead rest acts o
  can_read rest acts (operand root l place) ts d f =
      read_made rest acts root l place ts d f.0 (can_steps rest acts l d.back d.behind f.1)

  pub can_steps : (rest : Grammar) (acts : List Action) (l : StepTrees) → CanSteps rest acts l
  can_steps rest acts no_steps ts d f = subst (λ (z : List Lexeme). Steps rest acts no_steps z) (sym d) (no_step rest acts)
  can_steps rest acts (steps x l) ts d f =
      more_steps rest acts x l d.front d.back ts d.parts (can_step rest acts x d.front d.in_front f.0) (can_steps rest acts l d.back d.behind f.1)

  can_step : (rest : Grammar) (acts : List Action) (x : StepTree) → CanStep rest acts x
  can_step rest acts (field x place) ts d f = field_step rest acts x place ts d
  can_step rest acts (index e place) ts d f = index_step rest acts e place ts d (can rest acts e d.behind.front d.behind.in_front f)
