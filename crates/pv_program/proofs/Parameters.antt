-- Arguments fit where their call does, and parameters are variables of the called block.
use Rattle.std.proofs.Common.{◌≡◌, ℕ, zero, suc, ◌<◌, List, [], ◌∷◌, map, get_or, length, Bool, true, false, cond, Option, Some, None, Contains, refl, sym, ap, subst, ◌∙◌, arith}
use Rattle.std.specs.Prelude.{find}
use Rattle.std.specs.List.{AllByRecursion}
use Rattle.std.proofs.lemmas.Bool.{false≢true}
use Rattle.std.proofs.lemmas.Option.{same_Some, none-some}
use Rattle.pv_place.specs.declared.place.Place.{Place}
use Rattle.pv_types.specs.declared.declaration.Section.{Section}
use Rattle.pv_types.specs.declared.declaration.Section.TheVariants.{Input, Output, InOut, Static, Temp, Const}
use Rattle.pv_types.specs.declared.var.Var.{Var}
use Rattle.pv_types.specs.Tree.{VarTree}
use Rattle.pv_types.specs.View.{var_tree, name_of, section_of}
use Rattle.pv_types.proofs.ForCallers.{var_seen}
use Rattle.pv_tree.specs.Tree.{ExprTree, lit, read, unary, binary, std, paren, ExprTrees, no_exprs, exprs, OperandTree, operand, StepTree, field, index, StepTrees, no_steps, steps, ArgTree, CallPlain, BlockTree}
use Rattle.pv_tree.specs.Types.{Written, signed, literal_of}
use Rattle.pv_tree.specs.Scopes.{first_var, is_const}
use Rattle.pv_tree.specs.Callees.{How}
use Rattle.pv_tree.specs.Parts.{operand_of, site}
use Rattle.pv_mean.specs.Sources.{Source}
use Rattle.pv_mean.specs.Placed.{placed, all_placed, placed_operand, step_placed, steps_placed, arg_placed, call_placed}
use Rattle.pv_resolve.specs.Rooms.{FitsWhere, FitsExpr, FitsArgs, FitsOperand, FitsSteps, FitsStep, HasRoom}
use Rattle.pv_laws_room.specs.Bodies.{FitsCall}
use Rattle.pv_program.specs.Handed.{goes_in, goes_out}
use Rattle.pv_program.specs.Led.{RunsLed, IsVariable}
use Rattle.pv_program.proofs.Slots.{var_first}

-- ---- arguments

pub argument_fits : (test : ArgTree → Bool) (args : List ArgTree) (a : ArgTree) → Some a ≡ find test args
    → AllByRecursion (λ x. FitsExpr x.value) args → FitsExpr a.value
argument_fits test [] a e all = absurd (none-some a (sym e))
argument_fits test (x ∷ more) a e all = lead (test x) e (λ f. argument_fits test more a f all.1)
  where
    lead : (t : Bool) → Some a ≡ cond t (Some x) (find test more) → (Some a ≡ find test more → FitsExpr a.value) → FitsExpr a.value
    lead true f behind = subst (λ (y : ArgTree). FitsExpr y.value) (same_Some x a (sym f)) all.0
    lead false f behind = behind f

pub operand_fits : (e : ExprTree) (o : OperandTree) → Some o ≡ operand_of e → FitsExpr e → FitsOperand o
operand_fits (read x) o is h = subst FitsOperand (same_Some x o (sym is)) h
operand_fits (lit ty value place) o is h = absurd (none-some o (sym is))
operand_fits (unary op place arg) o is h = absurd (none-some o (sym is))
operand_fits (binary op place left right) o is h = absurd (none-some o (sym is))
operand_fits (std function place args) o is h = absurd (none-some o (sym is))
operand_fits (paren place inner) o is h = absurd (none-some o (sym is))

-- ---- parameters

pub in_varies : (s : Section) → goes_in s ≡ true → is_const s ≡ false
in_varies Input e = refl
in_varies Output e = refl
in_varies InOut e = refl
in_varies Static e = refl
in_varies Temp e = refl
in_varies Const e = absurd (false≢true e)

pub out_varies : (s : Section) → goes_out s ≡ true → is_const s ≡ false
out_varies Input e = refl
out_varies Output e = refl
out_varies InOut e = refl
out_varies Static e = refl
out_varies Temp e = refl
out_varies Const e = absurd (false≢true e)

pub parameter_declared : (test : Section → Bool) → ((s : Section) → test s ≡ true → is_const s ≡ false) → (source : Source) (block : BlockTree)
    → HasRoom source block → (v : Var) → test v.of.now.section ≡ true → Contains block.vars (var_tree v)
    → IsVariable block v.name.now (var_tree v)
parameter_declared test varies source block h v on c = record {
  found = ap (λ (x : VarTree). first_var block.vars (name_of x).key) (sym (var_seen v)) ∙ var_first source.project h.rules block h.there (var_tree v) c;
  varies = ap (λ (x : VarTree). is_const (section_of x)) (var_seen v) ∙ varies v.of.now.section on;
}

pub var_among : (callee : BlockTree) (vars : List Var) (i : ℕ) (v d : Var) → map var_tree vars ≡ callee.vars → i < length vars
    → v ≡ get_or vars i d → Contains callee.vars (var_tree v)
var_among callee vars i v d is lt at = subst (λ l. Contains l (var_tree v)) is (among vars i lt at)
  where
    among : (xs : List Var) (k : ℕ) → k < length xs → v ≡ get_or xs k d → Contains (map var_tree xs) (var_tree v)
    among [] k l e = absurd (omega (arith, l))
    among (x ∷ xs) zero l e = (0, omega arith, ap var_tree (sym e))
    among (x ∷ xs) (suc k) l e = let w = among xs k (omega (arith, l)) e in let inside = w.1 in (suc w.0, omega (arith, inside), w.2)

-- ---- calls as STL makes them

literal_placed : (at : Place) (e : ExprTree) → literal_of (placed at e) ≡ literal_of e
literal_placed at (lit ty value place) = refl
literal_placed at (read o) = refl
literal_placed at (unary op place arg) = ap (signed op) (literal_placed at arg)
literal_placed at (binary op place left right) = refl
literal_placed at (std function place args) = refl
literal_placed at (paren place inner) = literal_placed at inner

where_fits : (o : Option Written) (P Q : Type 0) → (P → Q) → FitsWhere o P → FitsWhere o Q
where_fits None P Q f h = f h
where_fits (Some w) P Q f h = h

mutual
  expr_fits : (at : Place) (e : ExprTree) → FitsExpr e → FitsExpr (placed at e)
  expr_fits at (lit ty value place) h = h
  expr_fits at (read o) h = operand_placed at o h
  expr_fits at (unary op place arg) h =
      subst (λ o. FitsWhere (signed op o) (FitsExpr (placed at arg))) (sym (literal_placed at arg))
      (where_fits (signed op (literal_of arg)) (FitsExpr arg) (FitsExpr (placed at arg)) (λ f. expr_fits at arg f) h)
  expr_fits at (binary op place left right) h = (expr_fits at left h.0, expr_fits at right h.1)
  expr_fits at (std function place args) h = args_fit at args h
  expr_fits at (paren place inner) h = expr_fits at inner h

  args_fit : (at : Place) (es : ExprTrees) → FitsArgs es → FitsArgs (all_placed at es)
  args_fit at no_exprs h = tt
  args_fit at (exprs e more) h = (expr_fits at e h.0, args_fit at more h.1)

  operand_placed : (at : Place) (o : OperandTree) → FitsOperand o → FitsOperand (placed_operand at o)
  operand_placed at (operand root more place) h = (h.0, steps_fit at more h.1)

  steps_fit : (at : Place) (ss : StepTrees) → FitsSteps ss → FitsSteps (steps_placed at ss)
  steps_fit at no_steps h = tt
  steps_fit at (steps step more) h = (step_fits at step h.0, steps_fit at more h.1)

  step_fits : (at : Place) (s : StepTree) → FitsStep s → FitsStep (step_placed at s)
  step_fits at (field name place) h = tt
  step_fits at (index e place) h = expr_fits at e h

all_fit : (at : Place) (args : List ArgTree) → AllByRecursion (λ x. FitsExpr x.value) args
    → AllByRecursion (λ x. FitsExpr x.value) (map (arg_placed at) args)
all_fit at [] h = tt
all_fit at (x ∷ more) h = (expr_fits at x.value h.0, all_fit at more h.1)

pub call_fits : (call : CallPlain) → FitsCall call → FitsCall (call_placed call)
call_fits call h = all_fit call.place call.args h

pub placed_led : (source : Source) (block : BlockTree) (how : How) (call : CallPlain) → RunsLed source block (site how call)
    → RunsLed source block (site how (call_placed call))
placed_led source block how call led = led
