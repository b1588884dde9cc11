-- What holds of the places of tokens holds of each place that the tree keeps which they spell: declarations, instructions and blocks.
use Rattle.std.proofs.Common.{inl, inr, List, [], ◌∷◌, ◌++◌, Option, Some, None, true, false, sym, subst}
use Rattle.std.specs.Prelude.{Bool as Truth}
use Rattle.std.specs.List.{AllByRecursion}
use Rattle.pv_place.specs.declared.place.Place.{Place}
use Rattle.pv_types.specs.declared.name.Name.{Name}
use Rattle.pv_types.specs.declared.declaration.Literal.{Literal}
use Rattle.pv_types.specs.declared.declaration.Section.{Section}
use Rattle.pv_types.specs.declared.declaration.Section.TheVariants as section
use Rattle.pv_types.specs.Tree.{TypeTree, plain, array, structure, named, unread, VarTree, var, VarTrees, no_vars, _then_}
use Rattle.pv_types.specs.View.{listed as fields}
use Rattle.pv_lex.specs.declared.token.Language.{Language}
use Rattle.pv_lex.specs.declared.token.Language.TheVariants as language
use Rattle.pv_tree.specs.declared.block.BlockKind.{BlockKind}
use Rattle.pv_tree.specs.declared.block.BlockKind.TheVariants as kind
use Rattle.pv_tree.specs.declared.expr.Root.{Root}
use Rattle.pv_tree.specs.declared.expr.Root.TheVariants.{Local, Named, Area}
use Rattle.pv_tree.specs.declared.instr.Op.{Op}
use Rattle.pv_tree.specs.declared.instr.Op.TheVariants as op
use Rattle.pv_tree.specs.Tree.{PlacedName, ExprTree, lit, read, unary, binary, std, paren, OperandTree, operand, StepTree, field, index, StepTrees, no_steps, steps, ArgTree, CallPlain, InstrTree, StartTree, BodyTree, scl, stl, starts, BlockTree}
use Rattle.pv_tree.specs.Lexemes.{Lexeme, Form, each}
use Rattle.pv_tree.specs.Literals.{SpellsLoaded}
use Rattle.pv_tree.specs.Calls.{SpellsCalledStl, SpellsArgsStl, SpellsCallStl}
use Rattle.pv_tree.specs.Declarations.{SpellsStart, Shares, SpellsType, SpellsVars, SpellsConstantOf, SpellsConstant, SpellsSection, SpellsSections, no_sections, sections}
use Rattle.pv_tree.specs.Instructions.{Shape, opening, must, may, calls, calls_alone, SpellsOperandLiteral, SpellsValue, SpellsInstrCall, SpellsCallAlone, SpellsBehind, sort_of, shape_of, SpellsLabel, SpellsInstr, SpellsInstrs}
use Rattle.pv_tree.specs.Blocks.{SpellsPathRoot, SpellsPathIndex, SpellsPathStep, SpellsPathSteps, SpellsPath, SpellsDataValue, SpellsDataValues, SpellsCode, SpellsData, SpellsOwnFields, SpellsDataType, SpellsKind, SpellsBlock, SpellsBlocks}
use Rattle.pv_laws_places.specs.Kept.{EachOfName, EachOfLiteral, EachOfRoot, EachOfExpr, EachOfOperand, EachOfSteps, EachOfStep, EachOfArg, EachOfCall, EachOfCallOption, EachOfOperandOption, EachOfInstr, EachOfType, EachOfVars, EachOfKind, EachOfStart, EachOfBody, EachOfBlock, EachOfBlocks}
use Rattle.pv_laws_places.proofs.Lists.{each-front, each-behind}
use Rattle.pv_laws_places.proofs.Spelled.{Stand, front, back, at-one, at-name, at-number, at-literal, each-operand, listed-args, at-base, each-stmts}

-- ---- declarations

at-start : (P : Place → Type 0) (start : Option Literal) (ts : List Lexeme) → SpellsStart start ts → Stand P ts → EachOfLiteral P start
at-start P None ts d s = tt
at-start P (Some start) ts d s = at-literal P start d.back d.behind (back P ts d s)

-- a variable that shares its type and its start value with the next one
shared-type : (P : Place → Type 0) (ty : TypeTree) (start : Option Literal) (others : VarTrees) → Shares ty start others → EachOfVars P others
    → EachOfType P ty × EachOfLiteral P start
shared-type P ty start no_vars h e = absurd h
shared-type P ty start (_then_ (var name around other its place) more) h e =
    (subst (EachOfType P) h.0 e.1.0, subst (EachOfLiteral P) h.1 e.1.1.0)

mutual
  pub each-type : (P : Place → Type 0) (around : Section) (ty : TypeTree) (ts : List Lexeme) → SpellsType around ty ts → Stand P ts → EachOfType P ty
  each-type P around (plain simple) ts d s = tt
  each-type P around unread ts d s = tt
  each-type P around (named name place) ts d s = at-name P name place ts d s
  each-type P around (array low high of place) ts d s =
      let a = d.behind in
      let b = a.behind in
      let c = b.behind in
      let e = c.behind in
      let f = e.behind in
      let g = f.behind in (
        at-one P place d.front d.in_front (front P ts d s),
        each-type P around of g.back g.behind
            (back P f.back g (back P e.back f (back P c.back e (back P b.back c (back P a.back b (back P d.back a (back P ts d s))))))),
      )
  each-type P around (structure inner) ts d s =
      each-vars P around inner d.behind.front d.behind.in_front (front P d.back d.behind (back P ts d s))

  pub each-vars : (P : Place → Type 0) (around : Section) (vars : VarTrees) (ts : List Lexeme) → SpellsVars around vars ts → Stand P ts
      → EachOfVars P vars
  each-vars P around no_vars ts d s = tt
  each-vars P around (_then_ (var name its ty start place) others) ts (same, d) s = (
    at-one P place d.front d.in_front (front P ts d s),
    elim d.behind [
      | inl own ↦ (let b = back P d.back own (back P ts d s) in
          let v = own.behind.behind in
          let c = back P own.back own.behind b in
          let e = back P own.behind.back v c in (
            each-type P around ty own.behind.front own.behind.in_front (front P own.back own.behind b),
            (
              at-start P start v.front v.in_front (front P own.behind.back v c),
              each-vars P around others v.behind.back v.behind.behind (back P v.back v.behind e),
            ),
          ))
      | inr shared ↦ (let e = each-vars P around others shared.1.back shared.1.behind (back P d.back shared.1 (back P ts d s)) in
          let h = shared-type P ty start others shared.0 e in
          (h.0, (h.1, e)))
    ],
  )

constant-of : (P : Place → Type 0) (name : Name) (place : Place) (start : Option Literal) (ty : TypeTree) (ts : List Lexeme)
    → SpellsConstantOf name place start ty ts → Stand P ts → P place × (EachOfType P ty × EachOfLiteral P start)
constant-of P name place None ty ts d s = absurd d
constant-of P name place (Some literal) ty ts (same, d) s =
    let b = back P d.back d.behind (back P ts d s) in (
      at-one P place d.front d.in_front (front P ts d s),
      (
        subst (EachOfType P) (sym same) tt,
        at-literal P literal d.behind.behind.front d.behind.behind.in_front (front P d.behind.back d.behind.behind b),
      ),
    )

constants : (P : Place → Type 0) (vars : List VarTree) (ts : List Lexeme) → each SpellsConstant vars ts → Stand P ts → EachOfVars P (fields vars)
constants P [] ts d s = tt
constants P (var name its ty start place ∷ vars) ts d s =
    let c = constant-of P name place start ty d.front d.in_front.1 (front P ts d s) in
    (c.0, (c.1.0, (c.1.1, constants P vars d.back d.behind (back P ts d s))))

each-section : (P : Place → Type 0) (around : Section) (vars : List VarTree) (ts : List Lexeme) → SpellsSection around vars ts → Stand P ts
    → EachOfVars P (fields vars)
each-section P section.Const vars ts d s =
    constants P vars d.behind.front d.behind.in_front (front P d.back d.behind (back P ts d s))
each-section P section.Input vars ts d s =
    each-vars P section.Input (fields vars) d.behind.front d.behind.in_front (front P d.back d.behind (back P ts d s))
each-section P section.Output vars ts d s =
    each-vars P section.Output (fields vars) d.behind.front d.behind.in_front (front P d.back d.behind (back P ts d s))
each-section P section.InOut vars ts d s =
    each-vars P section.InOut (fields vars) d.behind.front d.behind.in_front (front P d.back d.behind (back P ts d s))
each-section P section.Static vars ts d s =
    each-vars P section.Static (fields vars) d.behind.front d.behind.in_front (front P d.back d.behind (back P ts d s))
each-section P section.Temp vars ts d s =
    each-vars P section.Temp (fields vars) d.behind.front d.behind.in_front (front P d.back d.behind (back P ts d s))

fields-append : (P : Place → Type 0) (one other : List VarTree) → EachOfVars P (fields one) → EachOfVars P (fields other)
    → EachOfVars P (fields (one ++ other))
fields-append P [] other a b = b
fields-append P (var name its ty start place ∷ one) other a b = (a.0, (a.1.0, (a.1.1.0, fields-append P one other a.1.1.1 b)))

each-sections : (P : Place → Type 0) (vars : List VarTree) (ts : List Lexeme) → SpellsSections vars ts → Stand P ts → EachOfVars P (fields vars)
each-sections P vars ts no_sections s = tt
each-sections P vars ts (sections around inner others all before after tokens first rest split parts) s =
    let t = subst (Stand P) parts s in
    subst (λ l. EachOfVars P (fields l)) (sym split) (fields-append P inner others
    (each-section P around inner before first (each-front (λ x. P x.place) before after t))
    (each-sections P others after rest (each-behind (λ x. P x.place) before after t)))

each-own : (P : Place → Type 0) (vars : List VarTree) (ts : List Lexeme) → SpellsOwnFields vars ts → Stand P ts → EachOfVars P (fields vars)
each-own P vars ts d s =
    each-vars P section.Static (fields vars) d.behind.front d.behind.in_front (front P d.back d.behind (back P ts d s))

each-data_type : (P : Place → Type 0) (of : Option PlacedName) (vars : List VarTree) (ts : List Lexeme) → SpellsDataType of vars ts → Stand P ts
    → EachOfName P of × EachOfVars P (fields vars)
each-data_type P (Some name) vars ts (none, d) s = (at-name P name.0 name.1 ts d s, subst (λ l. EachOfVars P (fields l)) (sym none) tt)
each-data_type P None vars ts d s = (tt, each-own P vars ts d s)

-- ---- instructions

args-stl : (P : Place → Type 0) (args : List ArgTree) (ts : List Lexeme) → SpellsArgsStl args ts → Stand P ts → AllByRecursion (EachOfArg P) args
args-stl P [] ts d s = tt
args-stl P (arg ∷ args) ts d s = listed-args P arg args d.behind.front d.behind.in_front (front P d.back d.behind (back P ts d s))

called-stl : (P : Place → Type 0) (hash : Truth) (name : Name) (at : Place) (ts : List Lexeme) → SpellsCalledStl hash name at ts → Stand P ts → P at
called-stl P true name at ts d s = at-name P name at d.back d.behind (back P ts d s)
called-stl P false name at ts d s = at-name P name at ts d s

call-stl : (P : Place → Type 0) (call : CallPlain) (ts : List Lexeme) → P call.place → SpellsCallStl call ts → Stand P ts → EachOfCall P call
call-stl P call ts own d s =
    let b = back P ts d s in
    record {
      its_name = called-stl P call.hash call.name call.name_place d.front d.in_front (front P ts d s);
      its_base = at-base _ P call.base d.behind.front d.behind.in_front (front P d.back d.behind b);
      its_args = args-stl P call.args d.behind.back d.behind.behind (back P d.back d.behind b);
      its_own = own;
    }

call-alone : (P : Place → Type 0) (call : CallPlain) (ts : List Lexeme) → P call.place → SpellsCallAlone call ts → Stand P ts → EachOfCall P call
call-alone P call ts own d s =
    record {
      its_name = at-name P call.name call.name_place ts d.1 s;
      its_base = subst (EachOfName P) (sym d.0.1) tt;
      its_args = subst (AllByRecursion (EachOfArg P)) (sym d.0.2) tt;
      its_own = own;
    }

instr-call : (form : CallPlain → List Lexeme → Type 0) (P : Place → Type 0)
    → ((call : CallPlain) (ts : List Lexeme) → P call.place → form call ts → Stand P ts → EachOfCall P call)
    → (place : Place) → P place → (call : Option CallPlain) (ts : List Lexeme) → SpellsInstrCall form place call ts → Stand P ts
    → EachOfCallOption P call
instr-call form P known place own None ts d s = absurd d
instr-call form P known place own (Some call) ts d s = known call ts (subst P (sym d.0) own) d.1 s

at-loaded : (P : Place → Type 0) (l : Literal) (ts : List Lexeme) → SpellsLoaded l ts → Stand P ts → P l.place
at-loaded P l ts (inl d) s = at-number _ P l ts d s
at-loaded P l ts (inr d) s = at-one P l.place ts d s

operand-literal : (P : Place → Type 0) (its_op : Op) (l : Literal) (ts : List Lexeme) → SpellsOperandLiteral its_op l ts → Stand P ts → P l.place
operand-literal P op.L l ts d s = at-loaded P l ts d s
operand-literal P _ l ts d s = at-literal P l ts d s

each-value : (none : Form) (P : Place → Type 0) (its_op : Op) (variable : Option OperandTree) (literal : Option Literal) (ts : List Lexeme)
    → SpellsValue none its_op variable literal ts → Stand P ts → EachOfOperandOption P variable × EachOfLiteral P literal
each-value none P its_op (Some variable) None ts d s = (each-operand P variable ts d s, tt)
each-value none P its_op None (Some literal) ts d s = (tt, operand-literal P its_op literal ts d s)
each-value none P its_op None None ts d s = (tt, tt)
each-value none P its_op (Some variable) (Some literal) ts d s = absurd d

-- what stands behind an instruction's word
pub record Behind (P : Place → Type 0) (i : InstrTree) : Type 0 where
  pub its_operand : EachOfOperandOption P i.operand
  pub its_literal : EachOfLiteral P i.literal
  pub its_call : EachOfCallOption P i.call

behind-word : (P : Place → Type 0) (shape : Shape) (i : InstrTree) (ts : List Lexeme) → P i.place → SpellsBehind shape i ts → Stand P ts → Behind P i
behind-word P opening i ts own d s = record {
  its_operand = subst (EachOfOperandOption P) (sym d.0.0.0) tt;
  its_literal = subst (EachOfLiteral P) (sym d.0.0.1) tt;
  its_call = subst (EachOfCallOption P) (sym d.0.1) tt;
}
behind-word P must i ts own d s =
    let v = each-value _ P i.op i.operand i.literal ts d.1 s in
    record { its_operand = v.0; its_literal = v.1; its_call = subst (EachOfCallOption P) (sym d.0) tt }
behind-word P may i ts own d s =
    let v = each-value _ P i.op i.operand i.literal ts d.1 s in
    record { its_operand = v.0; its_literal = v.1; its_call = subst (EachOfCallOption P) (sym d.0) tt }
behind-word P calls i ts own d s = record {
  its_operand = subst (EachOfOperandOption P) (sym d.0.0) tt;
  its_literal = subst (EachOfLiteral P) (sym d.0.1) tt;
  its_call = instr-call SpellsCallStl P (call-stl P) i.place own i.call ts d.1 s;
}
behind-word P calls_alone i ts own d s = record {
  its_operand = subst (EachOfOperandOption P) (sym d.0.0) tt;
  its_literal = subst (EachOfLiteral P) (sym d.0.1) tt;
  its_call = instr-call SpellsCallAlone P (call-alone P) i.place own i.call ts d.1 s;
}

at-label : (P : Place → Type 0) (label : Option PlacedName) (ts : List Lexeme) → SpellsLabel label ts → Stand P ts → EachOfName P label
at-label P None ts d s = tt
at-label P (Some label) ts d s = at-one P label.1 d.front d.in_front (front P ts d s)

each-instr : (P : Place → Type 0) (i : InstrTree) (ts : List Lexeme) → SpellsInstr i ts → Stand P ts → EachOfInstr P i
each-instr P i ts d s =
    let b = back P ts d s in
    let own = at-one P i.place d.behind.front d.behind.in_front (front P d.back d.behind b) in
    let c = back P d.back d.behind b in
    let w = behind-word P (shape_of (sort_of i.op)) i d.behind.behind.front own d.behind.behind.in_front (front P d.behind.back d.behind.behind c) in
    record {
      its_label = at-label P i.label d.front d.in_front (front P ts d s);
      its_operand = w.its_operand;
      its_literal = w.its_literal;
      its_call = w.its_call;
      its_own = own;
    }

pub each-instrs : (P : Place → Type 0) (list : List InstrTree) (ts : List Lexeme) → SpellsInstrs list ts → Stand P ts
    → AllByRecursion (EachOfInstr P) list
each-instrs P [] ts d s = tt
each-instrs P (i ∷ others) ts d s =
    let b = back P ts d s in (
      each-instr P i d.behind.front d.behind.in_front (front P d.back d.behind b),
      each-instrs P others d.behind.back d.behind.behind (back P d.back d.behind b),
    )

-- ---- values of data blocks

path-index : (P : Place → Type 0) (at : ExprTree) (ts : List Lexeme) → SpellsPathIndex at ts → Stand P ts → EachOfExpr P at
path-index P (lit own value place) ts d s = at-number _ P (record { ty = own; value = value; place = place }) ts d s
path-index P (read variable) ts d s = absurd d
path-index P (unary op place arg) ts d s = absurd d
path-index P (binary op place left right) ts d s = absurd d
path-index P (std function place args) ts d s = absurd d
path-index P (paren place inner) ts d s = absurd d

path-step : (P : Place → Type 0) (step : StepTree) (ts : List Lexeme) → SpellsPathStep step ts → Stand P ts → EachOfStep P step
path-step P (field name place) ts d s = at-one P place d.back d.behind (back P ts d s)
path-step P (index at place) ts d s = (
  at-one P place d.front d.in_front (front P ts d s),
  path-index P at d.behind.front d.behind.in_front (front P d.back d.behind (back P ts d s)),
)

path-steps : (P : Place → Type 0) (path : StepTrees) (ts : List Lexeme) → SpellsPathSteps path ts → Stand P ts → EachOfSteps P path
path-steps P no_steps ts d s = tt
path-steps P (steps step others) ts d s =
    (path-step P step d.front d.in_front (front P ts d s), path-steps P others d.back d.behind (back P ts d s))

path-root : (P : Place → Type 0) (root : Root) (place : Place) (ts : List Lexeme) → SpellsPathRoot root place ts → Stand P ts
    → P place × EachOfRoot P root
path-root P (Local name false at) place ts d s =
    let p = at-one P at ts d.1 s in
    (subst P (sym d.0) p, p)
path-root P (Local name true at) place ts d s = absurd d
path-root P (Named name) place ts d s = absurd d
path-root P (Area area bits byte bit) place ts d s = absurd d

each-path : (P : Place → Type 0) (o : OperandTree) (ts : List Lexeme) → SpellsPath o ts → Stand P ts → EachOfOperand P o
each-path P (operand root path place) ts d s =
    let r = path-root P root place d.front d.in_front (front P ts d s) in
    (r.0, (r.1, path-steps P path d.back d.behind (back P ts d s)))

each-starts : (P : Place → Type 0) (values : List StartTree) (ts : List Lexeme) → each SpellsDataValue values ts → Stand P ts
    → AllByRecursion (EachOfStart P) values
each-starts P [] ts d s = tt
each-starts P (start ∷ others) ts d s =
    let f = front P ts d s in
    let v = d.in_front in
    let b = back P v.back v.behind (back P d.front v f) in (
      (
        each-path P start.0 v.front v.in_front (front P d.front v f),
        at-literal P start.1 v.behind.behind.front v.behind.behind.in_front (front P v.behind.back v.behind.behind b),
      ),
      each-starts P others d.back d.behind (back P ts d s),
    )

each-values : (its_language : Language) (P : Place → Type 0) (values : List StartTree) (ts : List Lexeme) → SpellsDataValues its_language values ts
    → Stand P ts → AllByRecursion (EachOfStart P) values
each-values language.Scl P values ts (inl d) s = subst (AllByRecursion (EachOfStart P)) (sym d.0) tt
each-values language.Scl P values ts (inr d) s = each-starts P values d.back d.behind (back P ts d s)
each-values language.Stl P values ts d s = each-starts P values d.back d.behind (back P ts d s)

-- ---- blocks

each-code : (its_language : Language) (P : Place → Type 0) (body : BodyTree) (ts : List Lexeme) → SpellsCode its_language body ts → Stand P ts
    → EachOfBody P body
each-code language.Scl P (scl statements) ts d s = each-stmts P statements d.back d.behind (back P ts d s)
each-code language.Scl P (stl instrs) ts d s = absurd d
each-code language.Scl P (starts values) ts d s = absurd d
each-code language.Stl P (stl instrs) ts d s = each-instrs P instrs d.back d.behind (back P ts d s)
each-code language.Stl P (scl statements) ts d s = absurd d
each-code language.Stl P (starts values) ts d s = absurd d

each-data : (its_language : Language) (P : Place → Type 0) (body : BodyTree) (ts : List Lexeme) → SpellsData its_language body ts → Stand P ts
    → EachOfBody P body
each-data its_language P (starts values) ts d s = each-values its_language P values ts d s
each-data its_language P (scl statements) ts d s = absurd d
each-data its_language P (stl instrs) ts d s = absurd d

-- the parts of a block by its kind
pub record ByKind (P : Place → Type 0) (its_kind : BlockKind) (block : BlockTree) : Type 0 where
  pub of_kind : EachOfKind P its_kind
  pub of_vars : EachOfVars P (fields block.vars)
  pub of_body : EachOfBody P block.body
  pub of_name : P block.place

by-kind : (its_language : Language) (P : Place → Type 0) (its_kind : BlockKind) (block : BlockTree) (ts : List Lexeme)
    → SpellsKind its_language its_kind block ts → Stand P ts → ByKind P its_kind block
by-kind its_language P kind.Fb block ts (none, d) s =
    let v = d.behind.behind in
    let b = back P ts d s in
    let c = back P d.back d.behind b in
    record {
      of_kind = tt;
      of_vars = each-sections P block.vars v.front v.in_front (front P d.behind.back v c);
      of_body = each-code its_language P block.body v.behind.front v.behind.in_front (front P v.back v.behind (back P d.behind.back v c));
      of_name = at-name P block.name block.place d.behind.front d.behind.in_front (front P d.back d.behind b);
    }
by-kind its_language P kind.Fc block ts d s =
    let v = d.behind.behind.behind.behind in
    let b = back P ts d s in
    let c = back P d.back d.behind b in
    let e = back P d.behind.behind.back d.behind.behind.behind (back P d.behind.back d.behind.behind c) in
    record {
      of_kind = tt;
      of_vars = each-sections P block.vars v.front v.in_front (front P d.behind.behind.behind.back v e);
      of_body = each-code its_language P block.body v.behind.front v.behind.in_front
          (front P v.back v.behind (back P d.behind.behind.behind.back v e));
      of_name = at-name P block.name block.place d.behind.front d.behind.in_front (front P d.back d.behind b);
    }
by-kind its_language P kind.Ob block ts (none, d) s =
    let v = d.behind.behind in
    let b = back P ts d s in
    let c = back P d.back d.behind b in
    record {
      of_kind = tt;
      of_vars = each-sections P block.vars v.front v.in_front (front P d.behind.back v c);
      of_body = each-code its_language P block.body v.behind.front v.behind.in_front (front P v.back v.behind (back P d.behind.back v c));
      of_name = at-name P block.name block.place d.behind.front d.behind.in_front (front P d.back d.behind b);
    }
by-kind its_language P (kind.Db of) block ts (none, d) s =
    let v = d.behind.behind in
    let b = back P ts d s in
    let c = back P d.back d.behind b in
    let t = each-data_type P of block.vars v.front v.in_front (front P d.behind.back v c) in
    record {
      of_kind = t.0;
      of_vars = t.1;
      of_body = each-data its_language P block.body v.behind.front v.behind.in_front (front P v.back v.behind (back P d.behind.back v c));
      of_name = at-name P block.name block.place d.behind.front d.behind.in_front (front P d.back d.behind b);
    }
by-kind its_language P kind.Udt block ts (none, d) s =
    let v = d.behind.behind in
    let b = back P ts d s in
    let c = back P d.back d.behind b in
    record {
      of_kind = tt;
      of_vars = each-own P block.vars v.front v.in_front (front P d.behind.back v c);
      of_body = subst (EachOfBody P) (sym none.1) tt;
      of_name = at-name P block.name block.place d.behind.front d.behind.in_front (front P d.back d.behind b);
    }

pub each-block : (P : Place → Type 0) (its_language : Language) (block : BlockTree) (ts : List Lexeme) → SpellsBlock its_language block ts
    → Stand P ts → EachOfBlock P block
each-block P its_language block ts d s =
    let k = by-kind its_language P block.kind block ts d s in
    record { its_kind = k.of_kind; its_vars = k.of_vars; its_body = k.of_body; its_own = k.of_name }

pub each-blocks : (P : Place → Type 0) (its_language : Language) (blocks : List BlockTree) (ts : List Lexeme) → SpellsBlocks its_language blocks ts
    → Stand P ts → EachOfBlocks P blocks
each-blocks P its_language [] ts d s = tt
each-blocks P its_language (block ∷ others) ts d s =
    (each-block P its_language block d.front d.in_front (front P ts d s), each-blocks P its_language others d.back d.behind (back P ts d s))
