-- The parts of blocks and of sources begin at their tokens, in their order.
use Rattle.std.proofs.Common.{◌≡◌, inl, inr, List, [], ◌∷◌, ◌++◌, Option, Some, None, sym, subst, append-nil}
use Rattle.pv_place.specs.declared.place.Place.{Place}
use Rattle.pv_types.specs.declared.declaration.Literal.{Literal}
use Rattle.pv_types.specs.declared.declaration.Section.{Section}
use Rattle.pv_types.specs.declared.declaration.Section.TheVariants as section
use Rattle.pv_types.specs.Tree.{VarTree}
use Rattle.pv_types.specs.View.{listed as fields}
use Rattle.pv_lex.specs.declared.token.Language.{Language}
use Rattle.pv_lex.specs.declared.token.Language.TheVariants as language
use Rattle.pv_tree.specs.declared.block.BlockKind.{BlockKind}
use Rattle.pv_tree.specs.declared.block.BlockKind.TheVariants as kind
use Rattle.pv_tree.specs.declared.instr.Op.{Op}
use Rattle.pv_tree.specs.Tree.{PlacedName, ExprTree, lit, read, unary, binary, std, paren, OperandTree, operand, StepTree, field, index, StepTrees, no_steps, steps, ArgTree, CallPlain, InstrTree, StartTree, BodyTree, scl, stl, starts, BlockTree}
use Rattle.pv_tree.specs.Lexemes.{Lexeme, first_place, each}
use Rattle.pv_tree.specs.Literals.{SpellsNumber, number_type}
use Rattle.pv_tree.specs.Calls.{SpellsArgsStl, SpellsCallStl}
use Rattle.pv_tree.specs.Declarations.{SpellsSection, SpellsSections, no_sections, sections}
use Rattle.pv_tree.specs.Instructions.{Shape, opening, must, may, calls, calls_alone, SpellsValue, SpellsInstrCall, SpellsCallAlone, SpellsBehind, sort_of, shape_of, SpellsInstr, SpellsInstrs}
use Rattle.pv_tree.specs.Blocks.{SpellsPathIndex, SpellsPathStep, SpellsPathSteps, SpellsPath, SpellsDataValue, SpellsDataValues, SpellsCode, SpellsData, SpellsOwnFields, SpellsDataType, SpellsKind, SpellsBlocks}
use Rattle.pv_tree.specs.Nesting.{Part, parts_of_operand, parts_of_steps, parts, parts_of_step, parts_of_args, parts_of_variable, parts_of_call, parts_of_instr, parts_of_instrs, parts_of_starts, parts_of_body}
use Rattle.pv_tree.specs.Depth.{parts_of_section, parts_of_sections, parts_of_own_fields, parts_of_data_type, parts_of_kind, parts_of_blocks}
use Rattle.pv_tree.specs.Order.{Along, done}
use Rattle.pv_tree.proofs.Firsts.{first-one, first-joined}
use Rattle.pv_tree.proofs.Orders.{along_both, along_joined, along_second, along_first, along_from, along-operand, along-listed, along-stmts}
use Rattle.pv_tree.proofs.Types.{along-vars}

-- ---- declarations

along-section : (around : Section) (vars : List VarTree) (ts : List Lexeme) (d : SpellsSection around vars ts) → Along ts
    (parts_of_section around vars ts d)
along-section section.Const vars ts d = done ts
along-section section.Input vars ts d =
    along_second ts d _ (along_first d.back d.behind _ (along-vars 0 section.Input (fields vars) d.behind.front d.behind.in_front))
along-section section.Output vars ts d =
    along_second ts d _ (along_first d.back d.behind _ (along-vars 0 section.Output (fields vars) d.behind.front d.behind.in_front))
along-section section.InOut vars ts d =
    along_second ts d _ (along_first d.back d.behind _ (along-vars 0 section.InOut (fields vars) d.behind.front d.behind.in_front))
along-section section.Static vars ts d =
    along_second ts d _ (along_first d.back d.behind _ (along-vars 0 section.Static (fields vars) d.behind.front d.behind.in_front))
along-section section.Temp vars ts d =
    along_second ts d _ (along_first d.back d.behind _ (along-vars 0 section.Temp (fields vars) d.behind.front d.behind.in_front))

-- tokens that are split so, and parts along each side
along_split : (xs ys ts : List Lexeme) (ps qs : List Part) → ts ≡ xs ++ ys → Along xs ps → Along ys qs → Along ts (ps ++ qs)
along_split xs ys ts ps qs e a b = subst (λ l. Along l (ps ++ qs)) (sym e) (along_both xs ys ps qs a b)

along-sections : (vars : List VarTree) (ts : List Lexeme) (d : SpellsSections vars ts) → Along ts (parts_of_sections d)
along-sections vars ts no_sections = done ts
along-sections vars ts (sections around inner others all front back tokens first rest split parts) =
    along_split front back ts (parts_of_section around inner front first) (parts_of_sections rest) parts
    (along-section around inner front first)
    (along-sections others back rest)

along-own : (vars : List VarTree) (ts : List Lexeme) (d : SpellsOwnFields vars ts) → Along ts (parts_of_own_fields vars ts d)
along-own vars ts d =
    along_second ts d _ (along_first d.back d.behind _ (along-vars 0 section.Static (fields vars) d.behind.front d.behind.in_front))

along-data_type : (of : Option PlacedName) (vars : List VarTree) (ts : List Lexeme) (d : SpellsDataType of vars ts) → Along ts
    (parts_of_data_type of vars ts d)
along-data_type (Some name) vars ts d = done ts
along-data_type None vars ts d = along-own vars ts d

-- ---- instructions

along-args_stl : (args : List ArgTree) (ts : List Lexeme) → SpellsArgsStl args ts → Along ts (parts_of_args 0 args)
along-args_stl [] ts d = done ts
along-args_stl (arg ∷ args) ts d =
    along_second ts d _ (along_first d.back d.behind _ (along-listed 0 arg args d.behind.front d.behind.in_front))

along-call_stl : (call : CallPlain) (ts : List Lexeme) → SpellsCallStl call ts → Along ts (parts_of_args 0 call.args)
along-call_stl call ts d = along_second ts d _ (along_second d.back d.behind _ (along-args_stl call.args d.behind.back d.behind.behind))

along-call_alone : (call : CallPlain) (ts : List Lexeme) → SpellsCallAlone call ts → Along ts (parts_of_args 0 call.args)
along-call_alone call ts d = subst (λ args. Along ts (parts_of_args 0 args)) (sym d.0.2) (done ts)

along-instr_call : (form : CallPlain → List Lexeme → Type 0)
    → ((call : CallPlain) (ts : List Lexeme) → form call ts → Along ts (parts_of_args 0 call.args))
    → (place : Place) (call : Option CallPlain) (ts : List Lexeme) → SpellsInstrCall form place call ts → Along ts (parts_of_call call)
along-instr_call form known place None ts d = absurd d
along-instr_call form known place (Some call) ts d = known call ts d.1

along-value : (form : List Lexeme → Type 0) (its_op : Op) (variable : Option OperandTree) (literal : Option Literal) (ts : List Lexeme)
    → SpellsValue form its_op variable literal ts
    → Along ts (parts_of_variable variable)
along-value form its_op (Some variable) None ts d = along-operand 0 variable ts d
along-value form its_op None (Some literal) ts d = done ts
along-value form its_op None None ts d = done ts
along-value form its_op (Some variable) (Some literal) ts d = absurd d

-- without a call, and without an operand
without_call : (ts : List Lexeme) (variable : Option OperandTree) (call : Option CallPlain) → call ≡ None
    → Along ts (parts_of_variable variable)
    → Along ts (parts_of_variable variable ++ parts_of_call call)
without_call ts variable call e a =
    subst (λ c. Along ts (parts_of_variable variable ++ parts_of_call c)) (sym e)
    (subst (λ l. Along ts l) (sym (append-nil (parts_of_variable variable))) a)

without_variable : (ts : List Lexeme) (variable : Option OperandTree) (call : Option CallPlain) → variable ≡ None
    → Along ts (parts_of_call call)
    → Along ts (parts_of_variable variable ++ parts_of_call call)
without_variable ts variable call e a = subst (λ v. Along ts (parts_of_variable v ++ parts_of_call call)) (sym e) a

along-behind : (shape : Shape) (instr : InstrTree) (ts : List Lexeme) → SpellsBehind shape instr ts → Along ts (parts_of_instr instr)
along-behind opening instr ts d =
    without_variable ts instr.operand instr.call d.0.0.0 (subst (λ c. Along ts (parts_of_call c)) (sym d.0.1) (done ts))
along-behind must instr ts d = without_call ts instr.operand instr.call d.0
    (along-value _ instr.op instr.operand instr.literal ts d.1)
along-behind may instr ts d = without_call ts instr.operand instr.call d.0
    (along-value _ instr.op instr.operand instr.literal ts d.1)
along-behind calls instr ts d = without_variable ts instr.operand instr.call d.0.0
    (along-instr_call SpellsCallStl along-call_stl instr.place instr.call ts d.1)
along-behind calls_alone instr ts d = without_variable ts instr.operand instr.call d.0.0
    (along-instr_call SpellsCallAlone along-call_alone instr.place instr.call ts d.1)

along-instr : (instr : InstrTree) (ts : List Lexeme) → SpellsInstr instr ts → Along ts (parts_of_instr instr)
along-instr instr ts d =
    along_second ts d _ (along_second d.back d.behind _ (along_first d.behind.back d.behind.behind _
    (along-behind (shape_of (sort_of instr.op)) instr d.behind.behind.front d.behind.behind.in_front)))

pub along-instrs : (instrs : List InstrTree) (ts : List Lexeme) → SpellsInstrs instrs ts → Along ts (parts_of_instrs instrs)
along-instrs [] ts d = done ts
along-instrs (instr ∷ others) ts d =
    along_second ts d _ (along_joined d.back d.behind (parts_of_instr instr) (parts_of_instrs others)
    (along-instr instr d.behind.front d.behind.in_front)
    (along-instrs others d.behind.back d.behind.behind))

-- ---- values of data blocks

first-number : (own : _) (value : _) (place : Place) (ts : List Lexeme) → SpellsNumber number_type
    (record { ty = own; value = value; place = place }) ts
    → first_place ts ≡ Some place
first-number own value place ts (inl d) = first-one place ts d
first-number own value place ts (inr d) = first-joined place ts d (first-one place d.front d.in_front)

along-index : (at : ExprTree) (ts : List Lexeme) → SpellsPathIndex at ts → Along ts (parts 0 at)
along-index (lit own value place) ts d = along_from 0 place ts [] (first-number own value place ts d) (done ts)
along-index (read variable) ts d = absurd d
along-index (unary op place arg) ts d = absurd d
along-index (binary op place left right) ts d = absurd d
along-index (std function place args) ts d = absurd d
along-index (paren place inner) ts d = absurd d

along-path_step : (step : StepTree) (ts : List Lexeme) → SpellsPathStep step ts → Along ts (parts_of_step 0 step)
along-path_step (field name place) ts d = done ts
along-path_step (index at place) ts d =
    along_second ts d _ (along_first d.back d.behind _ (along-index at d.behind.front d.behind.in_front))

along-path_steps : (path : StepTrees) (ts : List Lexeme) → SpellsPathSteps path ts → Along ts (parts_of_steps 0 path)
along-path_steps no_steps ts d = done ts
along-path_steps (steps step others) ts d =
    along_joined ts d (parts_of_step 0 step) (parts_of_steps 0 others) (along-path_step step d.front d.in_front)
    (along-path_steps others d.back d.behind)

along-path : (o : OperandTree) (ts : List Lexeme) → SpellsPath o ts → Along ts (parts_of_operand 0 o)
along-path (operand root path place) ts d = along_second ts d _ (along-path_steps path d.back d.behind)

along-starts : (values : List StartTree) (ts : List Lexeme) → each SpellsDataValue values ts → Along ts (parts_of_starts values)
along-starts [] ts d = done ts
along-starts (start ∷ others) ts d =
    along_joined ts d (parts_of_operand 0 start.0) (parts_of_starts others)
    (along_first d.front d.in_front _ (along-path start.0 d.in_front.front d.in_front.in_front))
    (along-starts others d.back d.behind)

along-values : (its_language : Language) (values : List StartTree) (ts : List Lexeme) → SpellsDataValues its_language values ts
    → Along ts (parts_of_starts values)
along-values language.Scl values ts (inl d) = subst (λ v. Along ts (parts_of_starts v)) (sym d.0) (done ts)
along-values language.Scl values ts (inr d) = along_second ts d _ (along-starts values d.back d.behind)
along-values language.Stl values ts d = along_second ts d _ (along-starts values d.back d.behind)

-- ---- blocks

along-code : (its_language : Language) (body : BodyTree) (ts : List Lexeme) → SpellsCode its_language body ts → Along ts (parts_of_body body)
along-code language.Scl (scl statements) ts d = along_second ts d _ (along-stmts 0 statements d.back d.behind)
along-code language.Scl (stl instrs) ts d = absurd d
along-code language.Scl (starts values) ts d = absurd d
along-code language.Stl (stl instrs) ts d = along_second ts d _ (along-instrs instrs d.back d.behind)
along-code language.Stl (scl statements) ts d = absurd d
along-code language.Stl (starts values) ts d = absurd d

along-data : (its_language : Language) (body : BodyTree) (ts : List Lexeme) → SpellsData its_language body ts → Along ts (parts_of_body body)
along-data its_language (starts values) ts d = along-values its_language values ts d
along-data its_language (scl statements) ts d = absurd d
along-data its_language (stl instrs) ts d = absurd d

pub along-kind : (its_language : Language) (its_kind : BlockKind) (block : BlockTree) (ts : List Lexeme)
    (d : SpellsKind its_language its_kind block ts)
    → Along ts (parts_of_kind its_language its_kind block ts d)
along-kind its_language kind.Fb block ts d =
    let s = d.1.behind.behind in
    along_second ts d.1 _ (along_second d.1.back d.1.behind _
    (along_joined d.1.behind.back s (parts_of_sections s.in_front) (parts_of_body block.body)
    (along-sections block.vars s.front s.in_front)
    (along_first s.back s.behind _ (along-code its_language block.body s.behind.front s.behind.in_front))))
along-kind its_language kind.Fc block ts d =
    let s = d.behind.behind.behind.behind in
    along_second ts d _ (along_second d.back d.behind _ (along_second d.behind.back d.behind.behind _
    (along_second d.behind.behind.back d.behind.behind.behind _
    (along_joined d.behind.behind.behind.back s (parts_of_sections s.in_front) (parts_of_body block.body)
    (along-sections block.vars s.front s.in_front)
    (along_first s.back s.behind _ (along-code its_language block.body s.behind.front s.behind.in_front))))))
along-kind its_language kind.Ob block ts d =
    let s = d.1.behind.behind in
    along_second ts d.1 _ (along_second d.1.back d.1.behind _
    (along_joined d.1.behind.back s (parts_of_sections s.in_front) (parts_of_body block.body)
    (along-sections block.vars s.front s.in_front)
    (along_first s.back s.behind _ (along-code its_language block.body s.behind.front s.behind.in_front))))
along-kind its_language (kind.Db of) block ts d =
    let s = d.1.behind.behind in
    along_second ts d.1 _ (along_second d.1.back d.1.behind _
    (along_joined d.1.behind.back s (parts_of_data_type of block.vars s.front s.in_front) (parts_of_body block.body)
    (along-data_type of block.vars s.front s.in_front)
    (along_first s.back s.behind _ (along-data its_language block.body s.behind.front s.behind.in_front))))
along-kind its_language kind.Udt block ts d =
    along_second ts d.1 _ (along_second d.1.back d.1.behind _ (along_first d.1.behind.back d.1.behind.behind _
    (along-own block.vars d.1.behind.behind.front d.1.behind.behind.in_front)))

pub along-blocks : (its_language : Language) (blocks : List BlockTree) (ts : List Lexeme) (d : SpellsBlocks its_language blocks ts)
    → Along ts (parts_of_blocks its_language blocks ts d)
along-blocks its_language [] ts d = done ts
along-blocks its_language (block ∷ others) ts d =
    along_joined ts d (parts_of_kind its_language block.kind block d.front d.in_front)
    (parts_of_blocks its_language others d.back d.behind)
    (along-kind its_language block.kind block d.front d.in_front)
    (along-blocks its_language others d.back d.behind)
