-- The operands of a block in the order in which they are marked.
use Rattle.std.proofs.Common.{◌≡◌, ℕ, List, [], ◌∷◌, ◌++◌, Bool, false, map, refl, sym, ap, ◌∙◌, append_assoc}
use Rattle.std.specs.Prelude.{flat_map, option_to_list, ◌||◌, nat_eq, IfOk, Result, Ok, Err}
use Rattle.std.specs.List.{list_any}
use Rattle.std.proofs.lemmas.List.Folds.{flat_map-map}
use Rattle.pv_tree.specs.declared.expr.Area.{Area}
use Rattle.pv_place.specs.declared.place.Place.{Place}
use Rattle.pv_tree.specs.declared.expr.Expr.{Expr, fold-roll-Expr}
use Rattle.pv_tree.specs.declared.expr.Expr.TheViews as form
use Rattle.pv_tree.specs.declared.expr.Expr.TheVariants.{rolls-Binary, rolls-Std}
use Rattle.pv_tree.specs.declared.expr.Expr.TheOpen.{Expr-F}
use Rattle.pv_tree.specs.declared.expr.BinaryOp.{BinaryOp}
use Rattle.pv_tree.specs.declared.expr.StdFunction.{StdFunction}
use Rattle.pv_tree.specs.declared.expr.Operand.{Operand}
use Rattle.pv_tree.specs.declared.expr.Step.{Step}
use Rattle.pv_tree.specs.declared.expr.Expr.TheFolds.{fold_out-Operand}
use Rattle.pv_tree.specs.Tree.{ExprTree, binary, std, OperandTree, operand, StepTree, StmtTrees, StartTree, BlockTree}
use Rattle.pv_tree.specs.View.{expr_tree, expr_step, step_tree, step_step, operand_tree, operand_step, exprs_of, steps_of, arms_of}
use Rattle.pv_tree.specs.Scopes.{ProjectTree, Scope}
use Rattle.pv_tree.specs.Parts.{Spot, conditions_of, parts_of_operand, parts_of_stmt, parts_of_instruction, parts_of_block, reads_of_parts, spots_of_body, instructions_of, starts_of, target_of, assigned_operands, instruction_operands, operands_of}
use Rattle.pv_mean.specs.AreaBytes.{bytes_of_operand, all_operands}
use Rattle.pv_bytes.specs.Numbers.{flag_at}
use Rattle.pv_tree.specs.Operands.{operands_in, operands_in_args, operands_within, operands_in_steps, operands_in_step}
use Rattle.pv_bytes.specs.Operands.{operands_in_stmt, operands_in_instr, names_byte, MarksAlso}
use Rattle.pv_bytes.specs.Statements.{stmts_of_spots}
use Rattle.pv_bytes.proofs.Marking.{also_same, also_then}
use Rattle.pv_bytes.proofs.Reading.{both, reads-each, reads-stmt, reads-instr, reads-operand}

-- ---- lists in trees

pub args_listed : (es : List Expr) → flat_map (λ e. operands_in (expr_tree e)) es ≡ operands_in_args (exprs_of (map expr_tree es))
args_listed [] = refl
args_listed (e ∷ es) = ap (λ l. operands_in (expr_tree e) ++ l) (args_listed es)

pub steps_listed : (ss : List Step) → flat_map (λ s. operands_in_step (step_tree s)) ss ≡ operands_in_steps (steps_of (map step_tree ss))
steps_listed [] = refl
steps_listed (s ∷ ss) = ap (λ l. operands_in_step (step_tree s) ++ l) (steps_listed ss)

pub operand_seen : (o : Operand) → operand_tree o ≡ operand o.root.value (steps_of (map step_tree o.steps.items)) o.place
operand_seen o = fold_out-Operand ExprTree StepTree OperandTree expr_step step_step operand_step o

pub conditions_listed : {X : Type 0} (g : X → ExprTree) (h : X → StmtTrees) (xs : List X)
    → flat_map (λ x. operands_in (g x)) xs ≡ flat_map operands_in (conditions_of (arms_of (map (λ x. (g x, h x)) xs)))
conditions_listed g h [] = refl
conditions_listed g h (x ∷ xs) = ap (λ l. operands_in (g x) ++ l) (conditions_listed g h xs)

pub binary_seen : (e : Expr) (op : BinaryOp) (place : Place) (left right : _) (l r : Expr) → e ≡ form.Binary op place left right
    → l ≡ left.value → r ≡ right.value
    → expr_tree e ≡ binary op place (expr_tree l) (expr_tree r)
binary_seen e op place left right l r is here there =
    ap expr_tree is ∙ ap expr_tree (sym (rolls-Binary op place left right))
    ∙ fold-roll-Expr ExprTree StepTree OperandTree expr_step step_step operand_step (Expr-F.Binary op place left right)
    ∙ ap (λ x. binary op place (expr_tree x) (expr_tree right.value)) (sym here)
    ∙ ap (λ x. binary op place (expr_tree l) (expr_tree x)) (sym there)

pub std_seen : (e : Expr) (function : StdFunction) (place : Place) (args : _) (all : List Expr) → e ≡ form.Std function place args
    → all ≡ args.items
    → expr_tree e ≡ std function place (exprs_of (map expr_tree all))
std_seen e function place args all is same =
    ap expr_tree is ∙ ap expr_tree (sym (rolls-Std function place args))
    ∙ fold-roll-Expr ExprTree StepTree OperandTree expr_step step_step operand_step (Expr-F.Std function place args)
    ∙ ap (λ l. std function place (exprs_of (map expr_tree l))) (sym same)

-- ---- a block

-- what it reads is what its statements, its instructions and its start values read
module _ (project : ProjectTree) (b : BlockTree) where
  abbrev here : Scope
  here = record { project = project; block = b }

  stmts-read : (spots : List Spot) → reads_of_parts (flat_map (λ s. parts_of_stmt here s.stmt) spots)
      ≡ flat_map operands_in_stmt (stmts_of_spots spots)
  stmts-read spots =
      reads-each here (λ (s : Spot). parts_of_stmt here s.stmt) (λ (s : Spot). operands_in_stmt s.stmt) (λ s. reads-stmt here s.stmt) spots
      ∙ sym (flat_map-map operands_in_stmt (λ s. s.stmt) spots)

  pub block-read : flat_map operands_in_stmt (stmts_of_spots (spots_of_body b.body))
      ++ (flat_map operands_in_instr (instructions_of b.body) ++ flat_map (λ v. operands_within v.0) (starts_of b.body))
      ≡ reads_of_parts (parts_of_block project b)
  block-read =
      let ss = flat_map operands_in_stmt (stmts_of_spots (spots_of_body b.body)) in
      let is = flat_map operands_in_instr (instructions_of b.body) in
      let vs = flat_map (λ (v : StartTree). operands_within v.0) (starts_of b.body) in
      let ps = flat_map (λ (s : Spot). parts_of_stmt here s.stmt) (spots_of_body b.body) in
      let pi = flat_map (parts_of_instruction here) (instructions_of b.body) in
      let pv = flat_map (λ (v : StartTree). parts_of_operand here v.0) (starts_of b.body) in
      sym (append_assoc ss is vs)
      ∙ sym (both (ps ++ pi) pv (ss ++ is) vs
      (both ps pi ss is (stmts-read (spots_of_body b.body))
      (reads-each here (parts_of_instruction here) operands_in_instr (reads-instr here) (instructions_of b.body)))
      (reads-each here (λ (v : StartTree). parts_of_operand here v.0) (λ (v : StartTree). operands_within v.0) (λ v. reads-operand here v.0)
      (starts_of b.body)))

  pub targets-listed : flat_map (λ s. option_to_list (target_of s)) (stmts_of_spots (spots_of_body b.body)) ≡ assigned_operands b
  targets-listed = flat_map-map (λ s. option_to_list (target_of s)) (λ s. s.stmt) (spots_of_body b.body)

  -- the marks of a block
  pub block-marked : (area : Area) (a1 a2 a3 a4 a5 : List Bool)
      → MarksAlso area a1 a2 (flat_map operands_in_stmt (stmts_of_spots (spots_of_body b.body)))
      → MarksAlso area a2 a3 (flat_map operands_in_instr (instructions_of b.body) ++ flat_map (λ v. operands_within v.0) (starts_of b.body))
      → MarksAlso area a3 a4 (flat_map (λ s. option_to_list (target_of s)) (stmts_of_spots (spots_of_body b.body)))
      → MarksAlso area a4 a5 (instruction_operands b)
      → MarksAlso area a1 a5 (operands_of project b)
  block-marked area a1 a2 a3 a4 a5 m1 m2 m3 m4 =
      also_then area a1 a4 a5 (reads_of_parts (parts_of_block project b) ++ assigned_operands b) (instruction_operands b)
      (also_then area a1 a3 a4 (reads_of_parts (parts_of_block project b)) (assigned_operands b)
      (also_same area a1 a3 _ _ block-read (also_then area a1 a2 a3 (flat_map operands_in_stmt (stmts_of_spots (spots_of_body b.body)))
      (flat_map operands_in_instr (instructions_of b.body) ++ flat_map (λ (v : StartTree). operands_within v.0) (starts_of b.body)) m1 m2))
      (also_same area a3 a4 _ _ targets-listed m3)) m4

-- ---- answers

pub if_ok : {T E : Type 0} (r : Result T E) (P Q : T → Type 0) → ((x : T) → P x → Q x) → IfOk r P → IfOk r Q
if_ok (Ok x) P Q f p = f x p
if_ok (Err e) P Q f p = tt

-- a project's operands, as they are marked
pub all-marked : (project : ProjectTree) (area : Area) (a1 a2 a3 a4 : List Bool) (symbols patterns : List OperandTree)
    → ((k : ℕ) → flag_at a1 k ≡ false)
    → MarksAlso area a1 a2 (flat_map (operands_of project) project.blocks) → MarksAlso area a2 a3 symbols → MarksAlso area a3 a4 patterns
    → symbols ≡ map (λ s. s.at) project.symbols
    → (k : ℕ) → flag_at a4 k ≡ list_any (nat_eq k) (flat_map (bytes_of_operand area) (all_operands project patterns))
all-marked project area a1 a2 a3 a4 symbols patterns none m1 m2 m3 e k =
    also_same area a1 a4 _ _ (ap (λ l. flat_map (operands_of project) project.blocks ++ l ++ patterns) e)
    (also_then area a1 a3 a4 (flat_map (operands_of project) project.blocks ++ symbols) patterns
    (also_then area a1 a2 a3 (flat_map (operands_of project) project.blocks) symbols m1 m2) m3) k
    ∙ ap (λ b. b || names_byte area (all_operands project patterns) k) (none k)
