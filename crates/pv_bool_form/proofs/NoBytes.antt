-- A block of the first form and words name no bytes of areas.
use Rattle.std.proofs.Common.{◌≡◌, ℕ, List, [], ◌∷◌, ◌++◌, flat_map, Bool, true, false, refl, ap, sym, subst, ◌∙◌}
use Rattle.std.specs.Prelude.{if◌then◌else◌, is_some, option_to_list, All}
use Rattle.std.specs.List.{AllByRecursion}
use Rattle.std.proofs.lemmas.Grind.{flat_map-append}
use Rattle.std.proofs.lemmas.List.Elements.{recursion_from_All}
use Rattle.pv_types.specs.Tree.{VarTree}
use Rattle.pv_tree.specs.declared.expr.Area.{Area}
use Rattle.pv_tree.specs.declared.expr.Area.TheVariants.{I, Q, M}
use Rattle.pv_tree.specs.declared.expr.Root.{Root}
use Rattle.pv_tree.specs.declared.expr.Root.TheVariants.{Local, Named, Area as InArea}
use Rattle.pv_tree.specs.Tree.{ExprTree, lit, read, unary, binary, std, paren, OperandTree, operand, StepTrees, assign, assign_call, if_, case_, for_, while_, repeat_, exit_, continue_, return_, call_, empty_, StmtTrees, no_stmts, stmts, BodyTree, scl, stl, starts, BlockTree}
use Rattle.pv_tree.specs.LiteralTypes.{Want, nothing}
use Rattle.pv_tree.specs.Scopes.{Scope}
use Rattle.pv_tree.specs.Sorts.{wanted_beside}
use Rattle.pv_tree.specs.Types.{signed, literal_of, sort_of}
use Rattle.pv_tree.specs.Parts.{Part, parts_of, parts_of_operand, parts_of_stmt, parts_of_instruction, spots_of_stmts, spots_of_body, instructions_of, starts_of, want_of_target, reads_of_parts, operands_read, target_of}
use Rattle.pv_tree.specs.InstructionGroups.{operand_of_instruction}
use Rattle.pv_mean.specs.AreaBytes.{bytes_of_root, bytes_of_operand, rising, named_bytes, bytes_of}
use Rattle.pv_bool_form.specs.FirstForm.{IsFirstRoot, IsFirstOperand, IsFirstExpr, AreFirstStmts, IsFirstBody, IsFirstForm}
use Rattle.pv_bool_form.specs.Programs.{alone}
use Rattle.pv_bool_form.proofs.Cells.{no_bytes}

-- ---- operands that name no bytes

abbrev NameNone : List OperandTree → Type 0
NameNone os = (area : Area) → flat_map (bytes_of_operand area) os ≡ []

both : (xs ys : List OperandTree) → NameNone xs → NameNone ys → NameNone (xs ++ ys)
both xs ys one other area = flat_map-append (bytes_of_operand area) xs ys
    ∙ ap (λ (ns : List ℕ). ns ++ flat_map (bytes_of_operand area) ys) (one area) ∙ other area

root_none : (vars : List VarTree) (root : Root) → IsFirstRoot vars root → (area : Area) → bytes_of_root area root ≡ []
root_none vars (Local name hash place) is area = refl
root_none vars (Named name) is area = absurd is
root_none vars (InArea a bits byte bit) is area = absurd is

operand_none : (vars : List VarTree) (o : OperandTree) → IsFirstOperand vars o → (area : Area) → bytes_of_operand area o ≡ []
operand_none vars (operand root more place) is area = root_none vars root is.0 area

word_none : (vars : List VarTree) (o : OperandTree) → IsFirstOperand vars o → NameNone (o ∷ [])
word_none vars o is area = ap (λ (ns : List ℕ). ns ++ []) (operand_none vars o is area)

words_none : (vars : List VarTree) (os : List OperandTree) → AllByRecursion (IsFirstOperand vars) os → NameNone os
words_none vars [] all area = refl
words_none vars (o ∷ os) all area =
    ap (λ (ns : List ℕ). ns ++ flat_map (bytes_of_operand area) os) (operand_none vars o all.0 area) ∙ words_none vars os all.1 area

-- ---- expressions

abbrev ReadNone : List Part → Type 0
ReadNone ps = NameNone (reads_of_parts ps)

read_both : (ps qs : List Part) → ReadNone ps → ReadNone qs → ReadNone (ps ++ qs)
read_both ps qs one other area = ap (λ (os : List OperandTree). flat_map (bytes_of_operand area) os) (flat_map-append (λ p. operands_read p.expr) ps qs)
    ∙ both (reads_of_parts ps) (reads_of_parts qs) one other area

read_where : (b : Bool) (ps : List Part) → ReadNone ps → ReadNone (if b then [] else ps)
read_where true ps none area = refl
read_where false ps none area = none area

operand_parts : (scope : Scope) (vars : List VarTree) (o : OperandTree) → IsFirstOperand vars o → parts_of_operand scope o ≡ []
operand_parts scope vars (operand root more place) is =
    let P : StepTrees → Type 0 = λ m. parts_of_operand scope (operand root m place) ≡ [] in subst P (sym is.1) refl

expr_none : (scope : Scope) (vars : List VarTree) (want : Want) (e : ExprTree) → IsFirstExpr vars e → ReadNone (parts_of scope want e)
expr_none scope vars want (lit ty v place) is area = refl
expr_none scope vars want (read o) is area =
    ap (λ (ps : List Part). flat_map (bytes_of_operand area) (o ∷ reads_of_parts ps)) (operand_parts scope vars o is) ∙ word_none vars o is area
expr_none scope vars want (unary op place arg) is area =
    read_where (is_some (signed op (literal_of arg))) (parts_of scope nothing arg) (expr_none scope vars nothing arg is.1) area
expr_none scope vars want (binary op place left right) is area =
    let beside = wanted_beside (sort_of scope left ∷ sort_of scope right ∷ []) in
    read_both (parts_of scope beside left) (parts_of scope beside right) (expr_none scope vars beside left is.1) (expr_none scope vars beside right is.2) area
expr_none scope vars want (std function place args) is area = absurd is
expr_none scope vars want (paren place inner) is area =
    read_where (is_some (literal_of inner)) (parts_of scope want inner) (expr_none scope vars want inner is) area

-- ---- statements

abbrev reads_in : Scope → StmtTrees → List Part
reads_in scope ss = flat_map (λ s. parts_of_stmt scope s.stmt) (spots_of_stmts [] ss)

abbrev targets_in : StmtTrees → List OperandTree
targets_in ss = flat_map (λ s. option_to_list (target_of s.stmt)) (spots_of_stmts [] ss)

stmts_none : (scope : Scope) (vars : List VarTree) (ss : StmtTrees) → AreFirstStmts vars ss → ReadNone (reads_in scope ss)
stmts_none scope vars no_stmts are area = refl
stmts_none scope vars (stmts (assign target place e) more) are area =
    ap (λ (ps : List Part). flat_map (bytes_of_operand area) (reads_of_parts ((ps ++ parts_of scope (want_of_target scope target) e) ++ reads_in scope more)))
    (operand_parts scope vars target are.0.0)
    ∙ read_both (parts_of scope (want_of_target scope target) e) (reads_in scope more) (expr_none scope vars (want_of_target scope target) e are.0.1)
    (stmts_none scope vars more are.1) area
stmts_none scope vars (stmts (assign_call target place call) more) are area = absurd are.0
stmts_none scope vars (stmts (if_ conditions other place) more) are area = absurd are.0
stmts_none scope vars (stmts (case_ selector choices other place) more) are area = absurd are.0
stmts_none scope vars (stmts (for_ name name_place a b by body place) more) are area = absurd are.0
stmts_none scope vars (stmts (while_ condition body place) more) are area = absurd are.0
stmts_none scope vars (stmts (repeat_ body condition place) more) are area = absurd are.0
stmts_none scope vars (stmts (exit_ place) more) are area = absurd are.0
stmts_none scope vars (stmts (continue_ place) more) are area = absurd are.0
stmts_none scope vars (stmts (return_ place) more) are area = absurd are.0
stmts_none scope vars (stmts (call_ call) more) are area = absurd are.0
stmts_none scope vars (stmts (empty_ place) more) are area = absurd are.0

targets_none : (vars : List VarTree) (ss : StmtTrees) → AreFirstStmts vars ss → NameNone (targets_in ss)
targets_none vars no_stmts are area = refl
targets_none vars (stmts (assign target place e) more) are area =
    ap (λ (ns : List ℕ). ns ++ flat_map (bytes_of_operand area) (targets_in more)) (operand_none vars target are.0.0 area) ∙ targets_none vars more are.1 area
targets_none vars (stmts (assign_call target place call) more) are area = absurd are.0
targets_none vars (stmts (if_ conditions other place) more) are area = absurd are.0
targets_none vars (stmts (case_ selector choices other place) more) are area = absurd are.0
targets_none vars (stmts (for_ name name_place a b by body place) more) are area = absurd are.0
targets_none vars (stmts (while_ condition body place) more) are area = absurd are.0
targets_none vars (stmts (repeat_ body condition place) more) are area = absurd are.0
targets_none vars (stmts (exit_ place) more) are area = absurd are.0
targets_none vars (stmts (continue_ place) more) are area = absurd are.0
targets_none vars (stmts (return_ place) more) are area = absurd are.0
targets_none vars (stmts (call_ call) more) are area = absurd are.0
targets_none vars (stmts (empty_ place) more) are area = absurd are.0

-- ---- a block

abbrev body_parts : Scope → BodyTree → List Part
body_parts scope body = (flat_map (λ s. parts_of_stmt scope s.stmt) (spots_of_body body) ++ flat_map (parts_of_instruction scope) (instructions_of body))
    ++ flat_map (λ v. parts_of_operand scope v.0) (starts_of body)

abbrev body_operands : Scope → BodyTree → List OperandTree
body_operands scope body = (reads_of_parts (body_parts scope body) ++ flat_map (λ s. option_to_list (target_of s.stmt)) (spots_of_body body))
    ++ flat_map (λ i. option_to_list (operand_of_instruction i)) (instructions_of body)

body_none : (scope : Scope) (vars : List VarTree) (body : BodyTree) → IsFirstBody vars body → NameNone (body_operands scope body)
body_none scope vars (scl ss) is =
    both (reads_of_parts (body_parts scope (scl ss)) ++ targets_in ss) []
    (both (reads_of_parts (body_parts scope (scl ss))) (targets_in ss)
    (read_both (reads_in scope ss ++ []) [] (read_both (reads_in scope ss) [] (stmts_none scope vars ss is) (λ area. refl)) (λ area. refl))
    (targets_none vars ss is)) (λ area. refl)
body_none scope vars (stl instructions) is = absurd is
body_none scope vars (starts values) is = absurd is

named_none : (b : BlockTree) (patterns : List OperandTree) → IsFirstForm b → All (IsFirstOperand b.vars) patterns → (area : Area)
    → named_bytes (alone b) patterns area ≡ []
named_none b patterns is are area =
    let scope : Scope = record { project = alone b; block = b } in
    ap (λ (ns : List ℕ). rising ns) (both ((body_operands scope b.body ++ []) ++ []) patterns
    (both (body_operands scope b.body ++ []) [] (both (body_operands scope b.body) [] (body_none scope b.vars b.body is.body) (λ a. refl)) (λ a. refl))
    (words_none b.vars patterns (recursion_from_All (IsFirstOperand b.vars) patterns are)) area)

pub bytes_are_none : (b : BlockTree) (patterns : List OperandTree) → IsFirstForm b → All (IsFirstOperand b.vars) patterns
    → bytes_of (alone b) patterns ≡ no_bytes
bytes_are_none b patterns is are =
    ap (λ (ns : List ℕ). record { inputs = ns; outputs = named_bytes (alone b) patterns Q; flags = named_bytes (alone b) patterns M }) (named_none b patterns is are I)
    ∙ ap (λ (ns : List ℕ). record { inputs = []; outputs = ns; flags = named_bytes (alone b) patterns M }) (named_none b patterns is are Q)
    ∙ ap (λ (ns : List ℕ). record { inputs = []; outputs = []; flags = ns }) (named_none b patterns is are M)
