-- By the rules each statement and instruction of a block fits.
use Rattle.std.proofs.Common.{◌≡◌, inl, inr, List, [], ◌∷◌, ◌++◌, map, Bool, true, false, not, Option, Some, None, IsTrue, Contains, refl, sym, ap, subst, arith}
use Rattle.std.specs.Prelude.{⊤, FitsSigned, flat_map, option_to_list}
use Rattle.std.specs.Int.{w64}
use Rattle.std.specs.List.{AllByRecursion}
use Rattle.pv_word.specs.declared.types.Ty.{Ty}
use Rattle.pv_word.specs.declared.types.Ty.TheVariants.{Int, Word, Dword}
use Rattle.pv_place.specs.declared.place.Place.{Place}
use Rattle.pv_types.specs.declared.declaration.Literal.{Literal}
use Rattle.pv_types.specs.declared.name.Name.{Name}
use Rattle.pv_tree.specs.declared.stmt.Choice.{Choice}
use Rattle.pv_tree.specs.declared.stmt.Choice.TheVariants.{Lit, Const}
use Rattle.pv_tree.specs.Tree.{ExprTree, OperandTree, ArgTree, CallPlain, Choices, StmtTree, assign, assign_call, if_, case_, for_, while_, repeat_, exit_, continue_, return_, call_, empty_, StmtTrees, no_stmts, stmts, ArmTrees, no_arms, arms, BranchTrees, no_branches, branches, ElseTree, no_else, else_, InstrTree, BodyTree, scl, stl, starts, BlockTree}
use Rattle.pv_tree.specs.LiteralTypes.{Want, nothing, this, holds, type_of_literal}
use Rattle.pv_tree.specs.Scopes.{ProjectTree, Scope}
use Rattle.pv_tree.specs.InstructionGroups.{Group, bit_read, bit_written, load, transfer, word_logic, double_logic, word_shift, double_shift, no_operation, display, jump, opening, closing, block_end, calling, alone, group_of, operand_of_instruction}
use Rattle.pv_tree.specs.Callees.{CallSite, as_value, as_statement, want_of_arg}
use Rattle.pv_tree.specs.Parts.{Loop, a_for, another, Part, Spot, parts_of, parts_of_operand, parts_of_stmt, parts_of_call, parts_of_instruction, parts_of_block, conditions_of, want_of_target, want_of_counter, site, how_of, calls_of_instruction, spots_of, spots_of_stmts, spots_of_arms, spots_of_branches, spots_of_else, spots_of_body, instructions_of, starts_of, target_of, reads_of_parts, assigned_operands, instruction_operands}
use Rattle.pv_tree.specs.Rules.{KeepsRules, out_of_range}
use Rattle.pv_tree.specs.Rules.MissingNames.{values_of_choices, values_of_branches}
use Rattle.pv_tree.specs.Rules.OutOfRange.{is_outside, is_outside_load, is_outside_behind, want_of_selector, IsStmtOutside}
use Rattle.pv_resolve.specs.Rooms.{FitsExpr, FitsOperand}
use Rattle.pv_resolve.proofs.ForCallers.{holds_fits}
use Rattle.pv_laws_room.specs.Reached.{AreShort}
use Rattle.pv_laws_room.specs.Bodies.{FitsLiteral, FitsOption, FitsChoice, FitsChoices, FitsCall, FitsCallOption, FitsStmt, FitsStmts, FitsArms, FitsBranches, FitsElse, FitsInstr, FitsBody}
use Rattle.pv_laws_room.proofs.Fitting.{contains_more, contains_front, contains_behind, contains_flat, within_fits, operand_fits}

-- ---- lists

each_of : {X : Type 0} (P : X → Type 0) (xs : List X) → ((x : X) → Contains xs x → P x) → AllByRecursion P xs
each_of P [] f = tt
each_of P (x ∷ xs) f = (f x (0, omega arith, refl), each_of P xs (λ y c. f y (contains_more x y xs c)))

-- ---- what is said of a statement itself

abbrev FitsOwn : StmtTree → Type 0
FitsOwn (assign target place value) = FitsOperand target × FitsExpr value
FitsOwn (assign_call target place call) = FitsOperand target × FitsCall call
FitsOwn (if_ conditions other place) = AllByRecursion FitsExpr (conditions_of conditions)
FitsOwn (case_ selector choices other place) = FitsExpr selector × AllByRecursion FitsChoice (values_of_branches choices)
FitsOwn (for_ name name_place first last by body place) = FitsExpr first × (FitsExpr last × FitsLiteral by)
FitsOwn (while_ condition body place) = FitsExpr condition
FitsOwn (repeat_ body condition place) = FitsExpr condition
FitsOwn (exit_ place) = ⊤
FitsOwn (continue_ place) = ⊤
FitsOwn (return_ place) = ⊤
FitsOwn (call_ call) = FitsCall call
FitsOwn (empty_ place) = ⊤

abbrev AllOwn : List Spot → Type 0
AllOwn ss = (s : Spot) → Contains ss s → FitsOwn s.stmt

front_choices : (xs ys : List Choice) → AllByRecursion FitsChoice (xs ++ ys) → AllByRecursion FitsChoice xs
front_choices [] ys a = tt
front_choices (x ∷ xs) ys a = (a.0, front_choices xs ys a.1)

back_choices : (xs ys : List Choice) → AllByRecursion FitsChoice (xs ++ ys) → AllByRecursion FitsChoice ys
back_choices [] ys a = a
back_choices (x ∷ xs) ys a = back_choices xs ys a.1

choices_fit : (cs : Choices) → AllByRecursion FitsChoice (values_of_choices cs) → FitsChoices cs
choices_fit [] a = tt
choices_fit ((low, None) ∷ cs) a = ((a.0, tt), choices_fit cs a.1)
choices_fit ((low, Some high) ∷ cs) a = ((a.0, a.1.0), choices_fit cs a.1.1)

mutual
  stmt_fits : (loops : List Loop) (s : StmtTree) → AllOwn (spots_of loops s) → FitsStmt s
  stmt_fits loops (assign target place value) f = f _ (0, omega arith, refl)
  stmt_fits loops (assign_call target place call) f = f _ (0, omega arith, refl)
  stmt_fits loops (if_ conditions other place) f =
      let it : Spot = record { loops = loops; stmt = if_ conditions other place } in
      let own = f it (0, omega arith, refl) in (
        arms_fit loops conditions own
            (λ s c. f s (contains_more it s _ (contains_front s (spots_of_arms loops conditions) (spots_of_else loops other) c))),
        else_fits loops other (λ s c. f s (contains_more it s _ (contains_behind s (spots_of_arms loops conditions) (spots_of_else loops other) c))),
      )
  stmt_fits loops (case_ selector choices other place) f =
      let it : Spot = record { loops = loops; stmt = case_ selector choices other place } in
      let own = f it (0, omega arith, refl) in (
        own.0,
        (
          branches_fit loops choices own.1
              (λ s c. f s (contains_more it s _ (contains_front s (spots_of_branches loops choices) (spots_of_else loops other) c))),
          else_fits loops other
              (λ s c. f s (contains_more it s _ (contains_behind s (spots_of_branches loops choices) (spots_of_else loops other) c))),
        ),
      )
  stmt_fits loops (for_ name name_place first last by body place) f =
      let it : Spot = record { loops = loops; stmt = for_ name name_place first last by body place } in
      let own = f it (0, omega arith, refl) in
      (own.0, (own.1.0, (own.1.1, stmts_fit (a_for name ∷ loops) body (λ s c. f s (contains_more it s (spots_of_stmts (a_for name ∷ loops) body) c)))))
  stmt_fits loops (while_ condition body place) f =
      let it : Spot = record { loops = loops; stmt = while_ condition body place } in
      (f it (0, omega arith, refl), stmts_fit (another ∷ loops) body (λ s c. f s (contains_more it s (spots_of_stmts (another ∷ loops) body) c)))
  stmt_fits loops (repeat_ body condition place) f =
      let it : Spot = record { loops = loops; stmt = repeat_ body condition place } in
      (f it (0, omega arith, refl), stmts_fit (another ∷ loops) body (λ s c. f s (contains_more it s (spots_of_stmts (another ∷ loops) body) c)))
  stmt_fits loops (exit_ place) f = tt
  stmt_fits loops (continue_ place) f = tt
  stmt_fits loops (return_ place) f = tt
  stmt_fits loops (call_ call) f = f _ (0, omega arith, refl)
  stmt_fits loops (empty_ place) f = tt

  stmts_fit : (loops : List Loop) (list : StmtTrees) → AllOwn (spots_of_stmts loops list) → FitsStmts list
  stmts_fit loops no_stmts f = tt
  stmts_fit loops (stmts s more) f = (
    stmt_fits loops s (λ x c. f x (contains_front x (spots_of loops s) (spots_of_stmts loops more) c)),
    stmts_fit loops more (λ x c. f x (contains_behind x (spots_of loops s) (spots_of_stmts loops more) c)),
  )

  arms_fit : (loops : List Loop) (list : ArmTrees) → AllByRecursion FitsExpr (conditions_of list) → AllOwn (spots_of_arms loops list) → FitsArms list
  arms_fit loops no_arms own f = tt
  arms_fit loops (arms condition body more) own f = (
    own.0,
    (
      stmts_fit loops body (λ x c. f x (contains_front x (spots_of_stmts loops body) (spots_of_arms loops more) c)),
      arms_fit loops more own.1 (λ x c. f x (contains_behind x (spots_of_stmts loops body) (spots_of_arms loops more) c)),
    ),
  )

  branches_fit : (loops : List Loop) (list : BranchTrees) → AllByRecursion FitsChoice (values_of_branches list)
      → AllOwn (spots_of_branches loops list) → FitsBranches list
  branches_fit loops no_branches own f = tt
  branches_fit loops (branches values body more) own f = (
    choices_fit values (front_choices (values_of_choices values) (values_of_branches more) own),
    (
      stmts_fit loops body (λ x c. f x (contains_front x (spots_of_stmts loops body) (spots_of_branches loops more) c)),
      branches_fit loops more (back_choices (values_of_choices values) (values_of_branches more) own)
          (λ x c. f x (contains_behind x (spots_of_stmts loops body) (spots_of_branches loops more) c)),
    ),
  )

  else_fits : (loops : List Loop) (other : ElseTree) → AllOwn (spots_of_else loops other) → FitsElse other
  else_fits loops no_else f = tt
  else_fits loops (else_ body) f = stmts_fit loops body f

-- ---- literals

is_not : (b : Bool) → (IsTrue (not b) → ⊥) → b ≡ true
is_not true f = refl
is_not false f = absurd (f refl)

inside_fits : (want : Want) (l : Literal) → (IsTrue (is_outside want l.ty l.value) → ⊥) → FitsSigned w64 l.value
inside_fits want l f =
    holds_fits (type_of_literal want l.ty l.value) l.value (is_not (holds (type_of_literal want l.ty l.value) l.value) f)

load_fits : (ty : Option Ty) (v : _) → (IsTrue (is_outside_load ty v) → ⊥) → FitsSigned w64 v
load_fits None v f = holds_fits Int v (is_not (holds Int v) f)
load_fits (Some ty) v f = holds_fits ty v (is_not (holds ty v) f)

behind_fits : (g : Group) (l : Literal) → (IsTrue (is_outside_behind g l.ty l.value) → ⊥) → FitsSigned w64 l.value
behind_fits bit_read l f = inside_fits nothing l f
behind_fits bit_written l f = inside_fits nothing l f
behind_fits load l f = load_fits l.ty l.value f
behind_fits transfer l f = inside_fits nothing l f
behind_fits word_logic l f = inside_fits (this Word) l f
behind_fits double_logic l f = inside_fits (this Dword) l f
behind_fits word_shift l f = inside_fits nothing l f
behind_fits double_shift l f = inside_fits nothing l f
behind_fits no_operation l f = inside_fits nothing l f
behind_fits display l f = inside_fits nothing l f
behind_fits jump l f = inside_fits nothing l f
behind_fits opening l f = inside_fits nothing l f
behind_fits closing l f = inside_fits nothing l f
behind_fits block_end l f = inside_fits nothing l f
behind_fits calling l f = inside_fits nothing l f
behind_fits alone l f = inside_fits nothing l f

-- ---- statements and instructions of a block

module _ (project : ProjectTree) (keeps : KeepsRules project) (block : BlockTree) (there : Contains project.blocks block)
    (short : AreShort project block) where
  abbrev scope_of : Scope
  scope_of = record { project = project; block = block }

  abbrev of_stmts : List Part
  of_stmts = flat_map (λ s. parts_of_stmt scope_of s.stmt) (spots_of_body block.body)

  abbrev of_instrs : List Part
  of_instrs = flat_map (parts_of_instruction scope_of) (instructions_of block.body)

  abbrev of_starts : List Part
  of_starts = flat_map (λ v. parts_of_operand scope_of v.0) (starts_of block.body)

  stmt_part : (s : Spot) → Contains (spots_of_body block.body) s → (p : Part) → Contains (parts_of_stmt scope_of s.stmt) p
      → Contains (parts_of_block project block) p
  stmt_part s c p d =
      contains_front p (of_stmts ++ of_instrs) of_starts (contains_front p of_stmts of_instrs
      (contains_flat (λ x. parts_of_stmt scope_of x.stmt) (spots_of_body block.body) s p c d))

  instr_part : (i : InstrTree) → Contains (instructions_of block.body) i → (p : Part) → Contains (parts_of_instruction scope_of i) p
      → Contains (parts_of_block project block) p
  instr_part i c p d =
      contains_front p (of_stmts ++ of_instrs) of_starts (contains_behind p of_stmts of_instrs
      (contains_flat (parts_of_instruction scope_of) (instructions_of block.body) i p c d))

  expr_in : (s : Spot) → Contains (spots_of_body block.body) s → (want : Want) (e : ExprTree)
      → ((p : Part) → Contains (parts_of scope_of want e) p → Contains (parts_of_stmt scope_of s.stmt) p) → FitsExpr e
  expr_in s c want e w = within_fits project keeps block there short want e (λ p d. stmt_part s c p (w p d))

  target_in : (s : Spot) → Contains (spots_of_body block.body) s → (o : OperandTree) → target_of s.stmt ≡ Some o
      → ((p : Part) → Contains (parts_of_operand scope_of o) p → Contains (parts_of_stmt scope_of s.stmt) p) → FitsOperand o
  target_in s c o is w =
      let among = contains_flat (λ (x : Spot). option_to_list (target_of x.stmt)) (spots_of_body block.body) s o c
      (subst (λ x. Contains (option_to_list x) o) (sym is) (0, omega arith, refl)) in
      operand_fits project keeps block there short o
      (contains_front o (reads_of_parts (parts_of_block project block) ++ assigned_operands block) (instruction_operands block)
      (contains_behind o (reads_of_parts (parts_of_block project block)) (assigned_operands block) among))
      (λ p d. stmt_part s c p (w p d))

  arg_part : (call : CallSite) (a : ArgTree) → Contains call.call.args a → (p : Part) → Contains (parts_of scope_of (want_of_arg scope_of call a) a.value) p
      → Contains (parts_of_call scope_of call) p
  arg_part call a c p d = contains_flat (λ x. parts_of scope_of (want_of_arg scope_of call x) x.value) call.call.args a p c d

  call_in : (call : CallSite) → ((p : Part) → Contains (parts_of_call scope_of call) p → Contains (parts_of_block project block) p)
      → FitsCall call.call
  call_in call w = each_of (λ (a : ArgTree). FitsExpr a.value) call.call.args
      (λ a c. within_fits project keeps block there short (want_of_arg scope_of call a) a.value (λ p d. w p (arg_part call a c p d)))

  outside_stmt : (s : Spot) → Contains (spots_of_body block.body) s → (at : Place) → IsStmtOutside scope_of at s.stmt → ⊥
  outside_stmt s c at out =
      keeps out_of_range at (there.0, block, there.1, there.2, inr (inr (inr (inl (c.0, s, c.1, c.2, out)))))

  choice_in : (s : Spot) → Contains (spots_of_body block.body) s → (selector : ExprTree) (choices : BranchTrees) (other : ElseTree) (place : Place)
      → s.stmt ≡ case_ selector choices other place → (x : Choice) → Contains (values_of_branches choices) x → FitsChoice x
  choice_in s c selector choices other place is (Const name at) d = tt
  choice_in s c selector choices other place is (Lit l) d =
      inside_fits (want_of_selector scope_of selector) l (λ out. outside_stmt s c l.place
      (subst (IsStmtOutside scope_of l.place) (sym is) (d.0, Lit l, d.1, d.2, (refl, out))))

  by_fits : (s : Spot) → Contains (spots_of_body block.body) s → (name : Name) (name_place : Place) (first last : ExprTree)
      (by : Option Literal) (body : StmtTrees) (place : Place) → s.stmt ≡ for_ name name_place first last by body place → FitsLiteral by
  by_fits s c name name_place first last None body place is = tt
  by_fits s c name name_place first last (Some l) body place is =
      inside_fits (want_of_counter scope_of name name_place) l (λ out. outside_stmt s c l.place
      (subst (IsStmtOutside scope_of l.place) (sym is) (0, l, omega arith, refl, (refl, out))))

  own_fits : (s : Spot) (stmt : StmtTree) → s.stmt ≡ stmt → Contains (spots_of_body block.body) s → FitsOwn stmt
  own_fits s (assign target place value) is c =
      let w = want_of_target scope_of target in (
        target_in s c target (ap target_of is)
            (λ p d. subst (λ x. Contains (parts_of_stmt scope_of x) p) (sym is)
            (contains_front p (parts_of_operand scope_of target) (parts_of scope_of w value) d)),
        expr_in s c w value (λ p d. subst (λ x. Contains (parts_of_stmt scope_of x) p) (sym is)
            (contains_behind p (parts_of_operand scope_of target) (parts_of scope_of w value) d)),
      )
  own_fits s (assign_call target place call) is c = (
    target_in s c target (ap target_of is)
        (λ p d. subst (λ x. Contains (parts_of_stmt scope_of x) p) (sym is)
        (contains_front p (parts_of_operand scope_of target) (parts_of_call scope_of (site as_value call)) d)),
    call_in (site as_value call) (λ p d. stmt_part s c p (subst (λ x. Contains (parts_of_stmt scope_of x) p) (sym is)
        (contains_behind p (parts_of_operand scope_of target) (parts_of_call scope_of (site as_value call)) d))),
  )
  own_fits s (if_ conditions other place) is c =
      each_of FitsExpr (conditions_of conditions)
      (λ e d. expr_in s c nothing e (λ p q. subst (λ x. Contains (parts_of_stmt scope_of x) p) (sym is)
      (contains_flat (parts_of scope_of nothing) (conditions_of conditions) e p d q)))
  own_fits s (case_ selector choices other place) is c = (
    expr_in s c nothing selector (λ p d. subst (λ x. Contains (parts_of_stmt scope_of x) p) (sym is) d),
    each_of FitsChoice (values_of_branches choices) (choice_in s c selector choices other place is),
  )
  own_fits s (for_ name name_place first last by body place) is c =
      let w = want_of_counter scope_of name name_place in (
        expr_in s c w first (λ p d. subst (λ x. Contains (parts_of_stmt scope_of x) p) (sym is)
            (contains_front p (parts_of scope_of w first) (parts_of scope_of w last) d)),
        (
          expr_in s c w last (λ p d. subst (λ x. Contains (parts_of_stmt scope_of x) p) (sym is)
              (contains_behind p (parts_of scope_of w first) (parts_of scope_of w last) d)),
          by_fits s c name name_place first last by body place is,
        ),
      )
  own_fits s (while_ condition body place) is c =
      expr_in s c nothing condition (λ p d. subst (λ x. Contains (parts_of_stmt scope_of x) p) (sym is) d)
  own_fits s (repeat_ body condition place) is c =
      expr_in s c nothing condition (λ p d. subst (λ x. Contains (parts_of_stmt scope_of x) p) (sym is) d)
  own_fits s (exit_ place) is c = tt
  own_fits s (continue_ place) is c = tt
  own_fits s (return_ place) is c = tt
  own_fits s (call_ call) is c =
      call_in (site as_statement call) (λ p d. stmt_part s c p (subst (λ x. Contains (parts_of_stmt scope_of x) p) (sym is) d))
  own_fits s (empty_ place) is c = tt

  stmts_of_body : (loops : List Loop) (list : StmtTrees)
      → ((s : Spot) → Contains (spots_of_stmts loops list) s → Contains (spots_of_body block.body) s) → FitsStmts list
  stmts_of_body loops list w = stmts_fit loops list (λ s c. own_fits s s.stmt refl (w s c))

  operand_in : (i : InstrTree) → Contains (instructions_of block.body) i → (o : Option OperandTree) → operand_of_instruction i ≡ o → FitsOption o
  operand_in i c None is = tt
  operand_in i c (Some o) is =
      let mine = subst (λ x. Contains (option_to_list x) o) (sym is) (0, omega arith, refl) in
      operand_fits project keeps block there short o
      (contains_behind o (reads_of_parts (parts_of_block project block) ++ assigned_operands block) (instruction_operands block)
      (contains_flat (λ (x : InstrTree). option_to_list (operand_of_instruction x)) (instructions_of block.body) i o c mine))
      (λ p d. instr_part i c p
      (contains_front p (flat_map (parts_of_operand scope_of) (option_to_list (operand_of_instruction i)))
      (flat_map (parts_of_call scope_of) (calls_of_instruction i))
      (contains_flat (parts_of_operand scope_of) (option_to_list (operand_of_instruction i)) o p mine d)))

  literal_in : (i : InstrTree) → Contains (instructions_of block.body) i → (o : Option Literal) → i.literal ≡ o → FitsLiteral o
  literal_in i c None is = tt
  literal_in i c (Some l) is =
      let mine = subst (λ x. Contains (option_to_list x) l) (sym is) (0, omega arith, refl) in
      behind_fits (group_of i.op) l (λ out. keeps out_of_range l.place
      (there.0, block, there.1, there.2, inr (inr (inr (inr (c.0, i, c.1, c.2, (mine.0, l, mine.1, mine.2, (refl, out))))))))

  call_of : (i : InstrTree) → Contains (instructions_of block.body) i → (o : Option CallPlain) → i.call ≡ o → FitsCallOption o
  call_of i c None is = tt
  call_of i c (Some call) is =
      let mine = subst (λ x. Contains (map (site (how_of i.op)) (option_to_list x)) (site (how_of i.op) call)) (sym is) (0, omega arith, refl) in
      call_in (site (how_of i.op) call) (λ p d. instr_part i c p
      (contains_behind p (flat_map (parts_of_operand scope_of) (option_to_list (operand_of_instruction i)))
      (flat_map (parts_of_call scope_of) (calls_of_instruction i))
      (contains_flat (parts_of_call scope_of) (calls_of_instruction i) (site (how_of i.op) call) p mine d)))

  instr_fits : (i : InstrTree) → Contains (instructions_of block.body) i → FitsInstr i
  instr_fits i c = record {
    variable = operand_in i c (operand_of_instruction i) refl;
    literal = literal_in i c i.literal refl;
    call = call_of i c i.call refl;
  }

  body_of : (body : BodyTree) → block.body ≡ body → FitsBody body
  body_of (scl statements) is =
      stmts_of_body [] statements (λ s c. subst (λ b. Contains (spots_of_body b) s) (sym is) c)
  body_of (stl instructions) is =
      each_of FitsInstr instructions (λ i c. instr_fits i (subst (λ b. Contains (instructions_of b) i) (sym is) c))
  body_of (starts values) is = tt

  pub body_fits : FitsBody block.body
  body_fits = body_of block.body refl
