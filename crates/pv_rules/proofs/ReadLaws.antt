-- The operands that the expressions of a block read, whatever is wanted of these.
use Rattle.std.proofs.Common.{◌≡◌, refl, sym, ap, ◌∙◌, List, [], ◌∷◌, ◌++◌, map, Bool, true, false, Option, Some, None, is_some, true≢false}
use Rattle.std.specs.Prelude.{flat_map, option_to_list, if◌then◌else◌}
use Rattle.std.proofs.lemmas.List.Concat.{flat_map-append}
use Rattle.pv_tree.specs.declared.expr.UnaryOp.{UnaryOp}
use Rattle.pv_tree.specs.Tree.{ExprTree, lit, read, unary, binary, std, paren, ExprTrees, no_exprs, exprs, OperandTree, operand, StepTree, field, index, StepTrees, no_steps, steps, StmtTree, assign, assign_call, if_, case_, for_, while_, repeat_, exit_, continue_, return_, call_, empty_, StmtTrees, CallPlain, InstrTree, StartTree}
use Rattle.pv_tree.specs.LiteralTypes.{Want, nothing}
use Rattle.pv_tree.specs.Sorts.{wanted_beside, wants_of}
use Rattle.pv_tree.specs.Scopes.{Scope}
use Rattle.pv_tree.specs.Types.{Written, signed, literal_of, sort_of, sorts_of}
use Rattle.pv_tree.specs.Callees.{CallSite, How, as_statement, as_value, want_of_arg}
use Rattle.pv_tree.specs.InstructionGroups.{operand_of_instruction}
use Rattle.pv_tree.specs.Parts.{Part, Spot, spots_of_stmts, parts_of, parts_of_args, parts_of_operand, parts_of_steps, parts_of_step, parts_of_call, parts_of_stmt, operands_read, reads_of_parts, conditions_of, want_of_target, want_of_counter, site, how_of, calls_of_instruction, parts_of_instruction}
use Rattle.pv_tree.specs.View.{arms_of}
use Rattle.pv_rules.specs.Statements.{all_of}
use Rattle.pv_tree.specs.Operands.{operands_in, operands_in_args, operands_within, operands_in_steps, operands_in_step}
use Rattle.pv_rules.specs.Reads.{reads_of_call, reads_of_stmt, reads_of_starts}
use Rattle.pv_rules.proofs.StatementLaws.{seen_of}

-- ---- a literal reads nothing

signed_some : (op : UnaryOp) (o : Option Written) → is_some (signed op o) ≡ true → is_some o ≡ true
signed_some op None h = h
signed_some op (Some w) h = refl

no_reads : (e : ExprTree) → is_some (literal_of e) ≡ true → operands_in e ≡ []
no_reads (lit ty value place) h = refl
no_reads (read o) h = absurd (true≢false (sym h))
no_reads (unary op place arg) h = no_reads arg (signed_some op (literal_of arg) h)
no_reads (binary op place left right) h = absurd (true≢false (sym h))
no_reads (std function place args) h = absurd (true≢false (sym h))
no_reads (paren place inner) h = no_reads inner h

cut : (b : Bool) (ps : List Part) (rs : List OperandTree) → (b ≡ true → rs ≡ []) → reads_of_parts ps ≡ rs
    → reads_of_parts (if b then [] else ps) ≡ rs
cut true ps rs none same = sym (none refl)
cut false ps rs none same = same

-- ---- expressions

both : (ps qs : List Part) (rs ss : List OperandTree) → reads_of_parts ps ≡ rs → reads_of_parts qs ≡ ss → reads_of_parts (ps ++ qs) ≡ rs ++ ss
both ps qs rs ss front rest =
    flat_map-append (λ p. operands_read p.expr) ps qs ∙ ap (λ l. l ++ reads_of_parts qs) front ∙ ap (λ l. rs ++ l) rest

mutual
  pub parts_read : (scope : Scope) (want : Want) (e : ExprTree) → reads_of_parts (parts_of scope want e) ≡ operands_in e
  parts_read scope want (lit ty value place) = refl
  parts_read scope want (read o) = ap (λ l. o ∷ l) (operand_read scope o)
  parts_read scope want (unary op place arg) =
      cut (is_some (signed op (literal_of arg))) (parts_of scope nothing arg) (operands_in arg)
      (λ h. no_reads arg (signed_some op (literal_of arg) h)) (parts_read scope nothing arg)
  parts_read scope want (binary op place left right) =
      let w = wanted_beside (sort_of scope left ∷ sort_of scope right ∷ []) in
      both (parts_of scope w left) (parts_of scope w right) (operands_in left) (operands_in right) (parts_read scope w left) (parts_read scope w right)
  parts_read scope want (std function place args) = args_read scope (wants_of function (sorts_of scope args)) args
  parts_read scope want (paren place inner) =
      cut (is_some (literal_of inner)) (parts_of scope want inner) (operands_in inner) (λ h. no_reads inner h) (parts_read scope want inner)

  args_read : (scope : Scope) (wants : List Want) (args : ExprTrees) → reads_of_parts (parts_of_args scope wants args) ≡ operands_in_args args
  args_read scope wants no_exprs = refl
  args_read scope [] (exprs e more) =
      both (parts_of scope nothing e) (parts_of_args scope [] more) (operands_in e) (operands_in_args more) (parts_read scope nothing e)
      (args_read scope [] more)
  args_read scope (want ∷ wants) (exprs e more) =
      both (parts_of scope want e) (parts_of_args scope wants more) (operands_in e) (operands_in_args more) (parts_read scope want e)
      (args_read scope wants more)

  pub operand_read : (scope : Scope) (o : OperandTree) → reads_of_parts (parts_of_operand scope o) ≡ operands_within o
  operand_read scope (operand root more place) = steps_read scope more

  steps_read : (scope : Scope) (more : StepTrees) → reads_of_parts (parts_of_steps scope more) ≡ operands_in_steps more
  steps_read scope no_steps = refl
  steps_read scope (steps step more) =
      both (parts_of_step scope step) (parts_of_steps scope more) (operands_in_step step) (operands_in_steps more) (step_read scope step)
      (steps_read scope more)

  step_read : (scope : Scope) (step : StepTree) → reads_of_parts (parts_of_step scope step) ≡ operands_in_step step
  step_read scope (field name place) = refl
  step_read scope (index e place) = parts_read scope nothing e

-- ---- lists of them

each_read : {X : Type 0} (f : X → List Part) (g : X → List OperandTree) → ((x : X) → reads_of_parts (f x) ≡ g x) → (xs : List X)
    → reads_of_parts (flat_map f xs) ≡ flat_map g xs
each_read f g same [] = refl
each_read f g same (x ∷ xs) = both (f x) (flat_map f xs) (g x) (flat_map g xs) (same x) (each_read f g same xs)

call_read : (scope : Scope) (s : CallSite) → reads_of_parts (parts_of_call scope s) ≡ reads_of_call s.call
call_read scope s =
    each_read (λ a. parts_of scope (want_of_arg scope s a) a.value) (λ a. operands_in a.value) (λ a. parts_read scope (want_of_arg scope s a) a.value) s.call.args

pub stmt_read : (scope : Scope) (s : StmtTree) → reads_of_parts (parts_of_stmt scope s) ≡ reads_of_stmt s
stmt_read scope (assign target place value) =
    let w = want_of_target scope target in
    both (parts_of_operand scope target) (parts_of scope w value) (operands_within target) (operands_in value) (operand_read scope target)
    (parts_read scope w value)
stmt_read scope (assign_call target place call) =
    both (parts_of_operand scope target) (parts_of_call scope (site as_value call)) (operands_within target) (reads_of_call call)
    (operand_read scope target) (call_read scope (site as_value call))
stmt_read scope (if_ conditions other place) =
    each_read (parts_of scope nothing) operands_in (λ e. parts_read scope nothing e) (conditions_of conditions)
stmt_read scope (case_ selector choices other place) = parts_read scope nothing selector
stmt_read scope (for_ name name_place first last by body place) =
    let w = want_of_counter scope name name_place in
    both (parts_of scope w first) (parts_of scope w last) (operands_in first) (operands_in last) (parts_read scope w first) (parts_read scope w last)
stmt_read scope (while_ condition body place) = parts_read scope nothing condition
stmt_read scope (repeat_ body condition place) = parts_read scope nothing condition
stmt_read scope (exit_ place) = refl
stmt_read scope (continue_ place) = refl
stmt_read scope (return_ place) = refl
stmt_read scope (call_ call) = call_read scope (site as_statement call)
stmt_read scope (empty_ place) = refl

-- along spots as along their statements
pub flat_seen : {X : Type 0} (f : StmtTree → List X) (spots : List Spot) → flat_map (λ s. f s.stmt) spots ≡ flat_map f (map (λ s. s.stmt) spots)
flat_seen f [] = refl
flat_seen f (s ∷ ss) = ap (λ l. f s.stmt ++ l) (flat_seen f ss)

pub list_read : (scope : Scope) (list : StmtTrees)
    → reads_of_parts (flat_map (λ s. parts_of_stmt scope s.stmt) (spots_of_stmts [] list)) ≡ flat_map reads_of_stmt (all_of list)
list_read scope list =
    each_read (λ s. parts_of_stmt scope s.stmt) (λ s. reads_of_stmt s.stmt) (λ s. stmt_read scope s.stmt) (spots_of_stmts [] list)
    ∙ flat_seen reads_of_stmt (spots_of_stmts [] list) ∙ ap (flat_map reads_of_stmt) (seen_of [] list)

pub starts_read : (scope : Scope) (list : List StartTree) → reads_of_parts (flat_map (λ v. parts_of_operand scope v.0) list) ≡ reads_of_starts list
starts_read scope list = each_read (λ v. parts_of_operand scope v.0) (λ v. operands_within v.0) (λ v. operand_read scope v.0) list

-- the conditions of an IF of the code
pub conditions_seen : {X : Type 0} (g : X → ExprTree × StmtTrees) (xs : List X) → conditions_of (arms_of (map g xs)) ≡ map (λ x. (g x).0) xs
conditions_seen g [] = refl
conditions_seen g (x ∷ xs) = ap (λ l. (g x).0 ∷ l) (conditions_seen g xs)

-- the operands that an instruction reads, in its expressions
optional_sites : (scope : Scope) (how : How) (o : Option CallPlain)
    → reads_of_parts (flat_map (parts_of_call scope) (map (site how) (option_to_list o))) ≡ flat_map reads_of_call (option_to_list o)
optional_sites scope how None = refl
optional_sites scope how (Some call) = each_read (parts_of_call scope) (λ s. reads_of_call s.call) (λ s. call_read scope s) (site how call ∷ [])

pub instr_read : (scope : Scope) (i : InstrTree) → reads_of_parts (parts_of_instruction scope i)
    ≡ flat_map operands_within (option_to_list (operand_of_instruction i)) ++ flat_map reads_of_call (option_to_list i.call)
instr_read scope i =
    both (flat_map (parts_of_operand scope) (option_to_list (operand_of_instruction i))) (flat_map (parts_of_call scope) (calls_of_instruction i))
    (flat_map operands_within (option_to_list (operand_of_instruction i))) (flat_map reads_of_call (option_to_list i.call))
    (each_read (parts_of_operand scope) operands_within (λ o. operand_read scope o) (option_to_list (operand_of_instruction i)))
    (optional_sites scope (how_of i.op) i.call)

pub instrs_read : (scope : Scope) (list : List InstrTree) → reads_of_parts (flat_map (parts_of_instruction scope) list)
    ≡ flat_map (λ i. flat_map operands_within (option_to_list (operand_of_instruction i)) ++ flat_map reads_of_call (option_to_list i.call)) list
instrs_read scope list =
    each_read (parts_of_instruction scope)
    (λ i. flat_map operands_within (option_to_list (operand_of_instruction i)) ++ flat_map reads_of_call (option_to_list i.call))
    (λ i. instr_read scope i) list
