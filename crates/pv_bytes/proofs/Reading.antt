-- The operands that a block's expressions read, in the order of the text.
use Rattle.std.proofs.Common.{◌≡◌, List, [], ◌∷◌, ◌++◌, Bool, true, false, Option, Some, None, refl, sym, ap, ◌∙◌}
use Rattle.std.specs.Prelude.{flat_map, is_some, if◌then◌else◌, option_to_list}
use Rattle.std.proofs.lemmas.List.Concat.{flat_map-append}
use Rattle.pv_tree.specs.declared.expr.UnaryOp.{UnaryOp}
use Rattle.pv_tree.specs.Tree.{ExprTree, lit, read, unary, binary, std, paren, ExprTrees, no_exprs, exprs, OperandTree, operand, StepTree, field, index, StepTrees, no_steps, steps, ArgTree, StmtTree, assign, assign_call, if_, case_, for_, while_, repeat_, exit_, continue_, return_, call_, empty_, InstrTree}
use Rattle.pv_tree.specs.LiteralTypes.{Want, nothing}
use Rattle.pv_tree.specs.Scopes.{Scope}
use Rattle.pv_tree.specs.Sorts.{wanted_beside, wants_of}
use Rattle.pv_tree.specs.Types.{Written, signed, literal_of, sort_of, sorts_of}
use Rattle.pv_tree.specs.Callees.{CallSite, as_statement, as_value, want_of_arg}
use Rattle.pv_tree.specs.InstructionGroups.{operand_of_instruction}
use Rattle.pv_tree.specs.Parts.{Part, parts_of, parts_of_args, parts_of_operand, parts_of_steps, parts_of_step, parts_of_call, parts_of_stmt, parts_of_instruction, reads_of_parts, operands_read, conditions_of, site, calls_of_instruction, want_of_target, want_of_counter}
use Rattle.pv_tree.specs.Operands.{operands_in, operands_in_args, operands_within, operands_in_steps, operands_in_step}
use Rattle.pv_bytes.specs.Operands.{operands_in_call, operands_in_stmt, operands_in_instr}

-- ---- a literal reads nothing

signed-some : (op : UnaryOp) (o : Option Written) → is_some (signed op o) ≡ true → is_some o ≡ true
signed-some op None is = is
signed-some op (Some w) is = refl

reads_none : (e : ExprTree) → is_some (literal_of e) ≡ true → operands_in e ≡ []
reads_none (lit ty value place) is = refl
reads_none (read o) is = absurd (cc)
reads_none (unary op place arg) is = reads_none arg (signed-some op (literal_of arg) is)
reads_none (binary op place left right) is = absurd (cc)
reads_none (std function place args) is = absurd (cc)
reads_none (paren place inner) is = reads_none inner is

-- ---- expressions

pub both : (ps qs : List Part) (xs ys : List OperandTree) → reads_of_parts ps ≡ xs → reads_of_parts qs ≡ ys
    → reads_of_parts (ps ++ qs) ≡ xs ++ ys
both ps qs xs ys p q = flat_map-append (λ r. operands_read r.expr) ps qs ∙ ap (λ l. l ++ reads_of_parts qs) p ∙ ap (λ l. xs ++ l) q

-- what a test for a literal leaves out reads nothing
unless : (b : Bool) (ps : List Part) (xs : List OperandTree) → (b ≡ true → xs ≡ []) → reads_of_parts ps ≡ xs
    → reads_of_parts (if b then [] else ps) ≡ xs
unless true ps xs none is = sym (none refl)
unless false ps xs none is = is

module _ (scope : Scope) where
  mutual
    pub reads-expr : (want : Want) (e : ExprTree) → reads_of_parts (parts_of scope want e) ≡ operands_in e
    reads-expr want (lit ty value place) = refl
    reads-expr want (read o) = ap (λ l. o ∷ l) (reads-operand o)
    reads-expr want (unary op place arg) =
        unless (is_some (signed op (literal_of arg))) (parts_of scope nothing arg) (operands_in arg)
        (λ is. reads_none arg (signed-some op (literal_of arg) is)) (reads-expr nothing arg)
    reads-expr want (binary op place left right) =
        let w = wanted_beside (sort_of scope left ∷ sort_of scope right ∷ []) in
        both (parts_of scope w left) (parts_of scope w right) (operands_in left) (operands_in right) (reads-expr w left)
        (reads-expr w right)
    reads-expr want (std function place args) = reads-args (wants_of function (sorts_of scope args)) args
    reads-expr want (paren place inner) =
        unless (is_some (literal_of inner)) (parts_of scope want inner) (operands_in inner) (λ is. reads_none inner is)
        (reads-expr want inner)

    reads-args : (wants : List Want) (es : ExprTrees) → reads_of_parts (parts_of_args scope wants es) ≡ operands_in_args es
    reads-args wants no_exprs = refl
    reads-args [] (exprs e more) =
        both (parts_of scope nothing e) (parts_of_args scope [] more) (operands_in e) (operands_in_args more) (reads-expr nothing e)
        (reads-args [] more)
    reads-args (want ∷ wants) (exprs e more) =
        both (parts_of scope want e) (parts_of_args scope wants more) (operands_in e) (operands_in_args more) (reads-expr want e)
        (reads-args wants more)

    pub reads-operand : (o : OperandTree) → reads_of_parts (parts_of_operand scope o) ≡ operands_within o
    reads-operand (operand root more place) = reads-steps more

    reads-steps : (ss : StepTrees) → reads_of_parts (parts_of_steps scope ss) ≡ operands_in_steps ss
    reads-steps no_steps = refl
    reads-steps (steps step more) =
        both (parts_of_step scope step) (parts_of_steps scope more) (operands_in_step step) (operands_in_steps more) (reads-step step)
        (reads-steps more)

    reads-step : (s : StepTree) → reads_of_parts (parts_of_step scope s) ≡ operands_in_step s
    reads-step (field name place) = refl
    reads-step (index e place) = reads-expr nothing e

  -- ---- lists of what is read

  pub reads-each : {X : Type 0} (f : X → List Part) (g : X → List OperandTree) → ((x : X) → reads_of_parts (f x) ≡ g x) → (xs : List X)
      → reads_of_parts (flat_map f xs) ≡ flat_map g xs
  reads-each f g same [] = refl
  reads-each f g same (x ∷ xs) = both (f x) (flat_map f xs) (g x) (flat_map g xs) (same x) (reads-each f g same xs)

  reads-call : (s : CallSite) → reads_of_parts (parts_of_call scope s) ≡ operands_in_call s.call
  reads-call s = reads-each (λ (a : ArgTree). parts_of scope (want_of_arg scope s a) a.value) (λ (a : ArgTree). operands_in a.value)
      (λ a. reads-expr (want_of_arg scope s a) a.value) s.call.args

  pub reads-stmt : (s : StmtTree) → reads_of_parts (parts_of_stmt scope s) ≡ operands_in_stmt s
  reads-stmt (assign target place value) =
      let w = want_of_target scope target in
      both (parts_of_operand scope target) (parts_of scope w value) (operands_within target) (operands_in value) (reads-operand target)
      (reads-expr w value)
  reads-stmt (assign_call target place call) =
      let s = site as_value call in
      both (parts_of_operand scope target) (parts_of_call scope s) (operands_within target) (operands_in_call call) (reads-operand target)
      (reads-call s)
  reads-stmt (if_ conditions other place) =
      reads-each (parts_of scope nothing) operands_in (λ e. reads-expr nothing e) (conditions_of conditions)
  reads-stmt (case_ selector choices other place) = reads-expr nothing selector
  reads-stmt (for_ name name_place first last by body place) =
      let w = want_of_counter scope name name_place in
      both (parts_of scope w first) (parts_of scope w last) (operands_in first) (operands_in last) (reads-expr w first) (reads-expr w last)
  reads-stmt (while_ condition body place) = reads-expr nothing condition
  reads-stmt (repeat_ body condition place) = reads-expr nothing condition
  reads-stmt (exit_ place) = refl
  reads-stmt (continue_ place) = refl
  reads-stmt (return_ place) = refl
  reads-stmt (call_ call) = reads-call (site as_statement call)
  reads-stmt (empty_ place) = refl

  pub reads-instr : (i : InstrTree) → reads_of_parts (parts_of_instruction scope i) ≡ operands_in_instr i
  reads-instr i =
      both (flat_map (parts_of_operand scope) (option_to_list (operand_of_instruction i)))
      (flat_map (parts_of_call scope) (calls_of_instruction i))
      (flat_map operands_within (option_to_list (operand_of_instruction i)))
      (flat_map (λ s. operands_in_call s.call) (calls_of_instruction i))
      (reads-each (parts_of_operand scope) operands_within reads-operand (option_to_list (operand_of_instruction i)))
      (reads-each (parts_of_call scope) (λ s. operands_in_call s.call) reads-call (calls_of_instruction i))
