-- What is so of all expressions of a block is so of those in each, part by part; and so it is of what they read.
use Rattle.std.proofs.Common.{List, [], ◌∷◌, ◌++◌, Bool as Truth, true, false}
use Rattle.std.specs.Prelude.{is_some, flat_map, option_to_list, if◌then◌else◌}
use Rattle.std.specs.List.{AllByRecursion}
use Rattle.pv_tree.specs.Tree.{ExprTree, lit, read, unary, binary, std, paren, ExprTrees, no_exprs, exprs, OperandTree, operand, StepTree, field, index, StepTrees, no_steps, steps, ArgTree, StmtTree, assign, assign_call, if_, case_, for_, while_, repeat_, exit_, continue_, return_, call_, empty_, InstrTree, BlockTree}
use Rattle.pv_tree.specs.Callees.{CallSite, want_of_arg, as_value, as_statement}
use Rattle.pv_tree.specs.InstructionGroups.{operand_of_instruction}
use Rattle.pv_tree.specs.LiteralTypes.{Want, nothing}
use Rattle.pv_tree.specs.Operands.{operands_in, operands_in_args, operands_within, operands_in_steps, operands_in_step}
use Rattle.pv_tree.specs.Parts.{Part, Spot, parts_of, parts_of_args, parts_of_operand, parts_of_steps, parts_of_step, parts_of_call, parts_of_stmt, parts_of_instruction, parts_of_block, want_of_target, want_of_counter, conditions_of, calls_of_instruction, spots_of_body, instructions_of, starts_of, site, operands_read, reads_of_parts}
use Rattle.pv_tree.specs.Scopes.{ProjectTree, Scope}
use Rattle.pv_tree.specs.Sorts.{wanted_beside, wants_of}
use Rattle.pv_tree.specs.Types.{signed, literal_of, sort_of, sorts_of}
use Rattle.pv_laws_lower.proofs.Lists.{all_front, all_back, all_append}

-- ---- what parts read

-- all parts together, and part by part
module _ (P : OperandTree → Type 0) where
  abbrev pub OfPart : Part → Type 0
  OfPart p = AllByRecursion P (operands_read p.expr)

  pub together : (ps : List Part) → AllByRecursion OfPart ps → AllByRecursion P (reads_of_parts ps)
  together [] a = tt
  together (p ∷ ps) a = all_append P (operands_read p.expr) (reads_of_parts ps) a.0 (together ps a.1)

  pub parted : (ps : List Part) → AllByRecursion P (reads_of_parts ps) → AllByRecursion OfPart ps
  parted [] a = tt
  parted (p ∷ ps) a = (
    all_front P (operands_read p.expr) (reads_of_parts ps) a,
    parted ps (all_back P (operands_read p.expr) (reads_of_parts ps) a),
  )

-- what is so of all operands of an expression is so of those that its parts read
module _ (P : OperandTree → Type 0) (scope : Scope) where
  unless : (b : Truth) (ps : List Part) → AllByRecursion (OfPart P) ps → AllByRecursion (OfPart P) (if b then [] else ps)
  unless true ps a = tt
  unless false ps a = a

  mutual
    pub read_in : (want : Want) (e : ExprTree) → AllByRecursion P (operands_in e) → AllByRecursion (OfPart P) (parts_of scope want e)
    read_in want (lit ty n place) a = (tt, tt)
    read_in want (read o) a = ((a.0, tt), read_within o a.1)
    read_in want (unary op place arg) a =
        (tt, unless (is_some (signed op (literal_of arg))) (parts_of scope nothing arg) (read_in nothing arg a))
    read_in want (binary op place left right) a =
        let w = wanted_beside (sort_of scope left ∷ sort_of scope right ∷ []) in (
          tt,
          all_append (OfPart P) (parts_of scope w left) (parts_of scope w right)
              (read_in w left (all_front P (operands_in left) (operands_in right) a))
              (read_in w right (all_back P (operands_in left) (operands_in right) a)),
        )
    read_in want (std function place args) a = (tt, read_in_each (wants_of function (sorts_of scope args)) args a)
    read_in want (paren place inner) a =
        (tt, unless (is_some (literal_of inner)) (parts_of scope want inner) (read_in want inner a))

    read_in_each : (wants : List Want) (args : ExprTrees) → AllByRecursion P (operands_in_args args)
        → AllByRecursion (OfPart P) (parts_of_args scope wants args)
    read_in_each wants no_exprs a = tt
    read_in_each [] (exprs e more) a =
        all_append (OfPart P) (parts_of scope nothing e) (parts_of_args scope [] more)
        (read_in nothing e (all_front P (operands_in e) (operands_in_args more) a))
        (read_in_each [] more (all_back P (operands_in e) (operands_in_args more) a))
    read_in_each (want ∷ wants) (exprs e more) a =
        all_append (OfPart P) (parts_of scope want e) (parts_of_args scope wants more)
        (read_in want e (all_front P (operands_in e) (operands_in_args more) a))
        (read_in_each wants more (all_back P (operands_in e) (operands_in_args more) a))

    read_within : (o : OperandTree) → AllByRecursion P (operands_within o) → AllByRecursion (OfPart P) (parts_of_operand scope o)
    read_within (operand root more place) a = read_in_steps more a

    read_in_steps : (more : StepTrees) → AllByRecursion P (operands_in_steps more) → AllByRecursion (OfPart P) (parts_of_steps scope more)
    read_in_steps no_steps a = tt
    read_in_steps (steps step more) a =
        all_append (OfPart P) (parts_of_step scope step) (parts_of_steps scope more)
        (read_in_step step (all_front P (operands_in_step step) (operands_in_steps more) a))
        (read_in_steps more (all_back P (operands_in_step step) (operands_in_steps more) a))

    read_in_step : (step : StepTree) → AllByRecursion P (operands_in_step step) → AllByRecursion (OfPart P) (parts_of_step scope step)
    read_in_step (field name place) a = tt
    read_in_step (index e place) a = read_in nothing e a

-- ---- parts of parts

module _ (P : Part → Type 0) (scope : Scope) where
  abbrev pub Whole : Part → Type 0
  Whole p = AllByRecursion P (parts_of scope p.want p.expr)

  -- what is so of all of them is so of the parts of each
  abbrev Deep : List Part → Type 0
  Deep ps = AllByRecursion P ps → AllByRecursion Whole ps

  both : (xs ys : List Part) → Deep xs → Deep ys → Deep (xs ++ ys)
  both xs ys d e h = all_append Whole xs ys (d (all_front P xs ys h)) (e (all_back P xs ys h))

  deep_unless : (b : Truth) (xs : List Part) → Deep xs → Deep (if b then [] else xs)
  deep_unless true xs d h = tt
  deep_unless false xs d h = d h

  flat : {X : Type 0} (f : X → List Part) → ((x : X) → Deep (f x)) → (xs : List X) → Deep (flat_map f xs)
  flat f each [] h = tt
  flat f each (x ∷ xs) h = both (f x) (flat_map f xs) (each x) (flat f each xs) h

  mutual
    deep : (want : Want) (e : ExprTree) → Deep (parts_of scope want e)
    deep want (lit ty v place) h = (h, tt)
    deep want (read o) h = (h, deep_operand o h.1)
    deep want (unary op place arg) h =
        (h, deep_unless (is_some (signed op (literal_of arg))) (parts_of scope nothing arg) (deep nothing arg) h.1)
    deep want (binary op place left right) h =
        let w = wanted_beside (sort_of scope left ∷ sort_of scope right ∷ []) in
        (h, both (parts_of scope w left) (parts_of scope w right) (deep w left) (deep w right) h.1)
    deep want (std function place args) h = (h, deep_args (wants_of function (sorts_of scope args)) args h.1)
    deep want (paren place inner) h = (h, deep_unless (is_some (literal_of inner)) (parts_of scope want inner) (deep want inner) h.1)

    deep_args : (wants : List Want) (args : ExprTrees) → Deep (parts_of_args scope wants args)
    deep_args wants no_exprs h = tt
    deep_args [] (exprs e more) h = both (parts_of scope nothing e) (parts_of_args scope [] more) (deep nothing e) (deep_args [] more) h
    deep_args (want ∷ wants) (exprs e more) h =
        both (parts_of scope want e) (parts_of_args scope wants more) (deep want e) (deep_args wants more) h

    deep_operand : (o : OperandTree) → Deep (parts_of_operand scope o)
    deep_operand (operand root more place) h = deep_steps more h

    deep_steps : (more : StepTrees) → Deep (parts_of_steps scope more)
    deep_steps no_steps h = tt
    deep_steps (steps step more) h = both (parts_of_step scope step) (parts_of_steps scope more) (deep_step step) (deep_steps more) h

    deep_step : (step : StepTree) → Deep (parts_of_step scope step)
    deep_step (field name place) h = tt
    deep_step (index e place) h = deep nothing e h

  deep_call : (s : CallSite) → Deep (parts_of_call scope s)
  deep_call s = flat (λ (a : ArgTree). parts_of scope (want_of_arg scope s a) a.value) (λ a. deep (want_of_arg scope s a) a.value) s.call.args

  deep_stmt : (s : StmtTree) → Deep (parts_of_stmt scope s)
  deep_stmt (assign target place e) =
      both (parts_of_operand scope target) (parts_of scope (want_of_target scope target) e) (deep_operand target)
      (deep (want_of_target scope target) e)
  deep_stmt (assign_call target place call) =
      both (parts_of_operand scope target) (parts_of_call scope (site as_value call)) (deep_operand target) (deep_call (site as_value call))
  deep_stmt (if_ conditions other place) = flat (parts_of scope nothing) (deep nothing) (conditions_of conditions)
  deep_stmt (case_ selector choices other place) = deep nothing selector
  deep_stmt (for_ name name_place first last by body place) =
      both (parts_of scope (want_of_counter scope name name_place) first) (parts_of scope (want_of_counter scope name name_place) last)
      (deep (want_of_counter scope name name_place) first) (deep (want_of_counter scope name name_place) last)
  deep_stmt (while_ condition body place) = deep nothing condition
  deep_stmt (repeat_ body condition place) = deep nothing condition
  deep_stmt (exit_ place) = λ h. tt
  deep_stmt (continue_ place) = λ h. tt
  deep_stmt (return_ place) = λ h. tt
  deep_stmt (call_ call) = deep_call (site as_statement call)
  deep_stmt (empty_ place) = λ h. tt

  deep_instruction : (i : InstrTree) → Deep (parts_of_instruction scope i)
  deep_instruction i =
      both (flat_map (parts_of_operand scope) (option_to_list (operand_of_instruction i))) (flat_map (parts_of_call scope) (calls_of_instruction i))
      (flat (parts_of_operand scope) deep_operand (option_to_list (operand_of_instruction i)))
      (flat (parts_of_call scope) deep_call (calls_of_instruction i))

-- of a block
pub deep_block : (P : Part → Type 0) (project : ProjectTree) (b : BlockTree) → AllByRecursion P (parts_of_block project b)
    → AllByRecursion (Whole P (record { project = project; block = b })) (parts_of_block project b)
deep_block P project b =
    both P scope _ (flat_map (λ v. parts_of_operand scope v.0) (starts_of b.body))
    (both P scope (flat_map (λ (s : Spot). parts_of_stmt scope s.stmt) (spots_of_body b.body))
    (flat_map (parts_of_instruction scope) (instructions_of b.body))
    (flat P scope (λ (s : Spot). parts_of_stmt scope s.stmt) (λ s. deep_stmt P scope s.stmt) (spots_of_body b.body))
    (flat P scope (parts_of_instruction scope) (deep_instruction P scope) (instructions_of b.body)))
    (flat P scope (λ v. parts_of_operand scope v.0) (λ v. deep_operand P scope v.0) (starts_of b.body))
  where
    scope : Scope
    scope = record { project = project; block = b }
