-- Each rule is broken at a place of the project's blocks, rule by rule.
use Rattle.std.proofs.Common.{◌≡◌, ◌⊎◌, inl, inr, ℕ, zero, suc, List, [], ◌∷◌, ◌++◌, map, Option, Some, None, subst}
use Rattle.std.specs.Prelude.{Any, Contains, filter_map, option_to_list, option_and_then, IsSomeAnd, slice_get, fold, Bool as Truth, true, false, if◌then◌else◌}
use Rattle.std.specs.List.{AllByRecursion, cons_option}
use Rattle.std.proofs.lemmas.Option.{none-some, same_Some}
use Rattle.pv_place.specs.declared.place.Place.{Place}
use Rattle.pv_types.specs.declared.declaration.Literal.{Literal}
use Rattle.pv_types.specs.Tree.{TypeTree, plain, array, structure, named, unread, VarTree, var}
use Rattle.pv_types.specs.View.{fields_of, place_of}
use Rattle.pv_tree.specs.declared.expr.Root.{Root}
use Rattle.pv_tree.specs.declared.expr.Root.TheVariants.{Local, Named, Area}
use Rattle.pv_tree.specs.declared.stmt.Choice.{Choice}
use Rattle.pv_tree.specs.declared.stmt.Choice.TheVariants.{Lit, Const}
use Rattle.pv_tree.specs.Tree.{PlacedName, ExprTree, lit, read, unary, binary, std, paren, OperandTree, operand, StepTrees, no_steps, steps, ArgTree, StmtTree, assign, assign_call, if_, case_, for_, while_, repeat_, exit_, continue_, return_, call_, empty_, InstrTree, BlockTree}
use Rattle.pv_tree.specs.LiteralTypes.{Want, this, nothing, unsure}
use Rattle.pv_tree.specs.Scopes.{ProjectTree, Scope}
use Rattle.pv_tree.specs.Things.{Thing, part, constant, a_block, no_name, no_array, a_date, untold, first_place, thing_of_word}
use Rattle.pv_tree.specs.InstructionGroups.{Group, bit_read, bit_written, load, transfer, word_logic, double_logic, word_shift, double_shift, no_operation, display, jump, opening, closing, block_end, calling, alone, group_of, is_jump, is_written, label_behind, label_of_operand, label_of_jump, operand_of_instruction, first_place_of}
use Rattle.pv_tree.specs.Callees.{CallSite}
use Rattle.pv_tree.specs.Interfaces.{names_of_vars, IsLater, all_types, all_vars}
use Rattle.pv_tree.specs.Parts.{Spot, spots_of_body, instructions_of, starts_of, Part, parts_of_block, Path, indexes_of, paths_of, operands_of, reads_of_parts, calls_of, calls_of_stmt, target_of, written_operands}
use Rattle.pv_tree.specs.Rules.{Rule, Breaks, doubled_name, missing_name, missing_type, misfit, wrong_condition, out_of_range, wrong_array, beyond_bounds, fixed_target, wrong_counter, wrong_step, outside_loop, wrong_case, cycle, too_deep, not_callable as wrongly_called, wrong_argument, fixed_output, wrong_label, wrong_range, wrong_nesting, refused_operand, wrong_address, no_pattern}
use Rattle.pv_tree.specs.Rules.DoubledNames.{DoublesField, DoublesName, IsDoubledName}
use Rattle.pv_tree.specs.Rules.MissingNames.{values_of_case, counter_of, words_of, IsMissingIn, IsMissingName}
use Rattle.pv_tree.specs.Rules.MissingTypes.{named_types, IsMissingType}
use Rattle.pv_tree.specs.Rules.Misfits.{Misapplies, Misindexes, MisusesPath, MisstartsVar, MisstartsThing, MisstartsPart, MisfitsCounter, MisfitsStmt, NamesDate, MisfitsArg, MisfitsCall, MisfitsIn, MisfitsBlock, IsMisfit}
use Rattle.pv_tree.specs.Rules.Conditions.{conditions_of_stmt, HasNoCondition, IsWrongCondition}
use Rattle.pv_tree.specs.Rules.OutOfRange.{IsStartOutside, IsThingOutside, IsChoiceOutside, IsStmtOutside, IsBlockOutside, IsOutOfRange}
use Rattle.pv_tree.specs.Rules.Arrays.{IsWrongType, IsWrongArray, IsBeyond, IsBeyondBounds}
use Rattle.pv_tree.specs.Rules.Targets.{IsFixedTarget, HasFixedArgument, IsFixedOutput}
use Rattle.pv_tree.specs.Rules.Loops.{DisturbsCounter, IsWrongCounter, StepsWrong, IsWrongStep, IsOutsideLoop}
use Rattle.pv_tree.specs.Rules.Cases.{IsWrongValue, ChoosesWrong, IsWrongCase}
use Rattle.pv_tree.specs.Rules.Chains.{CallsInCycle, IsCycle, CallsTooDeep, IsTooDeep}
use Rattle.pv_tree.specs.Rules.Callable.{read_operand, CallsWrong, IsNotCallable}
use Rattle.pv_tree.specs.Rules.Arguments.{place_of_word, words_of_args, GivesWrong, IsWrongArgument}
use Rattle.pv_tree.specs.Rules.Jumps.{labels_of, MissesLabel, IsWrongLabel, Enters, Crosses, IsWrongRange}
use Rattle.pv_tree.specs.Rules.OpenNestings.{closed, open_behind, open_after, IsWrongBehind, NestsWrong, IsWrongNesting}
use Rattle.pv_tree.specs.Rules.Behind.{IsRefused}
use Rattle.pv_tree.specs.Rules.Addresses.{IsWrongAddress}
use Rattle.pv_laws_places.specs.Kept.{EachOfName, EachOfRoot, EachOfExpr, EachOfOperand, EachOfOperandOption, EachOfArg, EachOfChoice, EachOfStmt, EachOfInstr, EachOfType, EachOfStart, EachOfBlock, EachOfBlocks}
use Rattle.pv_laws_places.proofs.Lists.{each-append, each-behind, each-map, each-contained, met}
use Rattle.pv_laws_places.proofs.Parts.{operand-option, name-option, literal-option, place-of, place-of-first, SpotHas, body-spots, body-instrs, body-starts, PartHas, SiteHas, stmt-calls, block-calls, arm-conditions, instr-operand, block-parts, reads, targets, written, operands, case-values, counters, words, EachOfVar, block-types, block-vars, block-type-names, declared-names, field-names}
use Rattle.pv_laws_places.proofs.Things.{EachOfThing, word-thing, thing-dated, PathHas, operand-path, path-thing, block-paths, IndexHas, path-indexes, EachOfCallee, site-callee}

-- ---- lists

-- each that the options of a list give
given : {Y : Type 0} (B : Y → Type 0) (o : Option Y) (rest : List Y) → AllByRecursion B (option_to_list o) → AllByRecursion B rest
    → AllByRecursion B (cons_option o rest)
given B None rest b a = a
given B (Some y) rest b a = (b.0, a)

each-given : {X Y : Type 0} (A : X → Type 0) (B : Y → Type 0) (f : X → Option Y) → ((x : X) → A x → AllByRecursion B (option_to_list (f x)))
    → (xs : List X) → AllByRecursion A xs → AllByRecursion B (filter_map f xs)
each-given A B f g [] a = tt
each-given A B f g (x ∷ xs) a = given B (f x) (filter_map f xs) (g x a.0) (each-given A B f g xs a.1)

each-got : {X : Type 0} (A : X → Type 0) (xs : List X) (k : ℕ) (x : X) → AllByRecursion A xs → slice_get xs k ≡ Some x → A x
each-got A [] k x a e = absurd (none-some x e)
each-got A (y ∷ ys) zero x a e = subst A (same_Some y x e) a.0
each-got A (y ∷ ys) (suc k) x a e = each-got A ys k x a.1 e

later-at : (P : Place → Type 0) (names : List PlacedName) (at : Place) → AllByRecursion (λ n. P n.1) names → IsLater names at → P at
later-at P names at a l =
    subst P l.is_at (each-behind (λ n. P n.1) l.front (l.later ∷ l.back) (subst (AllByRecursion (λ n. P n.1)) l.split a)).0

-- ---- blocks

-- what is so of some block at a place, where that is so by the block's own places
in-block : (P : Place → Type 0) (Q : BlockTree → Type 0) (at : Place) (blocks : List BlockTree) → EachOfBlocks P blocks → Any Q blocks
    → ((b : BlockTree) → EachOfBlock P b → Q b → P at) → P at
in-block P Q at blocks a any f = met (EachOfBlock P) Q blocks a any f

-- ---- rules on declarations

doubled : (P : Place → Type 0) (project : ProjectTree) (at : Place) → EachOfBlocks P project.blocks → IsDoubledName project at → P at
doubled P project at a (inl l) =
    later-at P (map (λ b. (b.name, b.place)) project.blocks) at
    (each-map (EachOfBlock P) (λ n. P n.1) (λ b. (b.name, b.place)) (λ b k. k.its_own) project.blocks a) l
doubled P project at a (inr any) = in-block P (DoublesName at) at project.blocks a any one
  where
    in-type : (ty : TypeTree) → EachOfType P ty → DoublesField at ty → P at
    in-type (structure vars) t d = later-at P (names_of_vars (fields_of vars)) at (field-names P vars t) d
    in-type (plain ty) t d = absurd d
    in-type (array low high of place) t d = absurd d
    in-type (named name place) t d = absurd d
    in-type unread t d = absurd d

    one : (b : BlockTree) → EachOfBlock P b → DoublesName at b → P at
    one b k (inl l) = later-at P (names_of_vars b.vars) at (declared-names P b.vars k.its_vars) l
    one b k (inr d) = met (EachOfType P) (DoublesField at) (all_types b.vars) (block-types P b k) d in-type

untyped : (P : Place → Type 0) (project : ProjectTree) (at : Place) → EachOfBlocks P project.blocks → IsMissingType project at → P at
untyped P project at a any =
    in-block P _ at project.blocks a any
    (λ b k d. met (λ n. P n.1) _ (named_types b) (block-type-names P b k) d (λ n p m. subst P m.0 p))

array-wrong : (P : Place → Type 0) (project : ProjectTree) (at : Place) → EachOfBlocks P project.blocks → IsWrongArray project at → P at
array-wrong P project at a any =
    in-block P _ at project.blocks a any (λ b k d. met (EachOfType P) (IsWrongType at) (all_types b.vars) (block-types P b k) d in-type)
  where
    in-type : (ty : TypeTree) → EachOfType P ty → IsWrongType at ty → P at
    in-type (array low high of place) t d = subst P d.0 t.0
    in-type (plain ty) t d = absurd d
    in-type (structure vars) t d = absurd d
    in-type (named name place) t d = absurd d
    in-type unread t d = absurd d

-- ---- rules on names

missing : (P : Place → Type 0) (project : ProjectTree) (at : Place) → EachOfBlocks P project.blocks → IsMissingName project at → P at
missing P project at a any = in-block P (IsMissingIn project at) at project.blocks a any one
  where
    one : (b : BlockTree) → EachOfBlock P b → IsMissingIn project at b → P at
    one b k (inl d) =
        met (PathHas P) _ (paths_of project b) (block-paths P project b k) d
        (λ p h e. subst (EachOfThing P) e (path-thing P (record { project = project; block = b }) p h))
    one b k (inr (inl d)) =
        met (SiteHas P) _ (calls_of b) (block-calls P b k) d
        (λ s h e. subst (EachOfCallee P) e (site-callee P (record { project = project; block = b }) s h))
    one b k (inr (inr d)) =
        met (SpotHas P) _ (spots_of_body b.body) (body-spots P b.body k.its_body) d
        (λ s h w. met (λ n. P n.1) _ (words_of s.stmt) (words P s.stmt h) w
        (λ n p e. subst (EachOfThing P) e (word-thing P (record { project = project; block = b }) n.0.key false n.1 p)))

beyond-in : (P : Place → Type 0) (scope : Scope) (at : Place) (p : Path) → PathHas P p → Any (IsBeyond scope at) (indexes_of scope p) → P at
beyond-in P scope at p h any =
    met (IndexHas P) (IsBeyond scope at) (indexes_of scope p) (path-indexes P scope p h) any (λ i e d. subst P d.0 (place-of-first P i.index e))

beyond : (P : Place → Type 0) (project : ProjectTree) (at : Place) → EachOfBlocks P project.blocks → IsBeyondBounds project at → P at
beyond P project at a any =
    in-block P _ at project.blocks a any (λ b k d. met (PathHas P) _ (paths_of project b) (block-paths P project b k) d
    (λ p h x. beyond-in P (record { project = project; block = b }) at p h x))

address : (P : Place → Type 0) (project : ProjectTree) (at : Place) → EachOfBlocks P project.blocks → IsWrongAddress project at → P at
address P project at a any =
    in-block P _ at project.blocks a any (λ b k d. met (EachOfOperand P) _ (operands_of project b) (operands P project b k) d
    (λ o h x. subst P x.0 (place-of P o h)))

-- ---- rules on statements

condition : (P : Place → Type 0) (project : ProjectTree) (at : Place) → EachOfBlocks P project.blocks → IsWrongCondition project at → P at
condition P project at a any =
    in-block P (HasNoCondition project at) at project.blocks a any
    (λ b k d. met (SpotHas P) _ (spots_of_body b.body) (body-spots P b.body k.its_body) d
    (λ s h c. met (EachOfExpr P) _ (conditions_of_stmt s.stmt) (in-stmt s.stmt h) c (λ e x f. subst P f.0 (place-of-first P e x))))
  where
    in-stmt : (s : StmtTree) → EachOfStmt P s → AllByRecursion (EachOfExpr P) (conditions_of_stmt s)
    in-stmt (if_ conditions other place) h = arm-conditions P conditions h.1.0
    in-stmt (while_ condition body place) h = (h.1.0, tt)
    in-stmt (repeat_ body condition place) h = (h.1.1, tt)
    in-stmt (assign target place value) h = tt
    in-stmt (assign_call target place call) h = tt
    in-stmt (case_ selector choices other place) h = tt
    in-stmt (for_ name name_place first last by body place) h = tt
    in-stmt (exit_ place) h = tt
    in-stmt (continue_ place) h = tt
    in-stmt (return_ place) h = tt
    in-stmt (call_ call) h = tt
    in-stmt (empty_ place) h = tt

target : (P : Place → Type 0) (project : ProjectTree) (at : Place) → EachOfBlocks P project.blocks → IsFixedTarget project at → P at
target P project at a any =
    in-block P _ at project.blocks a any (λ b k d. met (EachOfOperand P) _ (written_operands b) (written P b k) d
    (λ o h x. subst P x.0 (place-of P o h)))

counter : (P : Place → Type 0) (project : ProjectTree) (at : Place) → EachOfBlocks P project.blocks → IsWrongCounter project at → P at
counter P project at a any =
    in-block P _ at project.blocks a any (λ b k d. met (SpotHas P) _ (spots_of_body b.body) (body-spots P b.body k.its_body) d
    (λ s h x. elim x [
      | inl n ↦ met (λ m. P m.1) _ (counter_of s.stmt) (counters P s.stmt h) n (λ m p e. subst P e.0 p)
      | inr y ↦ disturbed (record { project = project; block = b }) s h y
    ]))
  where
    disturbed : (scope : Scope) (s : Spot) → SpotHas P s → DisturbsCounter scope at s → P at
    disturbed scope s h (inl d) =
        met (EachOfOperand P) _ (option_to_list (target_of s.stmt)) (targets P s.stmt h) d (λ o k e. subst P e.0 (place-of P o k))
    disturbed scope s h (inr (inl d)) =
        met (SiteHas P) _ (calls_of_stmt s.stmt) (stmt-calls P s.stmt h) d
        (λ c k x. met (EachOfArg P) _ c.call.args k.its_args x (λ arg v e. subst P e.0 (place-of-first P arg.value v.its_value)))
    disturbed scope s h (inr (inr d)) = met (λ m. P m.1) _ (counter_of s.stmt) (counters P s.stmt h) d (λ m p e. subst P e.0 p)

step : (P : Place → Type 0) (project : ProjectTree) (at : Place) → EachOfBlocks P project.blocks → IsWrongStep project at → P at
step P project at a any =
    in-block P _ at project.blocks a any (λ b k d. met (SpotHas P) _ (spots_of_body b.body) (body-spots P b.body k.its_body) d
    (λ s h x. in-stmt (record { project = project; block = b }) s.stmt h x))
  where
    in-stmt : (scope : Scope) (s : StmtTree) → EachOfStmt P s → StepsWrong scope at s → P at
    in-stmt scope (for_ name name_place first last by body place) h d =
        met (λ l. P l.place) _ (option_to_list by) (literal-option P by h.1.1.1.1.0) d (λ l p e. subst P e.0 p)
    in-stmt scope (if_ conditions other place) h d = absurd d
    in-stmt scope (while_ condition body place) h d = absurd d
    in-stmt scope (repeat_ body condition place) h d = absurd d
    in-stmt scope (assign target place value) h d = absurd d
    in-stmt scope (assign_call target place call) h d = absurd d
    in-stmt scope (case_ selector choices other place) h d = absurd d
    in-stmt scope (exit_ place) h d = absurd d
    in-stmt scope (continue_ place) h d = absurd d
    in-stmt scope (return_ place) h d = absurd d
    in-stmt scope (call_ call) h d = absurd d
    in-stmt scope (empty_ place) h d = absurd d

outside : (P : Place → Type 0) (project : ProjectTree) (at : Place) → EachOfBlocks P project.blocks → IsOutsideLoop project at → P at
outside P project at a any =
    in-block P _ at project.blocks a any (λ b k d. met (SpotHas P) _ (spots_of_body b.body) (body-spots P b.body k.its_body) d
    (λ s h x. elim x.1 [
      | inl e ↦ subst (EachOfStmt P) e h
      | inr e ↦ subst (EachOfStmt P) e h
    ]))

in-case : (P : Place → Type 0) (project : ProjectTree) (at : Place) → EachOfBlocks P project.blocks → IsWrongCase project at → P at
in-case P project at a any =
    in-block P _ at project.blocks a any (λ b k d. met (SpotHas P) _ (spots_of_body b.body) (body-spots P b.body k.its_body) d
    (λ s h x. in-stmt (record { project = project; block = b }) s.stmt h x))
  where
    in-choice : (scope : Scope) (want : Want) (c : Choice) → EachOfChoice P c → IsWrongValue scope want at c → P at
    in-choice scope want (Lit literal) h d = subst P d.0 h
    in-choice scope want (Const name place) h d = subst P d.0 h

    in-stmt : (scope : Scope) (s : StmtTree) → EachOfStmt P s → ChoosesWrong scope at s → P at
    in-stmt scope (case_ selector choices other place) h (inl d) = subst P d.0 (place-of-first P selector h.1.0)
    in-stmt scope (case_ selector choices other place) h (inr d) =
        met (EachOfChoice P) _ (values_of_case (case_ selector choices other place)) (case-values P (case_ selector choices other place) h) d
        (λ c k x. in-choice scope _ c k x)
    in-stmt scope (for_ name name_place first last by body place) h d = absurd d
    in-stmt scope (if_ conditions other place) h d = absurd d
    in-stmt scope (while_ condition body place) h d = absurd d
    in-stmt scope (repeat_ body condition place) h d = absurd d
    in-stmt scope (assign target place value) h d = absurd d
    in-stmt scope (assign_call target place call) h d = absurd d
    in-stmt scope (exit_ place) h d = absurd d
    in-stmt scope (continue_ place) h d = absurd d
    in-stmt scope (return_ place) h d = absurd d
    in-stmt scope (call_ call) h d = absurd d
    in-stmt scope (empty_ place) h d = absurd d

-- ---- rules on calls

in-cycle : (P : Place → Type 0) (project : ProjectTree) (at : Place) → EachOfBlocks P project.blocks → IsCycle project at → P at
in-cycle P project at a any =
    in-block P (CallsInCycle project at) at project.blocks a any
    (λ b k d. met (SiteHas P) _ (calls_of b) (block-calls P b k) d (λ s h x. subst P x.0 h.its_own))

too-deep : (P : Place → Type 0) (project : ProjectTree) (at : Place) → EachOfBlocks P project.blocks → IsTooDeep project at → P at
too-deep P project at a any =
    in-block P (CallsTooDeep project at) at project.blocks a any
    (λ b k d. met (SiteHas P) _ (calls_of b) (block-calls P b k) d.1 (λ s h x. subst P x.0 h.its_own))

read-one : (P : Place → Type 0) (i : InstrTree) → EachOfInstr P i → AllByRecursion (EachOfOperand P) (option_to_list (read_operand i))
read-one P i h = operand-option P (read_operand i) (lead (is_written (group_of i.op)))
  where
    lead : (b : Truth) → EachOfOperandOption P (if b then None else operand_of_instruction i)
    lead true = tt
    lead false = instr-operand P i h

callable : (P : Place → Type 0) (project : ProjectTree) (at : Place) → EachOfBlocks P project.blocks → IsNotCallable project at → P at
callable P project at a any = in-block P (CallsWrong project at) at project.blocks a any one
  where
    one : (b : BlockTree) → EachOfBlock P b → CallsWrong project at b → P at
    one b k (inl d) =
        met (SiteHas P) _ (calls_of b) (block-calls P b k) d
        (λ s h e. subst (EachOfCallee P) e (site-callee P (record { project = project; block = b }) s h))
    one b k (inr d) =
        met (EachOfOperand P) _ (reads_of_parts (parts_of_block project b) ++ filter_map read_operand (instructions_of b.body))
        (each-append (EachOfOperand P) (reads_of_parts (parts_of_block project b)) (filter_map read_operand (instructions_of b.body))
        (reads P (parts_of_block project b) (block-parts P project b k))
        (each-given (EachOfInstr P) (EachOfOperand P) read_operand (read-one P) (instructions_of b.body) (body-instrs P b.body k.its_body))) d
        (λ o h x. subst P x.0.0 (operand-path P (record { project = project; block = b }) o h).its_last)

word-place : (P : Place → Type 0) (arg : ArgTree) → EachOfArg P arg → P (place_of_word arg)
word-place P arg h = lead arg.name h.its_word
  where
    lead : (o : Option PlacedName) → EachOfName P o → P (elim o [ None ↦ first_place arg.value | Some word ↦ word.1 ])
    lead None b = place-of-first P arg.value h.its_value
    lead (Some word) b = b

argument : (P : Place → Type 0) (project : ProjectTree) (at : Place) → EachOfBlocks P project.blocks → IsWrongArgument project at → P at
argument P project at a any =
    in-block P _ at project.blocks a any (λ b k d. met (SiteHas P) _ (calls_of b) (block-calls P b k) d (λ s h x. one s x.0 h x.2))
  where
    one : (s : CallSite) (callee : BlockTree) → SiteHas P s → GivesWrong at s callee → P at
    one s callee h (inl d) = met (EachOfArg P) _ s.call.args h.its_args d (λ arg v e. subst P e.0 (word-place P arg v))
    one s callee h (inr (inl d)) =
        later-at P (words_of_args s.call.args) at
        (each-given (EachOfArg P) (λ n. P n.1) (λ x. x.name) (λ x v. name-option P x.name v.its_word) s.call.args h.its_args) d
    one s callee h (inr (inr d)) = subst P d.0 h.its_own

fixed-output : (P : Place → Type 0) (project : ProjectTree) (at : Place) → EachOfBlocks P project.blocks → IsFixedOutput project at → P at
fixed-output P project at a any =
    in-block P (HasFixedArgument project at) at project.blocks a any
    (λ b k d. met (SiteHas P) _ (calls_of b) (block-calls P b k) d
    (λ s h x. met (EachOfArg P) _ s.call.args h.its_args x (λ arg v e. subst P e.0 (place-of-first P arg.value v.its_value))))

-- ---- rules on instructions

labels : (P : Place → Type 0) (list : List InstrTree) → AllByRecursion (EachOfInstr P) list → AllByRecursion (λ n. P n.1) (labels_of list)
labels P list a = each-given (EachOfInstr P) (λ n. P n.1) (λ i. i.label) (λ i h. name-option P i.label h.its_label) list a

label-of : (P : Place → Type 0) (o : OperandTree) → EachOfOperand P o → EachOfName P (label_of_operand o)
label-of P (operand root more place) h = lead root more h.1.0
  where
    lead : (r : Root) (m : StepTrees) → EachOfRoot P r → EachOfName P (label_behind r m)
    lead (Local name true at) m k = tt
    lead (Local name false at) no_steps k = k
    lead (Local name false at) (steps s more) k = tt
    lead (Named name) m k = tt
    lead (Area area bits byte bit) m k = tt

jump-label : (P : Place → Type 0) (i : InstrTree) → EachOfInstr P i → EachOfName P (label_of_jump i)
jump-label P i h = lead (is_jump (group_of i.op)) i.operand h.its_operand
  where
    lead : (b : Truth) (o : Option OperandTree) → EachOfOperandOption P o
        → EachOfName P (if b then option_and_then label_of_operand o else None)
    lead true None k = tt
    lead true (Some o) k = label-of P o k
    lead false o k = tt

label : (P : Place → Type 0) (project : ProjectTree) (at : Place) → EachOfBlocks P project.blocks → IsWrongLabel project at → P at
label P project at a any = in-block P _ at project.blocks a any (λ b k d. one (instructions_of b.body) (body-instrs P b.body k.its_body) d)
  where
    named-at : (Q : PlacedName → Type 0) (o : Option PlacedName) → EachOfName P o → IsSomeAnd o (λ l. (l.1 ≡ at) × Q l) → P at
    named-at Q None h d = absurd d
    named-at Q (Some l) h d = subst P d.0 h

    one : (list : List InstrTree) → AllByRecursion (EachOfInstr P) list → MissesLabel list at ⊎ IsLater (labels_of list) at → P at
    one list h (inl d) = met (EachOfInstr P) _ list h d (λ i k x. named-at _ (label_of_jump i) (jump-label P i k) x)
    one list h (inr d) = later-at P (labels_of list) at (labels P list h) d

range : (P : Place → Type 0) (project : ProjectTree) (at : Place) → EachOfBlocks P project.blocks → IsWrongRange project at → P at
range P project at a any = in-block P _ at project.blocks a any (λ b k d. one (instructions_of b.body) (body-instrs P b.body k.its_body) d)
  where
    one : (list : List InstrTree) → AllByRecursion (EachOfInstr P) list → Enters list at ⊎ Crosses list at → P at
    one list h (inl d) = subst P d.is_at (each-got (EachOfInstr P) list d.from d.jumps.jump h d.jumps.is_jump).its_own
    one list h (inr d) =
        let j = d.later_range.jumps in
        subst P d.is_at (subst (EachOfName P) j.has_label (each-got (EachOfInstr P) list d.later_first j.goal h j.is_goal).its_label)

-- nestings that are open
closed-each : (P : Place → Type 0) (pending : List Place) → AllByRecursion P pending → AllByRecursion P (closed pending)
closed-each P [] a = tt
closed-each P (last ∷ earlier) a = a.1

behind-each : (P : Place → Type 0) (pending : List Place) (g : Group) (place : Place) → AllByRecursion P pending → P place
    → AllByRecursion P (open_behind pending g place)
behind-each P pending opening place a p = (p, a)
behind-each P pending closing place a p = closed-each P pending a
behind-each P pending bit_read place a p = a
behind-each P pending bit_written place a p = a
behind-each P pending load place a p = a
behind-each P pending transfer place a p = a
behind-each P pending word_logic place a p = a
behind-each P pending double_logic place a p = a
behind-each P pending word_shift place a p = a
behind-each P pending double_shift place a p = a
behind-each P pending no_operation place a p = a
behind-each P pending display place a p = a
behind-each P pending jump place a p = a
behind-each P pending block_end place a p = a
behind-each P pending calling place a p = a
behind-each P pending alone place a p = a

open-each : (P : Place → Type 0) (list : List InstrTree) (pending : List Place) → AllByRecursion (EachOfInstr P) list → AllByRecursion P pending
    → AllByRecursion P (fold (λ before i. open_behind before (group_of i.op) i.place) pending list)
open-each P [] pending a p = p
open-each P (i ∷ list) pending a p =
    open-each P list (open_behind pending (group_of i.op) i.place) a.1 (behind-each P pending (group_of i.op) i.place p a.0.its_own)

first-of : (P : Place → Type 0) (i : InstrTree) → EachOfInstr P i → P (first_place_of i)
first-of P i h = lead i.label h.its_label
  where
    lead : (o : Option PlacedName) → EachOfName P o → P (elim o [ None ↦ i.place | Some l ↦ l.1 ])
    lead None b = h.its_own
    lead (Some l) b = b

nesting : (P : Place → Type 0) (project : ProjectTree) (at : Place) → EachOfBlocks P project.blocks → IsWrongNesting project at → P at
nesting P project at a any = in-block P _ at project.blocks a any (λ b k d. one (instructions_of b.body) (body-instrs P b.body k.its_body) d)
  where
    wrong : (pending : List Place) (i : InstrTree) → EachOfInstr P i → IsWrongBehind pending at i → P at
    wrong pending i h (inl d) = subst P d.0 h.its_own
    wrong pending i h (inr (inl d)) = subst P d.0 h.its_own
    wrong pending i h (inr (inr d)) = subst P d.0 (first-of P i h)

    one : (list : List InstrTree) → AllByRecursion (EachOfInstr P) list → NestsWrong list at ⊎ Contains (open_after list) at → P at
    one list h (inl d) =
        wrong (open_after d.front) d.instruction
        (each-behind (EachOfInstr P) d.front (d.instruction ∷ d.back) (subst (AllByRecursion (EachOfInstr P)) d.split h)).0 d.is_wrong
    one list h (inr c) = each-contained P (open_after list) at (open-each P list [] h tt) c

refused : (P : Place → Type 0) (project : ProjectTree) (at : Place) → EachOfBlocks P project.blocks → IsRefused project at → P at
refused P project at a any =
    in-block P _ at project.blocks a any (λ b k d. met (EachOfInstr P) _ (instructions_of b.body) (body-instrs P b.body k.its_body) d
    (λ i h x. elim x [
      | inl o ↦ met (EachOfOperand P) _ (option_to_list i.operand) (operand-option P i.operand h.its_operand) o
          (λ v k e. subst P e.0 (place-of P v k))
      | inr l ↦ met (λ v. P v.place) _ (option_to_list i.literal) (literal-option P i.literal h.its_literal) l (λ v p e. subst P e.0 p)
    ]))

-- ---- literals outside their types

var-outside : (P : Place → Type 0) (at : Place) (v : VarTree) → EachOfVar P v → IsStartOutside at v → P at
var-outside P at (var name section ty None place) h d = absurd d
var-outside P at (var name section ty (Some literal) place) h d = subst P d.0 h.1.1

thing-outside : (P : Place → Type 0) (at : Place) (l : Literal) (thing : Thing) → P l.place → IsThingOutside at l thing → P at
thing-outside P at l (part ty) p d = subst P d.0 p
thing-outside P at l (constant ty) p d = subst P d.0 p
thing-outside P at l (a_block b) p d = subst P d.0 p
thing-outside P at l (no_name place) p d = subst P d.0 p
thing-outside P at l (no_array place) p d = subst P d.0 p
thing-outside P at l (a_date place) p d = subst P d.0 p
thing-outside P at l untold p d = subst P d.0 p

choice-outside : (P : Place → Type 0) (want : Want) (at : Place) (c : Choice) → EachOfChoice P c → IsChoiceOutside want at c → P at
choice-outside P want at (Lit literal) h d = subst P d.0 h
choice-outside P want at (Const name place) h d = absurd d

stmt-outside : (P : Place → Type 0) (scope : Scope) (at : Place) (s : StmtTree) → EachOfStmt P s → IsStmtOutside scope at s → P at
stmt-outside P scope at (case_ selector choices other place) h d =
    met (EachOfChoice P) _ (values_of_case (case_ selector choices other place)) (case-values P (case_ selector choices other place) h) d
    (λ c k x. choice-outside P _ at c k x)
stmt-outside P scope at (for_ name name_place first last by body place) h d =
    met (λ l. P l.place) _ (option_to_list by) (literal-option P by h.1.1.1.1.0) d (λ l p e. subst P e.0 p)
stmt-outside P scope at (if_ conditions other place) h d = absurd d
stmt-outside P scope at (while_ condition body place) h d = absurd d
stmt-outside P scope at (repeat_ body condition place) h d = absurd d
stmt-outside P scope at (assign target place value) h d = absurd d
stmt-outside P scope at (assign_call target place call) h d = absurd d
stmt-outside P scope at (exit_ place) h d = absurd d
stmt-outside P scope at (continue_ place) h d = absurd d
stmt-outside P scope at (return_ place) h d = absurd d
stmt-outside P scope at (call_ call) h d = absurd d
stmt-outside P scope at (empty_ place) h d = absurd d

outside-type : (P : Place → Type 0) (project : ProjectTree) (at : Place) → EachOfBlocks P project.blocks → IsOutOfRange project at → P at
outside-type P project at a any = in-block P (IsBlockOutside project at) at project.blocks a any one
  where
    one : (b : BlockTree) → EachOfBlock P b → IsBlockOutside project at b → P at
    one b k (inl d) =
        met (PartHas P) _ (parts_of_block project b) (block-parts P project b k) d (λ p h x. subst P x.0 (place-of-first P p.expr h))
    one b k (inr (inl d)) = met (EachOfVar P) (IsStartOutside at) (all_vars b.vars) (block-vars P b k) d (var-outside P at)
    one b k (inr (inr (inl d))) =
        met (EachOfStart P) _ (starts_of b.body) (body-starts P b.body k.its_body) d (λ v h x. thing-outside P at v.1 _ h.1 x)
    one b k (inr (inr (inr (inl d)))) =
        met (SpotHas P) _ (spots_of_body b.body) (body-spots P b.body k.its_body) d
        (λ s h x. stmt-outside P (record { project = project; block = b }) at s.stmt h x)
    one b k (inr (inr (inr (inr d)))) =
        met (EachOfInstr P) _ (instructions_of b.body) (body-instrs P b.body k.its_body) d
        (λ i h x. met (λ l. P l.place) _ (option_to_list i.literal) (literal-option P i.literal h.its_literal) x (λ l p e. subst P e.0 p))

-- ---- types that don't fit

misapplied : (P : Place → Type 0) (scope : Scope) (at : Place) (e : ExprTree) → EachOfExpr P e → Misapplies scope at e → P at
misapplied P scope at (lit ty value place) h d = absurd d
misapplied P scope at (read o) h d = absurd d
misapplied P scope at (unary op place arg) h d = subst P d.0 h.0
misapplied P scope at (binary op place left right) h d = subst P d.0 h.0
misapplied P scope at (std function place args) h d = subst P d.0 h.0
misapplied P scope at (paren place inner) h d = absurd d

misused : (P : Place → Type 0) (scope : Scope) (at : Place) (p : Path) → PathHas P p → MisusesPath scope at p → P at
misused P scope at p h (inl e) = subst (EachOfThing P) e (path-thing P scope p h)
misused P scope at p h (inr (inl e)) = subst (EachOfThing P) e (path-thing P scope p h)
misused P scope at p h (inr (inr d)) =
    met (IndexHas P) (Misindexes scope at) (indexes_of scope p) (path-indexes P scope p h) d (λ i e x. subst P x.0 (place-of-first P i.index e))

misfits-in : (P : Place → Type 0) (scope : Scope) (at : Place) (parts : List Part) (paths : List Path) → AllByRecursion (PartHas P) parts
    → AllByRecursion (PathHas P) paths → MisfitsIn scope at parts paths → P at
misfits-in P scope at parts paths a b (inl d) = met (PartHas P) _ parts a d (λ p h x. misapplied P scope at p.expr h x)
misfits-in P scope at parts paths a b (inr d) = met (PathHas P) (MisusesPath scope at) paths b d (λ p h x. misused P scope at p h x)

var-place : (P : Place → Type 0) (v : VarTree) → EachOfVar P v → P (place_of v)
var-place P (var name section ty start place) h = h.0

misstarted : (P : Place → Type 0) (scope : Scope) (at : Place) (v : VarTree) → EachOfVar P v → MisstartsVar scope at v → P at
misstarted P scope at (var name section ty None place) h d = absurd d
misstarted P scope at (var name section ty (Some literal) place) h d = subst P d.0 h.1.1

misstarted-thing : (P : Place → Type 0) (scope : Scope) (at : Place) (l : Literal) (thing : Thing) → P l.place → MisstartsThing scope at l thing → P at
misstarted-thing P scope at l (part ty) p d = subst P d.0 p
misstarted-thing P scope at l (constant ty) p d = absurd d
misstarted-thing P scope at l (a_block b) p d = absurd d
misstarted-thing P scope at l (no_name place) p d = absurd d
misstarted-thing P scope at l (no_array place) p d = absurd d
misstarted-thing P scope at l (a_date place) p d = absurd d
misstarted-thing P scope at l untold p d = absurd d

misfit-counter : (P : Place → Type 0) (scope : Scope) (at : Place) (want : Want) (e : ExprTree) → EachOfExpr P e → MisfitsCounter scope at want e → P at
misfit-counter P scope at (this ty) e h d = subst P d.0 (place-of-first P e h)
misfit-counter P scope at nothing e h d = subst P d.0 (place-of-first P e h)
misfit-counter P scope at unsure e h d = subst P d.0 (place-of-first P e h)

misfit-stmt : (P : Place → Type 0) (scope : Scope) (at : Place) (s : StmtTree) → EachOfStmt P s → MisfitsStmt scope at s → P at
misfit-stmt P scope at (assign target place value) h d = subst P d.0 h.0
misfit-stmt P scope at (assign_call target place call) h d = subst P d.0 h.0
misfit-stmt P scope at (for_ name name_place first last by body place) h (inl d) = misfit-counter P scope at _ first h.1.1.0 d
misfit-stmt P scope at (for_ name name_place first last by body place) h (inr d) = misfit-counter P scope at _ last h.1.1.1.0 d
misfit-stmt P scope at (if_ conditions other place) h d = absurd d
misfit-stmt P scope at (case_ selector choices other place) h d = absurd d
misfit-stmt P scope at (while_ condition body place) h d = absurd d
misfit-stmt P scope at (repeat_ body condition place) h d = absurd d
misfit-stmt P scope at (exit_ place) h d = absurd d
misfit-stmt P scope at (continue_ place) h d = absurd d
misfit-stmt P scope at (return_ place) h d = absurd d
misfit-stmt P scope at (call_ call) h d = absurd d
misfit-stmt P scope at (empty_ place) h d = absurd d

names-date : (P : Place → Type 0) (scope : Scope) (at : Place) (s : StmtTree) → EachOfStmt P s → NamesDate scope at s → P at
names-date P scope at s h d =
    met (λ n. P n.1) _ (words_of s) (words P s h) d
    (λ n p e. subst (EachOfThing P) e (thing-dated P n.1 (thing_of_word scope n.0.key false n.1) p
    (word-thing P scope n.0.key false n.1 p)))

misfit-call : (P : Place → Type 0) (scope : Scope) (at : Place) (s : CallSite) → SiteHas P s → MisfitsCall scope at s → P at
misfit-call P scope at s h (inl d) = met (EachOfArg P) (MisfitsArg scope at s) s.call.args h.its_args d (λ arg v e. subst P e.0 v.its_own)
misfit-call P scope at s h (inr (inl d)) = subst P d.0 h.its_name
misfit-call P scope at s h (inr (inr d)) =
    met (λ n. P n.1) _ (option_to_list s.call.base) (name-option P s.call.base h.its_base) d (λ n p e. subst P e.0 p)

misfits : (P : Place → Type 0) (project : ProjectTree) (at : Place) → EachOfBlocks P project.blocks → IsMisfit project at → P at
misfits P project at a any = in-block P (MisfitsBlock project at) at project.blocks a any one
  where
    scope_of : BlockTree → Scope
    scope_of b = record { project = project; block = b }

    one : (b : BlockTree) → EachOfBlock P b → MisfitsBlock project at b → P at
    one b k (inl d) = misfits-in P (scope_of b) at (parts_of_block project b) (paths_of project b) (block-parts P project b k) (block-paths P project b k) d
    one b k (inr (inl d)) = met (EachOfVar P) _ (all_vars b.vars) (block-vars P b k) d (λ v h x. subst P x.0 (var-place P v h))
    one b k (inr (inr (inl d))) =
        met (EachOfVar P) (MisstartsVar (scope_of b) at) (all_vars b.vars) (block-vars P b k) d (misstarted P (scope_of b) at)
    one b k (inr (inr (inr (inl d)))) =
        met (EachOfStart P) (MisstartsPart (scope_of b) at) (starts_of b.body) (body-starts P b.body k.its_body) d
        (λ v h x. misstarted-thing P (scope_of b) at v.1 _ h.1 x)
    one b k (inr (inr (inr (inr (inl d))))) =
        met (SpotHas P) _ (spots_of_body b.body) (body-spots P b.body k.its_body) d
        (λ s h x. elim x [
          | inl y ↦ misfit-stmt P (scope_of b) at s.stmt h y
          | inr y ↦ names-date P (scope_of b) at s.stmt h y
        ])
    one b k (inr (inr (inr (inr (inr d))))) =
        met (SiteHas P) (MisfitsCall (scope_of b) at) (calls_of b) (block-calls P b k) d (misfit-call P (scope_of b) at)

-- ---- all rules

pub broken-at : (P : Place → Type 0) (rule : Rule) (project : ProjectTree) (at : Place) → EachOfBlocks P project.blocks → Breaks rule project at → P at
broken-at P doubled_name project at a d = doubled P project at a d
broken-at P missing_name project at a d = missing P project at a d
broken-at P missing_type project at a d = untyped P project at a d
broken-at P misfit project at a d = misfits P project at a d
broken-at P wrong_condition project at a d = condition P project at a d
broken-at P out_of_range project at a d = outside-type P project at a d
broken-at P wrong_array project at a d = array-wrong P project at a d
broken-at P beyond_bounds project at a d = beyond P project at a d
broken-at P fixed_target project at a d = target P project at a d
broken-at P wrong_counter project at a d = counter P project at a d
broken-at P wrong_step project at a d = step P project at a d
broken-at P outside_loop project at a d = outside P project at a d
broken-at P wrong_case project at a d = in-case P project at a d
broken-at P cycle project at a d = in-cycle P project at a d
broken-at P too_deep project at a d = too-deep P project at a d
broken-at P wrongly_called project at a d = callable P project at a d
broken-at P wrong_argument project at a d = argument P project at a d
broken-at P fixed_output project at a d = fixed-output P project at a d
broken-at P wrong_label project at a d = label P project at a d
broken-at P wrong_range project at a d = range P project at a d
broken-at P wrong_nesting project at a d = nesting P project at a d
broken-at P refused_operand project at a d = refused P project at a d
broken-at P wrong_address project at a d = address P project at a d
broken-at P no_pattern project at a d = absurd d
