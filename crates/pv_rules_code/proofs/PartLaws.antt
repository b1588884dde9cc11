-- What is nearest at the expressions, the operands and the words of a project is the least place at which its rule is broken.
use Rattle.std.proofs.Common.{◌≡◌, inl, inr, refl, sym, ap, subst, [], ◌++◌, map, Option, Some, false, true≢false, IsTrue, is_some}
use Rattle.std.specs.Prelude.{◌⊎◌, Any, flat_map, option_to_list, option_and_then, unwrap_or}
use Rattle.pv_place.specs.declared.place.Place.{Place}
use Rattle.pv_tree.specs.declared.stmt.Choice.{Choice}
use Rattle.pv_tree.specs.declared.stmt.Choice.TheVariants.{Lit, Const}
use Rattle.pv_tree.specs.Tree.{PlacedName, ExprTree, OperandTree, operand, StmtTree, assign, assign_call, if_, case_, for_, while_, repeat_, exit_, continue_, return_, call_, empty_, InstrTree, BlockTree}
use Rattle.pv_tree.specs.LiteralTypes.{Want, nothing, this, unsure}
use Rattle.pv_tree.specs.Sorts.{one, taken, is_whole}
use Rattle.pv_tree.specs.Scopes.{ProjectTree, Scope}
use Rattle.pv_tree.specs.Things.{Thing, part, constant, a_block, no_name, no_array, a_date, untold, thing_of, thing_of_word, dated, first_place, root_place}
use Rattle.pv_tree.specs.Types.{sort_of}
use Rattle.pv_tree.specs.InstructionGroups.{operand_of_instruction}
use Rattle.pv_tree.specs.Callees.{callee_of, not_declared}
use Rattle.pv_tree.specs.Parts.{Part, Spot, spots_of_body, parts_of_stmt, parts_of_instruction, operand_of, operands_read, reads_of_parts, path_of, thing_of_path, indexes_of, target_of, assigned_operands, instruction_operands, calls_of, want_of_counter}
use Rattle.pv_tree.specs.Fits.{doesnt_fit}
use Rattle.pv_tree.specs.Rules.MissingNames.{MissesName, counter_of, values_of_case, name_of_choice, words_of}
use Rattle.pv_tree.specs.Rules.OutOfRange.{IsPartOutside, IsLiteralOutside, IsChoiceOutside, IsStmtOutside, is_outside, want_of_selector}
use Rattle.pv_tree.specs.Rules.Misfits.{MisusesPath, Misapplies, MisfitsCounter, MisfitsStmt, NamesDate, MisfitsArg, MisfitsCall, CallsDate}
use Rattle.pv_tree.specs.Rules.Arrays.{IsBeyond}
use Rattle.pv_tree.specs.Rules.Addresses.{HasWrongAddress}
use Rattle.pv_tree.specs.Rules.Callable.{ReadsVoid, is_void_thing}
use Rattle.pv_rules_expr.specs.Nearest.{is_before, IsNearest}
use Rattle.pv_rules_expr.specs.Looks.{nearer_of, part_place}
use Rattle.pv_rules_expr.specs.Operands.{name_at, address_at, void_at}
use Rattle.pv_rules_code.specs.AtAssignments.{assigned_misfits, called_misfits, bound_at, misfit_place}
use Rattle.pv_rules_code.specs.AtLoops.{date_of, word_date, word_missing, count_at, by_at, step_place}
use Rattle.pv_rules_code.specs.AtCases.{value_at, values_place}
use Rattle.pv_rules_code.specs.AtTargets.{target_place}
use Rattle.pv_rules_expr.specs.Indexes.{index_at, misused_at}
use Rattle.pv_rules_expr.specs.declared.indexes.IndexFault.TheVariants as index
use Rattle.pv_rules_code.specs.InCode.{code_parts, code_operands, MissesIn, MisfitsIn, OutsideIn, VoidsIn}
use Rattle.pv_rules_code.specs.Sites.{site_place, instr_place, in_block, project_place}
use Rattle.pv_rules_expr.specs.declared.search.Look.{Look}
use Rattle.pv_rules_expr.specs.declared.search.Look.TheVariants as look
use Rattle.pv_rules_code.specs.Sought.Site as site
use Rattle.pv_rules_code.specs.Sought.Ask as ask
use Rattle.pv_rules_code.specs.Sought.Pass as pass
use Rattle.pv_rules_code.specs.Sought.Count.{Count}
use Rattle.pv_rules_code.specs.Sought.Pick.{Pick}
use Rattle.pv_rules_code.specs.Sought.Aim.{Aim}
use Rattle.pv_rules_code.specs.Sought.Aim as aim
use Rattle.pv_rules_code.specs.Sought.Count as count
use Rattle.pv_rules_code.specs.Sought.Pick as pick
use Rattle.pv_rules_code.specs.Sought.Stride as stride
use Rattle.pv_rules_expr.proofs.ForCallers.{itself, any_has, has_any}
use Rattle.pv_rules_expr.proofs.ForCallers.{nearest_both, nearest_where, near_any, misapplied_nearest, outside_nearest}
use Rattle.pv_rules_expr.proofs.ForCallers.{mapped_to, mapped_from, name_nearest, missing_nearest, address_nearest, IsWrongAt}
use Rattle.pv_rules_expr.proofs.ForCallers.{misused_path, beyond_path}
use Rattle.pv_rules_expr.proofs.ForCallers.{in_any, nearest_is}
use Rattle.pv_rules_code.proofs.AnyLaws.{any_append, any_of_append, any_flat, any_of_flat, of_option_any, join_any, same_any}
use Rattle.pv_rules_code.proofs.CallLaws.{OnCalls, join_calls, missing_callee, called_date, misfit_argument}
use Rattle.pv_rules_code.proofs.SiteLaws.{OnSpots, over_project, on_both, on_spots, never_at, join_spots, same_spots}

-- ---- over the expressions of a project

pub on_parts : (what : Look) (P : Scope → Place → Part → Type 0)
    → ((scope : Scope) (p : Part) → IsNearest (λ at. P scope at p) (part_place what scope p.want p.expr)) → (project : ProjectTree)
    → IsNearest (λ at. Any (λ b. Any (P (in_block project b) at) (code_parts project b)) project.blocks) (project_place (site.Parts what) project)
on_parts what P law project =
    on_both (λ scope s. parts_of_stmt scope s.stmt) parts_of_instruction P project (project_place (site.Parts what) project)
    (over_project (site.Parts what) (λ scope at s. Any (P scope at) (parts_of_stmt scope s.stmt)) (λ scope at i. Any (P scope at) (parts_of_instruction scope i))
    (λ scope s. near_any what scope (λ p at. P scope at p) (law scope) (parts_of_stmt scope s.stmt))
    (λ scope i. near_any what scope (λ p at. P scope at p) (law scope) (parts_of_instruction scope i)) project)

pub misapplied_parts : (project : ProjectTree)
    → IsNearest (λ at. Any (λ b. Any (λ p. Misapplies (in_block project b) at p.expr) (code_parts project b)) project.blocks)
    (project_place (site.Parts look.Misapplied) project)
misapplied_parts project = on_parts look.Misapplied (λ scope at p. Misapplies scope at p.expr) (λ scope p. misapplied_nearest scope p.expr) project

pub outside_parts : (project : ProjectTree)
    → IsNearest (λ at. Any (λ b. Any (IsPartOutside at) (code_parts project b)) project.blocks) (project_place (site.Parts look.Outside) project)
outside_parts project = on_parts look.Outside (λ scope at p. IsPartOutside at p) (λ scope p. outside_nearest p) project

-- the operands that they read
pub on_reads : (what : Look) (Q : Scope → Place → OperandTree → Type 0) (f : Scope → OperandTree → Option Place)
    → ((scope : Scope) (p : Part) → part_place what scope p.want p.expr ≡ option_and_then (f scope) (operand_of p.expr))
    → ((scope : Scope) (o : OperandTree) → IsNearest (λ at. Q scope at o) (f scope o)) → (project : ProjectTree)
    → IsNearest (λ at. Any (λ b. Any (Q (in_block project b) at) (reads_of_parts (code_parts project b))) project.blocks)
    (project_place (site.Parts what) project)
on_reads what Q f is law project =
    same_any (λ b at. Any (λ p. Any (Q (in_block project b) at) (operands_read p.expr)) (code_parts project b))
    (λ b at. Any (Q (in_block project b) at) (reads_of_parts (code_parts project b))) project.blocks (project_place (site.Parts what) project)
    (λ b at a. any_flat (Q (in_block project b) at) (λ p. operands_read p.expr) (code_parts project b) a)
    (λ b at a. any_of_flat (Q (in_block project b) at) (λ p. operands_read p.expr) (code_parts project b) a)
    (on_parts what (λ scope at p. Any (Q scope at) (operands_read p.expr))
    (λ scope p. nearest_is (λ at. Any (Q scope at) (operands_read p.expr)) (part_place what scope p.want p.expr)
    (option_and_then (f scope) (operand_of p.expr)) (is scope p)
    (of_option_any (λ o at. Q scope at o) (f scope) (law scope) (operand_of p.expr))) project)

-- the operands that statements assign and instructions name
pub on_targets : (what : Aim) (Q : Scope → Place → OperandTree → Type 0)
    → ((scope : Scope) (i : InstrTree) → instr_place (site.Target what) scope i ≡ option_and_then (target_place what scope) (operand_of_instruction i))
    → ((scope : Scope) (o : OperandTree) → IsNearest (λ at. Q scope at o) (target_place what scope o)) → (project : ProjectTree)
    → IsNearest (λ at. Any (λ b. Any (Q (in_block project b) at) (assigned_operands b ++ instruction_operands b)) project.blocks)
    (project_place (site.Target what) project)
on_targets what Q is law project =
    on_both (λ scope s. option_to_list (target_of s.stmt)) (λ scope i. option_to_list (operand_of_instruction i)) Q project
    (project_place (site.Target what) project)
    (over_project (site.Target what) (λ scope at s. Any (Q scope at) (option_to_list (target_of s.stmt)))
    (λ scope at i. Any (Q scope at) (option_to_list (operand_of_instruction i)))
    (λ scope s. of_option_any (λ o at. Q scope at o) (target_place what scope) (law scope) (target_of s.stmt))
    (λ scope i. nearest_is (λ at. Any (Q scope at) (option_to_list (operand_of_instruction i))) (instr_place (site.Target what) scope i)
    (option_and_then (target_place what scope) (operand_of_instruction i)) (is scope i)
    (of_option_any (λ o at. Q scope at o) (target_place what scope) (law scope) (operand_of_instruction i))) project)

-- all operands
pub on_operands : (Q : Scope → Place → OperandTree → Type 0) (project : ProjectTree) (x y : Option Place)
    → IsNearest (λ at. Any (λ b. Any (Q (in_block project b) at) (reads_of_parts (code_parts project b))) project.blocks) x
    → IsNearest (λ at. Any (λ b. Any (Q (in_block project b) at) (assigned_operands b ++ instruction_operands b)) project.blocks) y
    → IsNearest (λ at. Any (λ b. Any (Q (in_block project b) at) (code_operands project b)) project.blocks) (nearer_of x y)
on_operands Q project x y hx hy =
    same_any (λ b at. Any (Q (in_block project b) at) (reads_of_parts (code_parts project b))
    ⊎ Any (Q (in_block project b) at) (assigned_operands b ++ instruction_operands b))
    (λ b at. Any (Q (in_block project b) at) (code_operands project b)) project.blocks (nearer_of x y)
    (λ b at e. any_append (Q (in_block project b) at) (reads_of_parts (code_parts project b)) (assigned_operands b ++ instruction_operands b) e)
    (λ b at a. any_of_append (Q (in_block project b) at) (reads_of_parts (code_parts project b)) (assigned_operands b ++ instruction_operands b) a)
    (join_any (λ b at. Any (Q (in_block project b) at) (reads_of_parts (code_parts project b)))
    (λ b at. Any (Q (in_block project b) at) (assigned_operands b ++ instruction_operands b)) project.blocks x y hx hy)

-- ---- addresses

pub wrong_address : (project : ProjectTree) (x y : Option Place) → x ≡ project_place (site.Parts look.Address) project
    → y ≡ project_place (site.Target aim.Address) project
    → IsNearest (λ at. Any (λ b. HasWrongAddress at (code_operands project b)) project.blocks) (nearer_of x y)
wrong_address project x y is_x is_y =
    on_operands (λ scope at o. IsWrongAt at o) project x y
    (nearest_is (λ at. Any (λ b. Any (IsWrongAt at) (reads_of_parts (code_parts project b))) project.blocks) x
    (project_place (site.Parts look.Address) project) is_x
    (on_reads look.Address (λ scope at o. IsWrongAt at o) (λ scope o. address_at o) (λ scope p. refl) (λ scope o. address_nearest o) project))
    (nearest_is (λ at. Any (λ b. Any (IsWrongAt at) (assigned_operands b ++ instruction_operands b)) project.blocks) y
    (project_place (site.Target aim.Address) project) is_y
    (on_targets aim.Address (λ scope at o. IsWrongAt at o) (λ scope i. refl) (λ scope o. address_nearest o) project))

-- ---- names that are missing

abbrev IsMissingOperand : Scope → Place → OperandTree → Type 0
IsMissingOperand scope at o = thing_of_path scope (path_of scope o) ≡ no_name at

pub missing_operand : (project : ProjectTree) (x y : Option Place) → x ≡ project_place (site.Parts look.Missing) project
    → y ≡ project_place (site.Target aim.Missing) project
    → IsNearest (λ at. Any (λ b. Any (IsMissingOperand (in_block project b) at) (code_operands project b)) project.blocks) (nearer_of x y)
missing_operand project x y is_x is_y =
    on_operands IsMissingOperand project x y
    (nearest_is (λ at. Any (λ b. Any (IsMissingOperand (in_block project b) at) (reads_of_parts (code_parts project b))) project.blocks) x
    (project_place (site.Parts look.Missing) project) is_x
    (on_reads look.Missing IsMissingOperand (λ scope o. name_at (thing_of scope o)) (λ scope p. refl) missing_nearest project))
    (nearest_is (λ at. Any (λ b. Any (IsMissingOperand (in_block project b) at) (assigned_operands b ++ instruction_operands b)) project.blocks) y
    (project_place (site.Target aim.Missing) project) is_y
    (on_targets aim.Missing IsMissingOperand (λ scope i. refl) missing_nearest project))

-- ---- indexes

abbrev Misuses : Scope → Place → OperandTree → Type 0
Misuses scope at o = MisusesPath scope at (path_of scope o)

abbrev GoesBeyond : Scope → Place → OperandTree → Type 0
GoesBeyond scope at o = Any (IsBeyond scope at) (indexes_of scope (path_of scope o))

pub misused_operand : (project : ProjectTree) (x y : Option Place) → x ≡ project_place (site.Parts look.Misused) project
    → y ≡ project_place (site.Target aim.Misused) project
    → IsNearest (λ at. Any (λ b. Any (Misuses (in_block project b) at) (code_operands project b)) project.blocks) (nearer_of x y)
misused_operand project x y is_x is_y =
    on_operands Misuses project x y
    (nearest_is (λ at. Any (λ b. Any (Misuses (in_block project b) at) (reads_of_parts (code_parts project b))) project.blocks) x
    (project_place (site.Parts look.Misused) project) is_x
    (on_reads look.Misused Misuses (λ scope o. misused_at scope (path_of scope o)) (λ scope p. refl)
    (λ scope o. misused_path scope (path_of scope o)) project))
    (nearest_is (λ at. Any (λ b. Any (Misuses (in_block project b) at) (assigned_operands b ++ instruction_operands b)) project.blocks) y
    (project_place (site.Target aim.Misused) project) is_y
    (on_targets aim.Misused Misuses (λ scope i. refl) (λ scope o. misused_path scope (path_of scope o)) project))

pub beyond_operand : (project : ProjectTree) (x y : Option Place) → x ≡ project_place (site.Parts look.Beyond) project
    → y ≡ project_place (site.Target aim.Beyond) project
    → IsNearest (λ at. Any (λ b. Any (GoesBeyond (in_block project b) at) (code_operands project b)) project.blocks) (nearer_of x y)
beyond_operand project x y is_x is_y =
    on_operands GoesBeyond project x y
    (nearest_is (λ at. Any (λ b. Any (GoesBeyond (in_block project b) at) (reads_of_parts (code_parts project b))) project.blocks) x
    (project_place (site.Parts look.Beyond) project) is_x
    (on_reads look.Beyond GoesBeyond (λ scope o. index_at index.Beyond scope (path_of scope o)) (λ scope p. refl)
    (λ scope o. beyond_path scope (path_of scope o)) project))
    (nearest_is (λ at. Any (λ b. Any (GoesBeyond (in_block project b) at) (assigned_operands b ++ instruction_operands b)) project.blocks) y
    (project_place (site.Target aim.Beyond) project) is_y
    (on_targets aim.Beyond GoesBeyond (λ scope i. refl) (λ scope o. beyond_path scope (path_of scope o)) project))

-- the words that a statement names by itself
abbrev IsMissingWord : Scope → Place → PlacedName → Type 0
IsMissingWord scope at n = thing_of_word scope n.0.key false n.1 ≡ no_name at

missing_word_nearest : (scope : Scope) (n : PlacedName) → IsNearest (λ at. IsMissingWord scope at n) (word_missing scope n)
missing_word_nearest scope n = name_nearest (thing_of_word scope n.0.key false n.1)

abbrev IsDateWord : Scope → Place → PlacedName → Type 0
IsDateWord scope at n = dated n.1 (thing_of_word scope n.0.key false n.1) ≡ a_date at

date_nearest : (t : Thing) → IsNearest (λ at. t ≡ a_date at) (date_of t)
date_nearest (part ty) = λ at e. true≢false (ap is_some (sym (ap date_of e)))
date_nearest (constant ty) = λ at e. true≢false (ap is_some (sym (ap date_of e)))
date_nearest (a_block b) = λ at e. true≢false (ap is_some (sym (ap date_of e)))
date_nearest (no_name a) = λ at e. true≢false (ap is_some (sym (ap date_of e)))
date_nearest (no_array a) = λ at e. true≢false (ap is_some (sym (ap date_of e)))
date_nearest (a_date a) = (refl, λ at e. subst (λ x. IsTrue (is_before a x)) (ap (λ t. unwrap_or (date_of t) a) e) (itself a))
date_nearest untold = λ at e. true≢false (ap is_some (sym (ap date_of e)))

date_word_nearest : (scope : Scope) (n : PlacedName) → IsNearest (λ at. IsDateWord scope at n) (word_date scope n)
date_word_nearest scope n = date_nearest (dated n.1 (thing_of_word scope n.0.key false n.1))

-- of the values of a CASE, and of the variable of a FOR
missing_value : (scope : Scope) (want : Want) (c : Choice)
    → IsNearest (λ at. Any (IsMissingWord scope at) (name_of_choice c)) (value_at pick.Missing scope want c)
missing_value scope want (Lit l) = λ at a. absurd (any_has (IsMissingWord scope at) [] a)
missing_value scope want (Const name place) = of_option_any (λ n at. IsMissingWord scope at n) (word_missing scope) (missing_word_nearest scope) (Some (name, place))

date_value : (scope : Scope) (want : Want) (c : Choice)
    → IsNearest (λ at. Any (IsDateWord scope at) (name_of_choice c)) (value_at pick.Date scope want c)
date_value scope want (Lit l) = λ at a. absurd (any_has (IsDateWord scope at) [] a)
date_value scope want (Const name place) = of_option_any (λ n at. IsDateWord scope at n) (word_date scope) (date_word_nearest scope) (Some (name, place))

outside_value : (scope : Scope) (want : Want) (c : Choice) → IsNearest (λ at. IsChoiceOutside want at c) (value_at pick.Outside scope want c)
outside_value scope want (Lit l) = nearest_where (is_outside want l.ty l.value) l.place
outside_value scope want (Const name place) = λ at h. h

values_words : (what : Pick) (M : Scope → Place → PlacedName → Type 0)
    → ((scope : Scope) (want : Want) (c : Choice) → IsNearest (λ at. Any (M scope at) (name_of_choice c)) (value_at what scope want c))
    → (scope : Scope) (t : StmtTree)
    → IsNearest (λ at. Any (λ c. Any (M scope at) (name_of_choice c)) (values_of_case t)) (values_place what scope t)
values_words what M law scope (case_ selector choices other place) =
    in_any (λ c at. Any (M scope at) (name_of_choice c)) (value_at what scope (want_of_selector scope selector))
    (law scope (want_of_selector scope selector)) (values_of_case (case_ selector choices other place))
values_words what M law scope (assign target place value) = λ at a. absurd (any_has (λ c. Any (M scope at) (name_of_choice c)) [] a)
values_words what M law scope (assign_call target place call) = λ at a. absurd (any_has (λ c. Any (M scope at) (name_of_choice c)) [] a)
values_words what M law scope (if_ conditions other place) = λ at a. absurd (any_has (λ c. Any (M scope at) (name_of_choice c)) [] a)
values_words what M law scope (for_ name name_place first last by body place) = λ at a. absurd (any_has (λ c. Any (M scope at) (name_of_choice c)) [] a)
values_words what M law scope (while_ condition body place) = λ at a. absurd (any_has (λ c. Any (M scope at) (name_of_choice c)) [] a)
values_words what M law scope (repeat_ body condition place) = λ at a. absurd (any_has (λ c. Any (M scope at) (name_of_choice c)) [] a)
values_words what M law scope (exit_ place) = λ at a. absurd (any_has (λ c. Any (M scope at) (name_of_choice c)) [] a)
values_words what M law scope (continue_ place) = λ at a. absurd (any_has (λ c. Any (M scope at) (name_of_choice c)) [] a)
values_words what M law scope (return_ place) = λ at a. absurd (any_has (λ c. Any (M scope at) (name_of_choice c)) [] a)
values_words what M law scope (call_ call) = λ at a. absurd (any_has (λ c. Any (M scope at) (name_of_choice c)) [] a)
values_words what M law scope (empty_ place) = λ at a. absurd (any_has (λ c. Any (M scope at) (name_of_choice c)) [] a)

abbrev InWords : (Scope → Place → PlacedName → Type 0) → Scope → Place → Spot → Type 0
InWords M scope at s = Any (M scope at) (counter_of s.stmt) ⊎ Any (λ c. Any (M scope at) (name_of_choice c)) (values_of_case s.stmt)

words_to : (M : Scope → Place → PlacedName → Type 0) (scope : Scope) (at : Place) (s : Spot) → InWords M scope at s → Any (M scope at) (words_of s.stmt)
words_to M scope at s e =
    any_append (M scope at) (counter_of s.stmt) (flat_map name_of_choice (values_of_case s.stmt))
    (elim e [ inl a ↦ inl a | inr a ↦ inr (any_flat (M scope at) name_of_choice (values_of_case s.stmt) a) ])

words_from : (M : Scope → Place → PlacedName → Type 0) (scope : Scope) (at : Place) (s : Spot) → Any (M scope at) (words_of s.stmt) → InWords M scope at s
words_from M scope at s a =
    elim (any_of_append (M scope at) (counter_of s.stmt) (flat_map name_of_choice (values_of_case s.stmt)) a) [
      | inl f ↦ inl f
      | inr b ↦ inr (any_of_flat (M scope at) name_of_choice (values_of_case s.stmt) b)
    ]

on_words : (c : Count) (v : Pick) (M : Scope → Place → PlacedName → Type 0)
    → ((scope : Scope) (s : Spot) → IsNearest (λ at. Any (M scope at) (counter_of s.stmt)) (site_place (site.Counter c) scope s))
    → ((scope : Scope) (want : Want) (c : Choice) → IsNearest (λ at. Any (M scope at) (name_of_choice c)) (value_at v scope want c))
    → (project : ProjectTree) (x y : Option Place) → x ≡ project_place (site.Counter c) project → y ≡ project_place (site.Value v) project
    → IsNearest (OnSpots (λ scope at s. Any (M scope at) (words_of s.stmt)) project) (nearer_of x y)
on_words c v M counts values project x y is_x is_y =
    same_spots (InWords M) (λ scope at s. Any (M scope at) (words_of s.stmt)) project (nearer_of x y) (words_to M) (words_from M)
    (join_spots (λ scope at s. Any (M scope at) (counter_of s.stmt))
    (λ scope at s. Any (λ c. Any (M scope at) (name_of_choice c)) (values_of_case s.stmt)) project x y
    (nearest_is (OnSpots (λ scope at s. Any (M scope at) (counter_of s.stmt)) project) x (project_place (site.Counter c) project) is_x
    (on_spots (λ scope at s. Any (M scope at) (counter_of s.stmt)) project (project_place (site.Counter c) project)
    (over_project (site.Counter c) (λ scope at s. Any (M scope at) (counter_of s.stmt)) (λ scope at i. ⊥) counts never_at project)))
    (nearest_is (OnSpots (λ scope at s. Any (λ c. Any (M scope at) (name_of_choice c)) (values_of_case s.stmt)) project) y
    (project_place (site.Value v) project) is_y
    (on_spots (λ scope at s. Any (λ c. Any (M scope at) (name_of_choice c)) (values_of_case s.stmt)) project (project_place (site.Value v) project)
    (over_project (site.Value v) (λ scope at s. Any (λ c. Any (M scope at) (name_of_choice c)) (values_of_case s.stmt)) (λ scope at i. ⊥)
    (λ scope s. values_words v M values scope s.stmt) never_at project))))

pub missing_word : (project : ProjectTree) (x y : Option Place) → x ≡ project_place (site.Counter count.Missing) project
    → y ≡ project_place (site.Value pick.Missing) project
    → IsNearest (OnSpots (λ scope at s. Any (IsMissingWord scope at) (words_of s.stmt)) project) (nearer_of x y)
missing_word project x y is_x is_y =
    on_words count.Missing pick.Missing IsMissingWord
    (λ scope s. in_any (λ n at. IsMissingWord scope at n) (count_at count.Missing scope s.loops) (missing_word_nearest scope) (counter_of s.stmt))
    missing_value project x y is_x is_y

pub date_word : (project : ProjectTree) (x y : Option Place) → x ≡ project_place (site.Counter count.Date) project
    → y ≡ project_place (site.Value pick.Date) project
    → IsNearest (OnSpots (λ scope at s. NamesDate scope at s.stmt) project) (nearer_of x y)
date_word project x y is_x is_y =
    on_words count.Date pick.Date IsDateWord
    (λ scope s. in_any (λ n at. IsDateWord scope at n) (count_at count.Date scope s.loops) (date_word_nearest scope) (counter_of s.stmt))
    date_value project x y is_x is_y

-- ---- literals outside their types

abbrev StepOutside : Scope → Place → StmtTree → Type 0
StepOutside scope at (for_ name name_place first last by body place) =
    Any (IsLiteralOutside (want_of_counter scope name name_place) at) (option_to_list by)
StepOutside scope at s = ⊥

abbrev ValueOutside : Scope → Place → StmtTree → Type 0
ValueOutside scope at (case_ selector choices other place) =
    Any (IsChoiceOutside (want_of_selector scope selector) at) (values_of_case (case_ selector choices other place))
ValueOutside scope at s = ⊥

step_outside : (scope : Scope) (t : StmtTree) → IsNearest (λ at. StepOutside scope at t) (step_place stride.Outside scope t)
step_outside scope (for_ name name_place first last by body place) =
    of_option_any (λ l at. IsLiteralOutside (want_of_counter scope name name_place) at l) (by_at stride.Outside (want_of_counter scope name name_place))
    (λ l. nearest_where (is_outside (want_of_counter scope name name_place) l.ty l.value) l.place) by
step_outside scope (assign target place value) = λ at h. h
step_outside scope (assign_call target place call) = λ at h. h
step_outside scope (if_ conditions other place) = λ at h. h
step_outside scope (while_ condition body place) = λ at h. h
step_outside scope (repeat_ body condition place) = λ at h. h
step_outside scope (exit_ place) = λ at h. h
step_outside scope (continue_ place) = λ at h. h
step_outside scope (return_ place) = λ at h. h
step_outside scope (call_ call) = λ at h. h
step_outside scope (empty_ place) = λ at h. h
step_outside scope (case_ selector choices other place) = λ at h. h

values_outside : (scope : Scope) (t : StmtTree) → IsNearest (λ at. ValueOutside scope at t) (values_place pick.Outside scope t)
values_outside scope (case_ selector choices other place) =
    in_any (λ c at. IsChoiceOutside (want_of_selector scope selector) at c) (value_at pick.Outside scope (want_of_selector scope selector))
    (outside_value scope (want_of_selector scope selector)) (values_of_case (case_ selector choices other place))
values_outside scope (assign target place value) = λ at h. h
values_outside scope (assign_call target place call) = λ at h. h
values_outside scope (if_ conditions other place) = λ at h. h
values_outside scope (for_ name name_place first last by body place) = λ at h. h
values_outside scope (while_ condition body place) = λ at h. h
values_outside scope (repeat_ body condition place) = λ at h. h
values_outside scope (exit_ place) = λ at h. h
values_outside scope (continue_ place) = λ at h. h
values_outside scope (return_ place) = λ at h. h
values_outside scope (call_ call) = λ at h. h
values_outside scope (empty_ place) = λ at h. h

outside_to : (scope : Scope) (at : Place) (t : StmtTree) → StepOutside scope at t ⊎ ValueOutside scope at t → IsStmtOutside scope at t
outside_to scope at (for_ name name_place first last by body place) h = elim h [ inl a ↦ a | inr n ↦ absurd n ]
outside_to scope at (case_ selector choices other place) h = elim h [ inl n ↦ absurd n | inr a ↦ a ]
outside_to scope at (assign target place value) h = elim h [ inl m ↦ m | inr m ↦ m ]
outside_to scope at (assign_call target place call) h = elim h [ inl m ↦ m | inr m ↦ m ]
outside_to scope at (if_ conditions other place) h = elim h [ inl m ↦ m | inr m ↦ m ]
outside_to scope at (while_ condition body place) h = elim h [ inl m ↦ m | inr m ↦ m ]
outside_to scope at (repeat_ body condition place) h = elim h [ inl m ↦ m | inr m ↦ m ]
outside_to scope at (exit_ place) h = elim h [ inl m ↦ m | inr m ↦ m ]
outside_to scope at (continue_ place) h = elim h [ inl m ↦ m | inr m ↦ m ]
outside_to scope at (return_ place) h = elim h [ inl m ↦ m | inr m ↦ m ]
outside_to scope at (call_ call) h = elim h [ inl m ↦ m | inr m ↦ m ]
outside_to scope at (empty_ place) h = elim h [ inl m ↦ m | inr m ↦ m ]

outside_from : (scope : Scope) (at : Place) (t : StmtTree) → IsStmtOutside scope at t → StepOutside scope at t ⊎ ValueOutside scope at t
outside_from scope at (for_ name name_place first last by body place) h = inl h
outside_from scope at (case_ selector choices other place) h = inr h
outside_from scope at (assign target place value) h = inl h
outside_from scope at (assign_call target place call) h = inl h
outside_from scope at (if_ conditions other place) h = inl h
outside_from scope at (while_ condition body place) h = inl h
outside_from scope at (repeat_ body condition place) h = inl h
outside_from scope at (exit_ place) h = inl h
outside_from scope at (continue_ place) h = inl h
outside_from scope at (return_ place) h = inl h
outside_from scope at (call_ call) h = inl h
outside_from scope at (empty_ place) h = inl h

pub outside_statement : (project : ProjectTree) (x y : Option Place) → x ≡ project_place (site.By stride.Outside) project
    → y ≡ project_place (site.Value pick.Outside) project
    → IsNearest (OnSpots (λ scope at s. IsStmtOutside scope at s.stmt) project) (nearer_of x y)
outside_statement project x y is_x is_y =
    same_spots (λ scope at s. StepOutside scope at s.stmt ⊎ ValueOutside scope at s.stmt) (λ scope at s. IsStmtOutside scope at s.stmt) project
    (nearer_of x y) (λ scope at s. outside_to scope at s.stmt) (λ scope at s. outside_from scope at s.stmt)
    (join_spots (λ scope at s. StepOutside scope at s.stmt) (λ scope at s. ValueOutside scope at s.stmt) project x y
    (nearest_is (OnSpots (λ scope at s. StepOutside scope at s.stmt) project) x (project_place (site.By stride.Outside) project) is_x
    (on_spots (λ scope at s. StepOutside scope at s.stmt) project (project_place (site.By stride.Outside) project)
    (over_project (site.By stride.Outside) (λ scope at s. StepOutside scope at s.stmt) (λ scope at i. ⊥) (λ scope s. step_outside scope s.stmt) never_at project)))
    (nearest_is (OnSpots (λ scope at s. ValueOutside scope at s.stmt) project) y (project_place (site.Value pick.Outside) project) is_y
    (on_spots (λ scope at s. ValueOutside scope at s.stmt) project (project_place (site.Value pick.Outside) project)
    (over_project (site.Value pick.Outside) (λ scope at s. ValueOutside scope at s.stmt) (λ scope at i. ⊥) (λ scope s. values_outside scope s.stmt) never_at project))))

-- ---- assignments

bound_nearest : (scope : Scope) (want : Want) (e : ExprTree) → IsNearest (λ at. MisfitsCounter scope at want e) (bound_at scope want e)
bound_nearest scope (this ty) e = nearest_where (doesnt_fit (one ty) (taken (this ty) (sort_of scope e))) (first_place e)
bound_nearest scope nothing e = nearest_where (is_whole (sort_of scope e)) (first_place e)
bound_nearest scope unsure e = nearest_where (is_whole (sort_of scope e)) (first_place e)

misfit_nearest : (scope : Scope) (t : StmtTree) → IsNearest (λ at. MisfitsStmt scope at t) (misfit_place scope t)
misfit_nearest scope (assign target place value) = nearest_where (assigned_misfits scope target value) place
misfit_nearest scope (assign_call target place call) = nearest_where (called_misfits scope target call) place
misfit_nearest scope (for_ name name_place first last by body place) =
    nearest_both (λ at. MisfitsCounter scope at (want_of_counter scope name name_place) first)
    (λ at. MisfitsCounter scope at (want_of_counter scope name name_place) last)
    (bound_at scope (want_of_counter scope name name_place) first) (bound_at scope (want_of_counter scope name name_place) last)
    (bound_nearest scope (want_of_counter scope name name_place) first) (bound_nearest scope (want_of_counter scope name name_place) last)
misfit_nearest scope (case_ selector choices other place) = λ at h. h
misfit_nearest scope (if_ conditions other place) = λ at h. h
misfit_nearest scope (while_ condition body place) = λ at h. h
misfit_nearest scope (repeat_ body condition place) = λ at h. h
misfit_nearest scope (exit_ place) = λ at h. h
misfit_nearest scope (continue_ place) = λ at h. h
misfit_nearest scope (return_ place) = λ at h. h
misfit_nearest scope (call_ call) = λ at h. h
misfit_nearest scope (empty_ place) = λ at h. h

pub misfit_statement : (project : ProjectTree)
    → IsNearest (OnSpots (λ scope at s. MisfitsStmt scope at s.stmt) project) (project_place site.Misfit project)
misfit_statement project =
    on_spots (λ scope at s. MisfitsStmt scope at s.stmt) project (project_place site.Misfit project)
    (over_project site.Misfit (λ scope at s. MisfitsStmt scope at s.stmt) (λ scope at i. ⊥) (λ scope s. misfit_nearest scope s.stmt) never_at project)

-- ---- put together

abbrev pub OnBlocks : (ProjectTree → Place → BlockTree → Type 0) → ProjectTree → Place → Type 0
OnBlocks P project at = Any (P project at) project.blocks

operands_to : (project : ProjectTree) (at : Place) (b : BlockTree) → Any (IsMissingOperand (in_block project b) at) (code_operands project b)
    → MissesName (in_block project b) (map (path_of (in_block project b)) (code_operands project b)) at
operands_to project at b a =
    has_any (λ p. thing_of_path (in_block project b) p ≡ no_name at) (map (path_of (in_block project b)) (code_operands project b))
    (mapped_to (λ p. thing_of_path (in_block project b) p ≡ no_name at) (path_of (in_block project b)) (code_operands project b)
    (any_has (IsMissingOperand (in_block project b) at) (code_operands project b) a))

operands_from : (project : ProjectTree) (at : Place) (b : BlockTree)
    → MissesName (in_block project b) (map (path_of (in_block project b)) (code_operands project b)) at
    → Any (IsMissingOperand (in_block project b) at) (code_operands project b)
operands_from project at b a =
    has_any (IsMissingOperand (in_block project b) at) (code_operands project b)
    (mapped_from (λ p. thing_of_path (in_block project b) p ≡ no_name at) (path_of (in_block project b)) (code_operands project b)
    (any_has (λ p. thing_of_path (in_block project b) p ≡ no_name at) (map (path_of (in_block project b)) (code_operands project b)) a))

pub misses_in_code : (project : ProjectTree) (v w x y z : Option Place) → v ≡ project_place (site.Parts look.Missing) project
    → w ≡ project_place (site.Target aim.Missing) project → x ≡ project_place (site.Call ask.Missing) project
    → y ≡ project_place (site.Counter count.Missing) project → z ≡ project_place (site.Value pick.Missing) project
    → IsNearest (OnBlocks MissesIn project) (nearer_of (nearer_of v w) (nearer_of x (nearer_of y z)))
misses_in_code project v w x y z is_v is_w is_x is_y is_z =
    join_any (λ b at. MissesName (in_block project b) (map (path_of (in_block project b)) (code_operands project b)) at)
    (λ b at. Any (λ s. callee_of (in_block project b) s ≡ not_declared at) (calls_of b)
    ⊎ Any (λ s. Any (IsMissingWord (in_block project b) at) (words_of s.stmt)) (spots_of_body b.body))
    project.blocks (nearer_of v w) (nearer_of x (nearer_of y z))
    (same_any (λ b at. Any (IsMissingOperand (in_block project b) at) (code_operands project b))
    (λ b at. MissesName (in_block project b) (map (path_of (in_block project b)) (code_operands project b)) at) project.blocks (nearer_of v w)
    (λ b at a. operands_to project at b a) (λ b at a. operands_from project at b a) (missing_operand project v w is_v is_w))
    (join_any (λ b at. Any (λ s. callee_of (in_block project b) s ≡ not_declared at) (calls_of b))
    (λ b at. Any (λ s. Any (IsMissingWord (in_block project b) at) (words_of s.stmt)) (spots_of_body b.body)) project.blocks x (nearer_of y z)
    (nearest_is (λ at. Any (λ b. Any (λ s. callee_of (in_block project b) s ≡ not_declared at) (calls_of b)) project.blocks) x
    (project_place (site.Call ask.Missing) project) is_x (missing_callee project))
    (missing_word project y z is_y is_z))

pub misfits_in_code : (project : ProjectTree) (u v w x y z : Option Place) → u ≡ project_place (site.Parts look.Misapplied) project
    → v ≡ project_place site.Misfit project → w ≡ project_place (site.Counter count.Date) project
    → x ≡ project_place (site.Value pick.Date) project → y ≡ project_place (site.Call (ask.Args pass.Misfit)) project
    → z ≡ project_place (site.Call ask.Date) project
    → IsNearest (OnBlocks MisfitsIn project) (nearer_of u (nearer_of (nearer_of v (nearer_of w x)) (nearer_of y z)))
misfits_in_code project u v w x y z is_u is_v is_w is_x is_y is_z =
    join_any (λ b at. Any (λ p. Misapplies (in_block project b) at p.expr) (code_parts project b))
    (λ b at. Any (λ s. MisfitsStmt (in_block project b) at s.stmt ⊎ NamesDate (in_block project b) at s.stmt) (spots_of_body b.body)
    ⊎ Any (MisfitsCall (in_block project b) at) (calls_of b)) project.blocks u (nearer_of (nearer_of v (nearer_of w x)) (nearer_of y z))
    (nearest_is (λ at. Any (λ b. Any (λ p. Misapplies (in_block project b) at p.expr) (code_parts project b)) project.blocks) u
    (project_place (site.Parts look.Misapplied) project) is_u (misapplied_parts project))
    (join_any (λ b at. Any (λ s. MisfitsStmt (in_block project b) at s.stmt ⊎ NamesDate (in_block project b) at s.stmt) (spots_of_body b.body))
    (λ b at. Any (MisfitsCall (in_block project b) at) (calls_of b)) project.blocks (nearer_of v (nearer_of w x)) (nearer_of y z)
    (join_spots (λ scope at s. MisfitsStmt scope at s.stmt) (λ scope at s. NamesDate scope at s.stmt) project v (nearer_of w x)
    (nearest_is (OnSpots (λ scope at s. MisfitsStmt scope at s.stmt) project) v (project_place site.Misfit project) is_v (misfit_statement project))
    (date_word project w x is_w is_x))
    (join_calls (λ scope at s. Any (MisfitsArg scope at s) s.call.args) (λ scope at s. CallsDate scope at s.call) project y z
    (nearest_is (OnCalls (λ scope at s. Any (MisfitsArg scope at s) s.call.args) project) y
    (project_place (site.Call (ask.Args pass.Misfit)) project) is_y (misfit_argument project))
    (nearest_is (OnCalls (λ scope at s. CallsDate scope at s.call) project) z (project_place (site.Call ask.Date) project) is_z (called_date project))))

pub outside_in_code : (project : ProjectTree) (x y z : Option Place) → x ≡ project_place (site.Parts look.Outside) project
    → y ≡ project_place (site.By stride.Outside) project → z ≡ project_place (site.Value pick.Outside) project
    → IsNearest (OnBlocks OutsideIn project) (nearer_of x (nearer_of y z))
outside_in_code project x y z is_x is_y is_z =
    join_any (λ b at. Any (IsPartOutside at) (code_parts project b))
    (λ b at. Any (λ s. IsStmtOutside (in_block project b) at s.stmt) (spots_of_body b.body)) project.blocks x (nearer_of y z)
    (nearest_is (λ at. Any (λ b. Any (IsPartOutside at) (code_parts project b)) project.blocks) x
    (project_place (site.Parts look.Outside) project) is_x (outside_parts project))
    (outside_statement project y z is_y is_z)

-- ---- names of functions without a value

void_nearest : (scope : Scope) (o : OperandTree) → IsNearest (λ at. ReadsVoid scope at o) (void_at scope o)
void_nearest scope (operand root more place) =
    nearest_where (is_void_thing (thing_of scope (operand root more place))) (root_place root place)

pub void_operand : (project : ProjectTree) (o : Option Place) → o ≡ project_place (site.Parts look.Void) project
    → IsNearest (OnBlocks VoidsIn project) o
void_operand project o is =
    nearest_is (OnBlocks VoidsIn project) o (project_place (site.Parts look.Void) project) is
    (on_reads look.Void (λ scope at o. ReadsVoid scope at o) void_at (λ scope p. refl) void_nearest project)
