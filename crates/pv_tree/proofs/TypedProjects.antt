-- Each expression of a project that keeps the rules has a type by what is wanted of it: the rules on each statement, call, operand and
-- value of a block, put together.
use Rattle.std.proofs.Common.{◌++◌, map, inl, inr, refl}
use Rattle.std.proofs.lemmas.List.Elements.{Contains-append_left, Contains-append_right, All-contains, All-from_recursion}
use Rattle.std.specs.List.{flat_map}
use Rattle.std.specs.Prelude.{Contains, option_to_list}
use Rattle.pv_tree.specs.Tree.{InstrTree, StartTree, BlockTree}
use Rattle.pv_tree.specs.Scopes.{ProjectTree, Scope}
use Rattle.pv_tree.specs.Things.{first_place}
use Rattle.pv_tree.specs.Callees.{CallSite}
use Rattle.pv_tree.specs.InstructionGroups.{operand_of_instruction}
use Rattle.pv_tree.specs.Parts.{Spot, parts_of_operand, parts_of_call, parts_of_stmt, parts_of_instruction, parts_of_block, path_of, path_of_start, operands_of, reads_of_parts, assigned_operands, instruction_operands, calls_of_stmt, calls_of_instruction, calls_of, spots_of_body, instructions_of, starts_of, target_of}
use Rattle.pv_tree.specs.Rules.{KeepsRules, misfit, wrong_condition, wrong_case, fixed_output}
use Rattle.pv_tree.specs.Rules.Conditions.{conditions_of_stmt}
use Rattle.pv_tree.specs.RuleLaws.{HasType, EachHasType}
use Rattle.pv_tree.proofs.ToldThings.{all_of}
use Rattle.pv_tree.proofs.NoneBroken.{PartKeeps}
use Rattle.pv_tree.proofs.Upwards.{ScopeTold}
use Rattle.pv_tree.proofs.KeptBlocks.{contains_flat, contains_mapped, scope_told, path_keeps, operand_path, part_keeps}
use Rattle.pv_tree.proofs.TypedBlocks.{Passes, flat, joined, ArgKeeps, CallKeeps, call_passes, TargetKeeps, ConditionKeeps, StmtKeeps, stmt_passes, target_passes, start_passes}

abbrev within : ProjectTree → BlockTree → Scope
within project block = record { project = project; block = block }

call_keeps : (project : ProjectTree) → KeepsRules project → (block : BlockTree) → Contains project.blocks block → (c : CallSite) → Contains
    (calls_of block) c → CallKeeps (within project block) c
call_keeps project keeps block b c d = all_of (ArgKeeps (within project block) c) c.call.args (λ a e. record {
  fits = λ m. keeps misfit a.place (b.0, block, b.1, b.2, inr (inr (inr (inr (inr (d.0, c, d.1, d.2, inl (e.0, a, e.1, e.2, (refl, m))))))));
  given = λ x y. keeps fixed_output (first_place a.value) (b.0, block, b.1, b.2, (d.0, c, d.1, d.2, (e.0, a, e.1, e.2, (refl, x, y))));
})

stmt_keeps : (project : ProjectTree) → KeepsRules project → (block : BlockTree) → Contains project.blocks block → (s : Spot) → Contains
    (spots_of_body block.body) s → StmtKeeps (within project block) s.stmt
stmt_keeps project keeps block b s c = record {
  fits = λ at m. keeps misfit at (b.0, block, b.1, b.2, inr (inr (inr (inr (inl (c.0, s, c.1, c.2, inl m))))));
  conditions = all_of (ConditionKeeps (within project block)) (conditions_of_stmt s.stmt)
      (λ e d at m. keeps wrong_condition at (b.0, block, b.1, b.2, (c.0, s, c.1, c.2, (d.0, e, d.1, d.2, m))));
  selects = λ at m. keeps wrong_case at (b.0, block, b.1, b.2, (c.0, s, c.1, c.2, m));
  calls = all_of (CallKeeps (within project block)) (calls_of_stmt s.stmt)
      (λ x d. call_keeps project keeps block b x
      (Contains-append_left (flat_map (λ z. calls_of_stmt z.stmt) (spots_of_body block.body)) (flat_map calls_of_instruction
      (instructions_of block.body)) x
      (contains_flat (λ z. calls_of_stmt z.stmt) (spots_of_body block.body) s x c d)));
  targets = all_of (TargetKeeps (within project block)) (option_to_list (target_of s.stmt))
      (λ o d. path_keeps project keeps block b (path_of (within project block) o) (operand_path project block o
      (Contains-append_left (reads_of_parts (parts_of_block project block) ++ assigned_operands block) (instruction_operands block) o
      (Contains-append_right (reads_of_parts (parts_of_block project block)) (assigned_operands block) o
      (contains_flat (λ z. option_to_list (target_of z.stmt)) (spots_of_body block.body) s o c d)))));
}

instruction_passes : (project : ProjectTree) → KeepsRules project → (block : BlockTree) → Contains project.blocks block → (i : InstrTree)
    → Contains (instructions_of block.body) i
    → Passes (within project block) (parts_of_instruction (within project block) i)
instruction_passes project keeps block b i c =
    joined scope (flat_map (parts_of_operand scope) (option_to_list (operand_of_instruction i))) (flat_map (parts_of_call scope)
    (calls_of_instruction i))
    (flat scope (parts_of_operand scope) (option_to_list (operand_of_instruction i))
    (all_of (λ o. Passes scope (parts_of_operand scope o)) (option_to_list (operand_of_instruction i)) (λ o d. target_passes scope told o
    (path_keeps project keeps block b (path_of scope o) (operand_path project block o
    (Contains-append_right (reads_of_parts (parts_of_block project block) ++ assigned_operands block) (instruction_operands block) o
    (contains_flat (λ z. option_to_list (operand_of_instruction z)) (instructions_of block.body) i o c d)))))))
    (flat scope (parts_of_call scope) (calls_of_instruction i)
    (all_of (λ x. Passes scope (parts_of_call scope x)) (calls_of_instruction i) (λ x d. call_passes scope told x
    (call_keeps project keeps block b x
    (Contains-append_right (flat_map (λ z. calls_of_stmt z.stmt) (spots_of_body block.body)) (flat_map calls_of_instruction
    (instructions_of block.body)) x
    (contains_flat calls_of_instruction (instructions_of block.body) i x c d))))))
  where
    scope : Scope
    scope = within project block

    told : ScopeTold scope
    told = scope_told project keeps block b

value_passes : (project : ProjectTree) → KeepsRules project → (block : BlockTree) → Contains project.blocks block → (v : StartTree)
    → Contains (starts_of block.body) v
    → Passes (within project block) (parts_of_operand (within project block) v.0)
value_passes project keeps block b v c = start_passes scope (scope_told project keeps block b) v.0
    (path_keeps project keeps block b (path_of_start scope v.0)
    (Contains-append_right (map (path_of scope) (operands_of project block)) (map (λ z. path_of_start scope z.0) (starts_of block.body))
    (path_of_start scope v.0)
    (contains_mapped (λ z. path_of_start scope z.0) (starts_of block.body) v c)))
  where
    scope : Scope
    scope = within project block

block_passes : (project : ProjectTree) → KeepsRules project → (block : BlockTree) → Contains project.blocks block → Passes
    (within project block) (parts_of_block project block)
block_passes project keeps block b =
    joined scope (flat_map (λ s. parts_of_stmt scope s.stmt) (spots_of_body block.body) ++ flat_map (parts_of_instruction scope)
    (instructions_of block.body)) (flat_map (λ v. parts_of_operand scope v.0) (starts_of block.body))
    (joined scope (flat_map (λ s. parts_of_stmt scope s.stmt) (spots_of_body block.body)) (flat_map (parts_of_instruction scope)
    (instructions_of block.body))
    (flat scope (λ s. parts_of_stmt scope s.stmt) (spots_of_body block.body)
    (all_of (λ s. Passes scope (parts_of_stmt scope s.stmt)) (spots_of_body block.body) (λ s c. stmt_passes scope
    (scope_told project keeps block b) s.stmt (stmt_keeps project keeps block b s c))))
    (flat scope (parts_of_instruction scope) (instructions_of block.body)
    (all_of (λ i. Passes scope (parts_of_instruction scope i)) (instructions_of block.body) (instruction_passes project keeps block b))))
    (flat scope (λ v. parts_of_operand scope v.0) (starts_of block.body)
    (all_of (λ v. Passes scope (parts_of_operand scope v.0)) (starts_of block.body) (value_passes project keeps block b)))
  where
    scope : Scope
    scope = within project block

pub each_has_type : (project : ProjectTree) → KeepsRules project → EachHasType project
each_has_type project keeps = λ block p b c.
    All-contains (HasType (within project block)) (parts_of_block project block) p
    (All-from_recursion (HasType (within project block)) (parts_of_block project block)
    (block_passes project keeps block b (all_of (PartKeeps (within project block)) (parts_of_block project block)
    (part_keeps project keeps block b))))
    c
