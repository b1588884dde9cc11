-- The block that a call runs is one of the project's, and each call of a body is among the block's calls.
use Rattle.std.proofs.Common.{◌≡◌, ◌+◌, ℕ, zero, suc, List, [], ◌∷◌, ◌++◌, Bool, true, false, cond, Option, Some, None, refl, sym, subst, arith}
use Rattle.std.specs.Prelude.{⊤, Contains, IfSome, IsTrue, flat_map, map, option_to_list, is_some, if◌then◌else◌, option_and_then}
use Rattle.std.proofs.lemmas.List.Elements.{Contains-append_left, Contains-append_right}
use Rattle.std.proofs.lemmas.List.Concat.{flat_map-append}
use Rattle.pv_place.specs.declared.place.Place.{Place}
use Rattle.pv_types.specs.declared.name.Name.{Name}
use Rattle.pv_types.specs.Tree.{TypeTree, plain, array, structure, named, unread, VarTree}
use Rattle.pv_types.specs.View.{declared_type_of}
use Rattle.pv_tree.specs.declared.block.BlockKind.{BlockKind}
use Rattle.pv_tree.specs.declared.block.BlockKind.TheVariants.{Fb, Fc, Ob, Db, Udt}
use Rattle.pv_tree.specs.Tree.{PlacedName, OperandTree, CallPlain, InstrTree, StmtTree, assign, assign_call, if_, case_, for_, while_, repeat_, exit_, continue_, return_, call_, empty_, StmtTrees, no_stmts, stmts, ArmTrees, no_arms, arms, BranchTrees, no_branches, branches, ElseTree, no_else, else_, BodyTree, scl, stl, starts, BlockTree}
use Rattle.pv_tree.specs.Scopes.{ProjectTree, Scope, has_key, first_block, first_var, is_fb, is_type, block_where, type_named}
use Rattle.pv_tree.specs.Callees.{How, as_statement, as_value, by_call, by_uc, is_by_stl, CallSite, is_word, Called, a_variable, block_called, no_callee, undeclared, called_where, called_block, called_name, Callee, runs, not_declared, not_callable, unknown, may_be_instance, function_runs, instance_runs, instance_of, variable_runs, block_runs, one_name_runs, data_block_runs, second_name_runs, first_name_runs, callee_of}
use Rattle.pv_tree.specs.Parts.{Loop, a_for, another, Spot, spots_of, spots_of_stmts, spots_of_arms, spots_of_branches, spots_of_else, spots_of_body, site, how_of, instructions_of, calls_of_instruction, calls_of_stmt, calls_of}
use Rattle.pv_tree.specs.InstructionGroups.{is_written, group_of}
use Rattle.pv_tree.specs.Rules.{too_deep, KeepsRules}
use Rattle.pv_tree.specs.Rules.Chains.{EndsChain}
use Rattle.pv_tree.proofs.ForCallers.{run_block_in}
use Rattle.pv_mean.specs.Instructions.{site_of}
use Rattle.pv_mean.specs.Doings.{EachDoing, EachInList, EachInArms, EachInBranches, EachInElse, EachInstruction}
use Rattle.pv_mean.specs.Chains.{EachCallOf, RunsSuch, EndsWithin}

-- ---- what a call runs

pub runs_such : (P : BlockTree → Type 0) (c : Callee) → ((b : BlockTree) → c ≡ runs b → P b) → RunsSuch P c
runs_such P (runs b) f = f b refl
runs_such P (not_declared place) f = tt
runs_such P (not_callable place) f = tt
runs_such P unknown f = tt

-- ---- the calls of a body

contains-first : {X : Type 0} (x : X) (xs : List X) → Contains (x ∷ xs) x
contains-first x xs = (0, omega arith, refl)

abbrev its_calls : Spot → List CallSite
its_calls p = calls_of_stmt p.stmt

-- each call of these spots passes the test
abbrev Covers : (CallSite → Type 0) → List Spot → Type 0
Covers C spots = (c : CallSite) → Contains (flat_map its_calls spots) c → C c

left-of : (C : CallSite → Type 0) (xs ys : List Spot) → Covers C (xs ++ ys) → Covers C xs
left-of C xs ys f c is = f c (subst (λ (l : List CallSite). Contains l c) (sym (flat_map-append its_calls xs ys))
    (Contains-append_left (flat_map its_calls xs) (flat_map its_calls ys) c is))

right-of : (C : CallSite → Type 0) (xs ys : List Spot) → Covers C (xs ++ ys) → Covers C ys
right-of C xs ys f c is = f c (subst (λ (l : List CallSite). Contains l c) (sym (flat_map-append its_calls xs ys))
    (Contains-append_right (flat_map its_calls xs) (flat_map its_calls ys) c is))

mutual
  covered-stmt : (C : CallSite → Type 0) (loops : List Loop) (s : StmtTree) → Covers C (spots_of loops s) → EachDoing (λ o. ⊤) C s
  covered-stmt C loops (assign target place e) f = tt
  covered-stmt C loops (assign_call target place call) f = (tt, f _ (contains-first _ []))
  covered-stmt C loops (if_ conditions other place) f = (
    covered-arms C loops conditions (left-of C (spots_of_arms loops conditions) (spots_of_else loops other) f),
    covered-else C loops other (right-of C (spots_of_arms loops conditions) (spots_of_else loops other) f),
  )
  covered-stmt C loops (case_ selector choices other place) f = (
    covered-branches C loops choices (left-of C (spots_of_branches loops choices) (spots_of_else loops other) f),
    covered-else C loops other (right-of C (spots_of_branches loops choices) (spots_of_else loops other) f),
  )
  covered-stmt C loops (for_ name name_place first last by body place) f = (tt, covered-stmts C (a_for name ∷ loops) body f)
  covered-stmt C loops (while_ condition body place) f = covered-stmts C (another ∷ loops) body f
  covered-stmt C loops (repeat_ body condition place) f = covered-stmts C (another ∷ loops) body f
  covered-stmt C loops (exit_ place) f = tt
  covered-stmt C loops (continue_ place) f = tt
  covered-stmt C loops (return_ place) f = tt
  covered-stmt C loops (call_ call) f = f _ (contains-first _ [])
  covered-stmt C loops (empty_ place) f = tt

  covered-stmts : (C : CallSite → Type 0) (loops : List Loop) (ss : StmtTrees) → Covers C (spots_of_stmts loops ss) → EachInList (λ o. ⊤) C ss
  covered-stmts C loops no_stmts f = tt
  covered-stmts C loops (stmts s more) f = (
    covered-stmt C loops s (left-of C (spots_of loops s) (spots_of_stmts loops more) f),
    covered-stmts C loops more (right-of C (spots_of loops s) (spots_of_stmts loops more) f),
  )

  covered-arms : (C : CallSite → Type 0) (loops : List Loop) (cs : ArmTrees) → Covers C (spots_of_arms loops cs) → EachInArms (λ o. ⊤) C cs
  covered-arms C loops no_arms f = tt
  covered-arms C loops (arms condition body more) f = (
    covered-stmts C loops body (left-of C (spots_of_stmts loops body) (spots_of_arms loops more) f),
    covered-arms C loops more (right-of C (spots_of_stmts loops body) (spots_of_arms loops more) f),
  )

  covered-branches : (C : CallSite → Type 0) (loops : List Loop) (bs : BranchTrees) → Covers C (spots_of_branches loops bs)
      → EachInBranches (λ o. ⊤) C bs
  covered-branches C loops no_branches f = tt
  covered-branches C loops (branches values body more) f = (
    covered-stmts C loops body (left-of C (spots_of_stmts loops body) (spots_of_branches loops more) f),
    covered-branches C loops more (right-of C (spots_of_stmts loops body) (spots_of_branches loops more) f),
  )

  covered-else : (C : CallSite → Type 0) (loops : List Loop) (other : ElseTree) → Covers C (spots_of_else loops other)
      → EachInElse (λ o. ⊤) C other
  covered-else C loops no_else f = tt
  covered-else C loops (else_ body) f = covered-stmts C loops body f

-- what a test says of a call it says of the call as STL makes it
abbrev AsMade : (CallSite → Type 0) → Type 0
AsMade C = (i : InstrTree) (call : CallPlain) → C (record { how = how_of i.op; call = call }) → C (site_of i call)

covered-instructions : (C : CallSite → Type 0) → AsMade C → (is : List InstrTree)
    → ((c : CallSite) → Contains (flat_map calls_of_instruction is) c → C c) → EachInstruction (λ o. ⊤) C is
covered-instructions C made [] f = tt
covered-instructions C made (i ∷ more) f = (
  (of-operand i.operand, of-call i.call (λ c among. f c (Contains-append_left (calls_of_instruction i) (flat_map calls_of_instruction more) c among))),
  covered-instructions C made more (λ c among. f c (Contains-append_right (calls_of_instruction i) (flat_map calls_of_instruction more) c among)),
)
  where
    of-operand : (o : Option OperandTree) → IfSome o (λ x. IsTrue (is_written (group_of i.op)) → ⊤)
    of-operand None = tt
    of-operand (Some o) = λ w. tt

    of-call : (o : Option CallPlain) → ((c : CallSite) → Contains (map (site (how_of i.op)) (option_to_list o)) c → C c)
        → IfSome o (λ call. C (site_of i call))
    of-call None g = tt
    of-call (Some call) g = made i call (g _ (contains-first _ []))

covered-body : (C : CallSite → Type 0) → AsMade C → (body : BodyTree)
    → ((c : CallSite) → Contains (flat_map its_calls (spots_of_body body) ++ flat_map calls_of_instruction (instructions_of body)) c → C c)
    → EachCallOf C body
covered-body C made (scl statements) f =
    covered-stmts C [] statements (λ c is. f c (Contains-append_left (flat_map its_calls (spots_of_stmts [] statements)) [] c is))
covered-body C made (stl instructions) f = covered-instructions C made instructions f
covered-body C made (starts values) f = tt

-- ---- chains of calls

-- a call among those of a block at the end of a chain runs a block at the end of a longer one
longer : (project : ProjectTree) (n : ℕ) (block : BlockTree) → Contains project.blocks block → EndsChain project n block → (s : CallSite)
    → Contains (calls_of block) s → (callee : BlockTree) → callee_of (record { project = project; block = block }) s ≡ runs callee
    → EndsChain project (suc n) callee
longer project n block at chain s among callee is = (at.0, block, at.1, at.2, (chain, (among.0, s, among.1, among.2, is)))

pub ends_within : (project : ProjectTree) → ((block : BlockTree) → EndsChain project 8 block → ⊥) → (n k : ℕ) → n + k ≡ 7 → (block : BlockTree)
    → Contains project.blocks block → EndsChain project k block → EndsWithin project n block
ends_within project none zero k sum block at chain = covered-body _ (λ i call x. x) block.body (λ s among. runs_such (λ b. ⊥) _
    (λ b is. let e : k ≡ 7 = omega arith in
    none b (subst (λ (m : ℕ). EndsChain project (suc m) b) e (longer project k block at chain s among b is))))
ends_within project none (suc n) k sum block at chain = covered-body _ (λ i call x. x) block.body (λ s among. runs_such (λ b. EndsWithin project n b) _
    (λ b is. ends_within project none n (suc k) (omega arith) b
    (run_block_in (record { project = project; block = block }) s b is)
    (longer project k block at chain s among b is)))

no-ninth : (project : ProjectTree) → KeepsRules project → (block : BlockTree) → EndsChain project 8 block → ⊥
no-ninth project keeps block c =
    let link = c.4 in
    let call = link.1 in
    keeps too_deep call.1.call.place (c.0, c.1, c.2, c.3, (link.0, (call.0, call.1, call.2, call.3, (refl, (block, call.4)))))

-- by the rules no chain of calls has more than seven
pub kept-ends_within : (project : ProjectTree) → KeepsRules project → (block : BlockTree) → Contains project.blocks block
    → EndsWithin project 7 block
kept-ends_within project keeps block at = ends_within project (no-ninth project keeps) 7 0 refl block at at
