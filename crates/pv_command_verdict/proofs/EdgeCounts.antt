-- The assignments of a block of the form are the edges of its automaton: its expressions make no check.
use Rattle.std.proofs.Common.{◌≡◌, ◌⊎◌, ◌↔◌, inl, inr, ℕ, ◌+◌, ◌<◌, ◌≤◌, Bool as Truth, true, false, cond, List, [], ◌∷◌, length, Option, Some, None, is_some, refl, ap, sym, subst, ◌∙◌, arith}
use Rattle.std.specs.Prelude.{not, slice_get, if◌then◌else◌}
use Rattle.std.specs.List.{AllByRecursion}
use Rattle.std.proofs.lemmas.Bool.{true≢false}
use Rattle.std.proofs.lemmas.List.Elements.{recursion_from_All}
use Rattle.pv_place.specs.declared.place.Place.{Place}
use Rattle.pv_types.specs.declared.declaration.Section.{Section}
use Rattle.pv_types.specs.Tree.{VarTree, var}
use Rattle.pv_types.specs.View.{section_of, name_of}
use Rattle.pv_tree.specs.declared.expr.Root.{Root}
use Rattle.pv_tree.specs.declared.expr.Root.TheVariants.{Local, Named, Area}
use Rattle.pv_tree.specs.declared.expr.BinaryOp.{BinaryOp}
use Rattle.pv_tree.specs.declared.expr.BinaryOp.TheVariants.{And, Or}
use Rattle.pv_tree.specs.declared.block.BlockKind.{BlockKind}
use Rattle.pv_tree.specs.declared.block.BlockKind.TheVariants.{Fb}
use Rattle.pv_tree.specs.Tree.{ExprTree, lit, read, unary, binary, std, paren, OperandTree, operand, StepTrees, no_steps, StmtTree, assign, assign_call, if_, case_, for_, while_, repeat_, exit_, continue_, return_, call_, empty_, StmtTrees, no_stmts, stmts, BodyTree, scl, stl, starts, BlockTree}
use Rattle.pv_tree.specs.Scopes.{Scope, has_key, first_var, own_value, is_fb, is_const}
use Rattle.pv_mean.specs.Layout.{is_temp, is_brief_in}
use Rattle.pv_sizes.specs.declared.count.TheConstants.{MAX_EDGES}
use Rattle.pv_sizes.specs.Checks.{one_if, is_brief_variable, is_brief, divides, checks_of, checks_of_target, checks_of_steps}
use Rattle.pv_sizes.specs.Sizes.{size_of_list, sum_of_sizes, size_of_body}
use Rattle.pv_bool_form.specs.FirstForm.{IsFirstSection, IsFirstVar, IsFirstRoot, IsFirstOperand, IsFirstExpr, AreFirstStmts, IsFirstBody, IsFirstForm, IsFirstBlock}
use Rattle.pv_bool_form.specs.Programs.{assignments_by, assignments_of, number_of}
use Rattle.pv_bool_load.proofs.ForCallers.{only_entered}
use Rattle.pv_bool_load.specs.Handed.{SubjectData, blocks_of, scope_of, source_in}
use Rattle.pv_bool_load.specs.Forms.{IsFirst}
use Rattle.pv_command_verdict.specs.Sizes.{edges_of}
use Rattle.pv_command_verdict.specs.Correct.{block_size_of, CountsEdges}

-- ---- a word of the form always has a value

not_temp : (section : Section) → IsFirstSection section → is_temp section ≡ false
not_temp section (inl e) = ap is_temp e
not_temp section (inr (inl e)) = ap is_temp e
not_temp section (inr (inr e)) = ap is_temp e

not_brief : (block : BlockTree) (section : Section) → block.kind ≡ Fb → IsFirstSection section → is_brief_in block section ≡ false
not_brief block section kind is =
    ap (λ (k : BlockKind). if is_fb k then is_temp section else not (is_const section)) kind ∙ not_temp section is

first_section : (v : VarTree) → IsFirstVar v → IsFirstSection (section_of v)
first_section (var name section ty start place) is = is.0

no_brief : (block : BlockTree) (key : List ℕ) (other : Truth) → block.kind ≡ Fb → (vars : List VarTree) → AllByRecursion IsFirstVar vars
    → is_some (first_var vars key) ≡ true → is_brief_variable block (first_var vars key) other ≡ false
no_brief block key other kind [] all some = absurd (true≢false (sym some))
no_brief block key other kind (v ∷ vars) all some =
    lead (has_key key (name_of v)) (not_brief block (section_of v) kind (first_section v all.0)) (no_brief block key other kind vars all.1) some
  where
    lead : (h : Truth) → is_brief_in block (section_of v) ≡ false
        → (is_some (first_var vars key) ≡ true → is_brief_variable block (first_var vars key) other ≡ false)
        → is_some (cond h (Some v) (first_var vars key)) ≡ true
        → is_brief_variable block (cond h (Some v) (first_var vars key)) other ≡ false
    lead true here rest found = here
    lead false here rest found = rest found

-- ---- expressions make no check

module _ (scope : Scope) (kind : scope.block.kind ≡ Fb) (vars : AllByRecursion IsFirstVar scope.block.vars) where
  no_steps_checked : (path : StepTrees) → path ≡ no_steps → checks_of_steps scope path ≡ 0
  no_steps_checked path none = ap (λ (ps : StepTrees). checks_of_steps scope ps) none

  no_target : (o : OperandTree) → IsFirstOperand scope.block.vars o → checks_of_target scope o ≡ 0
  no_target (operand root path place) is = no_steps_checked path is.1

  read_set : (root : Root) (path : StepTrees) (place : Place) → IsFirstRoot scope.block.vars root
      → one_if (is_brief scope (operand root path place)) ≡ 0
  read_set (Local name hash at) path place is =
      ap one_if (no_brief scope.block name.key (is_some (own_value scope.block name.key hash)) kind scope.block.vars vars is.1)
  read_set (Named name) path place is = absurd is
  read_set (Area area bits byte bit) path place is = absurd is

  no_read : (o : OperandTree) → IsFirstOperand scope.block.vars o → checks_of_target scope o + one_if (is_brief scope o) ≡ 0
  no_read (operand root path place) is = (
      let steps = no_steps_checked path is.1 in
      let set = read_set root path place is.0 in
      omega (arith, steps, set)
      )

  no_divisor : (op : BinaryOp) → (op ≡ And) ⊎ (op ≡ Or) → one_if (divides op) ≡ 0
  no_divisor op (inl e) = ap (λ (o : BinaryOp). one_if (divides o)) e
  no_divisor op (inr e) = ap (λ (o : BinaryOp). one_if (divides o)) e

  no_check : (e : ExprTree) → IsFirstExpr scope.block.vars e → checks_of scope e ≡ 0
  no_check (lit ty value place) is = refl
  no_check (read o) is = no_read o is
  no_check (unary op place arg) is = no_check arg is.1
  no_check (binary op place left right) is = (
      let first = no_check left is.1 in
      let second = no_check right is.2 in
      let none = no_divisor op is.0 in
      omega (arith, first, second, none)
      )
  no_check (std function place args) is = absurd is
  no_check (paren place inner) is = no_check inner is

  -- ---- statements

  counted : (number : OperandTree → ℕ) (ss : StmtTrees) → AreFirstStmts scope.block.vars ss
      → sum_of_sizes scope ss ≡ length (assignments_by number ss)
  counted number no_stmts are = refl
  counted number (stmts (assign target place value) more) are = (
      let at = no_target target (are.0).0 in
      let to = no_check value (are.0).1 in
      let rest = counted number more are.1 in
      omega (arith, at, to, rest)
      )
  counted number (stmts (assign_call target place call) more) are = absurd are.0
  counted number (stmts (if_ conditions other place) more) are = absurd are.0
  counted number (stmts (case_ selector choices other place) more) are = absurd are.0
  counted number (stmts (for_ name name_place first last by body place) more) are = absurd are.0
  counted number (stmts (while_ condition body place) more) are = absurd are.0
  counted number (stmts (repeat_ body condition place) more) are = absurd are.0
  counted number (stmts (exit_ place) more) are = absurd are.0
  counted number (stmts (continue_ place) more) are = absurd are.0
  counted number (stmts (return_ place) more) are = absurd are.0
  counted number (stmts (call_ call) more) are = absurd are.0
  counted number (stmts (empty_ place) more) are = absurd are.0

  abbrev IsCount : ℕ → ℕ → Type 0
  IsCount size count = (size ≡ count) ⊎ ((count ≡ 0) × (size ≡ 1))

  list_counted : (number : OperandTree → ℕ) (ss : StmtTrees) → AreFirstStmts scope.block.vars ss
      → IsCount (size_of_list scope ss) (length (assignments_by number ss))
  list_counted number no_stmts are = inr (refl, refl)
  list_counted number (stmts s more) are = inl (counted number (stmts s more) are)

  body_counted : (number : OperandTree → ℕ) (body : BodyTree) → IsFirstBody scope.block.vars body
      → IsCount (size_of_body scope body) (length (assignments_of number body))
  body_counted number (scl statements) is = list_counted number statements is
  body_counted number (stl instructions) is = absurd is
  body_counted number (starts values) is = absurd is

-- ---- of what files hold

same_limit : (most size count : ℕ) → 1 ≤ most → (size ≡ count) ⊎ ((count ≡ 0) × (size ≡ 1)) → (most < count) ↔ (most < size)
same_limit most size count some (inl e) = (λ h. omega (arith, h, e), λ h. omega (arith, h, e))
same_limit most size count some (inr e) = (let none = e.0 in let one = e.1 in (λ h. omega (arith, h, none), λ h. omega (arith, h, one, some)))

first_block : (s : SubjectData) → IsFirst s → (number : ℕ) → slice_get (blocks_of s.given) number ≡ Some s.entered.block
    → IsFirstForm s.entered.block
first_block s is number there =
    let alone = is.are.project in
    let P : BlockTree → Type 0 = λ b. IsFirstForm b in
    subst P (only_entered alone.block s.entered.block number
    (subst (λ (bs : List BlockTree). slice_get bs number ≡ Some s.entered.block) alone.only there)) alone.first.form

pub counts_edges : (s : SubjectData) → IsFirst s → (number : ℕ) → slice_get (blocks_of s.given) number ≡ Some s.entered.block → CountsEdges s
counts_edges s is number there =
    let block = first_block s is number there in
    let size = body_counted (scope_of s.given s.entered) block.kind (recursion_from_All IsFirstVar s.entered.block.vars block.vars)
    (number_of (source_in s)) s.entered.block.body block.body in
    record { size = size; limit = same_limit MAX_EDGES (block_size_of s) (edges_of s) (omega arith) size }
