-- Where the name of a start value leads, as the code goes along it.
use Rattle.std.proofs.Common.{◌≡◌, ℕ, ◌+◌, ◌<◌, ◌≤◌, List, map, drop, length, get_or, true, Option, Some, None, option_map, refl, sym, ap, ◌∙◌}
use Rattle.std.specs.Prelude.{option_and_then}
use Rattle.std.proofs.lemmas.List.{drop_all}
use Rattle.pv_types.specs.Tree.{VarTree}
use Rattle.pv_types.proofs.ForCallers.{fields-of-listed}
use Rattle.pv_tree.specs.declared.block.BlockKind.{BlockKind}
use Rattle.pv_tree.specs.declared.block.BlockKind.TheVariants.{Db}
use Rattle.pv_tree.specs.declared.expr.Operand.{Operand}
use Rattle.pv_tree.specs.declared.expr.Step.{Step}
use Rattle.pv_tree.specs.declared.expr.Expr.TheFolds.{fold_out-Operand}
use Rattle.pv_tree.specs.Tree.{ExprTree, OperandTree, operand, StepTree, BlockTree, PlacedName}
use Rattle.pv_tree.specs.View.{expr_step, step_tree, step_step, steps_of, operand_tree, operand_step}
use Rattle.pv_tree.specs.Scopes.{ProjectTree, is_of_instance, type_named}
use Rattle.pv_types.specs.Tree.{TypeTree}
use Rattle.pv_mean.specs.LaidOut.{capped_laid}
use Rattle.pv_mean.specs.Layout.{Laid, laid_among, field_among, field_from, laid_at_step, laid_behind, held_by, data_type}
use Rattle.pv_mean.specs.Cells.{started_from, started}
use Rattle.pv_cells.specs.Starts.{same_laid}
use Rattle.pv_cells.proofs.Pushing.{dropped}
use Rattle.pv_cells.proofs.Starting.{behind-same, counted-same}

abbrev C : Option Laid → Option Laid
C = option_map capped_laid

-- ---- fields

-- p is the project of a plan, q that of its tables and s that of its sizes
module _ (p q s : ProjectTree) (of_tables : q ≡ p) (of_sizes : s ≡ p) where
  pub field-found : (b : BlockTree) (vars : List VarTree) (key name : List ℕ) → Some b ≡ type_named q key → vars ≡ b.vars
      → C (laid_among s is_of_instance vars name 0) ≡ C (field_among p is_of_instance (type_named p key) name 0)
  field-found b vars key name is all =
      ap (λ x. C (laid_among x is_of_instance vars name 0)) of_sizes ∙ ap (λ vs. C (laid_among p is_of_instance vs name 0)) all
      ∙ ap (λ o. C (field_among p is_of_instance o name 0)) (is ∙ ap (λ x. type_named x key) of_tables)

  pub field-missing : (key name : List ℕ) → None ≡ type_named q key → None ≡ C (field_among p is_of_instance (type_named p key) name 0)
  field-missing key name is = ap (λ o. C (field_among p is_of_instance o name 0)) (is ∙ ap (λ x. type_named x key) of_tables)

-- a data block's field: its own, or that of its type
pub data-own : (p s : ProjectTree) → s ≡ p → (b : BlockTree) (vars : List VarTree) (name : List ℕ) → Db None ≡ b.kind → vars ≡ b.vars
    → C (laid_among s (λ x. true) vars name 0) ≡ C (field_from p (data_type b) 0 name)
data-own p s of_sizes b vars name kind all =
    ap (λ x. C (laid_among x (λ x. true) vars name 0)) of_sizes ∙ ap (λ vs. C (laid_among p (λ x. true) vs name 0)) all
    ∙ ap (λ vs. C (laid_among p (λ x. true) vs name 0)) (sym (fields-of-listed b.vars))
    ∙ ap (λ k. C (field_from p (held_by k b.vars) 0 name)) kind

pub data-typed : (p : ProjectTree) (b : BlockTree) (of : PlacedName) (name : List ℕ) → Db (Some of) ≡ b.kind
    → C (field_among p is_of_instance (type_named p of.0.key) name 0) ≡ C (field_from p (data_type b) 0 name)
data-typed p b of name kind = ap (λ k. C (field_from p (held_by k b.vars) 0 name)) kind

-- other blocks hold nothing
pub data-none : (p : ProjectTree) (b : BlockTree) (kind : BlockKind) (name : List ℕ) → kind ≡ b.kind
    → None ≡ C (field_from p (held_by kind b.vars) 0 name) → None ≡ C (field_from p (data_type b) 0 name)
data-none p b kind name is none = none ∙ ap (λ k. C (field_from p (held_by k b.vars) 0 name)) is

-- ---- steps

and_then_some : {X Y : Type 0} (f : X → Option Y) (x : X) → option_and_then f (Some x) ≡ f x
and_then_some f x = refl

module _ (p : ProjectTree) (ss : List Step) (i : ℕ) (t whole : Option Laid) where
  pub step-left : (j : ℕ) (x : Step) → i < length ss → x ≡ get_or ss i x → j ≡ i + 1 → (later : Option Laid)
      → later ≡ C (option_and_then (λ l. laid_at_step p l (step_tree x)) t)
      → same_laid (laid_behind p t (steps_of (map step_tree (drop i ss)))) whole
      → same_laid (laid_behind p later (steps_of (map step_tree (drop j ss)))) whole
  step-left j x inside is next later goes left =
      behind-same p (steps_of (map step_tree (drop j ss))) later (option_and_then (λ l. laid_at_step p l (step_tree x)) t)
      (counted-same later (option_and_then (λ l. laid_at_step p l (step_tree x)) t) goes)
      ∙ ap (λ l. C (laid_behind p t (steps_of (map step_tree l)))) (sym (dropped ss i j x inside is next)) ∙ left

  pub steps-done : length ss ≤ i → same_laid (laid_behind p t (steps_of (map step_tree (drop i ss)))) whole → same_laid t whole
  steps-done past left = ap (λ l. C (laid_behind p t (steps_of (map step_tree l)))) (sym (drop_all i ss past)) ∙ left

operand_seen : (o : Operand) → operand_tree o ≡ operand o.root.value (steps_of (map step_tree o.steps.items)) o.place
operand_seen o = fold_out-Operand ExprTree StepTree OperandTree expr_step step_step operand_step o

pub started-made : (p : ProjectTree) (ty : TypeTree) (o : Operand) (r root : Option Laid) (ss : List Step) → root ≡ C (started_from p ty o.root.value)
    → ss ≡ o.steps.items → same_laid r (laid_behind p root (steps_of (map step_tree ss))) → same_laid r (started p ty (operand_tree o))
started-made p ty o r root ss begins all goes =
    goes ∙ ap (λ l. C (laid_behind p root (steps_of (map step_tree l)))) all
    ∙ behind-same p (steps_of (map step_tree o.steps.items)) root (started_from p ty o.root.value) (counted-same root (started_from p ty o.root.value) begins)
    ∙ ap (λ x. C (started p ty x)) (sym (operand_seen o))
