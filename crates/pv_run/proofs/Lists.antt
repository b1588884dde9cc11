-- Parts of a program's arrays, read one by one.
use Rattle.std.proofs.lemmas.Option.{slice_get_read}
use Rattle.std.proofs.Common.{◌≡◌, ℕ, zero, suc, ◌+◌, ◌<◌, ◌≤◌, length, get_or, List, [], ◌∷◌, Option, Some, None, refl, sym, ap, subst, ◌∙◌, arith}
use Rattle.std.specs.Prelude.{slice_get}
use Rattle.pv_tree.specs.declared.stmt.Choice as tree
use Rattle.pv_tree.specs.Tree.{ExprTree, Choices, StmtTree, StmtTrees, no_stmts, stmts, ArmTrees, no_arms, arms, BranchTrees, no_branches, branches, BlockTree}
use Rattle.pv_mean.specs.Sources.{Source}
use Rattle.pv_run.specs.declared.program.Stmt.{Stmt}
use Rattle.pv_run.specs.declared.program.Arm.{Arm}
use Rattle.pv_run.specs.declared.program.Branch.{Branch}
use Rattle.pv_run.specs.declared.program.Choice.{Choice}
use Rattle.pv_run.specs.declared.program.Program.{Program}
use Rattle.pv_run.specs.Code.{IsValue, IsStmt, AreStmts, no_stmt, stmt_then, IsBody, AreArms, no_arm, arm_then, AreBranches, no_branch, branch_then, AreChoices, no_choice, choice_then, IsChoiceTo}

-- what stands at a number stands there alone
pub the_one : {A : Type 0} (o : Option A) (a b : A) → o ≡ Some a → o ≡ Some b → a ≡ b
the_one o a b p q = ap (λ x. elim x [
  | None ↦ a
  | Some y ↦ y
]) (sym p ∙ q)

pub not_both : {A : Type 0} (o : Option A) (a : A) → o ≡ Some a → o ≡ None → ⊥
not_both o a p q = cc

-- ---- statements

pub record NextStmt (source : Source) (block : BlockTree) (p : Program) (n m : ℕ) (c : Stmt) (trees : StmtTrees) : Type 0 where
  pub stmt : StmtTree
  pub more : StmtTrees
  pub are : trees ≡ stmts stmt more
  pub is : IsStmt source block p n c stmt
  pub rest : AreStmts source block p (n + 1) m more

pub next_stmt : {source : Source} {block : BlockTree} {p : Program} {n m : ℕ} {trees : StmtTrees} → AreStmts source block p n m trees
    → n < m → (c : Stmt) → slice_get p.stmts.items n ≡ Some c → NextStmt source block p n m c trees
next_stmt no_stmt h c e = absurd (omega arith)
next_stmt {source} {block} {p} {n} (stmt_then {s = s} {more = more} d at lt is rest) h c e = record {
  stmt = s;
  more = more;
  are = refl;
  is = subst (λ x. IsStmt source block p n x s) (the_one (slice_get p.stmts.items n) d c at e) is;
  rest = rest;
}

pub no_next_stmt : {source : Source} {block : BlockTree} {p : Program} {n m : ℕ} {trees : StmtTrees} → AreStmts source block p n m trees
    → n < m → slice_get p.stmts.items n ≡ None → ⊥
no_next_stmt no_stmt h e = omega arith
no_next_stmt {p = p} {n = n} (stmt_then d at lt is rest) h e = not_both (slice_get p.stmts.items n) d at e

pub last_stmt : {source : Source} {block : BlockTree} {p : Program} {n m : ℕ} {trees : StmtTrees} → AreStmts source block p n m trees
    → (n < m → ⊥) → trees ≡ no_stmts
last_stmt no_stmt e = refl
last_stmt (stmt_then d at lt is rest) e = absurd (e lt)

-- ---- arms

pub record NextArm (source : Source) (block : BlockTree) (p : Program) (k n m : ℕ) (a : Arm) (trees : ArmTrees) : Type 0 where
  pub condition : ExprTree
  pub body : StmtTrees
  pub more : ArmTrees
  pub are : trees ≡ arms condition body more
  pub is : IsValue source block p a.condition condition
  pub runs : IsBody source block p k a.body body
  pub rest : AreArms source block p k (n + 1) m more

pub next_arm : {source : Source} {block : BlockTree} {p : Program} {k n m : ℕ} {trees : ArmTrees} → AreArms source block p k n m trees
    → n < m → (a : Arm) → slice_get p.arms.items n ≡ Some a → NextArm source block p k n m a trees
next_arm no_arm h a e = absurd (omega arith)
next_arm {source} {block} {p} {k} {n} (arm_then {condition = condition} {body = body} {more = more} d at lt is runs rest) h a e = record {
  condition = condition;
  body = body;
  more = more;
  are = refl;
  is = subst (λ x. IsValue source block p x.condition condition) (the_one (slice_get p.arms.items n) d a at e) is;
  runs = subst (λ x. IsBody source block p k x.body body) (the_one (slice_get p.arms.items n) d a at e) runs;
  rest = rest;
}

pub no_next_arm : {source : Source} {block : BlockTree} {p : Program} {k n m : ℕ} {trees : ArmTrees} → AreArms source block p k n m trees
    → n < m → slice_get p.arms.items n ≡ None → ⊥
no_next_arm no_arm h e = omega arith
no_next_arm {p = p} {n = n} (arm_then d at lt is runs rest) h e = not_both (slice_get p.arms.items n) d at e

pub last_arm : {source : Source} {block : BlockTree} {p : Program} {k n m : ℕ} {trees : ArmTrees} → AreArms source block p k n m trees
    → (n < m → ⊥) → trees ≡ no_arms
last_arm no_arm e = refl
last_arm (arm_then d at lt is runs rest) e = absurd (e lt)

-- ---- branches

pub record NextBranch (source : Source) (block : BlockTree) (p : Program) (k n m : ℕ) (b : Branch) (trees : BranchTrees) : Type 0 where
  pub choices : Choices
  pub body : StmtTrees
  pub more : BranchTrees
  pub are : trees ≡ branches choices body more
  pub is : AreChoices block p b.choices.first b.choices.end choices
  pub runs : IsBody source block p k b.body body
  pub rest : AreBranches source block p k (n + 1) m more

pub next_branch : {source : Source} {block : BlockTree} {p : Program} {k n m : ℕ} {trees : BranchTrees}
    → AreBranches source block p k n m trees
    → n < m → (b : Branch) → slice_get p.branches.items n ≡ Some b → NextBranch source block p k n m b trees
next_branch no_branch h b e = absurd (omega arith)
next_branch {source} {block} {p} {k} {n} (branch_then {choices = choices} {body = body} {more = more} d at lt is runs rest) h b e = record {
  choices = choices;
  body = body;
  more = more;
  are = refl;
  is = subst (λ x. AreChoices block p x.choices.first x.choices.end choices) (the_one (slice_get p.branches.items n) d b at e) is;
  runs = subst (λ x. IsBody source block p k x.body body) (the_one (slice_get p.branches.items n) d b at e) runs;
  rest = rest;
}

pub no_next_branch : {source : Source} {block : BlockTree} {p : Program} {k n m : ℕ} {trees : BranchTrees}
    → AreBranches source block p k n m trees → n < m → slice_get p.branches.items n ≡ None → ⊥
no_next_branch no_branch h e = omega arith
no_next_branch {p = p} {n = n} (branch_then d at lt is runs rest) h e = not_both (slice_get p.branches.items n) d at e

pub last_branch : {source : Source} {block : BlockTree} {p : Program} {k n m : ℕ} {trees : BranchTrees}
    → AreBranches source block p k n m trees → (n < m → ⊥) → trees ≡ no_branches
last_branch no_branch e = refl
last_branch (branch_then d at lt is runs rest) e = absurd (e lt)

-- ---- choices

pub record NextChoice (block : BlockTree) (p : Program) (n m : ℕ) (c : Choice) (trees : Choices) : Type 0 where
  pub low : tree.Choice
  pub high : Option tree.Choice
  pub more : Choices
  pub are : trees ≡ (low, high) ∷ more
  pub is : IsChoiceTo block c low high
  pub rest : AreChoices block p (n + 1) m more

pub next_choice : {block : BlockTree} {p : Program} {n m : ℕ} {trees : Choices} → AreChoices block p n m trees
    → n < m → (c : Choice) → slice_get p.choices.items n ≡ Some c → NextChoice block p n m c trees
next_choice no_choice h c e = absurd (omega arith)
next_choice {block} {p} {n} (choice_then {low = low} {high = high} {more = more} d at lt is rest) h c e = record {
  low = low;
  high = high;
  more = more;
  are = refl;
  is = subst (λ x. IsChoiceTo block x low high) (the_one (slice_get p.choices.items n) d c at e) is;
  rest = rest;
}

pub no_next_choice : {block : BlockTree} {p : Program} {n m : ℕ} {trees : Choices} → AreChoices block p n m trees
    → n < m → slice_get p.choices.items n ≡ None → ⊥
no_next_choice no_choice h e = omega arith
no_next_choice {p = p} {n = n} (choice_then d at lt is rest) h e = not_both (slice_get p.choices.items n) d at e

pub last_choice : {block : BlockTree} {p : Program} {n m : ℕ} {trees : Choices} → AreChoices block p n m trees → (n < m → ⊥) → trees ≡ []
last_choice no_choice e = refl
last_choice (choice_then d at lt is rest) e = absurd (e lt)

-- ---- looking at a number

pub missing_at : {A : Type 0} (xs ys : List A) (n : ℕ) → xs ≡ ys → length xs ≤ n → slice_get ys n ≡ None
missing_at {A} xs ys n e h = subst (λ zs. slice_get zs n ≡ None) e (beyond xs n h)
  where
    beyond : (zs : List A) (k : ℕ) → length zs ≤ k → slice_get zs k ≡ None
    beyond [] k p = refl
    beyond (z ∷ zs) zero p = absurd (omega arith)
    beyond (z ∷ zs) (suc k) p = beyond zs k (omega arith)

pub found_at : {A : Type 0} (xs ys : List A) (n : ℕ) (a : A) → xs ≡ ys → n < length xs → a ≡ get_or xs n a → slice_get ys n ≡ Some a
found_at {A} xs ys n a e lt is = subst (λ zs. slice_get zs n ≡ Some a) e (slice_get_read xs (length xs) n a refl lt is)
