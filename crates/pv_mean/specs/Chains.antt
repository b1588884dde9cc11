-- Chains of calls: how many calls may stand behind one another in a block.
use Rattle.std.specs.Prelude.{ℕ, zero, suc, ⊤}
use Rattle.pv_tree.specs.Tree.{BodyTree, scl, stl, starts, BlockTree}
use Rattle.pv_tree.specs.Scopes.{ProjectTree}
use Rattle.pv_tree.specs.Callees.{CallSite, Callee, runs, not_declared, not_callable, unknown, callee_of}
use Rattle.pv_mean.specs.Doings.{EachInList, EachInstruction}

-- each call of a body passes the test
abbrev pub EachCallOf : (CallSite → Type 0) → BodyTree → Type 0
EachCallOf C (scl statements) = EachInList (λ o. ⊤) C statements
EachCallOf C (stl instructions) = EachInstruction (λ o. ⊤) C instructions
EachCallOf C (starts values) = ⊤

-- a call that runs a block runs one that passes the test
abbrev pub RunsSuch : (BlockTree → Type 0) → Callee → Type 0
RunsSuch P (runs block) = P block
RunsSuch P (not_declared place) = ⊤
RunsSuch P (not_callable place) = ⊤
RunsSuch P unknown = ⊤

-- no chain of more than n calls begins in the block
abbrev pub EndsWithin : ProjectTree → ℕ → BlockTree → Type 0
EndsWithin project zero block =
    EachCallOf (λ s. RunsSuch (λ b. ⊥) (callee_of (record { project = project; block = block }) s))
    block.body
EndsWithin project (suc n) block =
    EachCallOf (λ s. RunsSuch (λ b. EndsWithin project n b)
    (callee_of (record { project = project; block = block }) s)) block.body
