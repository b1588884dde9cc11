use Rattle.std.proofs.Common.{subst, ap, ◌∙◌, ◌≡◌, ◌≤◌, ◌<◌, length, List, ℕ, IfOk, OnOk}
use Rattle.pv_types.specs.declared.leaf.Leaf.{Leaf}
use Rattle.pv_types.specs.declared.layout.TheConstants.{MAX_LEAVES}
use Rattle.pv_types.specs.Named.{NamedType, types_of}
use Rattle.pv_types.specs.Tree.{VarTrees}
use Rattle.pv_types.specs.declared.walk.Walk.{Walk}
use Rattle.pv_types.specs.Walk.{all_leaves}
use Rattle.pv_types.specs.View.{var_trees, listed}
use Rattle.pv_types.specs.Leaves.{block, leaves_of_named, leaves_of_vars}
use Rattle.pv_types.proofs.layout.flatten_beneath.Goals as goal

same : (types : List NamedType) (walk : Walk) (path : List ℕ) (vars : VarTrees) (n : ℕ)
    → ((ts : List NamedType) → all_leaves ts walk ≡ leaves_of_vars (leaves_of_named ts n) block path vars)
    → n ≡ length types → all_leaves types walk ≡ leaves_of_vars (leaves_of_named types (length types)) block path vars
same types walk path vars n all is = all types ∙ ap (λ m. leaves_of_vars (leaves_of_named types m) block path vars) is

pub returns-clause-leaves : goal.returns-clause-leaves
returns-clause-leaves c =
    let types = types_of c.args.named.now in
    subst (λ (ls : List Leaf). IfOk c.run.result (λ leaves. leaves ≡ ls))
    (same types c.in_ok-walk.walk c.args.path.now (listed (var_trees c.args.vars.now)) c.len.result c.in_ok-walk.ensures.all c.len.ensures)
    c.run.ensures.leaves

pub returns-clause-within : goal.returns-clause-within
returns-clause-within c =
    let types = types_of c.args.named.now in
    subst (λ (ls : List Leaf). OnOk c.run.result (length ls ≤ MAX_LEAVES))
    (same types c.in_ok-walk.walk c.args.path.now (listed (var_trees c.args.vars.now)) c.len.result c.in_ok-walk.ensures.all c.len.ensures)
    c.run.ensures.within

pub returns-clause-too_large : goal.returns-clause-too_large
returns-clause-too_large c = λ is.
    let types = types_of c.args.named.now in
    subst (λ (ls : List Leaf). MAX_LEAVES < length ls)
    (same types c.in_ok-walk.walk c.args.path.now (listed (var_trees c.args.vars.now)) c.len.result c.in_ok-walk.ensures.all c.len.ensures)
    (c.run.ensures.too_large is)
