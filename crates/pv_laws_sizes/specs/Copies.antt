-- What a call copies, parameter by parameter, as calls are made; and arguments as a call has them.
use Rattle.std.specs.Prelude.{◌⊎◌, ℕ, ◌+◌, ◌≤◌, List, [], ◌∷◌, length, ◌&&◌, Option, Some, None, is_some, IsTrue}
use Rattle.std.specs.List.{AllByRecursion}
use Rattle.pv_types.specs.declared.declaration.Section.{Section}
use Rattle.pv_tree.specs.Tree.{ArgTree, BlockTree}
use Rattle.pv_tree.specs.Scopes.{Scope, is_fc}
use Rattle.pv_tree.specs.Callees.{CallSite, is_output}
use Rattle.pv_mean.specs.Sources.{Source}
use Rattle.pv_mean.specs.Activations.{Activation}
use Rattle.pv_mean.specs.Calls.{argument_for, passed_in, passed_out}
use Rattle.pv_sizes.specs.Checks.{one_if, checks_of}
use Rattle.pv_sizes.specs.Sizes.{checks_of_taker}

-- each argument has a word, or one stands alone
abbrev pub AreOrdinary : List ArgTree → Type 0
AreOrdinary args = AllByRecursion (λ a. IsTrue (is_some a.name)) args ⊎ (length args ≤ 1)

abbrev pub sum_of : {X : Type 0} → (X → ℕ) → List X → ℕ
sum_of f [] = 0
sum_of f (x ∷ xs) = f x + sum_of f xs

-- an argument's value goes in: its checks, and the edge that copies it
abbrev pub size_in : Scope → Option ArgTree → ℕ
size_in scope None = 0
size_in scope (Some arg) = checks_of scope arg.value + 1

-- a value goes out: the checks of what takes it, the edge that copies it, and one where a function's output may have none
abbrev pub size_out : Scope → BlockTree → Section → Option ArgTree → ℕ
size_out scope callee section None = 0
size_out scope callee section (Some arg) =
    checks_of_taker scope arg.value + 1 + one_if (is_output section && is_fc callee.kind)

-- for each parameter that takes a value what goes in, and for each one that gives one what goes out
abbrev pub size_of_copies : Source → Scope → CallSite → Activation → ℕ
size_of_copies source scope site callee =
    sum_of (λ p. size_in scope (argument_for site callee.block p)) (passed_in source callee)
    + sum_of (λ p. size_out scope callee.block p.param.section (argument_for site callee.block p))
    (passed_out source site.how callee)
