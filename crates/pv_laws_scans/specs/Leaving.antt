-- What leaves a visible cell: an activation each of whose targets names another, wherever its indexes lead, and each of whose calls leaves
-- the cell: what goes to parameters goes to others, the called block leaves it, and what comes back goes to others.
use Rattle.std.specs.Prelude.{ℕ, zero, suc, IfSome, ⊤}
use Rattle.std.specs.List.{AllByRecursion}
use Rattle.pv_tree.specs.Tree.{OperandTree, BodyTree, scl, stl, starts}
use Rattle.pv_tree.specs.Callees.{CallSite, Callee, runs, not_declared, not_callable, unknown, callee_of}
use Rattle.pv_tree.specs.Parts.{operand_of}
use Rattle.pv_mean.specs.Sources.{Source}
use Rattle.pv_mean.specs.Activations.{Activation, scope_in}
use Rattle.pv_mean.specs.Calls.{instance_first, Passed, passed_in, passed_out, argument_for}
use Rattle.pv_mean.specs.Doings.{EachInList, EachInstruction}
use Rattle.pv_mean.specs.Correct.{Misses, IsApart}

-- each target of a body passes the one test, and each call the other
abbrev pub EachInBody : (OperandTree → Type 0) → (CallSite → Type 0) → BodyTree → Type 0
EachInBody T C (scl statements) = EachInList T C statements
EachInBody T C (stl instructions) = EachInstruction T C instructions
EachInBody T C (starts values) = ⊤

-- a parameter that takes an argument has another spot
abbrev pub TakesElsewhere : ℕ → CallSite → Activation → Passed → Type 0
TakesElsewhere n site callee p =
    IfSome (argument_for site callee.block p) (λ arg. Misses n p.spot)

-- the operand that a parameter's value goes to names another cell
abbrev pub GivesElsewhere : Source → ℕ → Activation → CallSite → Activation → Passed → Type 0
GivesElsewhere source n caller site callee p =
    IfSome (argument_for site callee.block p)
    (λ arg. IfSome (operand_of arg.value) (λ o. IsApart source caller n o))

-- a call whose callee works in an activation that passes the test
abbrev pub CallPasses : Source → ℕ → (Activation → Type 0) → Activation → CallSite → Activation → Type 0
CallPasses source n Body caller site callee =
    AllByRecursion (λ p. TakesElsewhere n site callee p) (passed_in source callee) × Body callee
    × AllByRecursion (λ p. GivesElsewhere source n caller site callee p)
    (passed_out source site.how callee)

-- one that isn't made does nothing
abbrev pub CalleePasses : Source → ℕ → (Activation → Type 0) → Activation → CallSite → Callee → Type 0
CalleePasses source n Body caller site (runs b) =
    CallPasses source n Body caller site
    (record { block = b; first = instance_first source caller site.call })
CalleePasses source n Body caller site (not_declared place) = ⊤
CalleePasses source n Body caller site (not_callable place) = ⊤
CalleePasses source n Body caller site unknown = ⊤

-- an activation leaves visible cell n, where so many calls may stand behind one another
abbrev pub Leaves : Source → ℕ → ℕ → Activation → Type 0
Leaves source n zero act = EachInBody (IsApart source act n) (λ site. ⊤) act.block.body
Leaves source n (suc calls) act =
    EachInBody (IsApart source act n) (λ site. CalleePasses source n (λ callee. Leaves source n calls callee)
    act site (callee_of (scope_in source act) site)) act.block.body
