-- Chains of calls. Calls form a cycle; or a call stands in a block that a chain of calls has as its eighth block, the chain's first
-- block being its first. The place is the call's first token. A call that can't be made is no link of a chain.
use Rattle.std.specs.Prelude.{◌≡◌, ℕ, zero, suc, Any, Contains}
use Rattle.pv_place.specs.declared.place.Place.{Place}
use Rattle.pv_tree.specs.Tree.{BlockTree}
use Rattle.pv_tree.specs.Scopes.{ProjectTree}
use Rattle.pv_tree.specs.Callees.{CallSite, runs, callee_of}
use Rattle.pv_tree.specs.Parts.{calls_of}

-- a call in the one block runs the other
abbrev pub Runs : ProjectTree → BlockTree → BlockTree → CallSite → Type 0
Runs project caller callee s =
    callee_of (record { project = project; block = caller }) s ≡ runs callee

abbrev pub Calls : ProjectTree → BlockTree → BlockTree → Type 0
Calls project caller callee = Any (Runs project caller callee) (calls_of caller)

-- calls lead from the one block to the other, which may be the same
pub data LeadsTo (project : ProjectTree) : BlockTree → BlockTree → Type 0 where
  here : {block : BlockTree} → LeadsTo project block block
  by : {first next last : BlockTree} → Calls project first next → LeadsTo project next last
      → LeadsTo project first last

-- a call in this block runs one from which calls lead back to it
abbrev pub IsOnCycle : ProjectTree → BlockTree → CallSite → Type 0
IsOnCycle project caller s =
    (callee : BlockTree) × Runs project caller callee s × LeadsTo project callee caller

abbrev pub CallsInCycle : ProjectTree → Place → BlockTree → Type 0
CallsInCycle project at block =
    Any (λ s. (s.call.place ≡ at) × IsOnCycle project block s) (calls_of block)

abbrev pub IsCycle : ProjectTree → Place → Type 0
IsCycle project at = Any (CallsInCycle project at) project.blocks

-- a chain of so many calls between blocks of the project ends with the block
abbrev pub EndsChain : ProjectTree → ℕ → BlockTree → Type 0
EndsChain project zero block = Contains project.blocks block
EndsChain project (suc n) block =
    Any (λ caller. EndsChain project n caller × Calls project caller block) project.blocks

-- a call that is a link of a chain
abbrev pub IsLink : ProjectTree → BlockTree → CallSite → Type 0
IsLink project caller s = (callee : BlockTree) × Runs project caller callee s

abbrev pub CallsTooDeep : ProjectTree → Place → BlockTree → Type 0
CallsTooDeep project at block = EndsChain project 7 block × Any (λ s. (s.call.place ≡ at)
    × IsLink project block s) (calls_of block)

abbrev pub IsTooDeep : ProjectTree → Place → Type 0
IsTooDeep project at = Any (CallsTooDeep project at) project.blocks
