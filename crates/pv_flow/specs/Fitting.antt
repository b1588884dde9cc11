-- Blocks that fit each other: each call edge runs a block that is there, for which its caller has variables, and calls form no cycle.
-- So each call can be replaced by a copy of its block.
use Rattle.std.specs.Prelude.{◌≡◌, ℕ, ◌+◌, ◌<◌, ◌≤◌, length, Bool, true, false, ◌==◌, IfSome, MatchOption, Option, Some, None, All}
use Rattle.std.specs.List.{list_any}
use Rattle.pv_flow.specs.Automata.{CallEdge, Parts, types_of}
use Rattle.pv_flow.specs.Faults.{IsFaultless}
use Rattle.pv_flow.specs.WellMade.{IsWellMade}
use Rattle.pv_flow.specs.Calls.{Blocks, block_at}

-- ---- one call

-- a call edge of one automaton runs the other: the callee's bound variables lie among the caller's from `instance` on, and have their
-- types there; both have as many shared variables, of equal types. Of roles and starts nothing is said: a run with calls looks at the
-- callee's role of bound ones alone.
pub record IsFit (caller : Parts) (call : CallEdge) (callee : Parts) : Type 0 where
  pub room : call.instance + callee.bound ≤ length caller.vars
  pub bound : (x : ℕ) → x < callee.bound → types_of callee x ≡ types_of caller (call.instance + x)
  pub count : callee.shared ≡ caller.shared
  pub shared : (x : ℕ) → x < callee.shared → types_of callee (callee.bound + x) ≡ types_of caller (caller.bound + x)

-- the call's block is there, and fits
abbrev pub FitsIn : Blocks → Parts → CallEdge → Type 0
FitsIn blocks caller call = MatchOption (block_at blocks call.block) ⊥ (λ callee. IsFit caller call callee)

-- ---- chains of calls

abbrev pub runs_in : Option Parts → ℕ → Bool
runs_in None c = false
runs_in (Some p) c = list_any (λ call. call.block == c) p.calls

-- a call edge of block b runs block c
abbrev pub runs_block : Blocks → ℕ → ℕ → Bool
runs_block blocks b c = runs_in (block_at blocks b) c

-- calls lead from the one block to the other, which may be the same
pub data LeadsTo (blocks : Blocks) : ℕ → ℕ → Type 0 where
  nowhere : {b : ℕ} → LeadsTo blocks b b
  onward : {b c d : ℕ} → runs_block blocks b c ≡ true → LeadsTo blocks c d → LeadsTo blocks b d

-- ---- all blocks

pub record AreFitting (blocks : Blocks) : Type 0 where
  pub calls : (b : ℕ) → IfSome (block_at blocks b) (λ p. All (FitsIn blocks p) p.calls)
  -- no block calls itself, directly or through others
  pub no_return : (b c : ℕ) → runs_block blocks b c ≡ true → LeadsTo blocks c b → ⊥

-- each block's automaton has no fault and is well made
pub record IsSound (p : Parts) : Type 0 where
  pub faultless : IsFaultless p
  pub well_made : IsWellMade p

abbrev pub AreSound : Blocks → Type 0
AreSound blocks = (b : ℕ) → IfSome (block_at blocks b) IsSound
