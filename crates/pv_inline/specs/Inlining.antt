-- The automaton with copies, put together of what was made.
use Rattle.std.specs.Prelude.{◌≡◌, ℕ, ◌<◌, ◌≤◌, List, [], length, MatchOption, Option, Some, None}
use Rattle.pv_flow.specs.declared.parts.Variable.{Variable as CodeVariable}
use Rattle.pv_flow.specs.declared.parts.Parts.{Parts as CodeParts}
use Rattle.pv_flow.specs.declared.inlined_machine.Inlined.{Inlined}
use Rattle.pv_flow.specs.Automata.{Parts}
use Rattle.pv_flow.specs.Calls.{Blocks, block_at}
use Rattle.pv_flow.specs.CallMachines.{IsMachineWithCalls}
use Rattle.pv_flow.specs.MachineView.{inlined_parts, bound_of}
use Rattle.pv_flow.specs.Faults.{IsFaultless}
use Rattle.pv_flow.specs.Fitting.{AreFitting, AreSound}
use Rattle.pv_flow.specs.Machines.{inlined_machine}
use Rattle.pv_flow.specs.Tables.{AreTabled}
use Rattle.pv_flow.specs.View.{parts_of}
use Rattle.pv_flow.specs.WellMade.{IsWellMade}
use Rattle.pv_call_copies.specs.Inlined.{inlined_size, inlined}
use Rattle.pv_call_tables.specs.declared.drawn.Drawn.{Drawn}
use Rattle.pv_call_tables.specs.Drawing.{edges_by, traps_by, overs_by, next_after}
use Rattle.pv_inline.specs.declared.copying.Body.{Body as CodeBody}
use Rattle.pv_inline.specs.declared.making.Making.{Making as CodeMaking}
use Rattle.pv_inline.specs.declared.inlining.Ways.{Ways as CodeWays}
use Rattle.pv_inline.specs.declared.fault.TooLarge.{TooLarge}
use Rattle.pv_inline.specs.declared.fault.TooLarge.TheVariants.{Edges, Numbers, NoMemory}
use Rattle.pv_inline.specs.declared.fault.TheConstants.{MAX_EDGES}
use Rattle.pv_inline.specs.Blocks.{blocks_in, code_at}
use Rattle.pv_inline.specs.Short.{HasShortCopies}

-- ---- what public clauses cite

abbrev pub IsThere : Option Parts → Type 0
IsThere None = ⊥
IsThere (Some p) = Unit {0}

-- each name in a table of the code's parts names something
abbrev pub AreTabledCodes : List (Option CodeParts) → Type 0
AreTabledCodes codes = (b : ℕ) (p : CodeParts) → code_at codes b ≡ Some p → AreTabled p

-- parts that are automata and fit, one of which is block b
pub record CanCopy (codes : List (Option CodeParts)) (b : ℕ) : Type 0 where
  pub fit : AreFitting (blocks_in codes)
  pub sound : AreSound (blocks_in codes)
  pub tabled : AreTabledCodes codes
  pub there : IsThere (block_at (blocks_in codes) b)

-- what the block becomes
abbrev pub IsCopied : Blocks → ℕ → CodeParts → Type 0
IsCopied blocks b q = MatchOption (block_at blocks b) ⊥ (λ p. parts_of q ≡ inlined blocks p)

-- an automaton without call edges
pub record IsWithoutCalls (q : CodeParts) : Type 0 where
  pub faultless : IsFaultless (parts_of q)
  pub well_made : IsWellMade (parts_of q)
  pub tabled : AreTabled q
  pub calls : length (parts_of q).calls ≡ 0

-- the automaton of block b with copies, with this loop bound
abbrev pub IsInlinedAs : Blocks → ℕ → ℕ → Inlined → Type 0
IsInlinedAs blocks b n m = MatchOption (block_at blocks b) ⊥ (λ p. (inlined_parts m ≡ inlined blocks p) × (bound_of m ≡ n))

-- its machine is that of the block with calls
abbrev pub HasTheMachine : Blocks → ℕ → ℕ → Inlined → Type 0
HasTheMachine blocks b n m = MatchOption (block_at blocks b) ⊥ (λ p. IsMachineWithCalls blocks n p (inlined_machine (inlined_parts m) n))

-- numbers may run out only where edges aren't too many and not each number of the copies has 32 bits
abbrev pub IsTooMany : Blocks → List (Option CodeParts) → ℕ → TooLarge → Type 0
IsTooMany blocks codes b Edges = MAX_EDGES < inlined_size blocks b
IsTooMany blocks codes b Numbers = (inlined_size blocks b ≤ MAX_EDGES) × (HasShortCopies codes b → ⊥)
IsTooMany blocks codes b NoMemory = Unit {0}

-- ---- what private clauses cite

pub record IsEntryBody (p : CodeParts) (b : CodeBody) : Type 0 where
  pub start : b.start ≡ 0
  pub out : b.out ≡ None
  pub deeds : b.deeds ≡ 0
  pub edges : b.edges ≡ 0
  pub free : b.free ≡ length p.vars.items

pub record IsAssembled (p : CodeParts) (vs : List CodeVariable) (m : CodeMaking) (text last : ℕ) (q : CodeParts) : Type 0 where
  pub nodes : q.nodes.items ≡ m.nodes.items
  pub deeds : q.deeds.items ≡ m.deeds.items
  pub vars : q.vars.items ≡ vs
  pub bound : q.bound ≡ p.bound
  pub shared : q.shared ≡ p.shared
  pub locations : q.locations ≡ next_after text m.drawn.items
  pub edges : q.edges.items ≡ edges_by text m.drawn.items
  pub calls : q.calls.items ≡ []
  pub loops : q.loops.items ≡ m.loops.items
  pub is_done : q.done ≡ last
  pub traps : q.traps.items ≡ traps_by text m.drawn.items
  pub overs : q.overs.items ≡ overs_by text m.drawn.items

-- the parts of the automaton of block b, which has these, with copies; the numbers of their tables name something
pub record IsInlining (codes : List (Option CodeParts)) (b : ℕ) (p q : CodeParts) : Type 0 where
  pub parts : CanCopy codes b → code_at codes b ≡ Some p → parts_of q ≡ inlined (blocks_in codes) (parts_of p)
  pub tabled : CanCopy codes b → code_at codes b ≡ Some p → AreTabled q

pub record IsWays (text : ℕ) (ds : List Drawn) (w : CodeWays) : Type 0 where
  pub locations : w.locations ≡ next_after text ds
  pub edges : w.edges.items ≡ edges_by text ds
  pub traps : w.traps.items ≡ traps_by text ds
  pub overs : w.overs.items ≡ overs_by text ds

-- put together of what was made and these ways
pub record IsPutTogether (p : CodeParts) (vs : List CodeVariable) (m : CodeMaking) (last : ℕ) (w : CodeWays) (q : CodeParts) : Type 0 where
  pub nodes : q.nodes.items ≡ m.nodes.items
  pub deeds : q.deeds.items ≡ m.deeds.items
  pub vars : q.vars.items ≡ vs
  pub bound : q.bound ≡ p.bound
  pub shared : q.shared ≡ p.shared
  pub locations : q.locations ≡ w.locations
  pub edges : q.edges.items ≡ w.edges.items
  pub calls : q.calls.items ≡ []
  pub loops : q.loops.items ≡ m.loops.items
  pub is_done : q.done ≡ last
  pub traps : q.traps.items ≡ w.traps.items
  pub overs : q.overs.items ≡ w.overs.items
