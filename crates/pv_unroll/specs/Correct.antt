-- What is promised of the call, and what its tables are: the statements that its proof is made of.
use Rattle.std.specs.Prelude.{◌≡◌, ℕ, ◌<◌, ◌≤◌, length, map, nat_lt, true}
use Rattle.std.specs.List.{list_all}
use Rattle.pv_flow.specs.declared.parts.Parts.{Parts as CodeParts}
use Rattle.pv_flow.specs.declared.fault.FlowFault.{FlowFault}
use Rattle.pv_flow.specs.declared.fault.FlowFault.TheVariants as flow
use Rattle.pv_flow.specs.Faults.{IsFaultless}
use Rattle.pv_flow.specs.WellMade.{IsWellMade}
use Rattle.pv_flow.specs.Machines.{IsInlined, IsAcyclic}
use Rattle.pv_flow.specs.View.{terms_of, edge_of, trap_end_of, over_end_of, parts_of}
use Rattle.pv_flow.specs.Tables.{AreTabled}
use Rattle.pv_copies.specs.Unrolled.{copied, whole_text, text_size, edges_of, traps_of, overs_of, unrolled, unrolled_size}
use Rattle.pv_unroll.specs.declared.fault.TheConstants.{MAX_EDGES, MAX_COPIES}
use Rattle.pv_unroll.specs.declared.fault.TooLarge.{TooLarge}
use Rattle.pv_unroll.specs.declared.fault.TooLarge.TheVariants.{Edges, Copies, NoMemory}
use Rattle.pv_flow.specs.Automata.{Parts}
use Rattle.pv_unroll.specs.Counts.{capped}
use Rattle.pv_unroll.specs.Laying.{Laid}
use Rattle.pv_unroll.specs.Tables.{edge_sizing, copy_sizing, laid_in, IsReplaced}

-- the conditions of unrolling, which the type of what is unrolled keeps
pub record CanUnroll (p : CodeParts) (n : ℕ) : Type 0 where
  pub faultless : IsFaultless (parts_of p)
  pub well_made : IsWellMade (parts_of p)
  pub inlined : IsInlined (parts_of p) n
  pub tabled : AreTabled p

-- it has the tables of terms and deeds that the other has: copies of an edge have its deed, and none is made anew
pub record KeepsTables (p q : CodeParts) : Type 0 where
  pub nodes : q.nodes.items ≡ p.nodes.items
  pub deeds : q.deeds.items ≡ p.deeds.items

-- its numbers of edges are within the limit, and those of its locations within 32 bits
pub record IsSmall (p : CodeParts) (n : ℕ) : Type 0 where
  pub edges : unrolled_size (parts_of p) n ≤ MAX_EDGES
  pub text : text_size (parts_of p) n ≤ MAX_COPIES
  pub locations : p.locations ≤ 4294967295
  pub bound : n ≤ 4294967295

-- so few edges and copies, as far as is counted
pub record IsFew (p : CodeParts) (n : ℕ) : Type 0 where
  pub edges : (edge_sizing p n).here ≤ MAX_EDGES
  pub copies : (copy_sizing p n).here ≤ MAX_COPIES

-- of a number of edges that are too many it is told how many they are, as far as is counted; copies may be too many where edges aren't
abbrev pub IsTooLarge : Parts → ℕ → TooLarge → Type 0
IsTooLarge p n (Edges size) = (size ≡ capped (unrolled_size p n)) × (MAX_EDGES < unrolled_size p n)
IsTooLarge p n Copies = (unrolled_size p n ≤ MAX_EDGES) × (MAX_COPIES < text_size p n)
IsTooLarge p n NoMemory = Unit {0}

-- only edges are counted
abbrev pub HasTooManyEdges : Parts → ℕ → TooLarge → Type 0
HasTooManyEdges p n (Edges size) = (size ≡ capped (unrolled_size p n)) × (MAX_EDGES < unrolled_size p n)
HasTooManyEdges p n Copies = ⊥
HasTooManyEdges p n NoMemory = Unit {0}

-- the size, which is within the limit
abbrev pub IsSizeOf : Parts → ℕ → ℕ → Type 0
IsSizeOf p n size = (size ≡ unrolled_size p n) × (size ≤ MAX_EDGES)

-- ---- what private clauses cite

abbrev pub IsWithin : ℕ → ℕ → Type 0
IsWithin counted size = (size ≡ counted) × (size ≤ MAX_EDGES)

abbrev pub IsOver : ℕ → TooLarge → Type 0
IsOver counted (Edges size) = (size ≡ counted) × (MAX_EDGES < counted)
IsOver counted Copies = ⊥
IsOver counted NoMemory = Unit {0}

-- so many copies
abbrev pub AreOver : ℕ → TooLarge → Type 0
AreOver copies (Edges size) = ⊥
AreOver copies Copies = MAX_COPIES < copies
AreOver copies NoMemory = Unit {0}

-- the one, or else the other
abbrev pub AreBeyond : ℕ → ℕ → TooLarge → Type 0
AreBeyond edges copies (Edges size) = (size ≡ edges) × (MAX_EDGES < edges)
AreBeyond edges copies Copies = (edges ≤ MAX_EDGES) × (MAX_COPIES < copies)
AreBeyond edges copies NoMemory = Unit {0}

-- ---- the tables are right

-- the pass counts the edges, and the copies
abbrev pub EdgesAreSized : Type 0
EdgesAreSized = (p : CodeParts) (n : ℕ) → CanUnroll p n → p.locations ≤ 4294967295 → (edge_sizing p n).here ≡ capped (unrolled_size (parts_of p) n)

abbrev pub CopiesAreSized : Type 0
CopiesAreSized = (p : CodeParts) (n : ℕ) → CanUnroll p n → p.locations ≤ 4294967295 → (copy_sizing p n).here ≡ capped (text_size (parts_of p) n)

-- ---- what is laid is the automaton of the copies, list by list

pub record IsLaid (p : CodeParts) (n : ℕ) (laid : Laid) : Type 0 where
  pub done : laid.done ≡ text_size (parts_of p) n
  pub here : laid.here ≡ text_size (parts_of p) n
  pub edges : map (edge_of (terms_of p.nodes.items) p.deeds.items) laid.edges
      ≡ edges_of (parts_of p) n 0 (copied (parts_of p) n 0 (whole_text (parts_of p) n))
  pub traps : map trap_end_of laid.traps ≡ traps_of (parts_of p) n 0 (copied (parts_of p) n 0 (whole_text (parts_of p) n))
  pub overs : map over_end_of laid.overs ≡ overs_of (parts_of p) 0 (whole_text (parts_of p) n)
  pub deeds : list_all (λ edge. nat_lt edge.deed (length p.deeds.items)) laid.edges ≡ true

abbrev pub CopiesAreLaid : Type 0
CopiesAreLaid = (p : CodeParts) (n : ℕ) → CanUnroll p n → IsSmall p n → IsLaid p n (laid_in p n)

-- ---- and so the parts are

abbrev pub ReplacedAreUnrolled : Type 0
ReplacedAreUnrolled = (p : CodeParts) (n : ℕ) (q : CodeParts) → CanUnroll p n → IsSmall p n → IsReplaced p (laid_in p n) q
    → parts_of q ≡ unrolled (parts_of p) n

-- what `build` and `acyclic` ask of them
pub record IsForward (q : CodeParts) : Type 0 where
  pub faultless : IsFaultless (parts_of q)
  pub well_made : IsWellMade (parts_of q)
  pub tabled : AreTabled q
  pub acyclic : IsAcyclic (parts_of q)

abbrev pub ReplacedAreForward : Type 0
ReplacedAreForward = (p : CodeParts) (n : ℕ) (q : CodeParts) → CanUnroll p n → IsSmall p n → IsReplaced p (laid_in p n) q → IsForward q

-- a fault of parts that is no fault of theirs
abbrev pub IsMemory : FlowFault → Type 0
IsMemory fault = fault ≡ flow.NoMemory
