-- What is so of each flow and of its layout: the statements of the laws.
use Rattle.std.specs.Prelude.{◌≡◌, ℕ, suc, ◌+◌, ◌<◌, ◌≤◌, ◌⊎◌, List, [], ◌∷◌, length, slice_get, true, false, IfSome, Option, Some, None, All}
use Rattle.pv_flow.specs.Terms.{Valuation, holds_in}
use Rattle.pv_flow.specs.Automata.{Set, Edge, CallEdge, Loop, Parts, type_at, holds}
use Rattle.pv_flow.specs.Faults.{IsFaultless}
use Rattle.pv_flow.specs.WellMade.{IsVariable, true_guards, IsWellMade}
use Rattle.pv_flow.specs.Runs.{Outcome, trapped, gone_over, Counts, at, entry_count, moved, entered, first_spot}
use Rattle.pv_flow.specs.Calls.{Blocks, block_at, Work, entry_work, numbered, callee_work, cleared, Stage, running, finished, ComesTo, EndsAs}
use Rattle.pv_flow.specs.Fitting.{AreFitting}
use Rattle.pv_layout.specs.Spots.{Check, Way, Spot, Act, Branch, Enter, is_on, edges_at}
use Rattle.pv_layout.specs.Flows.{Flow, Ending, normal, at_exit, at_continue, at_return, by_trap, by_over, Setting, flow, outcome_of_ending}
use Rattle.pv_layout.specs.Layout.{width, loops_in, Exits, spots_of, loops_of, Text, text_of, Head, parts_of, plain}
use Rattle.pv_layout.specs.SpotRuns.{calls_before, Reaches}
use Rattle.pv_layout.specs.Sound.{LeadWithin, IsSoundText}
use Rattle.pv_layout.specs.Bodies.{Body, Bodies, blocks_of, body_at, laid, run_body, IsTypedBody}

-- ---- one edge

-- where an edge leads, and what it assigns
pub record Target : Type 0 where
  pub to : ℕ
  pub sets : List Set

abbrev pub target_of : Option Edge → Option Target
target_of None = None
target_of (Some edge) = Some (record { to = edge.to; sets = edge.sets })

-- the first edge whose guard is true
abbrev pub first_true : Valuation → List Edge → Option Edge
first_true w [] = None
first_true w (edge ∷ edges) = elim (holds_in w edge.guard) [ true ↦ Some edge | false ↦ first_true w edges ]

abbrev pub target_by : Way → Target
target_by on = record { to = on.to; sets = on.sets }

-- the trap of the first check that fails, or the way
abbrev pub target_or : ℕ → ℕ → Valuation → List Check → Target → Target
target_or done t w [] next = next
target_or done t w (check ∷ checks) next = elim (is_on w check.fails) [
  | true ↦ record { to = done + suc t; sets = [] }
  | false ↦ target_or done (suc t) w checks next
]

-- what a spot chooses in a valuation, with t locations of traps before its own
abbrev pub chosen : ℕ → ℕ → Valuation → Spot → Option Target
chosen done t w (Act checks on) = Some (target_or done t w checks (target_by on))
chosen done t w (Branch checks c one other) =
    Some (target_or done t w checks (elim (is_on w c) [ true ↦ target_by one | false ↦ target_by other ]))
chosen done t w (Enter block instance place to) = None

-- of a spot's edges the first whose guard is true is that of the first check that fails, or of the way, in every valuation
abbrev pub SpotsChoose : Type 0
SpotsChoose = (done t l : ℕ) (spot : Spot) (w : Valuation) → target_of (first_true w (edges_at done t l spot)) ≡ chosen done t w spot

abbrev pub ways_taken : Spot → ℕ
ways_taken (Act checks on) = 1
ways_taken (Branch checks c one other) = 1
ways_taken (Enter block instance place to) = 0

-- and it is the only one; a call has no edges
abbrev pub OneEdge : Type 0
OneEdge = (done t l : ℕ) (spot : Spot) (w : Valuation) → true_guards w (edges_at done t l spot) ≡ ways_taken spot

-- ---- flows

-- the list has these from place a on
abbrev pub IsLaid : {X : Type 0} → List X → ℕ → List X → Type 0
IsLaid whole a [] = Unit {0}
IsLaid whole a (x ∷ xs) = (slice_get whole a ≡ Some x) × IsLaid whole (suc a) xs

-- the location isn't one from a on, below b
abbrev pub IsOutside : ℕ → ℕ → ℕ → Type 0
IsOutside a b x = (x < a) ⊎ (b ≤ x)

pub record AreOutside (a b : ℕ) (to : Exits) : Type 0 where
  pub next : IsOutside a b to.next
  pub on_exit : IsOutside a b to.on_exit
  pub on_continue : IsOutside a b to.on_continue
  pub on_return : IsOutside a b to.on_return

-- the loop holds all of the locations from a on, below b, or none of them
abbrev pub HoldsAlike : ℕ → ℕ → Loop → Type 0
HoldsAlike a b loop = (x y : ℕ) → a ≤ x → x < b → a ≤ y → y < b → holds loop x ≡ holds loop y

-- and so does each but those that are numbered from i on, below j
abbrev pub OthersNest : List Loop → ℕ → ℕ → ℕ → ℕ → Type 0
OthersNest loops i j a b = (k : ℕ) → IsOutside i j k → IfSome (slice_get loops k) (HoldsAlike a b)

-- those that are numbered from i on, below j, and hold location a, have the counts with which they are entered
abbrev pub AreFresh : List Loop → ℕ → ℕ → ℕ → Counts → Type 0
AreFresh loops i j a counts =
    (k : ℕ) → i ≤ k → k < j → IfSome (slice_get loops k) (λ loop. holds loop a ≡ true → counts k ≡ entry_count loop)

-- the flow lies at location a, its loops are numbered from i on, its calls from j on, and its exits lie outside
pub record IsFlowAt (text : Text) (f : Flow) (a i j : ℕ) (to : Exits) : Type 0 where
  pub spots : IsLaid text.spots a (spots_of f a i to)
  pub loops : IsLaid text.loops i (loops_of f a)
  pub nest : OthersNest text.loops i (i + loops_in f) a (a + width f)
  pub exits : AreOutside a (a + width f) to
  pub calls : calls_before text.spots a ≡ j

abbrev pub on_to : List Loop → ℕ → Counts → ℕ → Valuation → Stage
on_to loops a counts to w = running (at to (moved loops a to counts)) w

-- the exit that the ending names, with the counts that one edge from a to there would leave
abbrev pub after : List Loop → ℕ → Counts → Exits → Ending → Stage
after loops a counts to (normal w) = on_to loops a counts to.next w
after loops a counts to (at_exit w) = on_to loops a counts to.on_exit w
after loops a counts to (at_continue w) = on_to loops a counts to.on_continue w
after loops a counts to (at_return w) = on_to loops a counts to.on_return w
after loops a counts to (by_trap kind place) = finished (trapped kind place)
after loops a counts to (by_over place) = finished (gone_over place)

-- a flow that is laid out acts as one edge
abbrev pub FlowsAreEdges : Type 0
FlowsAreEdges = (s : Setting) (text : Text) (f : Flow) (a i j : ℕ) (to : Exits) (counts : Counts) (w : Valuation) → 0 < s.bound
    → IsFlowAt text f a i j to → AreFresh text.loops i (i + loops_in f) a counts
    → Reaches s text (after text.loops a counts to (flow s j f w)) (running (at a counts) w)

-- a whole flow comes to what it ends as, whatever calls do: nothing lies beside it
abbrev pub WholesEnd : Type 0
WholesEnd = (s : Setting) (f : Flow) (w : Valuation) → 0 < s.bound
    → Reaches s (text_of f) (finished (outcome_of_ending (flow s 0 f w))) (running (at 0 (entered (loops_of f 0) 0)) w)

-- ---- parts

-- what a setting says of a call is what the called block's automaton comes to, whatever kind of block it is
pub record IsCall (blocks : Blocks) (k : Work) (s : Setting) (number : ℕ) (call : CallEdge) : Type 0 where
  pub parts : Parts
  pub stands : block_at blocks call.block ≡ Some parts
  pub comes : (w : Valuation) → ComesTo blocks s.bound (callee_work blocks k (numbered number call) parts)
      (running (first_spot parts) (cleared (callee_work blocks k (numbered number call) parts) w))
      (s.called number call.block call.instance w)

abbrev pub AreCalls : Blocks → Work → Setting → Type 0
AreCalls blocks k s = (number : ℕ) → IfSome (slice_get k.parts.calls number) (IsCall blocks k s number)

-- edges by number come to what the spots come to
abbrev pub PartsRun : Type 0
PartsRun = (blocks : Blocks) (k : Work) (s : Setting) (head : Head) (text : Text) (l : ℕ) (counts : Counts) (w : Valuation) (out : Outcome)
    → k.parts ≡ parts_of head text → s.place ≡ k.place → LeadWithin text → l ≤ length text.spots → AreCalls blocks k s
    → Reaches s text (finished out) (running (at l counts) w) → ComesTo blocks s.bound k (running (at l counts) w) out

-- a body's automaton ends as its flow
abbrev pub BlocksRun : Type 0
BlocksRun = (bodies : Bodies) (n b : ℕ) (body : Body) (w : Valuation) → AreFitting (blocks_of bodies) → 0 < n → body_at bodies b ≡ Some body
    → EndsAs (blocks_of bodies) n (laid body) w (run_body bodies n (length bodies) (entry_work (laid body)) body w)

-- the automaton of a sound text has no fault, and is well made
abbrev pub TextsAreLegal : Type 0
TextsAreLegal = (head : Head) (text : Text) → All IsVariable head.vars → head.bound + head.shared ≤ length head.vars
    → IsSoundText (length head.vars) (type_at head.vars) text → IsFaultless (parts_of head text) × IsWellMade (parts_of head text)

-- so is that of a typed body
abbrev pub LayoutsAreLegal : Type 0
LayoutsAreLegal = (body : Body) → IsTypedBody body → IsFaultless (laid body) × IsWellMade (laid body)

-- it has as many edges and call edges as are counted
abbrev pub EdgesAreCounted : Type 0
EdgesAreCounted = (body : Body) → length (laid body).edges + length (laid body).calls ≡ plain body.code
