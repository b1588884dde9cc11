-- The tables that the code makes of an automaton's parts, and what it lays by them.
use Rattle.std.specs.Prelude.{◌≡◌, ℕ, ◌+◌, ◌*◌, List, [], map, length, replicate}
use Rattle.pv_flow.specs.declared.parts.Parts.{Parts as CodeParts}
use Rattle.pv_flow.specs.Automata.{Loop}
use Rattle.pv_flow.specs.View.{loop_of}
use Rattle.pv_unroll.specs.Counts.{capped}
use Rattle.pv_unroll.specs.Endings.{endings_of, weights_of}
use Rattle.pv_unroll.specs.Chains.{chains_of, counted}
use Rattle.pv_unroll.specs.Sizing.{Sizing, sized}
use Rattle.pv_unroll.specs.Turning.{turns_of}
use Rattle.pv_unroll.specs.Leading.{Table}
use Rattle.pv_unroll.specs.Laying.{Laid, narrow}
use Rattle.pv_unroll.specs.Walking.{walked}

abbrev pub plain_loops : CodeParts → List Loop
plain_loops p = map loop_of p.loops.items

-- by edges
abbrev pub edge_sizing : CodeParts → ℕ → Sizing
edge_sizing p n = sized (record { turns = n; over = 0 }) (plain_loops p) (counted (replicate p.locations 0) p.edges.items)

-- by copies
abbrev pub copy_sizing : CodeParts → ℕ → Sizing
copy_sizing p n = sized (record { turns = n; over = 1 }) (plain_loops p) (weights_of (endings_of p))

abbrev pub table_in : CodeParts → ℕ → Table
table_in p n = record {
  loops = plain_loops p;
  edges = p.edges.items;
  endings = endings_of p;
  firsts = (copy_sizing p n).firsts;
  turns = (copy_sizing p n).turns;
  overs = (copy_sizing p n).overs;
  turned = turns_of (length p.edges.items) (plain_loops p);
  heads = (chains_of p.locations p.edges.items).heads;
  nexts = (chains_of p.locations p.edges.items).nexts;
  bound = n;
  locations = p.locations;
}

-- between two copies there are no more steps than locations
abbrev pub steps_in : CodeParts → ℕ → ℕ
steps_in p n = capped (capped ((copy_sizing p n).here * capped (p.locations + 1)) + p.locations)

abbrev pub laid_in : CodeParts → ℕ → Laid
laid_in p n = walked (table_in p n) (steps_in p n) (record { edges = []; traps = []; overs = []; here = 0; done = (copy_sizing p n).here })

-- the parts with what is laid in the place of their locations, edges, loops and ends
pub record IsReplaced (p : CodeParts) (laid : Laid) (q : CodeParts) : Type 0 where
  pub nodes : q.nodes.items ≡ p.nodes.items
  pub deeds : q.deeds.items ≡ p.deeds.items
  pub vars : q.vars.items ≡ p.vars.items
  pub bound : q.bound ≡ p.bound
  pub shared : q.shared ≡ p.shared
  pub locations : q.locations ≡ narrow (capped (capped (laid.done + 1) + length laid.traps))
  pub edges : q.edges.items ≡ laid.edges
  pub calls : q.calls.items ≡ []
  pub loops : q.loops.items ≡ []
  pub done : q.done ≡ narrow laid.done
  pub traps : q.traps.items ≡ laid.traps
  pub overs : q.overs.items ≡ laid.overs
