-- The code's tables and states as plain data.
use Rattle.std.specs.Prelude.{map}
use Rattle.pv_flow.specs.View.{loop_of}
use Rattle.pv_unroll.specs.declared.chains.Chains.{Chains as CodeChains}
use Rattle.pv_unroll.specs.declared.sizing.Taking.{Taking as CodeTaking}
use Rattle.pv_unroll.specs.declared.sizing.Sizing.{Sizing as CodeSizing}
use Rattle.pv_unroll.specs.declared.lay.Laid.{Laid as CodeLaid}
use Rattle.pv_unroll.specs.declared.lead.Table.{Table as CodeTable}
use Rattle.pv_unroll.specs.declared.walk.Walk.{Walk as CodeWalk}
use Rattle.pv_unroll.specs.Chains.{Chains}
use Rattle.pv_unroll.specs.Sizing.{Taking, Sizing}
use Rattle.pv_unroll.specs.Laying.{Laid}
use Rattle.pv_unroll.specs.Leading.{Table}
use Rattle.pv_unroll.specs.Walking.{Walk, State}

abbrev pub chains_seen : CodeChains → Chains
chains_seen c = record { heads = c.heads.items; nexts = c.nexts.items }

abbrev pub taking_seen : CodeTaking → Taking
taking_seen t = record { turns = t.turns; over = t.over }

abbrev pub sizing_seen : CodeSizing → Sizing
sizing_seen s = record {
  begun = s.begun.items;
  next = s.next;
  here = s.here;
  firsts = s.firsts.items;
  turns = s.turns.items;
  overs = s.overs.items;
}

abbrev pub laid_seen : CodeLaid → Laid
laid_seen s = record { edges = s.edges.items; traps = s.traps.items; overs = s.overs.items; here = s.here; done = s.done }

abbrev pub table_seen : CodeTable → Table
table_seen t = record {
  loops = map loop_of t.loops.now;
  edges = t.edges.now;
  endings = t.endings.now;
  firsts = t.firsts.now;
  turns = t.turns.now;
  overs = t.overs.now;
  turned = t.turned.now;
  heads = t.heads.now;
  nexts = t.nexts.now;
  bound = t.bound;
  locations = t.locations;
}

abbrev pub walk_seen : CodeWalk → Walk
walk_seen w = record { nest = w.nest.items; next = w.next; at = w.at }

abbrev pub state_seen : CodeWalk → CodeLaid → State
state_seen w s = record { walk = walk_seen w; laid = laid_seen s }
