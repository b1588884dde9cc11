-- The code's automata, and what is attached to them, as plain data.
use Rattle.std.specs.Prelude.{ℕ, List, length, Option, Some, None}
use Rattle.pv_flow.specs.declared.automaton.Automaton.{Automaton}
use Rattle.pv_flow.specs.declared.parts.Parts.{Parts as CodeParts}
use Rattle.pv_flow.specs.declared.attached.Looking.{Looking as CodeLooking}
use Rattle.pv_flow.specs.declared.attached.Guarding.{Guarding as CodeGuarding}
use Rattle.pv_flow.specs.declared.attached.Attached.{Attached as CodeAttached}
use Rattle.pv_flow.specs.Terms.{Term}
use Rattle.pv_flow.specs.Automata.{Parts}
use Rattle.pv_flow.specs.Machines.{Looking, Guarding, Attached}
use Rattle.pv_flow.specs.View.{term_at, terms_of, parts_of}

abbrev pub automaton_of : Automaton → Parts
automaton_of automaton = parts_of automaton.parts

-- its parts as the code has them
abbrev pub code_of : Automaton → CodeParts
code_of automaton = automaton.parts

-- how many terms its table has
abbrev pub terms_in : Automaton → ℕ
terms_in automaton = length automaton.parts.nodes.items

abbrev pub looking_of : List Term → Option CodeLooking → Option Looking
looking_of terms None = None
looking_of terms (Some l) = Some (record { has = l.has; was = l.was; now = term_at terms l.now })

abbrev pub guarding_of : List Term → Option CodeGuarding → Option Guarding
guarding_of terms None = None
guarding_of terms (Some g) = Some (record { blocked = g.blocked; assumed = term_at terms g.assumed })

abbrev pub attached_of : List Term → Option CodeAttached → Option Attached
attached_of terms None = None
attached_of terms (Some a) = Some (record {
  reach = a.reach;
  holds = term_at terms a.holds;
  looking = looking_of terms a.looking;
  guarding = guarding_of terms a.guarding;
})

-- by the automaton's table of terms
abbrev pub attached_to : Automaton → Option CodeAttached → Option Attached
attached_to automaton attached = attached_of (terms_of automaton.parts.nodes.items) attached
