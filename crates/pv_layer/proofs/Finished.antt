-- All spots came: the parts are the automaton of their layout, and legal where spots and loops are a sound text, as those of a typed body.
use Rattle.std.proofs.Common.{◌≡◌, ℕ, suc, ◌+◌, ◌≤◌, List, map, length, Some, None, All, refl, sym, subst, ap, ◌∙◌}
use Rattle.pv_flow.specs.declared.parts.Parts.{Parts as CodeParts}
use Rattle.pv_flow.specs.Automata.{Variable, Edge, CallEdge, Loop, TrapEnd, OverEnd, Parts, type_at}
use Rattle.pv_flow.specs.Faults.{IsFaultless}
use Rattle.pv_flow.specs.WellMade.{IsVariable, IsWellMade}
use Rattle.pv_flow.specs.View.{terms_of, edge_of, call_edge_of, loop_of, trap_end_of, over_end_of, parts_of as seen_parts}
use Rattle.pv_layout.specs.Spots.{Spot}
use Rattle.pv_layout.specs.Layout.{Head, Text, to_done, width, text_of, marks_of, turned_loops, edges_of, calls_of, traps_of, checks_in, parts_of}
use Rattle.pv_layout.specs.Sound.{IsSoundText}
use Rattle.pv_layout.specs.Bodies.{Body, IsTypedBody}
use Rattle.pv_layout.proofs.ForCallers.{length_spots, texts_are_legal, flow_sound}
use Rattle.pv_layer.specs.Standing.{Stands}
use Rattle.pv_layer.specs.Finished.{AreParts, AreLegal, AreBody}

-- ---- the parts

abbrev automaton : List Variable → ℕ → ℕ → ℕ → List Edge → List CallEdge → List Loop → ℕ → List TrapEnd → List OverEnd → Parts
automaton vars bound shared locations edges calls loops done traps overs = record {
  vars = vars;
  bound = bound;
  shared = shared;
  locations = locations;
  edges = edges;
  calls = calls;
  loops = loops;
  done = done;
  traps = traps;
  overs = overs;
}

parts_laid : (head : Head) (spots : List Spot) (loops : List Loop) (p : CodeParts) (here truth : ℕ)
    → Stands head (length spots) spots loops p here truth → seen_parts p ≡ parts_of head (record { spots = spots; loops = loops })
parts_laid head spots loops p here truth h =
    ap (λ (x : List Variable). automaton x p.bound p.shared p.locations edges calls ls p.done traps overs) (ap (λ (x : Head). x.vars) h.heads)
    ∙ (ap (λ (x : ℕ). automaton head.vars x p.shared p.locations edges calls ls p.done traps overs) (ap (λ (x : Head). x.bound) h.heads)
    ∙ (ap (λ (x : ℕ). automaton head.vars head.bound x p.locations edges calls ls p.done traps overs) (ap (λ (x : Head). x.shared) h.heads)
    ∙ (ap (λ (x : ℕ). automaton head.vars head.bound head.shared x edges calls ls p.done traps overs) h.count
    ∙ (ap (λ (x : List Edge). automaton head.vars head.bound head.shared (n + suc (checks_in spots)) x calls ls p.done traps overs) h.made
    ∙ (ap (λ (x : List CallEdge). automaton head.vars head.bound head.shared (n + suc (checks_in spots)) (edges_of n 0 0 spots) x ls p.done traps
    overs) h.calling
    ∙ (ap (λ (x : List Loop). automaton head.vars head.bound head.shared (n + suc (checks_in spots)) (edges_of n 0 0 spots) (calls_of 0 spots) x
    p.done traps overs) h.turning
    ∙ (ap (λ (x : ℕ). automaton head.vars head.bound head.shared (n + suc (checks_in spots)) (edges_of n 0 0 spots) (calls_of 0 spots)
    (turned_loops (marks_of spots) 0 loops) x traps overs) h.ends_at
    ∙ (ap (λ (x : List TrapEnd). automaton head.vars head.bound head.shared (n + suc (checks_in spots)) (edges_of n 0 0 spots) (calls_of 0 spots)
    (turned_loops (marks_of spots) 0 loops) n x overs) h.ends
    ∙ ap (λ over. automaton head.vars head.bound head.shared (n + suc (checks_in spots)) (edges_of n 0 0 spots) (calls_of 0 spots)
    (turned_loops (marks_of spots) 0 loops) n (traps_of n 0 spots) (map over_end_of over)) h.none_over))))))))
  where
    n : ℕ
    n = length spots

    edges : List Edge
    edges = map (edge_of (terms_of p.nodes.items) p.deeds.items) p.edges.items

    calls : List CallEdge
    calls = map call_edge_of p.calls.items

    ls : List Loop
    ls = map loop_of p.loops.items

    traps : List TrapEnd
    traps = map trap_end_of p.traps.items

    overs : List OverEnd
    overs = map over_end_of p.overs.items

pub are_parts : (head : Head) (done : ℕ) (spots : List Spot) (loops : List Loop) (p : CodeParts) (here truth : ℕ)
    → Stands head done spots loops p here truth → length spots ≡ done → AreParts head spots loops p
are_parts head done spots loops p here truth h all = record {
  laid = parts_laid head spots loops p here truth (subst (λ (n : ℕ). Stands head n spots loops p here truth) (sym all) h);
  tabled = h.tabled;
}

-- ---- legal

pub are_legal : (head : Head) (done : ℕ) (text : Text) (p : CodeParts) (here truth : ℕ)
    → Stands head done text.spots text.loops p here truth → length text.spots ≡ done
    → All IsVariable head.vars → head.bound + head.shared ≤ length head.vars → IsSoundText (length head.vars) (type_at head.vars) text
    → AreLegal p
are_legal head done text p here truth h all vars counts sound = record {
  tabled = are.tabled;
  faultless = subst (λ parts. IsFaultless parts) (sym are.laid) (texts_are_legal head text vars counts sound).0;
  well_made = subst (λ parts. IsWellMade parts) (sym are.laid) (texts_are_legal head text vars counts sound).1;
}
  where
    are : AreParts head text.spots text.loops p
    are = are_parts head done text.spots text.loops p here truth h all

pub are_body : (body : Body) (p : CodeParts) (here truth : ℕ)
    → Stands body.head (width body.code) (text_of body.code).spots (text_of body.code).loops p here truth → IsTypedBody body → AreBody body p
are_body body p here truth h typed = record {
  laid = (are_parts body.head (width body.code) (text_of body.code).spots (text_of body.code).loops p here truth h all).laid;
  legal = are_legal body.head (width body.code) (text_of body.code) p here truth h all typed.vars typed.counts
      (flow_sound (length body.head.vars) (type_at body.head.vars) body.code typed.code);
}
  where
    all : length (text_of body.code).spots ≡ width body.code
    all = length_spots body.code 0 0 (to_done (width body.code))
