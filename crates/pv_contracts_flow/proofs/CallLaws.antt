-- Parts of one call edge have no fault, are well made and tabled.
use Rattle.std.proofs.Common.{◌≡◌, ℕ, zero, suc, ◌+◌, ◌<◌, List, [], ◌∷◌, length, map, slice_get, Bool as Truth, true, false, nat_lt, cond, Some, None, IfSome, refl, sym, subst, ap, ◌∙◌, arith}
use Rattle.std.specs.List.{list_all}
use Rattle.std.proofs.lemmas.Bool.{ne_eqb, true≢false, false≢true}
use Rattle.std.proofs.lemmas.List.Elements.{All-nil, All-from_recursion}
use Rattle.pv_flow.specs.declared.parts.Parts.{Parts as CodeParts}
use Rattle.pv_flow.specs.declared.parts.Edge.{Edge as CodeEdge}
use Rattle.pv_flow.specs.declared.parts.Deed.{Deed as CodeDeed}
use Rattle.pv_flow.specs.Automata.{Variable, Edge, CallEdge, Loop, TrapEnd, OverEnd, Parts, edges_from, calls_from}
use Rattle.pv_flow.specs.Faults.{IsFaultless}
use Rattle.pv_flow.specs.WellMade.{OneIsTrue, is_end, leads_well, IsWellMade}
use Rattle.pv_flow.specs.View.{terms_of, variable_of, edge_of, call_edge_of, loop_of, trap_end_of, over_end_of, parts_of}
use Rattle.pv_flow.specs.Tables.{are_ordered, has_terms, AreTabled}
use Rattle.pv_contracts_flow.specs.Rows.{run, IsOneCall}

abbrev ran : CallEdge
ran = call_edge_of run

abbrev one_call : Parts
one_call = record {
  vars = [];
  bound = 0;
  shared = 0;
  locations = 2;
  edges = [];
  calls = ran ∷ [];
  loops = [];
  done = 1;
  traps = [];
  overs = [];
}

none : 0 < 0 → ⊥
none h = absurd (omega (arith, h))

none_behind : (l : ℕ) → calls_from (suc l) one_call.calls ≡ []
none_behind l = ap (λ (b : Truth). cond b (ran ∷ []) []) (ne_eqb 0 (suc l) (λ e. absurd (omega (arith, e))))

no_guards : OneIsTrue one_call
no_guards l w are h = absurd (none h)

stands_alone : (l : ℕ) → 0 < length (calls_from l one_call.calls) → length (calls_from l one_call.calls) + length (edges_from l []) ≡ 1
stands_alone zero h = refl
stands_alone (suc l) h = absurd (none (subst (λ (calls : List CallEdge). 0 < length calls) (none_behind l) h))

ends_bare : (l : ℕ) → is_end one_call l ≡ true → length (calls_from l one_call.calls) + length (edges_from l []) ≡ 0
ends_bare zero e = absurd (false≢true e)
ends_bare (suc l) e = ap (λ (calls : List CallEdge). length calls + 0) (none_behind l)

leads_on : (l : ℕ) → l < 2 → is_end one_call l ≡ false → 0 < length (calls_from l one_call.calls) + length (edges_from l [])
leads_on zero lt e = omega arith
leads_on (suc zero) lt e = absurd (true≢false e)
leads_on (suc (suc l)) lt e = absurd (omega (arith, lt))

no_edges : (e : ℕ) → IfSome (slice_get one_call.edges e) (λ edge. leads_well [] (Some e) edge.from edge.to ≡ true)
no_edges zero = tt
no_edges (suc e) = tt

is_well_made : IsWellMade one_call
is_well_made = record {
  vars = All-nil _;
  counts = omega arith;
  edges = All-nil _;
  guards = no_guards;
  calls = stands_alone;
  ends = ends_bare;
  others = leads_on;
  different = refl;
  begins = refl;
  loops = All-nil _;
  apart = λ i j lt. tt;
  forward = no_edges;
  calls_forward = All-from_recursion (λ (call : CallEdge). leads_well [] None call.from call.to ≡ true) one_call.calls (refl, tt);
}

abbrev with_fields : List Variable → ℕ → ℕ → ℕ → List Edge → List CallEdge → List Loop → ℕ → List TrapEnd → List OverEnd → Parts
with_fields vars bound shared locations edges calls loops done traps overs = record {
  vars = vars;
  bound = bound;
  shared = shared;
  locations = locations;
  edges = edges;
  calls = calls;
  loops = loops;
  done = done;
  traps = traps;
  overs = overs;
}

seen : (p : CodeParts) → IsOneCall p → parts_of p ≡ one_call
seen p is =
    let q = parts_of p in
    ap (λ (x : List Variable). with_fields x q.bound q.shared q.locations q.edges q.calls q.loops q.done q.traps q.overs) (ap (map variable_of) is.vars)
    ∙ ap (λ (x : ℕ). with_fields [] x q.shared q.locations q.edges q.calls q.loops q.done q.traps q.overs) is.bound
    ∙ ap (λ (x : ℕ). with_fields [] 0 x q.locations q.edges q.calls q.loops q.done q.traps q.overs) is.shared
    ∙ ap (λ (x : ℕ). with_fields [] 0 0 x q.edges q.calls q.loops q.done q.traps q.overs) is.locations
    ∙ ap (λ (x : List Edge). with_fields [] 0 0 2 x q.calls q.loops q.done q.traps q.overs)
    (ap (map (edge_of (terms_of p.nodes.items) p.deeds.items)) is.edges)
    ∙ ap (λ (x : List CallEdge). with_fields [] 0 0 2 [] x q.loops q.done q.traps q.overs) (ap (map call_edge_of) is.calls)
    ∙ ap (λ (x : List Loop). with_fields [] 0 0 2 [] (ran ∷ []) x q.done q.traps q.overs) (ap (map loop_of) is.loops)
    ∙ ap (λ (x : ℕ). with_fields [] 0 0 2 [] (ran ∷ []) [] x q.traps q.overs) is.done
    ∙ ap (λ (x : List TrapEnd). with_fields [] 0 0 2 [] (ran ∷ []) [] 1 x q.overs) (ap (map trap_end_of) is.traps)
    ∙ ap (λ (x : List OverEnd). with_fields [] 0 0 2 [] (ran ∷ []) [] 1 [] x) (ap (map over_end_of) is.overs)

pub call_is_well_made : (p : CodeParts) → IsOneCall p → IsFaultless (parts_of p) → IsWellMade (parts_of p)
call_is_well_made p is h = subst (λ (q : Parts). IsWellMade q) (sym (seen p is)) is_well_made

pub call_is_tabled : (p : CodeParts) → IsOneCall p → IsFaultless (parts_of p) → AreTabled p
call_is_tabled p is h = record {
  nodes = ap (are_ordered 0) is.nodes;
  deeds = ap (λ (deeds : List CodeDeed). list_all (has_terms (length p.nodes.items)) deeds) is.deeds;
  edges = ap (λ (edges : List CodeEdge). list_all (λ (edge : CodeEdge). nat_lt edge.deed (length p.deeds.items)) edges) is.edges;
}
