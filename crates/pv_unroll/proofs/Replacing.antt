-- If what is laid is the automaton of the copies, list by list, so are the parts in whose places it is put, and they may be built.
use Rattle.std.proofs.Common.{◌≡◌, ℕ, suc, ◌+◌, ◌≤◌, List, [], ◌∷◌, map, length, min, nat_lt, Option, Some, None, refl, sym, subst, ap, ◌∙◌, arith}
use Rattle.std.specs.List.{list_all}
use Rattle.std.proofs.lemmas.List.{length-map}
use Rattle.pv_flow.specs.declared.term.Node.{Node}
use Rattle.pv_flow.specs.declared.parts.Deed.{Deed as CodeDeed}
use Rattle.pv_flow.specs.declared.parts.Edge.{Edge as CodeEdge}
use Rattle.pv_flow.specs.declared.parts.Parts.{Parts as CodeParts}
use Rattle.pv_flow.specs.Automata.{Variable, Edge, CallEdge, Loop, TrapEnd, OverEnd, Parts}
use Rattle.pv_flow.specs.Faults.{IsFaultless}
use Rattle.pv_flow.specs.WellMade.{IsWellMade}
use Rattle.pv_flow.specs.Runs.{End, done, trap, over}
use Rattle.pv_flow.specs.Machines.{IsAcyclic}
use Rattle.pv_flow.specs.View.{terms_of, variable_of, edge_of, call_edge_of, loop_of, trap_end_of, over_end_of, parts_of}
use Rattle.pv_flow.specs.Tables.{are_ordered, has_terms, AreTabled}
use Rattle.pv_copies.specs.Copies.{exit_of_copy}
use Rattle.pv_copies.specs.Unrolled.{CopiedEdge, copied, whole_text, text_size, traps_by, with_trap, edges_of, traps_of, unrolled}
use Rattle.pv_copies.proofs.ForCallers.{edges_are_counted, numbers_lead_forward, unrolled_is_well_made}
use Rattle.pv_unroll.specs.declared.numbers.TheConstants.{MOST}
use Rattle.pv_unroll.specs.declared.fault.TheConstants.{MAX_EDGES, MAX_COPIES}
use Rattle.pv_unroll.specs.Counts.{capped}
use Rattle.pv_unroll.specs.Laying.{narrow}
use Rattle.pv_unroll.specs.Tables.{laid_in, IsReplaced}
use Rattle.pv_unroll.specs.Correct.{CanUnroll, IsSmall, IsLaid, CopiesAreLaid, ReplacedAreUnrolled, ReplacedAreForward}

-- ---- numbers stay within 32 bits

pub most_is : MOST ≡ 18446744073709551615
most_is = refl

pub edges_most : MAX_EDGES ≡ 200000
edges_most = refl

pub copies_most : MAX_COPIES ≡ 4000000000
copies_most = refl

pub few_copies : (p : CodeParts) (n : ℕ) → IsSmall p n → text_size (parts_of p) n ≤ 4000000000
few_copies p n small = subst (λ (most : ℕ). text_size (parts_of p) n ≤ most) copies_most small.text

-- of numbers within their bounds, over any bounds
kept_by : (n most last : ℕ) → n ≤ last → last ≤ most → min n last ≡ n
kept_by n most last le low = omega (arith, le)

behind_by : (t m most last : ℕ) → t + suc m ≤ last → last ≤ most → min (min (min (t + 1) most + m) most) last ≡ t + suc m
behind_by t m most last le low = omega (arith, le, low)

last_below : 4294967295 ≤ MOST
last_below = subst (λ (most : ℕ). 4294967295 ≤ most) (sym most_is) (omega arith)

-- traps are no more than edges
traps_few : (p : Parts) (n t : ℕ) (xs : List CopiedEdge) → length (traps_of p n t xs) ≤ length (edges_of p n t xs)
traps_few p n t [] = omega arith
traps_few p n t (x ∷ xs) = by (exit_of_copy p x.to) (λ u. traps_few p n u xs)
  where
    by : (e : Option End) → ((u : ℕ) → length (traps_of p n u xs) ≤ length (edges_of p n u xs))
        → length (with_trap e (text_size p n + suc t) (traps_of p n (traps_by e t) xs)) ≤ suc (length (edges_of p n (traps_by e t) xs))
    by None go = let h = go t in omega (arith, h)
    by (Some done) go = let h = go t in omega (arith, h)
    by (Some (over place)) go = let h = go t in omega (arith, h)
    by (Some (trap kind place)) go = let h = go (suc t) in omega (arith, h)

pub few_traps : (p : CodeParts) (n : ℕ) → CanUnroll p n → IsSmall p n → length (unrolled (parts_of p) n).traps ≤ 200000
few_traps p n can small =
    let few = traps_few (parts_of p) n 0 (copied (parts_of p) n 0 (whole_text (parts_of p) n)) in
    let counted = edges_are_counted (parts_of p) n can.faultless can.well_made in
    omega (arith, few, counted, small.edges, edges_most)

-- ---- part by part

abbrev made_of : List Variable → ℕ → ℕ → ℕ → List Edge → List CallEdge → List Loop → ℕ → List TrapEnd → List OverEnd → Parts
made_of vars bound shared locations edges calls loops end traps overs = record {
  vars = vars;
  bound = bound;
  shared = shared;
  locations = locations;
  edges = edges;
  calls = calls;
  loops = loops;
  done = end;
  traps = traps;
  overs = overs;
}

pub replaced_are_unrolled : CopiesAreLaid → ReplacedAreUnrolled
replaced_are_unrolled law p n q can small is =
    ap (λ (x : List Variable). made_of x (parts_of q).bound (parts_of q).shared (parts_of q).locations (parts_of q).edges (parts_of q).calls (parts_of q).loops (parts_of q).done (parts_of q).traps (parts_of q).overs) (ap (map variable_of) is.vars)
    ∙ ap (λ (x : ℕ). made_of (unrolled (parts_of p) n).vars x (parts_of q).shared (parts_of q).locations (parts_of q).edges (parts_of q).calls (parts_of q).loops (parts_of q).done (parts_of q).traps (parts_of q).overs) is.bound
    ∙ ap (λ (x : ℕ). made_of (unrolled (parts_of p) n).vars (unrolled (parts_of p) n).bound x (parts_of q).locations (parts_of q).edges (parts_of q).calls (parts_of q).loops (parts_of q).done (parts_of q).traps (parts_of q).overs) is.shared
    ∙ ap (λ (x : ℕ). made_of (unrolled (parts_of p) n).vars (unrolled (parts_of p) n).bound (unrolled (parts_of p) n).shared x (parts_of q).edges (parts_of q).calls (parts_of q).loops (parts_of q).done (parts_of q).traps (parts_of q).overs) (is.locations ∙ number)
    ∙ ap (λ (x : List Edge). made_of (unrolled (parts_of p) n).vars (unrolled (parts_of p) n).bound (unrolled (parts_of p) n).shared (unrolled (parts_of p) n).locations x (parts_of q).calls (parts_of q).loops (parts_of q).done (parts_of q).traps (parts_of q).overs) edges
    ∙ ap (λ (x : List CallEdge). made_of (unrolled (parts_of p) n).vars (unrolled (parts_of p) n).bound (unrolled (parts_of p) n).shared (unrolled (parts_of p) n).locations (unrolled (parts_of p) n).edges x (parts_of q).loops (parts_of q).done (parts_of q).traps (parts_of q).overs) (ap (map call_edge_of) is.calls)
    ∙ ap (λ (x : List Loop). made_of (unrolled (parts_of p) n).vars (unrolled (parts_of p) n).bound (unrolled (parts_of p) n).shared (unrolled (parts_of p) n).locations (unrolled (parts_of p) n).edges [] x (parts_of q).done (parts_of q).traps (parts_of q).overs) (ap (map loop_of) is.loops)
    ∙ ap (λ (x : ℕ). made_of (unrolled (parts_of p) n).vars (unrolled (parts_of p) n).bound (unrolled (parts_of p) n).shared (unrolled (parts_of p) n).locations (unrolled (parts_of p) n).edges [] [] x (parts_of q).traps (parts_of q).overs) (is.done ∙ end)
    ∙ ap (λ (x : List TrapEnd). made_of (unrolled (parts_of p) n).vars (unrolled (parts_of p) n).bound (unrolled (parts_of p) n).shared (unrolled (parts_of p) n).locations (unrolled (parts_of p) n).edges [] [] (unrolled (parts_of p) n).done x (parts_of q).overs) (ap (map trap_end_of) is.traps ∙ it.traps)
    ∙ ap (λ (x : List OverEnd). made_of (unrolled (parts_of p) n).vars (unrolled (parts_of p) n).bound (unrolled (parts_of p) n).shared (unrolled (parts_of p) n).locations (unrolled (parts_of p) n).edges [] [] (unrolled (parts_of p) n).done (unrolled (parts_of p) n).traps x) (ap (map over_end_of) is.overs ∙ it.overs)
  where
    it : IsLaid p n (laid_in p n)
    it = law p n can small

    traps : length (laid_in p n).traps ≡ length (unrolled (parts_of p) n).traps
    traps = sym (length-map (laid_in p n).traps trap_end_of) ∙ ap (λ (ends : List TrapEnd). length ends) it.traps

    fits : text_size (parts_of p) n + suc (length (unrolled (parts_of p) n).traps) ≤ 4294967295
    fits = omega (arith, (few_copies p n small), few_traps p n can small)

    number : narrow (capped (capped ((laid_in p n).done + 1) + length (laid_in p n).traps)) ≡ text_size (parts_of p) n + suc (length (unrolled (parts_of p) n).traps)
    number = ap (λ (t : ℕ). narrow (capped (capped (t + 1) + length (laid_in p n).traps))) it.done
        ∙ ap (λ (m : ℕ). narrow (capped (capped (text_size (parts_of p) n + 1) + m))) traps
        ∙ behind_by (text_size (parts_of p) n) (length (unrolled (parts_of p) n).traps) MOST 4294967295 fits last_below

    end : narrow (laid_in p n).done ≡ text_size (parts_of p) n
    end = ap narrow it.done ∙ kept_by (text_size (parts_of p) n) MOST 4294967295 (omega (arith, (few_copies p n small))) last_below

    edges : (parts_of q).edges ≡ (unrolled (parts_of p) n).edges
    edges = ap (λ (ns : List Node). map (edge_of (terms_of ns) q.deeds.items) q.edges.items) is.nodes
        ∙ ap (λ (ds : List CodeDeed). map (edge_of (terms_of p.nodes.items) ds) q.edges.items) is.deeds
        ∙ ap (λ (es : List CodeEdge). map (edge_of (terms_of p.nodes.items) p.deeds.items) es) is.edges
        ∙ it.edges

-- ---- they may be built

tabled : (p : CodeParts) (n : ℕ) (q : CodeParts) → CanUnroll p n → IsLaid p n (laid_in p n) → IsReplaced p (laid_in p n) q → AreTabled q
tabled p n q can it is = record {
  nodes = ap (λ (ns : List Node). are_ordered 0 ns) is.nodes ∙ (can.tabled).nodes;
  deeds = ap (λ (ns : List Node). list_all (has_terms (length ns)) q.deeds.items) is.nodes
      ∙ ap (λ (ds : List CodeDeed). list_all (has_terms (length p.nodes.items)) ds) is.deeds ∙ (can.tabled).deeds;
  edges = ap (λ (ds : List CodeDeed). list_all (λ (edge : CodeEdge). nat_lt edge.deed (length ds)) q.edges.items) is.deeds
      ∙ ap (λ (es : List CodeEdge). list_all (λ (edge : CodeEdge). nat_lt edge.deed (length p.deeds.items)) es) is.edges ∙ it.deeds;
}

pub replaced_are_forward : CopiesAreLaid → ReplacedAreForward
replaced_are_forward law p n q can small is = record {
  faultless = subst (λ (r : Parts). IsFaultless r) (sym same) made.0;
  well_made = subst (λ (r : Parts). IsWellMade r) (sym same) made.1;
  tabled = tabled p n q can (law p n can small) is;
  acyclic = subst (λ (r : Parts). IsAcyclic r) (sym same) (numbers_lead_forward (parts_of p) n can.faultless can.well_made (can.inlined).1);
}
  where
    same : parts_of q ≡ unrolled (parts_of p) n
    same = replaced_are_unrolled law p n q can small is

    made : IsFaultless (unrolled (parts_of p) n) × IsWellMade (unrolled (parts_of p) n)
    made = unrolled_is_well_made (parts_of p) n can.faultless can.well_made (can.inlined).1 (can.inlined).0
