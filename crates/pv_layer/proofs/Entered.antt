-- A call adds a call edge, and no terms, deeds or edges.
use Rattle.std.proofs.Common.{◌≡◌, ℕ, suc, List, [], ◌∷◌, ◌++◌, map, length, refl, sym, ap, ◌∙◌, arith}
use Rattle.std.proofs.lemmas.List.{map_push}
use Rattle.pv_place.specs.declared.place.Place.{Place}
use Rattle.pv_flow.specs.declared.parts.Parts.{Parts as CodeParts}
use Rattle.pv_flow.specs.declared.parts.CallEdge.{CallEdge as CodeCallEdge}
use Rattle.pv_flow.specs.Automata.{Loop}
use Rattle.pv_flow.specs.View.{terms_of, term_at, call_edge_of, loop_of, trap_end_of}
use Rattle.pv_flow.specs.Tables.{are_ordered}
use Rattle.pv_layout.specs.Spots.{Spot, Enter}
use Rattle.pv_layout.specs.Layout.{Head, marks_of, turned_loops}
use Rattle.pv_layer.specs.Making.{deed_seen}
use Rattle.pv_layer.specs.Standing.{Stands}
use Rattle.pv_layer.proofs.Appended.{append_none}
use Rattle.pv_layer.proofs.Pushed.{SameHead, HasNodes, pushed_stands}

pub same_nodes : (p q : CodeParts) → q.nodes.items ≡ p.nodes.items → HasNodes p q
same_nodes p q is = record {
  low = let count = ap (λ nodes. length nodes) is in omega (arith, count);
  same = λ i lt. ap (λ nodes. term_at (terms_of nodes) i) is;
  ordered = λ o. ap (λ nodes. are_ordered 0 nodes) is ∙ o;
}

pub record EnterMade (p q : CodeParts) (call : CodeCallEdge) : Type 0 where
  pub head : SameHead p q
  pub nodes : q.nodes.items ≡ p.nodes.items
  pub deeds : q.deeds.items ≡ p.deeds.items
  pub edges : q.edges.items ≡ p.edges.items
  pub calls : q.calls.items ≡ p.calls.items ++ call ∷ []
  pub traps : q.traps.items ≡ p.traps.items
  pub loops : q.loops.items ≡ p.loops.items
  pub locations : q.locations ≡ p.locations

abbrev pub call_at : ℕ → ℕ → ℕ → Place → ℕ → CodeCallEdge
call_at here block instance place to = record { from = here; to = to; block = block; instance = instance; place = place }

pub enter_stands : (head : Head) (done : ℕ) (spots : List Spot) (loops : List Loop) (p q : CodeParts) (here truth block instance : ℕ)
    (place : Place) (to : ℕ) → EnterMade p q (call_at here block instance place to)
    → Stands head done spots loops p here truth → Stands head done (spots ++ Enter block instance place to ∷ []) loops q (suc here) truth
enter_stands head done spots loops p q here truth block instance place to m h =
    pushed_stands head done spots loops p q here truth (Enter block instance place to) [] [] m.head (same_nodes p q m.nodes)
    (record {
      deeds = ap (λ deeds. map deed_seen deeds) m.deeds ∙ sym (append_none (map deed_seen p.deeds.items));
      terms = refl;
      edges = m.edges ∙ sym (append_none p.edges.items);
      there = refl;
      alike = refl;
      are = refl;
    })
    (record {
      calls = ap (λ calls. map call_edge_of calls) m.calls ∙ map_push call_edge_of p.calls.items (call_at here block instance place to);
      traps = ap (λ traps. map trap_end_of traps) m.traps ∙ sym (append_none (map trap_end_of p.traps.items));
      turning = λ was. ap (λ ls. map loop_of ls) m.loops
          ∙ (was ∙ ap (λ marks. turned_loops marks 0 loops) (sym (append_none (marks_of spots))));
      named = tt;
      locations = let e = m.locations in omega (arith, e);
    }) h
