-- What is made so far, read by its tables.
use Rattle.std.specs.Prelude.{◌≡◌, ℕ, ◌≤◌, List, [], ◌++◌, map, length, slice_get, Bool, true, ◌&&◌, nat_lt, Option, Some, None}
use Rattle.std.specs.List.{list_all}
use Rattle.pv_flow.specs.declared.term.Node.{Node}
use Rattle.pv_flow.specs.declared.parts.Set.{Set as CodeSet}
use Rattle.pv_flow.specs.Terms.{Term}
use Rattle.pv_flow.specs.Automata.{Set, Loop}
use Rattle.pv_flow.specs.View.{false_term, term_at, terms_of, set_of}
use Rattle.pv_flow.specs.Tables.{are_ordered}
use Rattle.pv_call_copies.specs.Renaming.{true_term}
use Rattle.pv_call_copies.specs.Inlined.{Drawn as Plain_drawn}
use Rattle.pv_call_tables.specs.declared.drawn.Drawn.{Drawn}
use Rattle.pv_call_tables.specs.Drawing.{aim_seen}
use Rattle.pv_call_terms.specs.Deeds.{Plain}
use Rattle.pv_inline.specs.Walking.{Making, true_deed}

-- ---- deeds, by what is seen of them

abbrev pub guard_in : List Term → Option Plain → Term
guard_in terms None = false_term
guard_in terms (Some deed) = term_at terms deed.guard

abbrev pub sets_in : List Term → Option Plain → List Set
sets_in terms None = []
sets_in terms (Some deed) = map (set_of terms) deed.sets

abbrev pub values_below : ℕ → List CodeSet → Bool
values_below k sets = list_all (λ (set : CodeSet). nat_lt set.value k) sets

abbrev pub has_nodes : ℕ → Plain → Bool
has_nodes k deed = nat_lt deed.guard k && values_below k deed.sets

-- ---- edges

-- by nodes and deeds
abbrev pub read : List Node → List Plain → Drawn → Plain_drawn
read nodes deeds d = record {
  from = d.from;
  aim = aim_seen d.aim;
  guard = guard_in (terms_of nodes) (slice_get deeds d.deed);
  sets = sets_in (terms_of nodes) (slice_get deeds d.deed);
}

abbrev pub has_deed : ℕ → Drawn → Bool
has_deed k d = nat_lt d.deed k

-- its numbers name something, and its first node and deed are what they were at the beginning
pub record IsGood (m : Making) : Type 0 where
  pub nodes : are_ordered 0 m.nodes ≡ true
  pub deeds : list_all (has_nodes (length m.nodes)) m.deeds ≡ true
  pub drawn : list_all (has_deed (length m.deeds)) m.drawn ≡ true
  pub truth : term_at (terms_of m.nodes) 0 ≡ true_term
  pub plain : slice_get m.deeds 0 ≡ Some (true_deed [])
  pub some : 1 ≤ length m.nodes

-- what is made besides: these edges and loops
pub record Added (m new : Making) (es : List Plain_drawn) (ls : List Loop) : Type 0 where
  pub more_nodes : List Node
  pub nodes : new.nodes ≡ m.nodes ++ more_nodes
  pub more_deeds : List Plain
  pub deeds : new.deeds ≡ m.deeds ++ more_deeds
  pub more_drawn : List Drawn
  pub drawn : new.drawn ≡ m.drawn ++ more_drawn
  pub is_read : map (read new.nodes new.deeds) more_drawn ≡ es
  pub loops : new.loops ≡ m.loops ++ ls
  pub good : IsGood new
