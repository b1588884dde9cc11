-- Calls between blocks that are known by their numbers: those from which calls lead back, and those at which a long chain ends.
use Rattle.std.specs.Prelude.{◌≡◌, ℕ, ◌<◌, List, [], map, slice_index_or}
use Rattle.pv_place.specs.declared.place.Place.{Place}
use Rattle.pv_rules_expr.specs.Members.{HasSome}
use Rattle.pv_graph.specs.Graphs.{Leads, EndsAt}
use Rattle.pv_rules_call.specs.declared.links.Link.{Link}
use Rattle.pv_rules_call.specs.declared.links.Links.{Links}

abbrev pub links_graph : List Links → List (List ℕ)
links_graph all = map (λ l. map (λ k. k.to) l.list.items) all

abbrev pub links_at : List Links → ℕ → List Link
links_at all i = slice_index_or (map (λ l. l.list.items) all) i []

-- a call of the block, at this place, from which calls lead back to the block
abbrev pub IsBackLink : List (List ℕ) → ℕ → Place → Link → Type 0
IsBackLink g from at k = (k.place ≡ at) × Leads g k.to from

-- such a call of one of the first n blocks
abbrev pub HasBackLink : List (List ℕ) → List Links → ℕ → Place → Type 0
HasBackLink g all n at = (i : ℕ) × (i < n) × HasSome (IsBackLink g i at) (links_at all i)

-- a call of the block, at this place, where a chain of so many calls ends with the block
abbrev pub IsDeepLink : List (List ℕ) → List Links → ℕ → ℕ → Place → Type 0
IsDeepLink g all calls i at =
    EndsAt g calls i × HasSome (λ k. k.place ≡ at) (links_at all i)

-- such a call of one of the first n blocks
abbrev pub HasDeepLink : List (List ℕ) → List Links → ℕ → ℕ → Place → Type 0
HasDeepLink g all calls n at = (i : ℕ) × (i < n) × IsDeepLink g all calls i at
