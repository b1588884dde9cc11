-- What the code computes of parts, on their lists: whether locations and variables are as they should be, and how many values states and
-- inputs have. Of loops it is in Windows.
use Rattle.std.specs.Prelude.{ℕ, List, [], ◌∷◌, ◌++◌, map, length, slice_index_or, Bool, true, ◌&&◌, nat_lt, nat_le}
use Rattle.std.specs.List.{list_all, filter}
use Rattle.pv_place.specs.Roles.{is_input, is_stored}
use Rattle.pv_flow.specs.declared.term.Node.{Node}
use Rattle.pv_flow.specs.declared.term.Node.TheVariants as node
use Rattle.pv_flow.specs.declared.parts.Variable.{Variable}
use Rattle.pv_flow.specs.declared.parts.Set.{Set}
use Rattle.pv_flow.specs.declared.parts.Deed.{Deed}
use Rattle.pv_flow.specs.declared.parts.Edge.{Edge}
use Rattle.pv_flow.specs.declared.parts.Parts.{Parts}

-- ---- locations

abbrev pub ways_lie : Parts → Bool
ways_lie p =
    list_all (λ edge. nat_lt edge.from p.locations && nat_lt edge.to p.locations) p.edges.items
    && list_all (λ call. nat_lt call.from p.locations && nat_lt call.to p.locations) p.calls.items
    && list_all (λ loop. nat_lt loop.first p.locations && nat_lt loop.last p.locations) p.loops.items

abbrev pub ends_lie : Parts → Bool
ends_lie p =
    nat_lt p.done p.locations
    && list_all (λ end. nat_lt end.location p.locations) p.traps.items
    && list_all (λ end. nat_lt end.location p.locations) p.overs.items

abbrev pub locations_lie : Parts → Bool
locations_lie p = ways_lie p && ends_lie p

-- ---- variables: marks by number, each made of those that stand before it

-- a number that names nothing stands for what names no variable
abbrev pub mark_at : List Bool → ℕ → Bool
mark_at marks n = slice_index_or marks n true

-- by the marks of the nodes before it
abbrev pub node_mark : ℕ → List Bool → Node → Bool
node_mark k marks (node.Constant ty v) = true
node_mark k marks (node.Variable n) = nat_lt n k
node_mark k marks (node.Unary op ty a) = mark_at marks a
node_mark k marks (node.Binary op ty a b) = mark_at marks a && mark_at marks b
node_mark k marks (node.Select ty c a b) = mark_at marks c && mark_at marks a && mark_at marks b

abbrev pub marks_after : ℕ → List Bool → List Node → List Bool
marks_after k marks [] = marks
marks_after k marks (n ∷ nodes) = marks_after k (marks ++ node_mark k marks n ∷ []) nodes

abbrev pub set_mark : ℕ → List Bool → Set → Bool
set_mark k marks set = nat_lt set.variable k && mark_at marks set.value

abbrev pub deed_mark : ℕ → List Bool → Deed → Bool
deed_mark k marks deed = mark_at marks deed.guard && list_all (set_mark k marks) deed.sets.items

abbrev pub deed_marks : ℕ → List Node → List Deed → List Bool
deed_marks k nodes deeds = map (deed_mark k (marks_after k [] nodes)) deeds

-- by the marks of the deeds
abbrev pub edge_mark : List Bool → Edge → Bool
edge_mark deeds edge = mark_at deeds edge.deed

abbrev pub edges_marked : ℕ → List Bool → Parts → Bool
edges_marked k deeds p = list_all (edge_mark deeds) p.edges.items && list_all (λ call. nat_le call.instance k) p.calls.items

abbrev pub variables_lie : Parts → Bool
variables_lie p = edges_marked (length p.vars.items) (deed_marks (length p.vars.items) p.nodes.items p.deeds.items) p

-- ---- values

abbrev pub stored_in : List Variable → ℕ
stored_in vars = length (filter (λ v. is_stored v.role) vars)

abbrev pub taken_in : List Variable → ℕ
taken_in vars = length (filter (λ v. is_input v.role) vars)
