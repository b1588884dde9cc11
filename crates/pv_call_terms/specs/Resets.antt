-- What an edge into a called block sets, and the nodes of these sets: a constant 0 for each variable that begins the call anew.
use Rattle.std.specs.Prelude.{ℕ, suc, ◌+◌, pos, List, [], ◌∷◌, ◌++◌, length, Bool, true, false, not, ◌&&◌, ◌||◌, nat_lt}
use Rattle.pv_place.specs.declared.role.Role.{Role}
use Rattle.pv_flow.specs.declared.term.Node.{Node}
use Rattle.pv_flow.specs.declared.term.Node.TheVariants as node
use Rattle.pv_flow.specs.declared.parts.Variable.{Variable}
use Rattle.pv_flow.specs.declared.parts.Set.{Set}
use Rattle.pv_flow.specs.Calls.{is_brief}
use Rattle.pv_call_terms.specs.Numbers.{narrow}

-- the variable of number x, of a block that has so many bound and shared ones
abbrev pub anew : ℕ → ℕ → ℕ → Role → Bool
anew bound shared x role = not (nat_lt x (bound + shared)) || (nat_lt x bound && is_brief role)

abbrev pub zero_node : Variable → Node
zero_node v = node.Constant v.ty (pos 0)

abbrev pub set_to : ℕ → ℕ → Set
set_to variable n = record { variable = variable; value = narrow n }

abbrev pub nodes_by : Bool → Variable → List Node
nodes_by true v = zero_node v ∷ []
nodes_by false v = []

abbrev pub sets_by : Bool → ℕ → ℕ → List Set
sets_by true variable n = set_to variable n ∷ []
sets_by false variable n = []

-- the nodes, of variables from x on
abbrev pub reset_nodes : ℕ → ℕ → ℕ → List Variable → List Node
reset_nodes bound shared x [] = []
reset_nodes bound shared x (v ∷ vars) = nodes_by (anew bound shared x v.role) v ++ reset_nodes bound shared (suc x) vars

-- the sets, with n nodes before theirs
abbrev pub reset_sets : (ℕ → ℕ) → ℕ → ℕ → ℕ → ℕ → List Variable → List Set
reset_sets place bound shared n x [] = []
reset_sets place bound shared n x (v ∷ vars) = sets_by (anew bound shared x v.role) (place x) n
    ++ reset_sets place bound shared (n + length (nodes_by (anew bound shared x v.role) v)) (suc x) vars
