-- Types by number: the blocks of a project are counted from 0, and a block that is a type leads to those that it names.
use Rattle.std.specs.Prelude.{◌≡◌, ◌⊎◌, ℕ, suc, List, [], ◌∷◌, flat_map, map, Option, Some, None, option_map, option_to_list, if◌then◌else◌}
use Rattle.pv_place.specs.declared.place.Place.{Place}
use Rattle.pv_types.specs.Tree.{TypeTree, plain, array, structure, named, unread}
use Rattle.pv_tree.specs.Tree.{PlacedName, BlockTree}
use Rattle.pv_tree.specs.Scopes.{has_key, is_type}
use Rattle.pv_tree.specs.Interfaces.{all_types}
use Rattle.pv_tree.specs.Rules.MissingTypes.{name_of_kind}
use Rattle.pv_rules_expr.specs.Members.{HasSome}
use Rattle.pv_graph.specs.Graphs.{next_of, LeadFrom}

-- the number of the first block of this name, where it is a type
abbrev pub type_number : List BlockTree → List ℕ → Option ℕ
type_number [] key = None
type_number (b ∷ bs) key =
    if has_key key b.name then (if is_type b.kind then Some 0 else None) else option_map (λ n. suc n) (type_number bs key)

-- the number of a type that is named
abbrev pub numbers_of_type : List BlockTree → TypeTree → List ℕ
numbers_of_type bs (plain ty) = []
numbers_of_type bs (array low high of place) = []
numbers_of_type bs (structure vars) = []
numbers_of_type bs (named name place) = option_to_list (type_number bs name.key)
numbers_of_type bs unread = []

abbrev pub targets_in : List BlockTree → BlockTree → List ℕ
targets_in bs b = if is_type b.kind then flat_map (numbers_of_type bs) (all_types b.vars) else []

-- each type leads to those that it names
abbrev pub types_graph : List BlockTree → List (List ℕ)
types_graph bs = map (targets_in bs) bs

-- there is no type of this name, or it leads to itself
abbrev pub IsWrongNumber : List BlockTree → Option ℕ → Type 0
IsWrongNumber bs None = Unit {0}
IsWrongNumber bs (Some i) = LeadFrom (types_graph bs) (next_of (types_graph bs) i) i

abbrev pub IsWrongName : List BlockTree → Place → PlacedName → Type 0
IsWrongName bs at n = (n.1 ≡ at) × IsWrongNumber bs (type_number bs n.0.key)

abbrev pub NamesWrongType : List BlockTree → Place → TypeTree → Type 0
NamesWrongType bs at (plain ty) = ⊥
NamesWrongType bs at (array low high of place) = ⊥
NamesWrongType bs at (structure vars) = ⊥
NamesWrongType bs at (named name place) = IsWrongName bs at (name, place)
NamesWrongType bs at unread = ⊥

abbrev pub HasWrongType : List BlockTree → Place → BlockTree → Type 0
HasWrongType bs at b = HasSome (NamesWrongType bs at) (all_types b.vars) ⊎ HasSome (IsWrongName bs at) (name_of_kind b.kind)
