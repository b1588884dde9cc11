-- Arrays. Either an array has its low bound over its high one, a bound outside DINT, more than 10,000 elements or another array
-- as its element type, at the word ARRAY; or a literal index is outside the bounds, at the index's first token.
use Rattle.std.specs.Prelude.{◌≡◌, ℤ, pos, ◌+ℤ◌, ◌-ℤ◌, List, Bool as Truth, true, false, ◌&&◌, ◌||◌, not, Any, IsTrue, int_lt}
use Rattle.pv_word.specs.declared.types.Ty.TheVariants.{Dint}
use Rattle.pv_place.specs.declared.place.Place.{Place}
use Rattle.pv_types.specs.Tree.{TypeTree, plain, array, structure, named, unread}
use Rattle.pv_tree.specs.LiteralTypes.{holds, nothing}
use Rattle.pv_tree.specs.Sorts.{taken, own_type}
use Rattle.pv_tree.specs.Scopes.{ProjectTree, Scope}
use Rattle.pv_tree.specs.Things.{first_place}
use Rattle.pv_tree.specs.Types.{sort_of, is_index_type, lies_in}
use Rattle.pv_tree.specs.Parts.{Path, IndexAt, paths_of, indexes_of}
use Rattle.pv_tree.specs.Interfaces.{all_types}

abbrev pub is_array : TypeTree → Truth
is_array (plain ty) = false
is_array (array low high of place) = true
is_array (structure vars) = false
is_array (named name place) = false
is_array unread = false

-- an array that can't be laid out
abbrev pub is_wrong_array : ℤ → ℤ → TypeTree → Truth
is_wrong_array low high of =
    int_lt high low || not (holds Dint low) || not (holds Dint high) || int_lt (pos 10000)
    ((high -ℤ low) +ℤ pos 1) || is_array of

abbrev pub IsWrongType : Place → TypeTree → Type 0
IsWrongType at (array low high of place) = (place ≡ at) × IsTrue (is_wrong_array low high of)
IsWrongType at (plain ty) = ⊥
IsWrongType at (structure vars) = ⊥
IsWrongType at (named name place) = ⊥
IsWrongType at unread = ⊥

abbrev pub IsWrongArray : ProjectTree → Place → Type 0
IsWrongArray project at = Any (λ b. Any (IsWrongType at) (all_types b.vars)) project.blocks

-- an index that is an INT or a DINT, but a literal beyond the bounds
abbrev pub IsBeyond : Scope → Place → IndexAt → Type 0
IsBeyond scope at i =
    (first_place i.index ≡ at)
    × IsTrue (is_index_type (own_type (taken nothing (sort_of scope i.index))) && not
    (lies_in i.within (sort_of scope i.index)))

abbrev pub HasBeyond : Scope → Place → List Path → Type 0
HasBeyond scope at paths = Any (λ p. Any (IsBeyond scope at) (indexes_of scope p)) paths

abbrev pub IsBeyondBounds : ProjectTree → Place → Type 0
IsBeyondBounds project at = Any (λ b. HasBeyond (record { project = project; block = b }) at
    (paths_of project b)) project.blocks
