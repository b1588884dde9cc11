-- Parameters among variables: what they are, and an only input.
use Rattle.std.specs.Prelude.{List, [], ◌∷◌, if◌then◌else◌, Option, Some, None}
use Rattle.pv_types.specs.Tree.{VarTree}
use Rattle.pv_types.specs.View.{name_of, section_of, declared_type_of}
use Rattle.pv_tree.specs.Callees.{is_input, Param}

abbrev pub param_of : VarTree → Param
param_of v = record { key = (name_of v).key; section = section_of v; ty = declared_type_of v }

-- the only input, where one was found before these, or none
abbrev pub sole_input : Option VarTree → List VarTree → Option VarTree
sole_input found [] = found
sole_input None (v ∷ vs) = if is_input (section_of v) then sole_input (Some v) vs else sole_input None vs
sole_input (Some w) (v ∷ vs) = if is_input (section_of v) then None else sole_input (Some w) vs
