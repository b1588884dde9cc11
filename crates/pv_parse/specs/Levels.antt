-- How deep values nest, as numbers alone: each alternative does to them what it does to the places by depth.
use Rattle.std.specs.Prelude.{ℕ, zero, suc, ◌/◌, ◌%◌, ◌==◌, Bool, true, false, max, min, List, [], ◌∷◌, length, reverse, Option, Some, None, option_and_then, slice_index_or, Vec}
use Rattle.std.specs.declared.alloc.Global.{Global}
use Rattle.pv_tree.specs.Nesting.{most_levels}
use Rattle.pv_tree.specs.Lexemes.{Lexeme}
use Rattle.pv_ll.specs.Making.{Making}
use Rattle.pv_parse.specs.declared.action.Action.{Action}
use Rattle.pv_parse.specs.declared.action.Action.TheVariants.{Keep}
use Rattle.pv_parse.specs.declared.shade.Shading.{Shading}
use Rattle.pv_parse.specs.declared.shade.Shading.TheVariants.{Take, Join, Group, Part, Branch}
use Rattle.pv_parse.specs.Deeds.{Kinded, kinded_making}
use Rattle.pv_parse.specs.Shades.{Shade}
use Rattle.pv_parse.specs.ItemShades.{shading_of}

-- of a value, as many as it has places by depth
abbrev pub levels_of : Shade → ℕ
levels_of shade = length shade.parts

-- of a value with one behind it: the parts of the first count or not
abbrev pub over : Bool → ℕ → ℕ → ℕ
over true x one = max x one
over false x one = one

-- of a part; more than is too deep doesn't matter
abbrev pub part_of : ℕ → ℕ
part_of levels = min (suc most_levels) (suc levels)

-- so many values off the top as one, as the places by depth are gathered
abbrev pub gathered : ℕ → ℕ → ℕ → List ℕ → Option (ℕ × List ℕ)
gathered zero drops one s = Some (one, s)
gathered (suc n) drops one [] = None
gathered (suc n) drops one (x ∷ s) = gathered n (drops / 2) (over (drops % 2 == 0) x one) s

abbrev pub left_below : ℕ → List ℕ → Option (List ℕ)
left_below zero s = Some s
left_below (suc n) [] = None
left_below (suc n) (x ∷ s) = left_below n s

abbrev pub level_on : List ℕ → Option (ℕ × List ℕ)
level_on [] = None
level_on (x ∷ s) = Some (x, s)

abbrev pub sink : Shading → List ℕ → Option (List ℕ)
sink (Take count) s = left_below count s
sink (Join count drops) s = option_and_then (λ one. Some (one.0 ∷ one.1)) (gathered count drops 0 s)
sink (Group count drops) s = option_and_then (λ one. Some (one.0 ∷ one.1)) (gathered count drops 0 s)
sink (Part count drops) s =
    option_and_then (λ one. Some (part_of one.0 ∷ one.1)) (gathered count drops 0 s)
sink (Branch count) s =
    option_and_then (λ top. option_and_then (λ one. Some (0 ∷ top.0 ∷ one.0 ∷ one.1))
    (gathered count 0 0 top.1)) (level_on s)

-- by the alternative's number
abbrev pub level_by : List Action → ℕ → List ℕ → Option (List ℕ)
level_by actions k s = sink (shading_of (slice_index_or actions k Keep)) s

abbrev pub level_making : List Action → Making Kinded ℕ
level_making actions = kinded_making (λ (t : Lexeme). 0) (level_by actions)

-- the same from a table of what the alternatives do
abbrev pub sink_by : List Shading → ℕ → List ℕ → Option (List ℕ)
sink_by table k s = sink (slice_index_or table k (Take 0)) s

abbrev pub table_making : List Shading → Making Kinded ℕ
table_making table = kinded_making (λ (t : Lexeme). 0) (sink_by table)

-- the code's stack, its top first
abbrev pub levels_in : Vec ℕ Global → List ℕ
levels_in v = reverse v.items

-- of the top value
abbrev pub level_at : List ℕ → ℕ
level_at [] = 0
level_at (x ∷ s) = x
