-- Nesting from below, found before a tree is built: what is known of each value on the stack is the place of its first token, and by
-- depth the place of the first part in it that has so many parts above it.
use Rattle.std.specs.Prelude.{ℕ, zero, suc, ◌/◌, ◌%◌, ◌==◌, Bool, true, false, List, [], ◌∷◌, map, take, reverse, Option, Some, None, option_and_then, Vec}
use Rattle.std.specs.List.{slice_get}
use Rattle.std.specs.declared.alloc.Global.{Global}
use Rattle.pv_place.specs.declared.place.Place.{Place}
use Rattle.pv_tree.specs.Lexemes.{Lexeme}
use Rattle.pv_tree.specs.Nesting.{most_levels}
use Rattle.pv_parse.specs.declared.shade.Shaded.{Shaded}
use Rattle.pv_parse.specs.declared.shade.Shading.{Shading}
use Rattle.pv_parse.specs.declared.shade.Shading.TheVariants.{Take, Join, Group, Part, Branch}

-- the place of the first token, and by depth the first place of a part
pub record Shade : Type 0 where
  pub first : Place
  pub parts : List Place

-- by depth the first places of what stands one behind the other
abbrev pub merged : List Place → List Place → List Place
merged [] ys = ys
merged (x ∷ xs) [] = x ∷ xs
merged (x ∷ xs) (y ∷ ys) = x ∷ merged xs ys

abbrev pub all : List (List Place) → List Place
all [] = []
all (xs ∷ others) = merged xs (all others)

-- those of a part that begins at this place, and of what is in it; deeper ones than those that are too deep don't matter
abbrev pub part_places : Place → List Place → List Place
part_places first inner = take (suc most_levels) (first ∷ inner)

-- what has no token
abbrev pub nowhere : Place
nowhere = record { file = 0; offset = 0 }

abbrev pub empty : Shade
empty = record { first = nowhere; parts = [] }

abbrev pub shade_of_token : Lexeme → Shade
shade_of_token t = record { first = t.place; parts = [] }

-- of a value of which it doesn't matter where it begins, as a list
abbrev pub group_of : Shade → Shade
group_of shade = record { first = nowhere; parts = shade.parts }

abbrev pub part_of : Shade → Shade
part_of shade = record { first = shade.first; parts = part_places shade.first shade.parts }

-- ---- what an alternative does with what lies on the stack

-- a value with one behind it: the parts of the first count or not
abbrev pub over : Bool → Shade → Shade → Shade
over true x one = record { first = x.first; parts = merged x.parts one.parts }
over false x one = record { first = x.first; parts = one.parts }

-- so many values off the top as one value, with what was taken already behind them; the bits of a number say whose parts don't
-- count, the lowest that of the top
abbrev pub gathered : ℕ → ℕ → Shade → List Shade → Option (Shade × List Shade)
gathered zero drops one s = Some (one, s)
gathered (suc n) drops one [] = None
gathered (suc n) drops one (x ∷ s) = gathered n (drops / 2) (over (drops % 2 == 0) x one) s

-- what is left below so many values
abbrev pub left_below : ℕ → List Shade → Option (List Shade)
left_below zero s = Some s
left_below (suc n) [] = None
left_below (suc n) (x ∷ s) = left_below n s

abbrev pub shade_on : List Shade → Option (Shade × List Shade)
shade_on [] = None
shade_on (x ∷ s) = Some (x, s)

abbrev pub sink : Shading → List Shade → Option (List Shade)
sink (Take count) s = left_below count s
sink (Join count drops) s =
    option_and_then (λ one. Some (one.0 ∷ one.1)) (gathered count drops empty s)
sink (Group count drops) s =
    option_and_then (λ one. Some (group_of one.0 ∷ one.1)) (gathered count drops empty s)
sink (Part count drops) s =
    option_and_then (λ one. Some (part_of one.0 ∷ one.1)) (gathered count drops empty s)
sink (Branch count) s =
    option_and_then (λ top. option_and_then (λ one. Some
    (empty ∷ top.0 ∷ group_of one.0 ∷ one.1)) (gathered count 0 empty top.1)) (shade_on s)

-- ---- the code's stack

abbrev pub shade_in : Shaded → Shade
shade_in s = record { first = s.first; parts = s.parts.items }

-- the stack, its top first
abbrev pub shades_of : Vec Shaded Global → List Shade
shades_of v = map shade_in (reverse v.items)

-- the first part of the top value that has so many parts above it
abbrev pub place_at : ℕ → List Shade → Option Place
place_at depth [] = None
place_at depth (x ∷ s) = slice_get x.parts depth
