-- Where nestings are wrong, along the instructions with the nestings that are open.
use Rattle.std.specs.Prelude.{List, [], ◌∷◌, length, reverse, is_some, Bool as Truth, true, false, ◌&&◌, ◌||◌, not, nat_le, Option, Some, None}
use Rattle.pv_place.specs.declared.place.Place.{Place}
use Rattle.pv_tree.specs.Tree.{InstrTree}
use Rattle.pv_tree.specs.InstructionGroups.{Group, opening, closing, group_of, first_place_of}
use Rattle.pv_tree.specs.Rules.OpenNestings.{open_behind, is_kept_outside}
use Rattle.pv_rules_expr.specs.Nearest.{nearer_of}
use Rattle.pv_rules_expr.specs.NearestIn.{nearest_in}
use Rattle.pv_rules_expr.specs.Places.{place_where}

abbrev pub is_empty : List Place → Truth
is_empty [] = true
is_empty (p ∷ more) = false

-- too many openings, or a closing without one
abbrev pub bracket_at : Group → List Place → Place → Option Place
bracket_at opening pending place = place_where (nat_le 7 (length pending)) place
bracket_at closing pending place = place_where (is_empty pending) place
bracket_at group pending place = None

-- a jump, a label, a call or a block's end inside
abbrev pub inside_at : List Place → InstrTree → Option Place
inside_at pending i =
    place_where ((is_kept_outside (group_of i.op) || is_some i.label) && not (is_empty pending)) (first_place_of i)

abbrev pub nesting_at : List Place → InstrTree → Option Place
nesting_at pending i = nearer_of (bracket_at (group_of i.op) pending i.place) (inside_at pending i)

-- along the instructions, and at the end those that are left open
abbrev pub nesting_from : List Place → List InstrTree → Option Place → Option Place
nesting_from pending [] nearest = nearest_in (λ p. Some p) (reverse pending) nearest
nesting_from pending (i ∷ more) nearest =
    nesting_from (open_behind pending (group_of i.op) i.place) more (nearer_of nearest (nesting_at pending i))

abbrev pub nesting_place : List InstrTree → Option Place
nesting_place is = nesting_from [] is None
