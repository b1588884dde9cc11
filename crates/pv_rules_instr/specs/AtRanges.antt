-- Ranges of backward jumps, by the numbers of their instructions, and where one is entered elsewhere than at its label or two cross.
-- A range goes from its label's instruction to the last that jumps to it. Since an instruction jumps to one label at most, it is the
-- last of one range at most.
use Rattle.std.specs.Prelude.{ℕ, suc, List, [], ◌∷◌, map, replicate, length, set, take, drop, slice_index_or, nat_eq, nat_lt, nat_le, Bool as Truth, false, ◌&&◌, ◌||◌, if◌then◌else◌, Option, Some, None, option_and_then}
use Rattle.pv_place.specs.declared.place.Place.{Place}
use Rattle.pv_tree.specs.Tree.{InstrTree}
use Rattle.pv_tree.specs.InstructionGroups.{label_of_jump}
use Rattle.pv_rules_expr.specs.Nearest.{nearer_of}
use Rattle.pv_rules_expr.specs.Places.{place_where}
use Rattle.pv_rules_instr.specs.AtLabels.{number_of_label}

-- for each instruction the number of another, or none
abbrev pub Numbers : Type 0
Numbers = List (Option ℕ)

abbrev pub number_at : Numbers → ℕ → Option ℕ
number_at ns n = slice_index_or ns n None

abbrev pub is_under : ℕ → Option ℕ → Truth
is_under n None = false
is_under n (Some m) = nat_lt m n

abbrev pub is_over : ℕ → Option ℕ → Truth
is_over n None = false
is_over n (Some m) = nat_lt n m

abbrev pub is_this : ℕ → Option ℕ → Truth
is_this n None = false
is_this n (Some m) = nat_eq n m

-- ---- jumps and ranges

-- the number of the instruction that an instruction jumps to
abbrev pub goal_of : List InstrTree → InstrTree → Option ℕ
goal_of all i = option_and_then (λ l. number_of_label all l.0.key) (label_of_jump i)

abbrev pub goals_of : List InstrTree → Numbers
goals_of is = map (goal_of is) is

-- the last instruction that jumps back to each, or to itself
abbrev pub mark_last : Numbers → Option ℕ → ℕ → Numbers
mark_last lasts None jump = lasts
mark_last lasts (Some first) jump =
    if nat_le first jump && nat_lt first (length lasts) then set lasts first (Some jump) else lasts

abbrev pub lasts_from : ℕ → Numbers → Numbers → Numbers
lasts_from jump [] lasts = lasts
lasts_from jump (goal ∷ goals) lasts = lasts_from (suc jump) goals (mark_last lasts goal jump)

abbrev pub lasts_of : Numbers → Numbers
lasts_of goals = lasts_from 0 goals (replicate (length goals) None)

-- the first of the range that ends with a jump
abbrev pub first_of : Numbers → ℕ → Option ℕ → Option ℕ
first_of lasts jump None = None
first_of lasts jump (Some goal) = if is_this jump (number_at lasts goal) then Some goal else None

abbrev pub firsts_from : Numbers → ℕ → Numbers → Numbers
firsts_from lasts jump [] = []
firsts_from lasts jump (goal ∷ goals) = first_of lasts jump goal ∷ firsts_from lasts (suc jump) goals

-- where each instruction jumps to, the last of the range that begins with it, and the first of the range that ends with it
pub record RangeNumbers : Type 0 where
  pub goals : Numbers
  pub lasts : Numbers
  pub firsts : Numbers

abbrev pub numbers_of_goals : Numbers → RangeNumbers
numbers_of_goals goals = record {
  goals = goals;
  lasts = lasts_of goals;
  firsts = firsts_from (lasts_of goals) 0 goals;
}

-- ---- the ranges around an instruction that isn't their first

-- the least last of them: of the instructions from this one on, the first that is the last of a range which begins before
abbrev pub end_from : ℕ → ℕ → Numbers → Option ℕ
end_from n at [] = None
end_from n at (first ∷ firsts) = if is_under n first then Some at else end_from n (suc at) firsts

abbrev pub end_at : Numbers → ℕ → Option ℕ
end_at firsts n = end_from n n (drop n firsts)

-- the greatest first of them: of the instructions before this one, the last that is the first of a range which doesn't end before
abbrev pub or_this : Option ℕ → Option ℕ → Option ℕ
or_this None other = other
or_this (Some n) other = Some n

abbrev pub reaches : ℕ → Option ℕ → Truth
reaches n None = false
reaches n (Some last) = nat_le n last

abbrev pub start_from : ℕ → ℕ → Numbers → Option ℕ
start_from n at [] = None
start_from n at (last ∷ lasts) = or_this (start_from n (suc at) lasts) (if reaches n last then Some at else None)

abbrev pub start_at : Numbers → ℕ → Option ℕ
start_at lasts n = start_from n 0 (take n lasts)

-- ---- places

-- a jump to this instruction comes from outside a range around it
abbrev pub enters : RangeNumbers → ℕ → ℕ → Truth
enters r from to = is_over from (start_at r.lasts to) || is_under from (end_at r.firsts to)

abbrev pub enter_at : RangeNumbers → ℕ → InstrTree → Option Place
enter_at r n i = option_and_then (λ to. place_where (enters r n to) i.place) (number_at r.goals n)

-- a range that begins here ends behind one around its first
abbrev pub crosses : RangeNumbers → ℕ → ℕ → Truth
crosses r first last = is_under last (end_at r.firsts first)

abbrev pub cross_at : RangeNumbers → ℕ → InstrTree → Option Place
cross_at r n i =
    option_and_then (λ last. option_and_then (λ l. place_where (crosses r n last) l.1) i.label) (number_at r.lasts n)

abbrev pub range_at : RangeNumbers → ℕ → InstrTree → Option Place
range_at r n i = nearer_of (enter_at r n i) (cross_at r n i)

abbrev pub range_from : RangeNumbers → ℕ → List InstrTree → Option Place → Option Place
range_from r n [] nearest = nearest
range_from r n (i ∷ more) nearest = range_from r (suc n) more (nearer_of nearest (range_at r n i))

abbrev pub range_place : List InstrTree → Option Place
range_place is = range_from (numbers_of_goals (goals_of is)) 0 is None
