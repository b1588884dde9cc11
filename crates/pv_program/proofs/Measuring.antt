-- That the making of statements ends: what stands in a statement is less deep.
use Rattle.std.proofs.Common.{ℕ, ◌+◌, ◌*◌, ◌<◌, List, Option, Some, None, max, arith}
use Rattle.std.specs.Prelude.{Vec, Box}
use Rattle.std.specs.declared.alloc.Global.{Global}
use denote.Param.Weighed.{most}
use Rattle.pv_place.specs.declared.place.Place.{Place}
use Rattle.pv_tree.specs.declared.stmt.Stmt.{Stmt, size-Stmt, the_lemmas}
use Rattle.pv_tree.specs.declared.stmt.Stmt.TheViews as form
use Rattle.pv_tree.specs.declared.stmt.Choice as tree
use Rattle.pv_tree.specs.declared.expr.Expr.{Expr}

-- ---- how deep statements are at most: of a list, in the arms of an IF, in the branches of a CASE, behind ELSE

abbrev pub of_list : List Stmt → ℕ
of_list list = most size-Stmt list

abbrev pub of_arms : List (Expr × Vec Stmt Global) → ℕ
of_arms arms = most (λ a. of_list a.1.items) arms

abbrev Values : Type 0
Values = Vec (tree.Choice × Option tree.Choice) Global

abbrev pub of_branches : List (Values × Vec Stmt Global) → ℕ
of_branches branches = most (λ b. of_list b.1.items) branches

abbrev pub of_other : Option (Box (Vec Stmt Global) Global) → ℕ
of_other None = 0
of_other (Some v) = of_list v.value.items

-- what stands in branches, and behind ELSE, is less deep than their CASE
pub branches_deeper : (selector : _) (all : _) (other : _) (place : Place)
    → most (λ b. most size-Stmt b.1.items) all.items < size-Stmt (form.Case selector all other place)
branches_deeper selector all other place = grind (arith, the_lemmas)

pub other_deeper : (selector : _) (all : _) (other : _) (place : Place) → of_other other < size-Stmt (form.Case selector all other place)
other_deeper selector all other place = grind (arith, the_lemmas)

-- what is greater than two measures is greater than that of the greater one
pub max_less : (a b c : ℕ) → 4 * a + 3 < c → 4 * b + 3 < c → 4 * max a b + 3 < c
max_less a b c below under = grind (arith, below, under)
