-- The code's sorts and wants as those of expressions.
use Rattle.std.specs.Prelude.{ℤ, neg_ℤ, if◌then◌else◌}
use Rattle.pv_tree.specs.LiteralTypes as literals
use Rattle.pv_tree.specs.Sorts as sorts
use Rattle.pv_names.specs.declared.sort.Number.{Number}
use Rattle.pv_names.specs.declared.sort.Want.{Want}
use Rattle.pv_names.specs.declared.sort.Want.TheVariants.{Nothing, This, Unsure}
use Rattle.pv_names.specs.declared.sort.Sort.{Sort}
use Rattle.pv_names.specs.declared.sort.Sort.TheVariants.{Untyped, Typed, One, Whole, Broken}

abbrev pub number_value : Number → ℤ
number_value n = if n.negated then neg_ℤ n.value else n.value

abbrev pub want_tree : Want → literals.Want
want_tree Nothing = literals.nothing
want_tree (This ty) = literals.this ty
want_tree Unsure = literals.unsure

abbrev pub sort_tree : Sort → sorts.Sort
sort_tree (Untyped n) = sorts.untyped (number_value n)
sort_tree (Typed ty n) = sorts.typed ty (number_value n)
sort_tree (One ty) = sorts.one ty
sort_tree Whole = sorts.whole
sort_tree Broken = sorts.broken
