-- The rule of patterns alone: an expression has `/`, DIV or MOD, at the operator, or an index that isn't a literal, at the index's
-- first token.
use Rattle.std.specs.Prelude.{◌≡◌, ◌⊎◌, Bool as Truth, true, false, not, is_some, Any, IsTrue}
use Rattle.pv_place.specs.declared.place.Place.{Place}
use Rattle.pv_tree.specs.declared.expr.BinaryOp.{BinaryOp}
use Rattle.pv_tree.specs.declared.expr.BinaryOp.TheVariants.{Div, Mod}
use Rattle.pv_tree.specs.Tree.{ExprTree, binary}
use Rattle.pv_tree.specs.LiteralTypes.{nothing}
use Rattle.pv_tree.specs.Scopes.{Scope}
use Rattle.pv_tree.specs.Things.{first_place}
use Rattle.pv_tree.specs.Types.{literal_of}
use Rattle.pv_tree.specs.Parts.{IndexAt, parts_of, reads_of_parts, path_of, indexes_of}

abbrev pub divides : BinaryOp → Truth
divides Div = true
divides Mod = true
divides op = false

abbrev pub DividesAt : Place → ExprTree → Type 0
DividesAt at (binary op place left right) = (place ≡ at) × IsTrue (divides op)
DividesAt at e = ⊥

abbrev pub IsMovingIndex : Place → IndexAt → Type 0
IsMovingIndex at i = (first_place i.index ≡ at) × IsTrue (not (is_some (literal_of i.index)))

abbrev pub IsNoPattern : Scope → ExprTree → Place → Type 0
IsNoPattern scope e at =
    Any (λ p. DividesAt at p.expr) (parts_of scope nothing e)
    ⊎ Any (λ o. Any (IsMovingIndex at) (indexes_of scope (path_of scope o))) (reads_of_parts
    (parts_of scope nothing e))
