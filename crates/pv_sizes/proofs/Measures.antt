-- The measure of going through statements: the statements of branches are less deep than their CASE.
use Rattle.std.proofs.Common.{◌<◌, arith}
use denote.Param.Weighed.{most}
use Rattle.pv_place.specs.declared.place.Place.{Place}
use Rattle.pv_tree.specs.declared.stmt.Stmt.{size-Stmt, the_lemmas}
use Rattle.pv_tree.specs.declared.stmt.Stmt.TheViews as form

pub case_deeper : (selector : _) (all : _) (other : _) (place : Place)
    → most (λ b. most size-Stmt b.1.items) all.items < size-Stmt (form.Case selector all other place)
case_deeper selector all other place = grind (arith, the_lemmas)
