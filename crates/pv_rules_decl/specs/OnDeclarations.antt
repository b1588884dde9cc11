-- What breaks a rule at one declared type or variable.
use Rattle.std.specs.Prelude.{◌≡◌, ◌&&◌, not, IsTrue}
use Rattle.pv_place.specs.declared.place.Place.{Place}
use Rattle.pv_types.specs.Tree.{VarTree}
use Rattle.pv_types.specs.View.{section_of, place_of, declared_type_of}
use Rattle.pv_tree.specs.declared.block.BlockKind.{BlockKind}
use Rattle.pv_tree.specs.Scopes.{is_ob}
use Rattle.pv_tree.specs.Things.{is_date}
use Rattle.pv_tree.specs.Rules.Misfits.{is_temporary}

-- a variable of DATE_AND_TIME that doesn't stand where an organization block may declare one
abbrev pub IsMisplacedDate : BlockKind → Place → VarTree → Type 0
IsMisplacedDate kind at v = (place_of v ≡ at) × IsTrue (is_date (declared_type_of v) && not (is_ob kind && is_temporary (section_of v)))
