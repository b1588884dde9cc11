-- Where the target of an assignment breaks a rule.
use Rattle.std.specs.Prelude.{List, Option, Bool as Truth, ◌&&◌}
use Rattle.pv_place.specs.declared.place.Place.{Place}
use Rattle.pv_tree.specs.Tree.{OperandTree}
use Rattle.pv_tree.specs.Scopes.{Scope}
use Rattle.pv_tree.specs.Things.{thing_of, place_of_operand}
use Rattle.pv_tree.specs.Parts.{Loop, path_of}
use Rattle.pv_tree.specs.Rules.Targets.{is_fixed}
use Rattle.pv_rules_code.specs.Counted.{is_counted_operand}
use Rattle.pv_rules_expr.specs.Places.{place_where}
use Rattle.pv_rules_expr.specs.Operands.{name_at, address_at}
use Rattle.pv_rules_expr.specs.Indexes.{index_at, misused_at}
use Rattle.pv_rules_expr.specs.declared.indexes.IndexFault.TheVariants as index
use Rattle.pv_rules_code.specs.Sought.Aim.{Aim}
use Rattle.pv_rules_code.specs.Sought.Aim.{Fixed, Missing, Address, Misused, Beyond}

-- a constant or a block
abbrev pub fixed_at : Scope → OperandTree → Option Place
fixed_at scope o = place_where (is_fixed (thing_of scope o)) (place_of_operand o)

-- the variable of a FOR around the statement
abbrev pub counted_at : List Loop → OperandTree → Option Place
counted_at loops o = place_where (is_counted_operand loops o) (place_of_operand o)

abbrev pub target_place : Aim → Scope → OperandTree → Option Place
target_place Fixed scope o = fixed_at scope o
target_place Missing scope o = name_at (thing_of scope o)
target_place Address scope o = address_at o
target_place Misused scope o = misused_at scope (path_of scope o)
target_place Beyond scope o = index_at index.Beyond scope (path_of scope o)

-- the same at an operand that is written, or only named
abbrev pub named_place : Truth → Aim → Scope → OperandTree → Option Place
named_place written Fixed scope o = place_where (written && is_fixed (thing_of scope o)) (place_of_operand o)
named_place written Missing scope o = target_place Missing scope o
named_place written Address scope o = target_place Address scope o
named_place written Misused scope o = target_place Misused scope o
named_place written Beyond scope o = target_place Beyond scope o
