-- The loops around a statement, of the code as plain data.
use Rattle.std.specs.Prelude.{List}
use Rattle.pv_tree.specs.Tree.{StmtTree}
use Rattle.pv_tree.specs.Parts as parts
use Rattle.pv_tree.specs.Parts.{Spot}
use Rattle.pv_rules_code.specs.declared.around.Loop.{Loop}
use Rattle.pv_rules_code.specs.declared.around.Loop.TheVariants.{For, Other}

abbrev pub loop_tree : Loop → parts.Loop
loop_tree (For name) = parts.a_for name.now
loop_tree Other = parts.another

abbrev pub spot : List parts.Loop → StmtTree → Spot
spot loops s = record { loops = loops; stmt = s }
