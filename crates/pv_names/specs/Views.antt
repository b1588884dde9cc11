-- What the code holds of types, things and scopes, as plain data.
use Rattle.pv_types.specs.Tree.{TypeTree, plain, array, structure, named, unread}
use Rattle.pv_types.specs.View.{type_tree, var_trees, listed}
use Rattle.pv_tree.specs.Things as tree
use Rattle.pv_names.specs.Entries.{block_of}
use Rattle.pv_names.specs.declared.thing.Held.{Held}
use Rattle.pv_names.specs.declared.thing.Held.TheVariants.{Plain, Array, Struct, Named, Unread}
use Rattle.pv_names.specs.declared.thing.Thing.{Thing}
use Rattle.pv_names.specs.declared.thing.Thing.TheVariants.{Part, Constant, Block, NoName, NoArray, ADate, Untold}

abbrev pub held_tree : Held → TypeTree
held_tree (Plain ty) = plain ty
held_tree (Array low high of place) = array low high (type_tree of.now) place
held_tree (Struct vars) = structure (listed (var_trees vars.now))
held_tree (Named name place) = named name.now place
held_tree Unread = unread

abbrev pub thing_tree : Thing → tree.Thing
thing_tree (Part ty) = tree.part (held_tree ty)
thing_tree (Constant ty) = tree.constant (held_tree ty)
thing_tree (Block e) = tree.a_block (block_of e.now)
thing_tree (NoName place) = tree.no_name place
thing_tree (NoArray place) = tree.no_array place
thing_tree (ADate place) = tree.a_date place
thing_tree Untold = tree.untold
