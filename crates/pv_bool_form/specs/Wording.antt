-- The words that a block declares, one by one.
use Rattle.std.specs.Prelude.{List, map}
use Rattle.pv_types.specs.Tree.{VarTree}
use Rattle.pv_types.specs.View.{var_tree}
use Rattle.pv_bool_form.specs.declared.words.Words.{Words}

abbrev pub words_of : Words → List VarTree
words_of w = map var_tree w.vars.items
