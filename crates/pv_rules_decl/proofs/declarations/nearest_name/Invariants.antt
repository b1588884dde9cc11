use Rattle.std.proofs.Common.{◌≡◌, map, take}
use Rattle.pv_types.specs.View.{type_tree, word_tree, place_of}
use Rattle.pv_rules_expr.specs.Members.{HasSome}
use Rattle.pv_rules_expr.specs.Nearest.{Nears}
use Rattle.pv_rules_decl.proofs.declarations.nearest_name.Given as goal

abbrev pub invariant-loop-word : goal.invariant-loop-word
invariant-loop-word l =
    Nears (λ at. HasSome (λ v. place_of v ≡ at) (map (word_tree l.of.section (type_tree l.of.ty) l.of.start) (take l.word-index l.word-items)))
    l.fn.nearest l.nearest
