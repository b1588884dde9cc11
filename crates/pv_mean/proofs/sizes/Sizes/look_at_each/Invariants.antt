use Rattle.std.proofs.Common.{◌≡◌, ◌++◌, List, Bool, true, map, drop}
use Rattle.pv_types.specs.declared.declaration.Section.{Section}
use Rattle.pv_types.specs.Tree.{VarTree}
use Rattle.pv_types.specs.View.{type_tree}
use Rattle.pv_types.proofs.ForCallers.{word_in}
use Rattle.pv_mean.specs.Layout.{size_in}
use Rattle.pv_mean.specs.Counts.{capped}
use Rattle.pv_mean.specs.Sized.{sized_project}
use Rattle.pv_mean.specs.LaidOut.{laid_counted}
use Rattle.pv_mean.proofs.sizes.Sizes.look_at_each.Given as goal

abbrev pub invariant-loop-word : goal.invariant-loop-word
invariant-loop-word l = record {
  size : l.size ≡ capped (size_in (sized_project l.self) (type_tree l.of.ty));
  found : (test : Section → Bool) (rest : List VarTree) → test l.of.section ≡ true
      → laid_counted (sized_project l.self) test (map (word_in l.of) (drop l.word-index l.word-items) ++ rest) l.name.key l.at
      ≡ laid_counted (sized_project l.self) test (map (word_in l.of) l.word-items ++ rest) l.name.key l.fn.at;
}
