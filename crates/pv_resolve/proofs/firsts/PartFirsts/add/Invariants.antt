use Rattle.std.proofs.Common.{◌≡◌, ◌++◌, List, map, drop}
use Rattle.pv_types.specs.Tree.{VarTree}
use Rattle.pv_types.specs.View.{type_tree, word_tree}
use Rattle.pv_mean.specs.Counts.{capped}
use Rattle.pv_mean.specs.Layout.{size_in}
use Rattle.pv_mean.specs.LaidOut.{size_where, test_of}
use Rattle.pv_mean.specs.Sized.{sized_project}
use Rattle.pv_resolve.specs.Firsts.{fronts}
use Rattle.pv_resolve.proofs.firsts.PartFirsts.add.Given as goal

abbrev pub invariant-loop-word : goal.invariant-loop-word
invariant-loop-word l = record {
  size : l.size ≡ capped (size_where (test_of l.fn.self.part l.of.section) (size_in (sized_project l.sizes) (type_tree l.of.ty)));
  part : l.self.part ≡ l.fn.self.part;
  numbers : (more : List VarTree)
      → l.self.numbers.items ++ fronts (sized_project l.sizes) (test_of l.fn.self.part)
      (map (word_tree l.of.section (type_tree l.of.ty) l.of.start) (drop l._word-index l._word-items) ++ more) l.self.total
      ≡ l.fn.self.numbers.items ++ fronts (sized_project l.sizes) (test_of l.fn.self.part)
      (map (word_tree l.of.section (type_tree l.of.ty) l.of.start) l._word-items ++ more) l.fn.self.total;
}
