use Rattle.std.proofs.Common.{arith, ◌∙◌, sym, refl, subst, map}
use Rattle.std.proofs.lemmas.List.{take_all}
use Rattle.std.proofs.lemmas.List.Sorted.{IsNonDecreasingBy-from_sort}
use Rattle.pv_tree.specs.View.{arg_tree}
use Rattle.pv_names.specs.Entries.{block_of}
use Rattle.pv_program.specs.Sought.{HaveAll}
use Rattle.pv_program.proofs.Pairing.{one-longer}
use Rattle.pv_program.proofs.Seeking.{sought-sorted}
use Rattle.pv_program.proofs.given.numbers_of.Goals as goal

pub loop-arg-preserved : goal.loop-arg-preserved
loop-arg-preserved c = λ how unique.
    subst (λ l. HaveAll how (block_of c.args.callee.now) l 0 c.add_sought.new.numbers.items)
    (sym (one-longer arg_tree c.deref-arg-items.result.now c.loop-arg.arg-index _ c.arg-item.result c.loop-arg-test.true c.arg-item.is refl))
    (c.in_ok-add_sought.ensures how _ unique (c.loop-arg.invariant how unique))

pub returns : goal.returns
returns c = λ how unique. record {
  all = sought-sorted how (block_of c.args.callee.now) _ _ _ c.sort_unstable.ensures.permutation
      (subst (λ l. HaveAll how (block_of c.args.callee.now) (map arg_tree l) 0 c.loop-arg.numbers.items)
      (take_all c.loop-arg.arg-index c.deref-arg-items.result.now (omega arith) ∙ c.deref-arg-items.ensures.value)
      (c.loop-arg.invariant how unique));
  rise = IsNonDecreasingBy-from_sort (λ x. x) _ c.sort_unstable.ensures.sorted;
}
