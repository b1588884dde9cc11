use Rattle.std.proofs.Common.{◌+◌, ◌++◌, drop, refl, sym, ap, ◌∙◌}
use Rattle.pv_types.specs.View.{var_trees}
use Rattle.pv_mean.specs.LaidOut.{test_of}
use Rattle.pv_mean.specs.Sized.{sized_project}
use Rattle.pv_resolve.specs.Firsts.{fronts}
use Rattle.pv_resolve.proofs.Tabling.{declared_added, all_added}
use Rattle.pv_resolve.proofs.firsts.PartFirsts.of.Goals as goal

pub loop-of-init : goal.loop-of-init
loop-of-init c =
    record {
      part = refl;
      numbers = ap (λ ns. ns ++ fronts (sized_project c.args.sizes.now) (test_of c.args.part) (var_trees c.args.vars.now) 0) c.new.ensures.items;
    }

pub loop-of-preserved : goal.loop-of-preserved
loop-of-preserved c =
    let project = sized_project c.args.sizes.now in
    let vars = c.args.vars.now in
    let i = c.loop-of.of-index in
    let old = c.loop-of.so_far in
    let new = c.add.new.self in
    let adds = c.in_ok-add.ensures in
    record {
      part = adds.part ∙ c.loop-of.invariant.part;
      numbers = ap (λ p. new.numbers.items ++ fronts project (test_of p) (var_trees (drop (i + 1) vars)) new.total) adds.part
          ∙ declared_added project (test_of old.part) vars i c.of-item.result old.numbers.items new.numbers.items _ old.total new.total
          c.loop-of-test.true c.of-item.is adds.numbers c.loop-of.invariant.numbers;
    }

pub returns : goal.returns
returns c =
    let project = sized_project c.args.sizes.now in
    record {
      fronts = all_added project (test_of c.loop-of.so_far.part) c.args.vars.now c.loop-of.of-index c.loop-of.so_far.numbers.items _
          c.loop-of.so_far.total c.loop-of-test.false c.loop-of.invariant.numbers
          ∙ ap (λ p. fronts project (test_of p) (var_trees c.args.vars.now) 0) (sym c.loop-of.invariant.part);
      part = c.loop-of.invariant.part;
    }
