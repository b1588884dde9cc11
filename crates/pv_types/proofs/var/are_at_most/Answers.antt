use Rattle.std.proofs.Common.{◌≡◌, ◌+◌, ap, arith, drop, length}
use Rattle.std.proofs.lemmas.List.{length-append, drop_all}
use Rattle.pv_types.specs.View.{vars_tree, var_trees}
use Rattle.pv_types.proofs.Words.{vars_from, counted, few_enough, too_many}
use Rattle.pv_types.proofs.var.are_at_most.Goals as goal

pub loop-of-preserved : goal.loop-of-preserved
loop-of-preserved c =
    let all = c.args.declared.now in
    let i = c.loop-of.of-index in
    let v = c.of-item.result in
    let split = ap length (vars_from all i v c.loop-of-test.true c.of-item.is) in
    let parts = length-append (vars_tree v) (var_trees (drop (i + 1) all)) in
    let count = counted v in record {
      within = omega (arith, c.loop-of.invariant.within);
      counted = omega (arith, split, parts, count, c.len-count.ensures, c.loop-of.invariant.counted);
    }

pub returns-then-count-left : goal.returns-then-count-left
returns-then-count-left c =
    let all = c.args.declared.now in
    let i = c.loop-of.of-index in
    let v = c.of-item.result in
    let split = ap length (vars_from all i v c.loop-of-test.true c.of-item.is) in
    let parts = length-append (vars_tree v) (var_trees (drop (i + 1) all)) in
    let count = counted v in
    too_many (length (var_trees all)) c.args.most
    (omega (arith, split, parts, count, c.len-count.ensures, c.if-count-left.true, c.loop-of.invariant.counted))

pub returns : goal.returns
returns c =
    let all = c.args.declared.now in
    let i = c.loop-of.of-index in
    let none : length (var_trees (drop i all)) ≡ 0 = ap (λ l. length (var_trees l)) (drop_all i all c.loop-of-test.false) in
    few_enough (length (var_trees all)) c.args.most (omega (arith, none, c.loop-of.invariant.counted))
