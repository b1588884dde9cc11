use Rattle.std.proofs.Common.{◌≡◌, None, rules, arith, subst}
use Rattle.std.specs.Int.{w64}
use Rattle.std.proofs.lemmas.Int.{to_z-of_z}
use Rattle.pv_eval.specs.Means.{activation}
use Rattle.pv_run.specs.Choosing.{branch_chosen}
use Rattle.pv_run.specs.Runs.{ChoosesBranch}
use Rattle.std.proofs.Common.{Some}
use Rattle.pv_run.proofs.Lists.{missing_at, found_at}
use Rattle.pv_run.proofs.Left.{branches_none, branches_here, branches_later, branches_over}
use Rattle.pv_run.proofs.program.Program.branch_of.Goals as goal

pub returns-in_default : goal.returns-in_default
returns-in_default c =
    λ source block k first trees are. absurd (branches_none (c.loop-i.invariant source block k first trees are) c.loop-i-test.true
    (missing_at c.deref.result.now c.args.self.now.branches.items c.loop-i.i c.deref.ensures.value (omega
    (arith, c.in_default.ensures.lookup.3))))

pub returns-then-is_chosen : goal.returns-then-is_chosen
returns-then-is_chosen c =
    λ source block k first trees are. subst (λ x. ChoosesBranch source block c.args.self.now k (Some c.in-Some.branch.now.body)
    (branch_chosen (activation block first) x trees)) (to_z-of_z w64 c.args.v c.ranges.v)
    (branches_here (c.loop-i.invariant source block k first trees are) c.loop-i-test.true c.in-Some.branch.now
    (found_at c.deref.result.now c.args.self.now.branches.items c.loop-i.i c.in-Some.branch.now c.deref.ensures.value (search rules)
    (search rules))
    (λ x is. c.if-is_chosen.ensures block first x is))

pub loop-i-preserved : goal.loop-i-preserved
loop-i-preserved c =
    λ source block k first trees are. branches_later (c.loop-i.invariant source block k first trees are) c.loop-i-test.true
    c.in-Some.branch.now
    (found_at c.deref.result.now c.args.self.now.branches.items c.loop-i.i c.in-Some.branch.now c.deref.ensures.value (search rules)
    (search rules))
    (λ x is. c.if-is_chosen.ensures block first x is)

pub returns : goal.returns
returns c =
    λ source block k first trees are. subst (λ x. branch_chosen (activation block first) x trees ≡ None) (to_z-of_z w64 c.args.v c.ranges.v)
    (branches_over (c.loop-i.invariant source block k first trees are) (λ lt. omega arith))
