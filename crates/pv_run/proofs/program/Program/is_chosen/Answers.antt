use Rattle.std.proofs.Common.{◌≡◌, true, false, rules, arith, subst}
use Rattle.std.specs.Int.{w64}
use Rattle.std.proofs.lemmas.Int.{to_z-of_z}
use Rattle.pv_mean.specs.Statements.{is_chosen}
use Rattle.pv_eval.specs.Means.{activation}
use Rattle.pv_run.proofs.Lists.{missing_at, found_at}
use Rattle.pv_run.proofs.Left.{choices_none, choices_here, choices_later, choices_over}
use Rattle.pv_run.proofs.program.Program.is_chosen.Goals as goal

pub returns-in_default : goal.returns-in_default
returns-in_default c =
    λ block first trees are. absurd (choices_none (c.loop-i.invariant block first trees are) c.loop-i-test.true
    (missing_at c.deref.result.now c.args.self.now.choices.items c.loop-i.i c.deref.ensures.value (omega
    (arith, c.in_default.ensures.lookup.3))))

pub returns-then-lies_in : goal.returns-then-lies_in
returns-then-lies_in c =
    λ block first trees are. subst (λ x. true ≡ is_chosen (activation block first) x trees) (to_z-of_z w64 c.args.v c.ranges.v)
    (choices_here (c.loop-i.invariant block first trees are) c.loop-i-test.true c.in-Some.choice.now
    (found_at c.deref.result.now c.args.self.now.choices.items c.loop-i.i c.in-Some.choice.now c.deref.ensures.value (search rules)
    (search rules))
    (search rules))

pub loop-i-preserved : goal.loop-i-preserved
loop-i-preserved c =
    λ block first trees are. choices_later (c.loop-i.invariant block first trees are) c.loop-i-test.true c.in-Some.choice.now
    (found_at c.deref.result.now c.args.self.now.choices.items c.loop-i.i c.in-Some.choice.now c.deref.ensures.value (search rules)
    (search rules))
    (search rules)

pub returns : goal.returns
returns c =
    λ block first trees are. subst (λ x. false ≡ is_chosen (activation block first) x trees) (to_z-of_z w64 c.args.v c.ranges.v)
    (choices_over (c.loop-i.invariant block first trees are) (λ lt. omega arith))
