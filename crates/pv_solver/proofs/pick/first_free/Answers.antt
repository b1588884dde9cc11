use Rattle.std.proofs.Common.{◌≡◌, ◌+◌, subst, arith, inl, inr}
use Rattle.std.proofs.lemmas.Bool.{cases_lt, iff_false}
use Rattle.pv_solver.specs.Search.{IsFree}
use Rattle.pv_solver.proofs.pick.first_free.Goals as goal

pub loop-v-init : goal.loop-v-init
loop-v-init c = λ x le f. absurd (omega (arith, f.from_one))

pub loop-v-preserved : goal.loop-v-preserved
loop-v-preserved c = λ x le f. elim (cases_lt c.loop-v.v x) [
  | inl above ↦ (let e : x ≡ c.loop-v.v + 1 = omega arith in
      iff_false c.is_free.ensures c.if-is_free.false (subst (IsFree c.args.trail.now.variables c.args.trail.now.falses) e f))
  | inr below ↦ c.loop-v.invariant x below f
]

pub returns-clause-none : goal.returns-clause-none
returns-clause-none c = λ x f. c.loop-v.invariant x (omega (arith, f.to_last)) f
