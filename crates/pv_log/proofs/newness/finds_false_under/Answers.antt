use Rattle.std.proofs.Common.{◌≡◌, ℕ, sym, subst, ◌∙◌, arith}
use Rattle.pv_log.specs.Checking.{known}
use Rattle.pv_log.proofs.FilingLaws.{StillComes, found-at, not-at, comes-next, comes-never}
use Rattle.pv_log.proofs.newness.finds_false_under.Goals as goal

pub returns-then-is_false_at : goal.returns-then-is_false_at
returns-then-is_false_at g c = found-at c.args.values.now.falses (known (g.F.ClauseView.clauses c.args.f.now) (g.L.LogView.all_lines c.args.log.now) c.args.lines) c.loop-id.id (sym c.is_false_at.ensures ∙ c.if-is_false_at.true)

pub loop-id-preserved : goal.loop-id-preserved
loop-id-preserved g c =
    let falses = c.args.values.now.falses in
    let clauses = known (g.F.ClauseView.clauses c.args.f.now) (g.L.LogView.all_lines c.args.log.now) c.args.lines in
    let less = c.requires.filed.before c.loop-id.id in
    record {
      there = omega (arith, c.before-id.ensures, less, c.loop-id.invariant.there);
      comes = subst (λ (i : ℕ). StillComes falses clauses c.args.filing.now c.args.lit i) (sym c.before-id.ensures) (comes-next falses clauses c.args.filing.now c.args.lit c.loop-id.id c.loop-id.invariant.comes (not-at falses clauses c.loop-id.id (sym c.is_false_at.ensures ∙ c.if-is_false_at.false)));
    }

pub returns : goal.returns
returns g c =
    let falses = c.args.values.now.falses in
    let clauses = known (g.F.ClauseView.clauses c.args.f.now) (g.L.LogView.all_lines c.args.log.now) c.args.lines in
    let end : c.loop-id.id ≡ 0 = omega (arith, c.loop-id-test.false) in
    comes-never falses clauses c.args.filing.now c.args.lit c.requires.filed.before (subst (λ (i : ℕ). StillComes falses clauses c.args.filing.now c.args.lit i) end c.loop-id.invariant.comes)
