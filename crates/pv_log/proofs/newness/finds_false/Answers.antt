use Rattle.std.proofs.Common.{◌≡◌, ℕ, ◌+◌, List, Bool, true, false, get_or, ◌∷◌, refl, subst, arith}
use Rattle.std.proofs.lemmas.List.{take_all}
use Rattle.pv_log.specs.Propagation.{is_false}
use Rattle.pv_log.specs.Filing.{FindsFalse}
use Rattle.pv_log.specs.Checking.{known}
use Rattle.pv_log.proofs.FilingLaws.{subsumed-found, subsumed-nowhere, searched-more}
use Rattle.pv_log.proofs.newness.finds_false.Goals as goal

pub returns-then-finds_false_under : goal.returns-then-finds_false_under
returns-then-finds_false_under g c =
    let clauses = known (g.F.ClauseView.clauses c.args.f.now) (g.L.LogView.all_lines c.args.log.now) c.args.lines in
    subsumed-found c.args.values.now.falses c.args.lits.now c.requires.falses clauses c.args.filing.now 0 (subst (λ (b : Bool). FindsFalse c.args.values.now.falses clauses c.args.filing.now 0 b) c.if-finds_false_under.true c.finds_false_under.ensures)

pub returns-then-finds_false_under-2 : goal.returns-then-finds_false_under-2
returns-then-finds_false_under-2 g c =
    let clauses = known (g.F.ClauseView.clauses c.args.f.now) (g.L.LogView.all_lines c.args.log.now) c.args.lines in
    let lit = get_or c.args.lits.now c.loop-lit.lit-index 0 in
    subsumed-found c.args.values.now.falses c.args.lits.now c.requires.falses clauses c.args.filing.now lit (subst (λ (b : Bool). FindsFalse c.args.values.now.falses clauses c.args.filing.now lit b) c.if-finds_false_under-2.true c.finds_false_under-in-loop-lit.ensures)

pub loop-lit-preserved : goal.loop-lit-preserved
loop-lit-preserved g c =
    let clauses = known (g.F.ClauseView.clauses c.args.f.now) (g.L.LogView.all_lines c.args.log.now) c.args.lines in
    let lit = get_or c.args.lits.now c.loop-lit.lit-index 0 in
    searched-more (λ (l : ℕ). FindsFalse c.args.values.now.falses clauses c.args.filing.now l false) c.args.lits.now c.loop-lit.lit-index (c.loop-lit.lit-index + 1) refl c.loop-lit-test.true c.loop-lit.invariant (subst (λ (b : Bool). FindsFalse c.args.values.now.falses clauses c.args.filing.now lit b) c.if-finds_false_under-2.false c.finds_false_under-in-loop-lit.ensures)

pub returns : goal.returns
returns g c =
    let clauses = known (g.F.ClauseView.clauses c.args.f.now) (g.L.LogView.all_lines c.args.log.now) c.args.lines in
    let whole = take_all c.loop-lit.lit-index c.args.lits.now (omega (arith, c.loop-lit-test.false)) in
    subsumed-nowhere c.args.values.now.falses c.args.lits.now c.requires.falses clauses c.args.filing.now (g.F.ClauseView.variables c.args.f.now) c.requires.filed (subst (λ (ls : List ℕ). (lit : ℕ) → is_false (0 ∷ ls) lit ≡ true → FindsFalse c.args.values.now.falses clauses c.args.filing.now lit false) whole c.loop-lit.invariant)
