use Rattle.pv_judge.proofs.Wrongs.{of-verdict, wrong-told}
use Rattle.pv_judge.proofs.lemmas.wrong_lemma.Goals as goal

pub returns-clause-wrong : goal.returns-clause-wrong
returns-clause-wrong g c =
    let f = c.args.formula.now in
    let lines = g.L.LogView.all_lines c.args.lemmas.now in
    let verdict = c.in_ok-verdict.verdict in
    let says = c.in_ok-verdict.ensures in
    wrong-told f.variables f.clauses lines verdict c.refused_in.result c.first_empty.result c.first_wrong.result
    (of-verdict f.variables f.clauses lines verdict says.accepted.0 says.no_empty.0 (λ n why. (says.refused n why).0))
    c.refused_in.ensures c.first_empty.ensures c.first_wrong.ensures
