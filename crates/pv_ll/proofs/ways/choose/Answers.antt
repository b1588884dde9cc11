use Rattle.std.proofs.Common.{◌≡◌, true}
use Rattle.pv_ll.proofs.Places.{owned_within, found, passed, at_rule}
use Rattle.pv_ll.proofs.ways.choose.Goals as goal

pub bounds-language-k : goal.bounds-language-k
bounds-language-k c =
    let p = at_rule c.args.language.now c.args.name c.rule_of-rule.ensures c.loop-k.auto.k c.loop-k-test.true in
    owned_within c.requires c.args.name c.loop-k.k p.0 p.1

pub returns-then-contains-clause-found : goal.returns-then-contains-clause-found
returns-then-contains-clause-found c =
    let p = at_rule c.args.language.now c.args.name c.rule_of-rule.ensures c.loop-k.auto.k c.loop-k-test.true in
    found c.requires c.args.name c.loop-k.k c.args.token _ p.0 p.1 (c.contains.ensures.0 c.if-contains.true)

pub loop-k-preserved : goal.loop-k-preserved
loop-k-preserved c =
    passed c.args.language.now c.args.name c.loop-k.k c.args.token _ c.loop-k.invariant
    (λ h. let yes : c.contains.result ≡ true = c.contains.ensures.1 h in absurd (cc))
