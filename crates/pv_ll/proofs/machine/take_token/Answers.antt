use Rattle.pv_ll.specs.declared.machine.Expected.TheVariants.{ThisToken, TheEnd, NoMore}
use Rattle.pv_ll.proofs.Faults.{takes, takes_not, refused, expects}
use Rattle.pv_ll.proofs.Stack.{stuck_end}
use Rattle.pv_ll.proofs.machine.take_token.Goals as goal

pub returns-in_ok-push-in-ThisToken-clause-takes : goal.returns-in_ok-push-in-ThisToken-clause-takes
returns-in_ok-push-in-ThisToken-clause-takes c read h =
    takes c.args.language.now c.args.acts.now _ _ read c.args.token c.in-ThisToken.kind _ c.if-kind-token.true
    c.in_ok-push-in-ThisToken.ensures.items
    (expects c.args.language.now c.args.acts.now _ read c.args.token _ _ (ThisToken c.in-ThisToken.kind) c.in-ThisToken.is
    (c.in_ok-kind.ensures.expects read (h c.args.token)))

pub returns-else-kind-token-clause-takes : goal.returns-else-kind-token-clause-takes
returns-else-kind-token-clause-takes c read h =
    takes_not c.args.language.now c.args.acts.now _ read c.args.token c.in-ThisToken.kind _ c.if-kind-token.false
    (expects c.args.language.now c.args.acts.now _ read c.args.token _ _ (ThisToken c.in-ThisToken.kind) c.in-ThisToken.is
    (c.in_ok-kind.ensures.expects read (h c.args.token)))

pub returns-in-TheEnd-clause-takes : goal.returns-in-TheEnd-clause-takes
returns-in-TheEnd-clause-takes c read h =
    stuck_end c.args.language.now read c.args.token
    (expects c.args.language.now c.args.acts.now _ read c.args.token _ _ TheEnd c.in-TheEnd.is (c.in_ok-kind.ensures.expects read (h c.args.token))).awaits

pub returns-in-NoMore-clause-takes : goal.returns-in-NoMore-clause-takes
returns-in-NoMore-clause-takes c read h =
    refused c.args.language.now read c.args.token
    (expects c.args.language.now c.args.acts.now _ read c.args.token _ _ NoMore c.in-NoMore.is (c.in_ok-kind.ensures.expects read (h c.args.token)))
