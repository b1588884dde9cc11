use Rattle.pv_ll.specs.declared.machine.Expected.TheVariants.{ThisToken, TheEnd, NoMore}
use Rattle.pv_ll.proofs.Faults.{ends, ends_not, ends_not_yet, expects}
use Rattle.pv_ll.proofs.Telling.{told_whole}
use Rattle.pv_ll.proofs.machine.take_end.Goals as goal

pub returns-in-ThisToken : goal.returns-in-ThisToken
returns-in-ThisToken c read h =
    ends_not_yet c.args.language.now read _ _
    (expects c.args.language.now c.args.acts.now _ read _ _ _ (ThisToken c.in-ThisToken.field-0) c.in-ThisToken.is
    (c.in_ok-expand.ensures.expects read (h c.args.language.now.kinds))).awaits

pub returns-in-TheEnd : goal.returns-in-TheEnd
returns-in-TheEnd c read h =
    let s = expects c.args.language.now c.args.acts.now _ read _ _ _ TheEnd c.in-TheEnd.is (c.in_ok-expand.ensures.expects read (h c.args.language.now.kinds)) in
    (ends c.args.language.now read _ s.awaits, told_whole c.args.language.now c.args.acts.now _ read s.retells)

pub returns-in-NoMore : goal.returns-in-NoMore
returns-in-NoMore c read h =
    ends_not c.args.language.now read
    (expects c.args.language.now c.args.acts.now _ read _ _ _ NoMore c.in-NoMore.is (c.in_ok-expand.ensures.expects read (h c.args.language.now.kinds)))
