use Rattle.std.proofs.Common.{[], refl, ◌∙◌, ap, List}
use Rattle.pv_ll.specs.declared.turn.Place.{Place}
use Rattle.pv_ll.specs.Reading.{entered}
use Rattle.std.specs.Prelude.{reverse}
use Rattle.pv_ll.proofs.Leading.{entered_from, gone_on, went_down}
use Rattle.pv_ll.proofs.ways.way_by.Goals as goal

pub loop-places-init : goal.loop-places-init
loop-places-init c =
    let h = c.requires.chosen in
    entered_from c.requires.ll1 c.args.acts.now c.args.name c.args.token c.args.k h [] _ _ refl
    (c.in_ok-enter.ensures h.0 h.1 ∙ ap (λ (z : List Place). entered c.args.language.now c.args.acts.now c.args.k h.0 (reverse z)) c.new-places.ensures.items)

pub loop-places-smaller : goal.loop-places-smaller
loop-places-smaller c =
    went_down c.args.language.now c.args.acts.now c.args.token _ _ _ c.if-branch.true c.in_ok-go_on.ensures

pub loop-places-preserved : goal.loop-places-preserved
loop-places-preserved c =
    gone_on c.args.language.now c.args.acts.now c.args.token _ _ _ _ c.if-branch.true c.loop-places.invariant c.in_ok-go_on.ensures
