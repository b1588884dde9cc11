use Rattle.pv_ll.proofs.Leading.{led_along, led_by_one}
use Rattle.pv_ll.proofs.Stack.{chosen_within}
use Rattle.pv_ll.proofs.ways.lead.Goals as goal

pub returns-in-Some-clause-led : goal.returns-in-Some-clause-led
returns-in-Some-clause-led c =
    led_along c.args.language.now c.args.acts.now c.args.name c.args.token c.args.places.now.items c.extend_from_slice.new.self.items c.in-Some.way.now c.in_ok-extend_from_slice.ensures.items
    (c.in-Some.ensures c.args.acts.now c.requires.ways)

pub enter-requires : goal.enter-requires
enter-requires c = chosen_within c.args.language.now c.args.name c.args.token c.in-Some-choose.k c.in-Some-choose.ensures.found

pub returns-clause-led : goal.returns-clause-led
returns-clause-led c =
    let h = c.in-Some-choose.ensures.found in
    led_by_one c.requires.ll1 c.args.acts.now c.args.name c.args.token c.in-Some-choose.k h _ _ (c.in_ok-enter.ensures h.0 h.1)
