use Rattle.std.proofs.Common.{◌∷◌, ◌∙◌, ap}
use Rattle.pv_ll.specs.declared.turn.Place.{Place}
use Rattle.pv_ll.specs.Reading.{places_of}
use Rattle.pv_ll.proofs.Leading.{entered_from}
use Rattle.pv_ll.proofs.ways.go_on.Goals as goal

pub returns-in_ok-enter-in-Some-choose_at : goal.returns-in_ok-enter-in-Some-choose_at
returns-in_ok-enter-in-Some-choose_at c =
    let at = c.in-Some-choose_at.ensures in
    entered_from c.requires c.args.acts.now at.0 c.args.token c.in-Some-choose_at.k at.2 (places_of c.pop.new.places) _ _
    (c.in-Some.ensures.some ∙ ap (λ (z : Place). z ∷ places_of c.pop.new.places) at.1)
    (c.in_ok-enter-in-Some-choose_at.ensures at.2.0 at.2.1)
