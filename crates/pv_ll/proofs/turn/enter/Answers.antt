use Rattle.std.proofs.Common.{◌≡◌, ◌++◌, ◌∷◌, [], ◌∙◌, sym, ap, List}
use Rattle.pv_ll.specs.declared.turn.Place.{Place}
use Rattle.pv_ll.specs.declared.turn.Place.TheVariants.{Behind}
use Rattle.pv_ll.specs.Reading.{places_of, end_of}
use Rattle.pv_ll.proofs.Stack.{end_put, no_end_put, body_put}
use Rattle.pv_ll.proofs.turn.enter.Goals.{then-acts_at, else-acts_at}
use Rattle.pv_ll.proofs.turn.enter.Goals as goal

pub returns : goal.returns
returns c a h =
    let mid : places_of c.if-acts_at.places ≡ end_of c.args.acts.now c.args.k ++ places_of c.args.places.now =
    elim c.if-acts_at.branch [
      | then-acts_at w ↦ end_put c.args.acts.now c.args.k c.args.places.now.items c.if-acts_at.places.items
          (sym c.acts_at.ensures ∙ w.if-acts_at.true)
          (ap (λ v. v.items) w.places-is ∙ w.push_reserved.ensures.items ∙ ap (λ (z : List Place). z ++ Behind c.args.k ∷ []) c.in_ok-reserve.ensures.items)
      | else-acts_at w ↦ no_end_put c.args.acts.now c.args.k c.args.places.now.items c.if-acts_at.places.items
          (sym c.acts_at.ensures ∙ w.if-acts_at.false) (ap (λ v. v.items) w.places-is ∙ c.in_ok-reserve.ensures.items)
    ] in
    body_put c.args.language.now c.args.acts.now c.args.k a _ h _ _ _ _ c.body-symbols.ensures.symbols mid c.push_symbols.ensures
