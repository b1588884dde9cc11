use Rattle.std.proofs.Common.{◌≡◌, ◌∷◌}
use Rattle.pv_ll.specs.declared.table.Symbol.TheVariants.{Token, Name}
use Rattle.pv_ll.specs.declared.turn.Place.TheVariants.{Of, Behind}
use Rattle.pv_ll.specs.Reading.{places_of, symbols_of}
use Rattle.pv_ll.proofs.Leading.{led_stands, not_led}
use Rattle.pv_ll.proofs.Stack.{end_step, stuck_name, top_symbol, top_end, on_places}
use Rattle.pv_ll.proofs.machine.expand.Goals as goal

pub returns-in-Token-clause-expects : goal.returns-in-Token-clause-expects
returns-in-Token-clause-expects c read h =
    let e : places_of c.loop-place.places ≡ Of (Token c.in-Token.kind) ∷ places_of c.pop.new.places =
    top_symbol _ _ _ _ _ c.in-Some.ensures.some c.in-Of.is c.in-Token.is in
    on_places _ _ _ read _ _ _ e (c.loop-place.invariant.0 read h)

pub returns-then-not-branch-clause-expects : goal.returns-then-not-branch-clause-expects
returns-then-not-branch-clause-expects c read h =
    let e : places_of c.loop-place.places ≡ Of (Name c.in-Name.name) ∷ places_of c.pop.new.places =
    top_symbol _ _ _ _ _ c.in-Some.ensures.some c.in-Of.is c.in-Name.is in
    stuck_name c.requires.ll1 read c.args.token c.in-Name.name (symbols_of (places_of c.pop.new.places))
    (not_led c.args.language.now c.args.acts.now c.in-Name.name c.args.token _ _ _ c.if-not-branch.true c.in_ok-lead-in-Name.ensures.led)
    (on_places _ _ _ read _ _ _ e (c.loop-place.invariant.0 read h)).awaits

pub loop-place-preserved-else-not-branch : goal.loop-place-preserved-else-not-branch
loop-place-preserved-else-not-branch c =
    let e : places_of c.loop-place.places ≡ Of (Name c.in-Name.name) ∷ places_of c.pop.new.places =
    top_symbol _ _ _ _ _ c.in-Some.ensures.some c.in-Of.is c.in-Name.is in (
      λ read s. led_stands c.args.language.now c.args.acts.now _ read c.in-Name.name c.args.token _ _ _ _ c.if-not-branch.false
          c.in_ok-lead-in-Name.ensures.led e (c.loop-place.invariant.0 read s),
      c.in_ok-lead-in-Name.ensures.ways,
    )

pub loop-place-preserved : goal.loop-place-preserved
loop-place-preserved c =
    let e : places_of c.loop-place.places ≡ Behind c.in-Behind.k ∷ places_of c.pop.new.places =
    top_end _ _ _ _ c.in-Some.ensures.some c.in-Behind.is in (
      λ read s. end_step c.args.language.now c.args.acts.now _ _ read c.args.token c.in-Behind.k _ _ e c.in_ok-push-in-Behind.ensures.items
          (c.loop-place.invariant.0 read s),
      c.loop-place.invariant.1,
    )

pub returns-clause-expects : goal.returns-clause-expects
returns-clause-expects c read h = on_places _ _ _ read _ _ _ c.in_default.ensures.none (c.loop-place.invariant.0 read h)
