-- The beginning of a FOR, part by part.
use Rattle.std.proofs.Common.{◌≡◌, ℤ, sym, ap, ◌∙◌}
use Rattle.pv_place.specs.declared.place.Place.{Place}
use Rattle.pv_types.specs.declared.name.Name.{Name}
use Rattle.pv_tree.specs.Tree.{ExprTree}
use Rattle.pv_mean.specs.Sources.{Source}
use Rattle.pv_mean.specs.Frames.{Frame}
use Rattle.pv_mean.specs.Endings.{Tried, got, trap, Ended, ended, trapped, over, end_of, and_then}
use Rattle.pv_mean.specs.Spots.{Spot, write_spot}
use Rattle.pv_mean.specs.Activations.{Activation}
use Rattle.pv_mean.specs.Values.{value, locate}
use Rattle.pv_mean.specs.Statements.{counter}
use Rattle.pv_run.specs.declared.stop.Stop.{Stop}
use Rattle.pv_run.specs.declared.stop.Stop.TheVariants as stop
use Rattle.pv_run.specs.Ends.{stop_end}
use Rattle.pv_run.specs.Turns.{Beginning, for_begin}
use Rattle.pv_run.proofs.Endings.{got_by}

-- what stops stops what goes on with it
pub stops_on : {A B : Type 0} (t : Tried A) (s : Stop) → stop_end s ≡ end_of t → (next : A → Tried B)
    → stop_end s ≡ end_of (and_then t next)
stops_on (got a) (stop.Trap u) p next = absurd (cc)
stops_on (got a) (stop.Over place) p next = absurd (cc)
stops_on {A} {B} (trap kind place) (stop.Trap u) p next = ap again p
  where
    again : Ended A → Ended B
    again e = elim e [
      | ended a ↦ trapped kind place
      | trapped k q ↦ trapped k q
      | over q ↦ over q
    ]
stops_on (trap kind place) (stop.Over at) p next = absurd (cc)

-- the values are got, and the variable isn't located
pub begin_stops : (source : Source) (act : Activation) (frame : Frame) (name : Name) (place : Place) (a b : ExprTree) (v w : ℤ) (s : Stop)
    → ended v ≡ end_of (value source act frame a) → ended w ≡ end_of (value source act frame b)
    → stop_end s ≡ end_of (locate source act frame (counter name place))
    → stop_end s ≡ end_of (for_begin source act frame name place a b)
begin_stops source act frame name place a b v w s p q r =
    stops_on (locate source act frame (counter name place)) s r (λ spot. got (record {
      spot = spot;
      count = v;
      last = w;
      frame = write_spot source frame spot v;
    }))
    ∙ sym (ap (λ t. end_of (and_then t (λ x. and_then (value source act frame b) (λ y. and_then (locate source act frame
    (counter name place))
    (λ spot. got (record { spot = spot; count = x; last = y; frame = write_spot source frame spot x })))))) (got_by
    (value source act frame a) v p)
    ∙ ap (λ t. end_of (and_then t (λ y. and_then (locate source act frame (counter name place))
    (λ spot. got (record { spot = spot; count = v; last = y; frame = write_spot source frame spot v }))))) (got_by
    (value source act frame b) w q))

pub begun : (source : Source) (act : Activation) (frame after : Frame) (name : Name) (place : Place) (a b : ExprTree) (v w : ℤ)
    (spot : Spot)
    → ended v ≡ end_of (value source act frame a) → ended w ≡ end_of (value source act frame b)
    → ended spot ≡ end_of (locate source act frame (counter name place)) → write_spot source frame spot v ≡ after
    → ended (record { spot = spot; count = v; last = w; frame = after }) ≡ end_of (for_begin source act frame name place a b)
begun source act frame after name place a b v w spot p q r wrote =
    ap (λ f. let x : Beginning = record { spot = spot; count = v; last = w; frame = f } in ended x) (sym wrote)
    ∙ sym (ap (λ t. end_of (and_then t (λ x. and_then (value source act frame b) (λ y. and_then (locate source act frame
    (counter name place))
    (λ z. got (record { spot = z; count = x; last = y; frame = write_spot source frame z x })))))) (got_by (value source act frame a) v p)
    ∙ ap (λ t. end_of (and_then t (λ y. and_then (locate source act frame (counter name place))
    (λ z. got (record { spot = z; count = v; last = y; frame = write_spot source frame z v }))))) (got_by (value source act frame b) w q)
    ∙ ap (λ t. end_of (and_then t (λ z. got (record { spot = z; count = v; last = w; frame = write_spot source frame z v }))))
    (got_by (locate source act frame (counter name place)) spot r))

pub as_they_are : (spot : Spot) (after : Frame) {v w x y : ℤ} → x ≡ v → y ≡ w
    → (let A : Type 0 = Ended Beginning in ◌≡◌ {A = A} (ended (record { spot = spot; count = x; last = y; frame = after }))
    (ended (record { spot = spot; count = v; last = w; frame = after })))
as_they_are spot after {v} {w} {x} {y} p q =
    ap (λ c. let b : Beginning = record { spot = spot; count = c; last = y; frame = after } in ended b) p
    ∙ ap (λ l. let b : Beginning = record { spot = spot; count = v; last = l; frame = after } in ended b) q
