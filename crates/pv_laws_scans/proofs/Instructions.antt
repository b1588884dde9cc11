-- Where instructions stop: at their words, at the label of a range, or where their calls do.
use Rattle.std.proofs.Common.{◌≡◌, ◌⊎◌, ℕ, zero, suc, List, [], ◌∷◌, Bool, true, false, Option, Some, None, inl, inr, refl, sym, subst}
use Rattle.std.specs.Prelude.{IsSomeAnd}
use Rattle.pv_place.specs.declared.place.Place.{Place}
use Rattle.pv_tree.specs.Tree.{PlacedName, CallPlain, InstrTree}
use Rattle.pv_mean.specs.Sources.{Source}
use Rattle.pv_mean.specs.Frames.{Frame}
use Rattle.pv_mean.specs.Endings.{Ended, ended, trapped, over, and_end}
use Rattle.pv_mean.specs.Activations.{Activation}
use Rattle.pv_mean.specs.Statements.{Calls}
use Rattle.pv_mean.specs.Placed.{call_placed}
use Rattle.pv_mean.specs.Registers.{Working, fresh}
use Rattle.pv_mean.specs.Instructions.{Next, onward, at_label, left, Effect, effect, site_of, makes_call, at_word, step}
use Rattle.pv_mean.specs.InstructionRuns.{Sought, here, label, is_named, is_jumped_to, again, turns, arrives, follow, run_instructions, run_stl}
use Rattle.pv_laws_scans.specs.Places.{InCall, Besides, InInstruction, InInstructions, StopsIn}
use Rattle.pv_laws_scans.proofs.Stopping.{stops_wider, stops_then}
use Rattle.pv_laws_scans.proofs.Statements.{CallsStopIn}

word_in : (place : Place) (e : Ended Next) → StopsIn (λ p. p ≡ place) (at_word place e)
word_in place (ended next) = tt
word_in place (trapped kind at) = refl
word_in place (over at) = refl

step_in : (source : Source) (calls : Calls) (act : Activation) (C : Besides) → CallsStopIn calls act C → (i : InstrTree) (w : Working)
    → StopsIn (λ p. InInstruction C p i) (step source calls act i w)
step_in source calls act C stop i w = lead i.call
  where
    lead : (o : Option CallPlain) → StopsIn (λ p. (p ≡ i.place) ⊎ (IsSomeAnd i.label (λ l. p ≡ l.1)
        ⊎ IsSomeAnd o (λ call. InCall p (call_placed call) ⊎ C (site_of i call) p))) (elim o [
          | None ↦ at_word i.place (effect source act i i.op w)
          | Some call ↦ makes_call calls act i call w
        ])
    lead None = stops_wider (λ p. p ≡ i.place) _ (at_word i.place (effect source act i i.op w)) (λ p e. inl e)
        (word_in i.place (effect source act i i.op w))
    lead (Some call) =
        let R : Place → Type 0 = λ p. (p ≡ i.place) ⊎ (IsSomeAnd i.label (λ l. p ≡ l.1)
        ⊎ (InCall p (call_placed call) ⊎ C (site_of i call) p)) in
        stops_then R (calls act (site_of i call) w.frame) _
        (stops_wider (λ p. InCall p (call_placed call) ⊎ C (site_of i call) p) R (calls act (site_of i call) w.frame) (λ p e. inr (inr e))
        (stop (site_of i call) w.frame)) (λ back. tt)

again_in : (R : Place → Type 0) (turn : Effect) → ((w : Working) → StopsIn R (turn w)) → (l : PlacedName) (next : Next)
    → StopsIn R (again turn l next)
again_in R turn stops l (onward w) = tt
again_in R turn stops l (at_label key w) = lead (is_named key (Some l))
  where
    lead : (b : Bool) → StopsIn R (elim b [
      | true ↦ turn w
      | false ↦ ended (at_label key w)
    ])
    lead true = stops w
    lead false = tt
again_in R turn stops l (left frame) = tt

turns_in : (R : Place → Type 0) (body : Effect) → ((w : Working) → StopsIn R (body w)) → (l : PlacedName) → R l.1 → (n : ℕ) (w : Working)
    → StopsIn R (turns body l n w)
turns_in R body stops l at zero w = at
turns_in R body stops l at (suc n) w =
    stops_then R (body w) _ (stops w) (λ next. again_in R (λ v. turns body l n v) (λ v. turns_in R body stops l at n v) l next)

arrives_in : (R : Place → Type 0) (source : Source) (o : Option PlacedName) → ((l : PlacedName) → o ≡ Some l → R l.1) → (range : List InstrTree)
    (body : Effect) → ((w : Working) → StopsIn R (body w)) → (w : Working) → StopsIn R (arrives source o range body w)
arrives_in R source None at range body stops w = stops w
arrives_in R source (Some l) at range body stops w = lead (is_jumped_to l.0.key range)
  where
    lead : (b : Bool) → StopsIn R (elim b [
      | true ↦ turns body l source.bound w
      | false ↦ body w
    ])
    lead true = turns_in R body stops l (at l refl) source.bound w
    lead false = stops w

follow_in : (R : Place → Type 0) (more : Sought → Effect) → ((at : Sought) (w : Working) → StopsIn R (more at w)) → (next : Next)
    → StopsIn R (follow more next)
follow_in R more stops (onward w) = stops here w
follow_in R more stops (at_label key w) = stops (label key) w
follow_in R more stops (left frame) = tt

either_in : (R : Place → Type 0) (b : Bool) (x y : Ended Next) → StopsIn R x → StopsIn R y → StopsIn R (elim b [
  | true ↦ x
  | false ↦ y
])
either_in R true x y p q = p
either_in R false x y p q = q

abbrev entered : Source → Calls → Activation → InstrTree → List InstrTree → Effect
entered source calls act i more w = arrives source i.label (i ∷ more) (λ v. and_end (step source calls act i v)
    (λ next. follow (λ at x. run_instructions source calls act more at x) next)) w

-- an instruction entered, and those behind it
entered_in : (source : Source) (calls : Calls) (act : Activation) (C : Besides) → CallsStopIn calls act C → (i : InstrTree) (more : List InstrTree)
    → ((at : Sought) (w : Working) → StopsIn (λ p. InInstructions C p more) (run_instructions source calls act more at w)) → (w : Working)
    → StopsIn (λ p. InInstruction C p i ⊎ InInstructions C p more) (arrives source i.label (i ∷ more) (λ v. and_end (step source calls act i v)
    (λ next. follow (λ at x. run_instructions source calls act more at x) next)) w)
entered_in source calls act C stop i more behind w =
    let R : Place → Type 0 = λ p. InInstruction C p i ⊎ InInstructions C p more in
    arrives_in R source i.label (λ l e. inl (inr (inl (subst (λ (o : Option PlacedName). IsSomeAnd o (λ m. l.1 ≡ m.1)) (sym e) refl))))
    (i ∷ more) _ (λ v. stops_then R (step source calls act i v) _
    (stops_wider (λ p. InInstruction C p i) R (step source calls act i v) (λ p e. inl e) (step_in source calls act C stop i v))
    (λ next. follow_in R (λ at x. run_instructions source calls act more at x)
    (λ at x. stops_wider (λ p. InInstructions C p more) R (run_instructions source calls act more at x) (λ p e. inr e) (behind at x)) next)) w

instructions_in : (source : Source) (calls : Calls) (act : Activation) (C : Besides) → CallsStopIn calls act C → (is : List InstrTree)
    (at : Sought) (w : Working) → StopsIn (λ p. InInstructions C p is) (run_instructions source calls act is at w)
instructions_in source calls act C stop [] here w = tt
instructions_in source calls act C stop [] (label key) w = tt
instructions_in source calls act C stop (i ∷ more) here w =
    entered_in source calls act C stop i more (λ at x. instructions_in source calls act C stop more at x) w
instructions_in source calls act C stop (i ∷ more) (label key) w =
    either_in (λ p. InInstructions C p (i ∷ more)) (is_named key i.label) (entered source calls act i more w)
    (run_instructions source calls act more (label key) w)
    (entered_in source calls act C stop i more (λ at x. instructions_in source calls act C stop more at x) w)
    (stops_wider (λ p. InInstructions C p more) (λ p. InInstructions C p (i ∷ more)) (run_instructions source calls act more (label key) w)
    (λ p e. inr e) (instructions_in source calls act C stop more (label key) w))

pub stl_in : (source : Source) (calls : Calls) (act : Activation) (C : Besides) → CallsStopIn calls act C → (is : List InstrTree)
    (frame : Frame) → StopsIn (λ p. InInstructions C p is) (run_stl source calls act is frame)
stl_in source calls act C stop is frame =
    stops_then (λ p. InInstructions C p is)
    (run_instructions source calls act is here (record { registers = fresh; frame = frame })) _
    (instructions_in source calls act C stop is here (record { registers = fresh; frame = frame })) (λ next. tt)
