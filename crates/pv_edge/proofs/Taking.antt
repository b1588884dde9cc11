-- Laws of what a sink takes.
-- `&rest[n..]` is seen as `take (length rest - n) (drop n rest)`, the second half of `rest.split_at(n)` as `drop n rest`. Loops
-- that offer what is left use the latter, with the invariant `(front) × (bytes ≡ front ++ rest) × Takes front old now`.
use Rattle.std.proofs.Common.{◌≡◌, ℕ, ◌<◌, List, [], ◌∷◌, ◌++◌, length, take, Option, Some, None, refl, sym, ◌∙◌, ap, arith, append_assoc, append-nil, length-append, drop, subst, inl, inr}
use Rattle.std.proofs.lemmas.List.{take-append-drop}
use Rattle.std.proofs.Math.Seq.{take-append_seam}
use Rattle.std.specs.Prelude.{option_map, ◌≢◌}
use Rattle.std.specs.Prelude.{Result, Ok, Err}
use Rattle.pv_edge.specs.declared.outside.SinkFault.{SinkFault}
use Rattle.pv_edge.specs.declared.outside.SinkFault.TheVariants.{Failed}
use Rattle.pv_edge.specs.Sink.{Offered, StopsOffering, Takes, TakesPart, TakesLess}

-- nothing is taken where nothing changes
pub takes-none : (old : Option (List ℕ)) → Takes [] old old
takes-none None = refl
takes-none (Some taken) = ap Some (sym (append-nil taken))

-- one piece after another
pub takes-more : (front piece : List ℕ) (old mid new : Option (List ℕ)) → Takes front old mid → Takes piece mid new → Takes (front ++ piece) old new
takes-more front piece None mid new h k = k ∙ ap (option_map (λ taken. taken ++ piece)) h
takes-more front piece (Some taken) mid new h k = k ∙ ap (option_map (λ taken. taken ++ piece)) h ∙ ap Some (append_assoc taken front piece)

-- the pieces so far lack what is left
pub takes-less : (front rest : List ℕ) (old new : Option (List ℕ)) → 0 < length rest → Takes front old new → TakesLess (front ++ rest) old new
takes-less front rest old new more h = (length front, omega (arith, more, length-append front rest), rw take-append_seam h)

-- the pieces so far and a prefix of what is left
pub takes-step : (bytes front rest : List ℕ) (n : ℕ) (old mid new : Option (List ℕ)) → bytes ≡ front ++ rest → Takes front old mid → Takes (take n rest) mid new → (left : List ℕ) → left ≡ drop n rest → (longer : List ℕ) × (bytes ≡ longer ++ left) × Takes longer old new
takes-step bytes front rest n old mid new e h k left is =
    rw is (front ++ take n rest, e ∙ ap (λ xs. front ++ xs) (sym (take-append-drop n rest)) ∙ sym (append_assoc front (take n rest) (drop n rest)), takes-more front (take n rest) old mid new h k)

-- the pieces so far are a prefix of what was offered, nothing more was taken and something is left
pub takes-end : (bytes rest : List ℕ) (old mid new : Option (List ℕ)) → 0 < length rest → ((front : List ℕ) × (bytes ≡ front ++ rest) × Takes front old mid) → new ≡ mid → TakesLess bytes old new
takes-end bytes rest old mid new more so_far e =
    subst (λ xs. TakesLess xs old new) (sym so_far.1) (takes-less so_far.0 rest old new more (e ∙ so_far.2))

-- where something is left, something was offered
pub offered : {P : Type 0} (bytes front rest : List ℕ) → 0 < length rest → bytes ≡ front ++ rest → bytes ≡ [] → P
offered bytes front rest more e none = absurd (omega (arith, more, ap length e, ap length none, length-append front rest))

-- a piece of no bytes changes nothing
pub takes-zero : (n : ℕ) (rest : List ℕ) (old new : Option (List ℕ)) → n ≡ 0 → Takes (take n rest) old new → new ≡ old
takes-zero n rest None new e h = h
takes-zero n rest (Some taken) new e h = h ∙ ap (λ k. Some (taken ++ take k rest)) e ∙ ap Some (append-nil taken)

-- what lacks the last byte is a prefix
pub less-part : (bytes : List ℕ) (old new : Option (List ℕ)) → TakesLess bytes old new → TakesPart bytes old new
less-part bytes old new h = (h.0, omega (arith, h.1), h.2)

-- one call more, which is offered what the others left
pub offered-more : {S : Type 0} (call : List ℕ → Result ℕ SinkFault → S → S → Type 0) (bytes : List ℕ) (old : S) (rest left : List ℕ) (n : ℕ) (mid new : S) → 0 < length rest → n ≢ 0 → Offered call bytes old rest mid → call rest (Ok n) mid new → left ≡ drop n rest → Offered call bytes old left new
offered-more call bytes old rest left n mid new some taken h k is = rw is (Offered.more h (λ none. absurd (omega (arith, some, ap length none))) taken k)

-- calls that leave nothing
pub offered-all : {S : Type 0} (call : List ℕ → Result ℕ SinkFault → S → S → Type 0) (bytes : List ℕ) (old : S) (rest : List ℕ) (new : S) → Offered call bytes old rest new → length rest ≡ 0 → Offered call bytes old [] new
offered-all call bytes old [] new h none = h
offered-all call bytes old (x ∷ rest) new h none = absurd (omega (arith, none))

-- the call that fails
pub stops-failed : {S : Type 0} (call : List ℕ → Result ℕ SinkFault → S → S → Type 0) (bytes : List ℕ) (old : S) (rest : List ℕ) (fault : SinkFault) (mid new : S) → 0 < length rest → Offered call bytes old rest mid → call rest (Err fault) mid new → StopsOffering call bytes old fault new
stops-failed call bytes old rest fault mid new some h k = record { left = rest; mid = mid; before = h; more = λ none. absurd (omega (arith, some, ap length none)); last = inl k }

-- the call that takes nothing
pub stops-stalled : {S : Type 0} (call : List ℕ → Result ℕ SinkFault → S → S → Type 0) (bytes : List ℕ) (old : S) (rest : List ℕ) (n : ℕ) (mid new : S) → 0 < length rest → Offered call bytes old rest mid → call rest (Ok n) mid new → n ≡ 0 → StopsOffering call bytes old Failed new
stops-stalled call bytes old rest n mid new some h k none = record { left = rest; mid = mid; before = h; more = λ e. absurd (omega (arith, some, ap length e)); last = inr (refl, subst (λ n. call rest (Ok n) mid new) none k) }
