-- Ends and calls of what is laid out: a location of a spot is no end; the one after all spots is where a scan is done; and each check's
-- trap lies after that, at its number. A spot that is a call is the one call edge of its location.
use Rattle.std.proofs.Common.{◌≡◌, ℕ, zero, suc, ◌+◌, ◌<◌, List, [], ◌∷◌, ◌++◌, length, slice_get, Bool, cond, Option, Some, None, refl, sym, subst, ap, ◌∙◌, arith}
use Rattle.std.proofs.lemmas.Bool.{ne_eqb, eq-eqb}
use Rattle.std.proofs.lemmas.Option.{same_Some, none-some}
use Rattle.pv_place.specs.declared.place.Place.{Place}
use Rattle.pv_flow.specs.Automata.{CallEdge, TrapEnd}
use Rattle.pv_flow.specs.Runs.{End, done, trap, trap_at, or_else, end_at}
use Rattle.pv_flow.specs.Calls.{Numbered, numbered, call_from}
use Rattle.pv_layout.specs.Spots.{Check, Spot, Act, Branch, Enter, checks_of}
use Rattle.pv_layout.specs.Layout.{Text, Head, parts_of, calls_of, traps_at, traps_of}
use Rattle.pv_layout.specs.SpotRuns.{calls_at, calls_before}
use Rattle.pv_layout.specs.Correct.{IsLaid}

-- ---- traps

-- at their numbers after `last`, from t on
abbrev pub AreNumbered : ℕ → ℕ → List TrapEnd → Type 0
AreNumbered last t [] = Unit {0}
AreNumbered last t (end ∷ ends) = (end.location ≡ last + suc t) × AreNumbered last (suc t) ends

numbered_append : (last t n : ℕ) (xs ys : List TrapEnd) → length xs ≡ n → AreNumbered last t xs → AreNumbered last (t + n) ys
    → AreNumbered last t (xs ++ ys)
numbered_append last t n [] ys e h g = subst (λ (m : ℕ). AreNumbered last m ys) (omega (arith, e)) g
numbered_append last t n (x ∷ xs) ys e h g = (
  h.0,
  numbered_append last (suc t) (length xs) xs ys refl h.1
      (subst (λ (m : ℕ). AreNumbered last m ys) (omega (arith, e)) g),
)

traps_length : (last t : ℕ) (checks : List Check) → length (traps_at last t checks) ≡ length checks
traps_length last t [] = refl
traps_length last t (check ∷ checks) = ap (λ (n : ℕ). suc n) (traps_length last (suc t) checks)

checks_numbered : (last t : ℕ) (checks : List Check) → AreNumbered last t (traps_at last t checks)
checks_numbered last t [] = tt
checks_numbered last t (check ∷ checks) = (refl, checks_numbered last (suc t) checks)

pub traps_numbered : (last t : ℕ) (spots : List Spot) → AreNumbered last t (traps_of last t spots)
traps_numbered last t [] = tt
traps_numbered last t (spot ∷ spots) = numbered_append last t (length (checks_of spot)) (traps_at last t (checks_of spot))
    (traps_of last (t + length (checks_of spot)) spots) (traps_length last t (checks_of spot)) (checks_numbered last t (checks_of spot))
    (traps_numbered last (t + length (checks_of spot)) spots)

trap_below : (last t l : ℕ) (ends : List TrapEnd) → l < last + suc t → AreNumbered last t ends → trap_at l ends ≡ None
trap_below last t l [] lt are = refl
trap_below last t l (end ∷ ends) lt are =
    ap (λ (b : Bool). cond b (Some (trap end.kind end.place)) (trap_at l ends))
    (ne_eqb end.location l (λ same. omega (arith, lt, are.0, same)))
    ∙ trap_below last (suc t) l ends (omega (arith, lt)) are.1

pub trap_there : (last t m : ℕ) (ends : List TrapEnd) (end : TrapEnd) → AreNumbered last t ends → slice_get ends m ≡ Some end
    → trap_at (last + suc (t + m)) ends ≡ Some (trap end.kind end.place)
trap_there last t m [] end are at = absurd (none-some end at)
trap_there last t zero (first ∷ ends) end are at =
    ap (λ (b : Bool). cond b (Some (trap first.kind first.place)) (trap_at (last + suc (t + 0)) ends))
    (eq-eqb first.location (last + suc (t + 0)) (omega (arith, are.0)))
    ∙ ap (λ (e : TrapEnd). Some (trap e.kind e.place)) (same_Some first end at)
trap_there last t (suc m) (first ∷ ends) end are at =
    ap (λ (b : Bool). cond b (Some (trap first.kind first.place)) (trap_at (last + suc (t + suc m)) ends))
    (ne_eqb first.location (last + suc (t + suc m)) (λ same. omega (arith, are.0, same)))
    ∙ subst (λ (k : ℕ). trap_at (last + suc k) ends ≡ Some (trap end.kind end.place)) (omega arith)
    (trap_there last (suc t) m ends end are.1 at)

-- ---- ends

pub at_done : (head : Head) (text : Text) (l : ℕ) → l ≡ length text.spots → end_at (parts_of head text) l ≡ Some done
at_done head text l same = ap (λ (b : Bool). cond b (Some done) (or_else (trap_at l (traps_of (length text.spots) 0 text.spots)) None))
    (eq-eqb (length text.spots) l (sym same))

pub no_end : (head : Head) (text : Text) (l : ℕ) → l < length text.spots → end_at (parts_of head text) l ≡ None
no_end head text l lt =
    ap (λ (b : Bool). cond b (Some done) (or_else (trap_at l (traps_of (length text.spots) 0 text.spots)) None))
    (ne_eqb (length text.spots) l (λ same. omega (arith, lt, same)))
    ∙ ap (λ (o : Option End). or_else o None)
    (trap_below (length text.spots) 0 l (traps_of (length text.spots) 0 text.spots) (omega (arith, lt))
    (traps_numbered (length text.spots) 0 text.spots))

pub at_trap : (head : Head) (text : Text) (m : ℕ) (end : TrapEnd) → slice_get (traps_of (length text.spots) 0 text.spots) m ≡ Some end
    → end_at (parts_of head text) (length text.spots + suc m) ≡ Some (trap end.kind end.place)
at_trap head text m end at =
    ap (λ (b : Bool). cond b (Some done)
    (or_else (trap_at (length text.spots + suc m) (traps_of (length text.spots) 0 text.spots)) None))
    (ne_eqb (length text.spots) (length text.spots + suc m) (λ same. omega (arith, same)))
    ∙ ap (λ (o : Option End). or_else o None)
    (subst (λ (k : ℕ). trap_at (length text.spots + suc k) (traps_of (length text.spots) 0 text.spots) ≡ Some (trap end.kind end.place))
    (omega arith)
    (trap_there (length text.spots) 0 m (traps_of (length text.spots) 0 text.spots) end
    (traps_numbered (length text.spots) 0 text.spots) at))

-- the trap of a check
pub check_trap : (last t : ℕ) (checks : List Check) (q : ℕ) (check : Check) → slice_get checks q ≡ Some check
    → slice_get (traps_at last t checks) q ≡ Some (record { location = last + suc (t + q); kind = check.kind; place = check.place })
check_trap last t [] q check at = absurd (none-some check at)
check_trap last t (first ∷ checks) zero check at =
    ap (λ (m : ℕ). Some (record { location = last + suc m; kind = first.kind; place = first.place })) (omega arith)
    ∙ ap (λ (c : Check). Some (record { location = last + suc (t + 0); kind = c.kind; place = c.place })) (same_Some first check at)
check_trap last t (first ∷ checks) (suc q) check at = check_trap last (suc t) checks q check at
    ∙ ap (λ (m : ℕ). Some (record { location = last + suc m; kind = check.kind; place = check.place })) (omega arith)

pub laid_index : {X : Type 0} (whole : List X) (a : ℕ) (xs : List X) (q : ℕ) (x : X) → IsLaid whole a xs → slice_get xs q ≡ Some x
    → slice_get whole (a + q) ≡ Some x
laid_index whole a [] q x laid at = absurd (none-some x at)
laid_index whole a (y ∷ xs) zero x laid at = ap (λ (m : ℕ). slice_get whole m) (omega arith) ∙ (laid.0 ∙ at)
laid_index whole a (y ∷ xs) (suc q) x laid at =
    ap (λ (m : ℕ). slice_get whole m) (omega arith) ∙ laid_index whole (suc a) xs q x laid.1 at

-- ---- calls

-- the spot's call edge, with its number
abbrev pub call_by : ℕ → ℕ → Spot → Option Numbered
call_by l j (Act checks on) = None
call_by l j (Branch checks c one other) = None
call_by l j (Enter block instance place to) =
    Some (numbered j (record { from = l; to = to; block = block; instance = instance; place = place }))

calls_later : (l j first : ℕ) (spots : List Spot) → l < first → call_from l j (calls_of first spots) ≡ None
calls_later l j first [] lt = refl
calls_later l j first (Act checks on ∷ spots) lt = calls_later l j (suc first) spots (omega (arith, lt))
calls_later l j first (Branch checks c one other ∷ spots) lt = calls_later l j (suc first) spots (omega (arith, lt))
calls_later l j first (Enter block instance place to ∷ spots) lt =
    ap (λ (b : Bool). cond b (Some (numbered j (record { from = first; to = to; block = block; instance = instance; place = place })))
    (call_from l (suc j) (calls_of (suc first) spots))) (ne_eqb first l (λ same. omega (arith, lt, same)))
    ∙ calls_later l (suc j) (suc first) spots (omega (arith, lt))

call_here : (first j : ℕ) (spot : Spot) (spots : List Spot) → call_from first j (calls_of first (spot ∷ spots)) ≡ call_by first j spot
call_here first j (Act checks on) spots = calls_later first j (suc first) spots (omega arith)
call_here first j (Branch checks c one other) spots = calls_later first j (suc first) spots (omega arith)
call_here first j (Enter block instance place to) spots =
    ap (λ (b : Bool). cond b (Some (numbered j (record { from = first; to = to; block = block; instance = instance; place = place })))
    (call_from first (suc j) (calls_of (suc first) spots))) (eq-eqb first first refl)

call_passes : (l first j : ℕ) (spot : Spot) (spots : List Spot) → first < l
    → call_from l j (calls_of first (spot ∷ spots)) ≡ call_from l (j + calls_at spot) (calls_of (suc first) spots)
call_passes l first j (Act checks on) spots lt = ap (λ (m : ℕ). call_from l m (calls_of (suc first) spots)) (omega arith)
call_passes l first j (Branch checks c one other) spots lt = ap (λ (m : ℕ). call_from l m (calls_of (suc first) spots)) (omega arith)
call_passes l first j (Enter block instance place to) spots lt =
    ap (λ (b : Bool). cond b (Some (numbered j (record { from = first; to = to; block = block; instance = instance; place = place })))
    (call_from l (suc j) (calls_of (suc first) spots))) (ne_eqb first l (λ same. omega (arith, lt, same)))
    ∙ ap (λ (m : ℕ). call_from l m (calls_of (suc first) spots)) (omega arith)

pub call_there : (first j i : ℕ) (spots : List Spot) (spot : Spot) → slice_get spots i ≡ Some spot
    → call_from (first + i) j (calls_of first spots) ≡ call_by (first + i) (j + calls_before spots i) spot
call_there first j i [] spot at = absurd (none-some spot at)
call_there first j zero (x ∷ spots) spot at =
    ap (λ (l : ℕ). call_from l j (calls_of first (x ∷ spots))) (omega arith)
    ∙ (call_here first j x spots
    ∙ (ap (λ (y : Spot). call_by first j y) (same_Some x spot at)
    ∙ (ap (λ (l : ℕ). call_by l j spot) (omega arith) ∙ ap (λ (m : ℕ). call_by (first + 0) m spot) (omega arith))))
call_there first j (suc i) (x ∷ spots) spot at =
    call_passes (first + suc i) first j x spots (omega arith)
    ∙ (ap (λ (l : ℕ). call_from l (j + calls_at x) (calls_of (suc first) spots)) (omega arith)
    ∙ (call_there (suc first) (j + calls_at x) i spots spot at
    ∙ (ap (λ (l : ℕ). call_by l (j + calls_at x + calls_before spots i) spot) (omega arith)
    ∙ ap (λ (m : ℕ). call_by (first + suc i) m spot) (omega arith))))

abbrev pub edge_of : ℕ → ℕ → ℕ → ℕ → Place → CallEdge
edge_of from to block instance place = record { from = from; to = to; block = block; instance = instance; place = place }

-- it stands at its number among all call edges
pub call_stands : (first i : ℕ) (spots : List Spot) (block instance : ℕ) (place : Place) (to : ℕ)
    → slice_get spots i ≡ Some (Enter block instance place to)
    → slice_get (calls_of first spots) (calls_before spots i)
    ≡ Some (edge_of (first + i) to block instance place)
call_stands first i [] block instance place to at = absurd (none-some (Enter block instance place to) at)
call_stands first zero (x ∷ spots) block instance place to at =
    subst (λ (y : Spot). slice_get (calls_of first (y ∷ spots)) 0
    ≡ Some (edge_of (first + 0) to block instance place))
    (sym (same_Some x (Enter block instance place to) at))
    (ap (λ (l : ℕ). Some (edge_of (l) to block instance place)) (omega arith))
call_stands first (suc i) (x ∷ spots) block instance place to at = passed x
    (call_stands (suc first) i spots block instance place to at
    ∙ ap (λ (l : ℕ). Some (edge_of (l) to block instance place)) (omega arith))
  where
    passed : (x : Spot) → slice_get (calls_of (suc first) spots) (calls_before spots i)
        ≡ Some (edge_of (first + suc i) to block instance place)
        → slice_get (calls_of first (x ∷ spots)) (calls_at x + calls_before spots i)
        ≡ Some (edge_of (first + suc i) to block instance place)
    passed (Act checks on) h = subst (λ (m : ℕ). slice_get (calls_of (suc first) spots) m
        ≡ Some (edge_of (first + suc i) to block instance place))
        (omega arith) h
    passed (Branch checks c one other) h =
        subst (λ (m : ℕ). slice_get (calls_of (suc first) spots) m ≡ Some (edge_of (first + suc i) to block instance place)) (omega arith) h
    passed (Enter b n p t) h =
        subst (λ (m : ℕ). slice_get (edge_of first t b n p ∷ calls_of (suc first) spots) m
        ≡ Some (edge_of (first + suc i) to block instance place))
        (let e : suc (calls_before spots i) ≡ 1 + calls_before spots i = omega arith in e) h
