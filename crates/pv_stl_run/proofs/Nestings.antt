-- Open nestings in their array.
use Rattle.std.proofs.Common.{◌≡◌, ℕ, zero, suc, ◌<◌, ◌≤◌, ℤ, Bool, List, [], ◌∷◌, length, get_or, Option, refl, arith, ap, sym, ◌∙◌}
use Rattle.std.proofs.Math.ListN.{set}
use Rattle.std.specs.Prelude.{slice_get}
use Rattle.pv_place.specs.declared.place.Place.{Place}
use Rattle.pv_mean.specs.Endings.{Tried, got, and_then}
use Rattle.pv_mean.specs.Registers as m
use Rattle.pv_mean.specs.Registers.{no_logic}
use Rattle.pv_mean.specs.BitLogic as logic
use Rattle.pv_stl_run.specs.declared.registers.Logic.{Logic}
use Rattle.pv_stl_run.specs.declared.registers.Codes.{Codes}
use Rattle.pv_stl_run.specs.declared.registers.Junction.{Junction}
use Rattle.pv_stl_run.specs.declared.registers.Nesting.{Nesting}
use Rattle.pv_stl_run.specs.Views.{logic_of, codes_of, junction_of, nesting_of, nesting_at, open_of}
use Rattle.pv_stl_run.proofs.TurnLaws.{get_below, get_own}

open_below : (xs : List Nesting) (n k : ℕ) (v : Nesting) → k ≤ n → open_of (set xs n v) k ≡ open_of xs k
open_below xs n zero v h = refl
open_below xs n (suc k) v h =
    ap (λ o. nesting_at o ∷ open_of (set xs n v) k) (get_below xs n k v (omega arith))
    ∙ ap (λ ns. nesting_at (slice_get xs k) ∷ ns) (open_below xs n k v (omega arith))

-- one more is the last one
open_one : (xs : List Nesting) (n : ℕ) (v : Nesting) → n < length xs → open_of (set xs n v) (suc n) ≡ nesting_of v ∷ open_of xs n
open_one xs n v h = ap (λ o. nesting_at o ∷ open_of (set xs n v) n) (get_own xs n v h)
    ∙ ap (λ ns. nesting_of v ∷ ns) (open_below xs n n v (omega arith))

abbrev pub with : Option ℤ → Option ℤ → m.Logic → Codes → List m.Nesting → m.Registers
with a b l c ns = record { accu1 = a; accu2 = b; logic = l; codes = codes_of c; nestings = ns }

pub opened_is : (a b : Option ℤ) (l : Logic) (c : Codes) (xs : List Nesting) (n k : ℕ) (j : Junction) → n < length xs → k ≡ suc n
    → with a b no_logic c (open_of (set xs n (record { outer = l; junction = j })) k)
    ≡ logic.open_nesting (junction_of j) (with a b (logic_of l) c (open_of xs n))
opened_is a b l c xs n k j h e =
    ap (λ i. with a b no_logic c (open_of (set xs n (record { outer = l; junction = j })) i)) e
    ∙ ap (with a b no_logic c) (open_one xs n (record { outer = l; junction = j }) h)

-- what waits at the last one
waits_at : (xs : List Nesting) (n : ℕ) (d : Nesting) → n < length xs → nesting_at (slice_get xs n) ≡ nesting_of (get_or xs n d)
waits_at [] n d h = absurd (omega arith)
waits_at (x ∷ xs) zero d h = refl
waits_at (x ∷ xs) (suc n) d h = waits_at xs n d (omega arith)

abbrev closes : Place → Option ℤ → Option ℤ → Codes → List m.Nesting → Bool → m.Nesting → Tried m.Registers
closes place a b c more e n = and_then (logic.join place n.junction e n.outer) (λ l. got (with a b l c more))

pub closed_is : (place : Place) (a b : Option ℤ) (l : Logic) (c : Codes) (xs : List Nesting) (n k : ℕ) (d : Nesting) (e : Bool) (t : Tried m.Logic)
    → n < length xs → k ≡ suc n → got e ≡ m.result_of place (logic_of l)
    → t ≡ logic.join place (junction_of (get_or xs n d).junction) e (logic_of (get_or xs n d).outer)
    → and_then t (λ x. got (with a b x c (open_of xs n))) ≡ logic.close_nesting place (with a b (logic_of l) c (open_of xs k))
closed_is place a b l c xs n k d e t lt is r j =
    sym (ap (λ i. logic.close_nesting place (with a b (logic_of l) c (open_of xs i))) is
    ∙ ap (λ x. and_then x (λ f. closes place a b c (open_of xs n) f (nesting_at (slice_get xs n)))) (sym r)
    ∙ ap (λ w. closes place a b c (open_of xs n) e w) (waits_at xs n d lt)
    ∙ ap (λ x. and_then x (λ y. got (with a b y c (open_of xs n)))) (sym j))
