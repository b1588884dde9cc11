-- A variable that no edge sets keeps its value along a run.
use Rattle.std.proofs.Common.{◌≡◌, ℕ, zero, suc, ℤ, Bool as Truth, true, false, cond, List, [], ◌∷◌, Option, Some, None, refl, sym, subst, ◌∙◌, ◌==◌}
use Rattle.std.specs.List.{All, AllByRecursion, list_any}
use Rattle.std.proofs.lemmas.List.Elements.{recursion_from_All}
use Rattle.std.proofs.lemmas.Bool.{or_parts, true≢false, cond_both, eqb-true, eq-eqb}
use Rattle.pv_flow.specs.Terms.{Valuation, value_of, holds_in}
use Rattle.pv_flow.specs.Automata.{Set, Edge, Loop, Parts}
use Rattle.pv_flow.specs.Runs.{put, set_over, assigned, End, done, trap, over, Outcome, done_with, trapped, gone_over, outcome_of, Way, Control, taken, ended, ended_or, run, Spot, at, past, Counts, way_of, ways_by, ways_of, control_of, first_spot}
use Rattle.pv_flow.specs.Correct.{sets_variable}

put_other : (w : Valuation) (n x : ℕ) (v : ℤ) → (n == x) ≡ false → put w n v x ≡ w x
put_other w n x v e =
    cond_both (x == n) v (w x) (λ (z : ℤ). z ≡ w x) (λ same. absurd (true≢false (sym (eq-eqb n x (sym (eqb-true x n same))) ∙ e))) (λ other. refl)

set_over_other : (old : Valuation) (sets : List Set) (w : Valuation) (x : ℕ) → list_any (λ set. set.variable == x) sets ≡ false
    → set_over old sets w x ≡ w x
set_over_other old [] w x e = refl
set_over_other old (set ∷ sets) w x e =
    set_over_other old sets (put w set.variable (value_of old set.value)) x (or_parts (set.variable == x) (list_any (λ (other : Set). other.variable == x) sets) e).1
    ∙ put_other w set.variable x (value_of old set.value) (or_parts (set.variable == x) (list_any (λ (other : Set). other.variable == x) sets) e).0

-- what a run that ends so leaves in variable x is v
abbrev pub Leaves : ℕ → ℤ → Option Outcome → Type 0
Leaves x v None = Unit {0}
Leaves x v (Some (done_with w)) = w x ≡ v
Leaves x v (Some (trapped kind place)) = Unit {0}
Leaves x v (Some (gone_over place)) = Unit {0}

abbrev IsKeeping : {X : Type 0} → ℕ → Way X → Type 0
IsKeeping x way = list_any (λ set. set.variable == x) way.sets ≡ false

abbrev IsKeepingIf : {X : Type 0} → ℕ → Option (Way X) → Type 0
IsKeepingIf x None = Unit {0}
IsKeepingIf x (Some way) = IsKeeping x way

taken_keeps : {X : Type 0} (x : ℕ) (w : Valuation) (ways : List (Way X)) → AllByRecursion (IsKeeping x) ways → IsKeepingIf x (taken w ways)
taken_keeps x w [] all = tt
taken_keeps {X} x w (way ∷ more) all = by (holds_in w way.guard) (taken_keeps x w more all.1)
  where
    by : (b : Truth) → IsKeepingIf x (taken w more) → IsKeepingIf {X = X} x (elim b [ true ↦ Some way | false ↦ taken w more ])
    by true h = all.0
    by false h = h

outcome_leaves : (end : End) (w : Valuation) (x : ℕ) → Leaves x (w x) (Some (outcome_of end w))
outcome_leaves done w x = refl
outcome_leaves (trap kind place) w x = tt
outcome_leaves (over place) w x = tt

ended_leaves : (end : Option End) (w : Valuation) (x : ℕ) → Leaves x (w x) (ended end w)
ended_leaves None w x = tt
ended_leaves (Some end) w x = outcome_leaves end w x

ended_or_leaves : {X : Type 0} (end : Option End) (way : Option (Way X)) (w : Valuation) (next : Way X → Option Outcome) (x : ℕ)
    → IsKeepingIf x way → ((t : Way X) → IsKeeping x t → Leaves x (w x) (next t)) → Leaves x (w x) (ended_or end way w next)
ended_or_leaves (Some end) way w next x h go = outcome_leaves end w x
ended_or_leaves None None w next x h go = tt
ended_or_leaves None (Some way) w next x h go = go way h

run_leaves : {X : Type 0} (c : Control X) (x : ℕ) → ((s : X) → AllByRecursion (IsKeeping x) (c.ways s))
    → (n : ℕ) (s : X) (w : Valuation) → Leaves x (w x) (run c n s w)
run_leaves c x all zero s w = ended_leaves (c.exit s) w x
run_leaves c x all (suc n) s w =
    ended_or_leaves (c.exit s) (taken w (c.ways s)) w (λ way. run c n way.to (assigned way.sets w)) x
    (taken_keeps x w (c.ways s) (all s))
    (λ way h. subst (λ (v : ℤ). Leaves x v (run c n way.to (assigned way.sets w))) (set_over_other w way.sets w x h)
    (run_leaves c x all n way.to (assigned way.sets w)))

ways_keep : (x : ℕ) (loops : List Loop) (n l : ℕ) (counts : Counts) (e : ℕ) (edges : List Edge)
    → AllByRecursion (λ (edge : Edge). sets_variable x edge ≡ false) edges
    → AllByRecursion (IsKeeping {X = Spot} x) (ways_by loops n l counts e edges)
ways_keep x loops n l counts e [] all = tt
ways_keep x loops n l counts e (edge ∷ more) all = by (edge.from == l) (ways_keep x loops n l counts (suc e) more all.1)
  where
    by : (b : Truth) → AllByRecursion (IsKeeping {X = Spot} x) (ways_by loops n l counts (suc e) more)
        → AllByRecursion (IsKeeping {X = Spot} x) (cond b
        (way_of loops n l counts e edge ∷ ways_by loops n l counts (suc e) more)
        (ways_by loops n l counts (suc e) more))
    by true h = (all.0, h)
    by false h = h

spot_keeps : (p : Parts) (n x : ℕ) → All (λ (edge : Edge). sets_variable x edge ≡ false) p.edges → (s : Spot)
    → AllByRecursion (IsKeeping {X = Spot} x) (ways_of p n s)
spot_keeps p n x all (at l counts) =
    ways_keep x p.loops n l counts 0 p.edges (recursion_from_All (λ (edge : Edge). sets_variable x edge ≡ false) p.edges all)
spot_keeps p n x all (past place) = tt

pub untouched : (p : Parts) (n steps x : ℕ) (w end : Valuation) → All (λ (edge : Edge). sets_variable x edge ≡ false) p.edges
    → run (control_of p n) steps (first_spot p) w ≡ Some (done_with end) → end x ≡ w x
untouched p n steps x w end all e =
    subst (λ (out : Option Outcome). Leaves x (w x) out) e (run_leaves (control_of p n) x (spot_keeps p n x all) steps (first_spot p) w)
