-- k-induction on lists of inputs.
--
-- k-induction goes by recursion on how many scans are taken off the front (`last_scans`), with the length as an equation; the state that
-- is left is one that the run reaches. `step_zero`: a machine that meets step(0) has a state and an input that fail.
use Rattle.std.proofs.Common.{◌≡◌, ℕ, ◌+◌, ◌≤◌, suc, zero, true, false, List, [], ◌∷◌, ◌++◌, length, ◌∙◌, arith, ◌-◌, sym, inl, inr, refl, subst}
use Rattle.std.proofs.lemmas.Bool.{cases_lt, false_from_ne_true, true≢false}
use Rattle.std.specs.List.{AllByRecursion}
use Rattle.pv_machine.specs.Machines.{Machine, Values, done, IsState, IsInput, IsLawful}
use Rattle.pv_machine.specs.Queries.{IsGoodScan, FailsAtLast, MeetsBase, MeetsStep, MeetsReachableStep, Reaches, IsReachable, NoneFails}

-- one scan more
reaches_on : (m : Machine) (s i t u : Values) (before : List Values) → Reaches m s before t → m.step t i ≡ done u → Reaches m s (before ++ i ∷ []) u
reaches_on m s i t u [] reached is = (u, subst (λ x. m.step x i ≡ done u) (sym reached) is, refl)
reaches_on m s i t u (j ∷ before) reached is = (reached.0, reached.1, reaches_on m reached.0 i t u before reached.2 is)

inputs_on : (m : Machine) (before : List Values) (i : Values) → AllByRecursion (IsInput m) before → IsInput m i → AllByRecursion (IsInput m) (before ++ i ∷ [])
inputs_on m [] i all is = (is, tt)
inputs_on m (j ∷ before) i all is = (all.0, inputs_on m before i all.1 is)

-- a state that a run reaches, after one scan more
next_reachable : (m : Machine) (s i t : Values) → IsReachable m s → IsInput m i → m.step s i ≡ done t → IsReachable m t
next_reachable m s i t r is steps = record {
  params = r.params;
  inputs = r.inputs ++ i ∷ [];
  are_params = r.are_params;
  are_inputs = inputs_on m r.inputs i r.are_inputs is;
  reaches = reaches_on m (m.start r.params) i s t r.inputs r.reaches steps;
}

-- the last k + 1 scans of a longer list that fails at its last are a step query that is met
last_scans : (m : Machine) (k d : ℕ) (s : Values) (inputs : List Values) → IsReachable m s → AllByRecursion (IsInput m) inputs → length inputs ≡ d + (k + 1) → FailsAtLast m s inputs → MeetsReachableStep m k
last_scans m k zero s inputs is all count f = record {
  state = s;
  inputs = inputs;
  is_reachable = is;
  are_inputs = all;
  count = omega arith;
  fails = f;
}
last_scans m k (suc d) s [] is all count f = absurd f
last_scans m k (suc d) s (i ∷ []) is all count f = absurd (omega arith)
last_scans m k (suc d) s (i ∷ j ∷ inputs) is all count f =
    last_scans m k d f.0 (j ∷ inputs) (next_reachable m s i f.0 is all.0 f.1.done) all.1 (omega arith) f.2

-- a run that fails has at least one scan
pub some_scan : (m : Machine) (s : Values) (inputs : List Values) → FailsAtLast m s inputs → 1 ≤ length inputs
some_scan m s [] f = absurd f
some_scan m s (i ∷ inputs) f = omega arith

-- a run's start is reached
start_reachable : (m : Machine) (n : ℕ) (b : MeetsBase m n) → IsReachable m (m.start b.params)
start_reachable m n b = record { params = b.params; inputs = []; are_params = b.are_params; are_inputs = tt; reaches = refl }

-- where no run fails at one of its first k scans, one that fails has more than k, and the last k + 1 of them meet step(k)
pub no_base : (m : Machine) (k : ℕ) → ((j : ℕ) → 1 ≤ j → j ≤ k → MeetsBase m j → ⊥) → (MeetsReachableStep m k → ⊥) → (n : ℕ) → MeetsBase m n → ⊥
no_base m k base step n b =
    let some : 1 ≤ length b.inputs = some_scan m (m.start b.params) b.inputs b.fails in
    let count = b.count in
    elim (cases_lt k n) [
      | inl longer ↦ step (last_scans m k (n - (k + 1)) (m.start b.params) b.inputs (start_reachable m n b) b.are_inputs (omega arith) b.fails)
      | inr short ↦ base n (omega arith) short b
    ]

-- what scans from a state reach is a state
state_reached : (m : Machine) (s t : Values) (inputs : List Values) → IsLawful m → IsState m s → AllByRecursion (IsInput m) inputs → Reaches m s inputs t → IsState m t
state_reached m s t [] law is all reached = subst (IsState m) reached is
state_reached m s t (i ∷ inputs) law is all reached =
    state_reached m reached.0 t inputs law (law.steps s i reached.0 is all.0 reached.1) all.1 reached.2

pub step_of_reachable : (m : Machine) (k : ℕ) → IsLawful m → MeetsReachableStep m k → MeetsStep m k
step_of_reachable m k law met = record {
  state = met.state;
  inputs = met.inputs;
  is_state = state_reached m (m.start met.is_reachable.params) met.state met.is_reachable.inputs law
      (law.starts met.is_reachable.params met.is_reachable.are_params) met.is_reachable.are_inputs met.is_reachable.reaches;
  are_inputs = met.are_inputs;
  count = met.count;
  fails = met.fails;
}

-- ---- scans that fail, and runs that have one

-- a scan that fails after a good one is a scan that fails one later
fails_later : (m : Machine) (s i t : Values) (inputs : List Values) → IsGoodScan m s i t → FailsAtLast m t inputs → FailsAtLast m s (i ∷ inputs)
fails_later m s i t [] good f = absurd f
fails_later m s i t (j ∷ inputs) good f = (t, good, f)

pub none_fails : (m : Machine) (s : Values) (inputs : List Values) → AllByRecursion (IsInput m) inputs → ((others : List Values) → AllByRecursion (IsInput m) others → FailsAtLast m s others → ⊥) → NoneFails m s inputs
none_fails m s [] all never = tt
none_fails m s (i ∷ inputs) all never =
    let keeps : m.fails s i ≡ false = false_from_ne_true (m.fails s i) (λ f. never (i ∷ []) (all.0, tt) f) in (
      keeps,
      λ t is. none_fails m t inputs all.1
          (λ others are f. never (i ∷ others) (all.0, are) (fails_later m s i t others (record { done = is; keeps = keeps }) f)),
    )

-- the last scan of a run that fails there is one of those that don't fail
pub fails_not : (m : Machine) (s : Values) (inputs : List Values) → FailsAtLast m s inputs → NoneFails m s inputs → ⊥
fails_not m s [] f none = f
fails_not m s (i ∷ []) f none = true≢false (sym f ∙ none.0)
fails_not m s (i ∷ j ∷ inputs) f none = fails_not m f.0 (j ∷ inputs) f.2 (none.1 f.0 f.1.done)

-- ---- for callers: what it is to meet step(0)

-- some state fails by some input
pub step_zero : (m : Machine) → MeetsStep m 0 → (s : Values) × (i : Values) × IsState m s × IsInput m i × (m.fails s i ≡ true)
step_zero m met = one_scan met.state met.inputs met.is_state met.are_inputs met.count met.fails
  where
    one_scan : (s : Values) (inputs : List Values) → IsState m s → AllByRecursion (IsInput m) inputs → length inputs ≡ 0 + 1 → FailsAtLast m s inputs → (u : Values) × (i : Values) × IsState m u × IsInput m i × (m.fails u i ≡ true)
    one_scan s [] is all count f = absurd f
    one_scan s (i ∷ []) is all count f = (s, i, is, all.0, f)
    one_scan s (i ∷ j ∷ inputs) is all count f = absurd (omega arith)
