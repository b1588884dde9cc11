-- Machines that are the same as far as runs tell: what goes over from the one to the other.
--
-- Each law is proved in one direction, by recursion on the inputs, and the other direction is the same law of the machines exchanged.
use Rattle.std.proofs.Common.{◌≡◌, ◌↔◌, ℕ, zero, suc, List, [], ◌∷◌, length, sym, subst, ◌∙◌, ap, refl, IfSome}
use Rattle.std.specs.List.{AllByRecursion, slice_get}
use Rattle.pv_place.specs.Ranges.{Range, IsWithin, AreWithin}
use Rattle.pv_machine.specs.Machines.{Machine, Values, done, IsState, IsInput, AreParams, IsLawful}
use Rattle.pv_machine.specs.Queries.{FailsAtLast, MeetsBase, MeetsStep, Reaches, IsReachable, NoneFails}
use Rattle.pv_machine.specs.Same.{IsSame, HaveRanges, ActsAlike}
use Rattle.pv_machine.specs.Joining.{within_of, same_back}

all_within_of : (r q : List Range) (inputs : List Values) → r ≡ q → AllByRecursion (AreWithin r) inputs → AllByRecursion (AreWithin q) inputs
all_within_of r q inputs e all = subst (λ (x : List Range). AllByRecursion (AreWithin x) inputs) e all

pub same_itself : (m : Machine) → IsSame m m
same_itself m = record {
  state = refl;
  input = refl;
  params = refl;
  start = λ p are. refl;
  step = λ s i is at. refl;
  fails = λ s i is at. refl;
}

pub same_on : (l m n : Machine) → IsSame l m → IsSame m n → IsSame l n
same_on l m n one two = record {
  state = one.state ∙ two.state;
  input = one.input ∙ two.input;
  params = one.params ∙ two.params;
  start = λ p are. one.start p are ∙ two.start p (within_of l.params m.params p one.params are);
  step = λ s i is at. one.step s i is at ∙ two.step s i (within_of l.state m.state s one.state is) (within_of l.input m.input i one.input at);
  fails = λ s i is at. one.fails s i is at ∙ two.fails s i (within_of l.state m.state s one.state is) (within_of l.input m.input i one.input at);
}

pub lawful_too : (m n : Machine) → IsLawful m → IsSame m n → IsLawful n
lawful_too m n law same =
    let back = same_back m n same in
    record {
      starts = λ p are.
          let here : AreParams m p = within_of n.params m.params p back.params are in
          within_of m.state n.state (n.start p) same.state (subst (λ (s : Values). IsState m s) (same.start p here) (law.starts p here));
      steps = λ s i t is at steps.
          let here : IsState m s = within_of n.state m.state s back.state is in
          let given : IsInput m i = within_of n.input m.input i back.input at in
          within_of m.state n.state t same.state (law.steps s i t here given (same.step s i here given ∙ steps));
    }

-- ---- runs

fails_too : (m n : Machine) (s : Values) (inputs : List Values) → IsLawful m → IsSame m n → IsState m s → AllByRecursion (IsInput m) inputs
    → FailsAtLast m s inputs → FailsAtLast n s inputs
fails_too m n s [] law same is all f = f
fails_too m n s (i ∷ []) law same is all f = sym (same.fails s i is all.0) ∙ f
fails_too m n s (i ∷ j ∷ inputs) law same is all f = (
  f.0,
  record { done = sym (same.step s i is all.0) ∙ (f.1).done; keeps = sym (same.fails s i is all.0) ∙ (f.1).keeps },
  fails_too m n f.0 (j ∷ inputs) law same (law.steps s i f.0 is all.0 (f.1).done) all.1 f.2,
)

reaches_too : (m n : Machine) (s t : Values) (inputs : List Values) → IsLawful m → IsSame m n → IsState m s → AllByRecursion (IsInput m) inputs
    → Reaches m s inputs t → Reaches n s inputs t
reaches_too m n s t [] law same is all r = r
reaches_too m n s t (i ∷ inputs) law same is all r = (
  r.0,
  sym (same.step s i is all.0) ∙ r.1,
  reaches_too m n r.0 t inputs law same (law.steps s i r.0 is all.0 r.1) all.1 r.2,
)

none_too : (m n : Machine) (s : Values) (inputs : List Values) → IsLawful m → IsSame m n → IsState m s → AllByRecursion (IsInput m) inputs
    → NoneFails m s inputs → NoneFails n s inputs
none_too m n s [] law same is all none = none
none_too m n s (i ∷ inputs) law same is all none = (
  sym (same.fails s i is all.0) ∙ none.0,
  λ t steps.
      let here : m.step s i ≡ done t = same.step s i is all.0 ∙ steps in
      none_too m n t inputs law same (law.steps s i t is all.0 here) all.1 (none.1 t here),
)

pub base_too : (m n : Machine) (k : ℕ) → IsLawful m → IsSame m n → MeetsBase m k → MeetsBase n k
base_too m n k law same met = record {
  params = met.params;
  inputs = met.inputs;
  are_params = within_of m.params n.params met.params same.params met.are_params;
  are_inputs = all_within_of m.input n.input met.inputs same.input met.are_inputs;
  count = met.count;
  fails = subst (λ (s : Values). FailsAtLast n s met.inputs) (same.start met.params met.are_params)
      (fails_too m n (m.start met.params) met.inputs law same (law.starts met.params met.are_params) met.are_inputs met.fails);
}

pub step_too : (m n : Machine) (k : ℕ) → IsLawful m → IsSame m n → MeetsStep m k → MeetsStep n k
step_too m n k law same met = record {
  state = met.state;
  inputs = met.inputs;
  is_state = within_of m.state n.state met.state same.state met.is_state;
  are_inputs = all_within_of m.input n.input met.inputs same.input met.are_inputs;
  count = met.count;
  fails = fails_too m n met.state met.inputs law same met.is_state met.are_inputs met.fails;
}

pub reachable_too : (m n : Machine) (s : Values) → IsLawful m → IsSame m n → IsReachable m s → IsReachable n s
reachable_too m n s law same r = record {
  params = r.params;
  inputs = r.inputs;
  are_params = within_of m.params n.params r.params same.params r.are_params;
  are_inputs = all_within_of m.input n.input r.inputs same.input r.are_inputs;
  reaches = subst (λ (t : Values). Reaches n t r.inputs s) (same.start r.params r.are_params)
      (reaches_too m n (m.start r.params) s r.inputs law same (law.starts r.params r.are_params) r.are_inputs r.reaches);
}

-- ---- in both directions

pub same_base : (m n : Machine) (k : ℕ) → IsLawful m → IsSame m n → MeetsBase m k ↔ MeetsBase n k
same_base m n k law same = (base_too m n k law same, base_too n m k (lawful_too m n law same) (same_back m n same))

pub same_step : (m n : Machine) (k : ℕ) → IsLawful m → IsSame m n → MeetsStep m k ↔ MeetsStep n k
same_step m n k law same = (step_too m n k law same, step_too n m k (lawful_too m n law same) (same_back m n same))

pub same_reachable : (m n : Machine) (s : Values) → IsLawful m → IsSame m n → IsReachable m s ↔ IsReachable n s
same_reachable m n s law same = (reachable_too m n s law same, reachable_too n m s (lawful_too m n law same) (same_back m n same))

pub same_runs : (m n : Machine) (s : Values) (inputs : List Values) → IsLawful m → IsSame m n → IsState m s → AllByRecursion (IsInput m) inputs
    → NoneFails m s inputs ↔ NoneFails n s inputs
same_runs m n s inputs law same is all = (
  none_too m n s inputs law same is all,
  none_too n m s inputs (lawful_too m n law same) (same_back m n same) (within_of m.state n.state s same.state is)
      (all_within_of m.input n.input inputs same.input all),
)

-- ---- ranges place by place

within_count : (ranges : List Range) (values : Values) → AreWithin ranges values → length values ≡ length ranges
within_count [] [] are = refl
within_count [] (v ∷ values) are = absurd are
within_count (range ∷ ranges) [] are = absurd are
within_count (range ∷ ranges) (v ∷ values) are = ap suc (within_count ranges values are.1)

within_at : (ranges : List Range) (values : Values) → AreWithin ranges values → (n : ℕ)
    → IfSome (slice_get ranges n) (λ range. IfSome (slice_get values n) (λ v. IsWithin range v))
within_at [] [] are n = tt
within_at [] (v ∷ values) are n = absurd are
within_at (range ∷ ranges) [] are n = absurd are
within_at (range ∷ ranges) (v ∷ values) are zero = are.0
within_at (range ∷ ranges) (v ∷ values) are (suc n) = within_at ranges values are.1 n

have_ranges : (ranges : List Range) (values : Values) → AreWithin ranges values → HaveRanges ranges values
have_ranges ranges values are = record { count = within_count ranges values are; within = within_at ranges values are }

pub acts_alike : (m n : Machine) → m.state ≡ n.state → m.input ≡ n.input → m.params ≡ n.params → ActsAlike m n → IsSame m n
acts_alike m n state input params acts = record {
  state = state;
  input = input;
  params = params;
  start = λ p are. acts.start p (have_ranges m.params p are);
  step = λ s i is at. acts.step s i (have_ranges m.state s is) (have_ranges m.input i at);
  fails = λ s i is at. acts.fails s i (have_ranges m.state s is) (have_ranges m.input i at);
}
