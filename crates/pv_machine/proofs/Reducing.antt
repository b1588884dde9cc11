-- Reductions: what they keep, and how they are joined.
--
-- Runs go by recursion on the inputs. A scan of the first machine is looked at by how the second one's step ends for it (`StepsTo`), so a
-- lemma that says what a done scan gives (`done_of`) serves each of them. Joining goes law by law of the two reductions, with the machines
-- between them exchanged by what makes them the same.
use Rattle.std.proofs.Common.{◌≡◌, ◌≤◌, ℕ, suc, true, List, [], ◌∷◌, length, map, sym, subst, ◌∙◌, ap, refl}
use Rattle.std.specs.List.{AllByRecursion}
use Rattle.pv_machine.specs.Machines.{Machine, Values, Step, done, trap, over, IsState, IsInput, AreParams, IsLawful}
use Rattle.pv_machine.specs.Queries.{IsGoodScan, FailsAtLast, MeetsBase, MeetsStep, MeetsReachableStep, Reaches, IsReachable}
use Rattle.pv_machine.specs.Same.{IsSame}
use Rattle.pv_machine.specs.Reductions.{Maps, IsMeant, StepsTo, IsStart, IsReduction, IsExact, unchanged, Link, AreJoined, all_joined, all_exact}
use Rattle.pv_machine.specs.Replays.{ReplaysAs, BaseReplays}
use Rattle.pv_machine.proofs.Induction.{some_scan}
use Rattle.pv_machine.specs.Joining.{within_of, same_back, both_first, both_second, start_over, steps_over, two_joined, exact_joined}
use Rattle.pv_machine.proofs.Same.{same_itself}

-- ---- one scan

-- a done scan of the first machine is one of the second, and leaves a state that is meant
done_of : (a b : Machine) (r : Maps) (s i t : Values) → IsLawful a → IsReduction a b r → IsMeant a r s → IsInput a i → a.step s i ≡ done t
    → (b.step (r.abs s) (r.push s i) ≡ done (r.abs t)) × IsMeant a r t
done_of a b r s i t law red is at steps =
    let to : StepsTo r (done t) (b.step (r.abs s) (r.push s i)) = subst (λ (e : Step). StepsTo r e (b.step (r.abs s) (r.push s i))) steps (red.steps s i is at) in
    (to.0, record { is_state = law.steps s i t is.is_state at steps; inv = to.1 })

starts_meant : (a b : Machine) (r : Maps) (p : Values) → IsLawful a → IsReduction a b r → AreParams a p → IsMeant a r (a.start p)
starts_meant a b r p law red are = record { is_state = law.starts p are; inv = red.starts p are }

-- ---- runs of the first machine are runs of the second

-- the second machine's inputs along a run of the first
record Pushed (b : Machine) (inputs : List Values) (Holds : List Values → Type 0) : Type 0 where
  pub others : List Values
  pub are_inputs : AllByRecursion (IsInput b) others
  pub count : length others ≡ length inputs
  pub holds : Holds others

failing : (a b : Machine) (r : Maps) (s : Values) (inputs : List Values) → IsLawful a → IsReduction a b r → IsMeant a r s
    → AllByRecursion (IsInput a) inputs → FailsAtLast a s inputs → Pushed b inputs (λ others. FailsAtLast b (r.abs s) others)
failing a b r s [] law red is all f = absurd f
failing a b r s (i ∷ []) law red is all f = record {
  others = r.push s i ∷ [];
  are_inputs = (red.inputs s i is all.0, tt);
  count = refl;
  holds = sym (red.fails s i is all.0) ∙ f;
}
failing a b r s (i ∷ j ∷ inputs) law red is all f =
    let to = done_of a b r s i f.0 law red is all.0 (f.1).done in
    let more = failing a b r f.0 (j ∷ inputs) law red to.1 all.1 f.2 in
    longer (r.push s i) (red.inputs s i is all.0) (record { done = to.0; keeps = sym (red.fails s i is all.0) ∙ (f.1).keeps }) more
  where
    longer : (x : Values) → IsInput b x → IsGoodScan b (r.abs s) x (r.abs f.0) → Pushed b (j ∷ inputs) (λ others. FailsAtLast b (r.abs f.0) others)
        → Pushed b (i ∷ j ∷ inputs) (λ others. FailsAtLast b (r.abs s) others)
    longer x at good more = behind more.others more.are_inputs more.count more.holds
      where
        behind : (others : List Values) → AllByRecursion (IsInput b) others → length others ≡ length (j ∷ inputs) → FailsAtLast b (r.abs f.0) others
            → Pushed b (i ∷ j ∷ inputs) (λ rest. FailsAtLast b (r.abs s) rest)
        behind [] are count holds = absurd holds
        behind (y ∷ others) are count holds = record {
          others = x ∷ y ∷ others;
          are_inputs = (at, are);
          count = ap suc count;
          holds = (r.abs f.0, good, holds);
        }

reaching : (a b : Machine) (r : Maps) (s t : Values) (inputs : List Values) → IsLawful a → IsReduction a b r → IsMeant a r s
    → AllByRecursion (IsInput a) inputs → Reaches a s inputs t
    → Pushed b inputs (λ others. Reaches b (r.abs s) others (r.abs t)) × IsMeant a r t
reaching a b r s t [] law red is all reached = (
  record { others = []; are_inputs = tt; count = refl; holds = ap r.abs reached },
  subst (λ (u : Values). IsMeant a r u) reached is,
)
reaching a b r s t (i ∷ inputs) law red is all reached =
    let to = done_of a b r s i reached.0 law red is all.0 reached.1 in
    let more = reaching a b r reached.0 t inputs law red to.1 all.1 reached.2 in (
      record {
        others = r.push s i ∷ (more.0).others;
        are_inputs = (red.inputs s i is all.0, (more.0).are_inputs);
        count = ap suc (more.0).count;
        holds = (r.abs reached.0, to.0, (more.0).holds);
      },
      more.1,
    )

pub base_kept : (a b : Machine) (r : Maps) (k : ℕ) → IsLawful a → IsReduction a b r → MeetsBase a k → MeetsBase b k
base_kept a b r k law red met =
    let from = red.to_starts met.params met.are_params in
    let run = failing a b r (a.start met.params) met.inputs law red (starts_meant a b r met.params law red met.are_params) met.are_inputs met.fails in
    record {
      params = from.params;
      inputs = run.others;
      are_params = from.are_params;
      are_inputs = run.are_inputs;
      count = run.count ∙ met.count;
      fails = subst (λ (s : Values). FailsAtLast b s run.others) from.is run.holds;
    }

reachable_kept : (a b : Machine) (r : Maps) (s : Values) → IsLawful a → IsReduction a b r → IsReachable a s → IsReachable b (r.abs s) × IsMeant a r s
reachable_kept a b r s law red reached =
    let from = red.to_starts reached.params reached.are_params in
    let run = reaching a b r (a.start reached.params) s reached.inputs law red
    (starts_meant a b r reached.params law red reached.are_params) reached.are_inputs reached.reaches in (
      record {
        params = from.params;
        inputs = (run.0).others;
        are_params = from.are_params;
        are_inputs = (run.0).are_inputs;
        reaches = subst (λ (t : Values). Reaches b t (run.0).others (r.abs s)) from.is (run.0).holds;
      },
      run.1,
    )

pub step_kept : (a b : Machine) (r : Maps) (k : ℕ) → IsLawful a → IsReduction a b r → MeetsReachableStep a k → MeetsReachableStep b k
step_kept a b r k law red met =
    let at = reachable_kept a b r met.state law red met.is_reachable in
    let run = failing a b r met.state met.inputs law red at.1 met.are_inputs met.fails in
    record {
      state = r.abs met.state;
      inputs = run.others;
      is_reachable = at.0;
      are_inputs = run.are_inputs;
      count = run.count ∙ met.count;
      fails = run.holds;
    }

-- over all states of the second machine, which need not be lawful: states that are meant stand for its states
pub any_step_kept : (a b : Machine) (r : Maps) (k : ℕ) → IsLawful a → IsReduction a b r → MeetsReachableStep a k → MeetsStep b k
any_step_kept a b r k law red met =
    let at = reachable_kept a b r met.state law red met.is_reachable in
    let run = failing a b r met.state met.inputs law red at.1 met.are_inputs met.fails in
    record {
      state = r.abs met.state;
      inputs = run.others;
      is_state = red.states met.state at.1;
      are_inputs = run.are_inputs;
      count = run.count ∙ met.count;
      fails = run.holds;
    }

-- ---- by an exact reduction runs of the second machine are runs of the first

pulled : (a b : Machine) (r : Maps) (inputs : List Values) → IsReduction a b r → AllByRecursion (IsInput b) inputs
    → AllByRecursion (IsInput a) (map r.pull inputs)
pulled a b r [] red all = tt
pulled a b r (j ∷ inputs) red all = (red.pulls j all.0, pulled a b r inputs red all.1)

map_count : (f : Values → Values) (inputs : List Values) → length (map f inputs) ≡ length inputs
map_count f [] = refl
map_count f (i ∷ inputs) = ap suc (map_count f inputs)

pulled_fails : (a b : Machine) (r : Maps) (s j : Values) → IsReduction a b r → IsExact a b r → IsMeant a r s → IsInput b j
    → a.fails s (r.pull j) ≡ b.fails (r.abs s) j
pulled_fails a b r s j red exact is at = red.fails s (r.pull j) is (red.pulls j at) ∙ ap (λ (x : Values). b.fails (r.abs s) x) (exact s j is at)

pulled_steps : (a b : Machine) (r : Maps) (s j : Values) → IsReduction a b r → IsExact a b r → IsMeant a r s → IsInput b j
    → StepsTo r (a.step s (r.pull j)) (b.step (r.abs s) j)
pulled_steps a b r s j red exact is at =
    subst (λ (x : Values). StepsTo r (a.step s (r.pull j)) (b.step (r.abs s) x)) (exact s j is at) (red.steps s (r.pull j) is (red.pulls j at))

pub replays : (a b : Machine) (r : Maps) (s : Values) (inputs : List Values) → IsLawful a → IsReduction a b r → IsExact a b r → IsMeant a r s
    → AllByRecursion (IsInput b) inputs → ReplaysAs a b r s inputs
replays a b r s [] law red exact is all = tt
replays a b r s (j ∷ inputs) law red exact is all = (
  pulled_steps a b r s j red exact is all.0,
  pulled_fails a b r s j red exact is all.0,
  λ u steps. replays a b r u inputs law red exact (done_of a b r s (r.pull j) u law red is (red.pulls j all.0) steps).1 all.1,
)

-- a done scan of the second machine is one of the first
data DoneBy (r : Maps) (first : Step) (t : Values) : Type 0 where
  done_by : (u : Values) → first ≡ done u → r.abs u ≡ t → DoneBy r first t

same_done : (s t : Values) → done s ≡ done t → s ≡ t
same_done s t e = cc

done_back : (r : Maps) (first : Step) (t : Values) → StepsTo r first (done t) → DoneBy r first t
done_back r (done u) t to = done_by u refl (sym (same_done t (r.abs u) to.0))
done_back r (trap kind place) t to = absurd (cc to)
done_back r (over place) t to = absurd (cc to)

failing_back : (a b : Machine) (r : Maps) (s : Values) (inputs : List Values) → IsLawful a → IsReduction a b r → IsExact a b r → IsMeant a r s
    → AllByRecursion (IsInput b) inputs → FailsAtLast b (r.abs s) inputs → FailsAtLast a s (map r.pull inputs)
failing_back a b r s [] law red exact is all f = f
failing_back a b r s (j ∷ []) law red exact is all f = pulled_fails a b r s j red exact is all.0 ∙ f
failing_back a b r s (j ∷ k ∷ inputs) law red exact is all f =
    on (done_back r (a.step s (r.pull j)) f.0 (subst (λ (e : Step). StepsTo r (a.step s (r.pull j)) e) (f.1).done (pulled_steps a b r s j red exact is all.0)))
    (λ u meant fails. failing_back a b r u (k ∷ inputs) law red exact meant all.1 fails)
  where
    on : DoneBy r (a.step s (r.pull j)) f.0 → ((u : Values) → IsMeant a r u → FailsAtLast b (r.abs u) (k ∷ inputs) → FailsAtLast a u (r.pull k ∷ map r.pull inputs))
        → FailsAtLast a s (r.pull j ∷ r.pull k ∷ map r.pull inputs)
    on (done_by u steps at) more = (
      u,
      record { done = steps; keeps = pulled_fails a b r s j red exact is all.0 ∙ (f.1).keeps },
      more u (done_of a b r s (r.pull j) u law red is (red.pulls j all.0) steps).1
          (subst (λ (x : Values). FailsAtLast b x (k ∷ inputs)) (sym at) f.2),
    )

-- a run of the second machine that meets base, as one of the first
pub base_replays : (a b : Machine) (r : Maps) (k : ℕ) → IsLawful a → IsLawful b → IsReduction a b r → IsExact a b r → (met : MeetsBase b k)
    → BaseReplays a b r met.params met.inputs
base_replays a b r k law lawful red exact met =
    let from : IsStart a (r.embed (b.start met.params)) = red.of_starts (b.start met.params) (record { params = met.params; are_params = met.are_params; is = refl }) in
    let is : IsMeant a r (a.start from.params) = starts_meant a b r from.params law red from.are_params in
    let back : r.abs (a.start from.params) ≡ b.start met.params =
    ap r.abs (sym from.is) ∙ red.embeds_back (b.start met.params) (lawful.starts met.params met.are_params) in
    record {
      first_params = from.params;
      are_params = from.are_params;
      starts = from.is;
      are_inputs = pulled a b r met.inputs red met.are_inputs;
      fails = failing_back a b r (a.start from.params) met.inputs law red exact is met.are_inputs
          (subst (λ (x : Values). FailsAtLast b x met.inputs) (sym back) met.fails);
    }

pub base_back : (a b : Machine) (r : Maps) (k : ℕ) → IsLawful a → IsLawful b → IsReduction a b r → IsExact a b r → MeetsBase b k → MeetsBase a k
base_back a b r k law lawful red exact met =
    let run = base_replays a b r k law lawful red exact met in
    record {
      params = run.first_params;
      inputs = map r.pull met.inputs;
      are_params = run.are_params;
      are_inputs = run.are_inputs;
      count = map_count r.pull met.inputs ∙ met.count;
      fails = run.fails;
    }

pub step_replays : (a b : Machine) (r : Maps) (t : Values) (inputs : List Values) → IsLawful a → IsReduction a b r → IsExact a b r → IsState b t
    → AllByRecursion (IsInput b) inputs → ReplaysAs a b r (r.embed t) inputs
step_replays a b r t inputs law red exact is all = replays a b r (r.embed t) inputs law red exact (red.embeds t is) all

pub step_back : (a b : Machine) (r : Maps) (k : ℕ) → IsLawful a → IsReduction a b r → IsExact a b r → MeetsStep b k → MeetsStep a k
step_back a b r k law red exact met = record {
  state = r.embed met.state;
  inputs = map r.pull met.inputs;
  is_state = (red.embeds met.state met.is_state).is_state;
  are_inputs = pulled a b r met.inputs red met.are_inputs;
  count = map_count r.pull met.inputs ∙ met.count;
  fails = failing_back a b r (r.embed met.state) met.inputs law red exact (red.embeds met.state met.is_state) met.are_inputs
      (subst (λ (x : Values). FailsAtLast b x met.inputs) (sym (red.embeds_back met.state met.is_state)) met.fails);
}

-- ---- any number of them

steps_alike : (e : Step) → StepsTo unchanged e e
steps_alike (done s) = (refl, refl)
steps_alike (trap kind place) = refl
steps_alike (over place) = refl

none_joined : (a z : Machine) → IsSame a z → IsReduction a z unchanged
none_joined a z same = record {
  starts = λ p are. refl;
  to_starts = λ p are. record { params = p; are_params = within_of a.params z.params p same.params are; is = same.start p are };
  of_starts = λ t start. start_over z a t (same_back a z same) start;
  states = λ s is. within_of a.state z.state s same.state is.is_state;
  inputs = λ s i is at. within_of a.input z.input i same.input at;
  steps = λ s i is at. steps_over unchanged (a.step s i) (a.step s i) (z.step s i) (same.step s i is.is_state at) (steps_alike (a.step s i));
  fails = λ s i is at. same.fails s i is.is_state at;
  embeds = λ t is. record { is_state = within_of z.state a.state t (sym same.state) is; inv = refl };
  embeds_back = λ t is. refl;
  pulls = λ j at. within_of z.input a.input j (sym same.input) at;
}

-- a reduction of the machine that is the same
from_same : (a b c : Machine) (r : Maps) → IsSame a b → IsReduction b c r → IsReduction a c r
from_same a b c r same red = record {
  starts = λ p are. ap r.inv (same.start p are) ∙ red.starts p (within_of a.params b.params p same.params are);
  to_starts = λ p are. subst (λ (x : Values). IsStart c (r.abs x)) (sym (same.start p are)) (red.to_starts p (within_of a.params b.params p same.params are));
  of_starts = λ t start. start_over b a (r.embed t) (same_back a b same) (red.of_starts t start);
  states = λ s is. red.states s (over_same s is);
  inputs = λ s i is at. red.inputs s i (over_same s is) (within_of a.input b.input i same.input at);
  steps = λ s i is at. subst (λ (x : Step). StepsTo r x (c.step (r.abs s) (r.push s i))) (sym (same.step s i is.is_state at))
      (red.steps s i (over_same s is) (within_of a.input b.input i same.input at));
  fails = λ s i is at. same.fails s i is.is_state at ∙ red.fails s i (over_same s is) (within_of a.input b.input i same.input at);
  embeds = λ t is. record { is_state = within_of b.state a.state (r.embed t) (sym same.state) (red.embeds t is).is_state; inv = (red.embeds t is).inv };
  embeds_back = red.embeds_back;
  pulls = λ j at. within_of b.input a.input (r.pull j) (sym same.input) (red.pulls j at);
}
  where
    over_same : (s : Values) → IsMeant a r s → IsMeant b r s
    over_same s is = record { is_state = within_of a.state b.state s same.state is.is_state; inv = is.inv }

pub all_are : (a z : Machine) (links : List Link) → AreJoined a links z → IsReduction a z (all_joined links)
all_are a z [] are = none_joined a z are
all_are a z (link ∷ more) are =
    from_same a link.source z (all_joined (link ∷ more)) are.0
    (two_joined link.source link.target link.target z link.maps (all_joined more) are.1 (same_itself link.target) (all_are link.target z more are.3))

pub all_are_exact : (a z : Machine) (links : List Link) → AreJoined a links z → all_exact links ≡ true → IsExact a z (all_joined links)
all_are_exact a z [] are exact s j is at = refl
all_are_exact a z (link ∷ more) are exact s j is at =
    exact_joined link.source link.target link.target z link.maps (all_joined more) are.1 (same_itself link.target) (all_are link.target z more are.3)
    (are.2 (both_first link.exact (all_exact more) exact)) (all_are_exact link.target z more are.3 (both_second link.exact (all_exact more) exact))
    s j (record { is_state = within_of a.state link.source.state s (are.0).state is.is_state; inv = is.inv }) at

-- ---- refuted base queries

pub no_early : (m : Machine) (n : ℕ) → ((j : ℕ) → 1 ≤ j → j ≤ n → MeetsBase m j → ⊥) → (params : Values) (inputs : List Values)
    → AreParams m params → AllByRecursion (IsInput m) inputs → length inputs ≤ n → FailsAtLast m (m.start params) inputs → ⊥
no_early m n none params inputs are all few f = none (length inputs) (some_scan m (m.start params) inputs f) few (record {
  params = params;
  inputs = inputs;
  are_params = are;
  are_inputs = all;
  count = refl;
  fails = f;
})
