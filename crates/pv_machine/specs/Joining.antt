-- That one reduction after another is a reduction, and exact where both are: what `Then` cites, which may cite no proofs.
--
-- It goes law by law of the two reductions, with the machines between them exchanged by what makes them the same.
use Rattle.std.specs.Prelude.{◌≡◌, Bool, true, false, List, refl}
use Rattle.std.proofs.Common.{sym, subst, ◌∙◌, ap}
use Rattle.pv_place.specs.declared.place.Place.{Place}
use Rattle.pv_place.specs.declared.trap.TrapKind.{TrapKind}
use Rattle.pv_place.specs.Ranges.{Range, AreWithin}
use Rattle.pv_machine.specs.Machines.{Machine, Values, Step, done, trap, over, IsState, IsInput, AreParams}
use Rattle.pv_machine.specs.Same.{IsSame}
use Rattle.pv_machine.specs.Reductions.{Maps, IsMeant, StepsTo, IsStart, IsReduction, IsExact, both, joined}

-- ---- ranges, and the same machines exchanged

pub within_of : (r q : List Range) (values : Values) → r ≡ q → AreWithin r values → AreWithin q values
within_of r q values e are = subst (λ (x : List Range). AreWithin x values) e are

pub same_back : (m n : Machine) → IsSame m n → IsSame n m
same_back m n same = record {
  state = sym same.state;
  input = sym same.input;
  params = sym same.params;
  start = λ p are. sym (same.start p (within_of n.params m.params p (sym same.params) are));
  step = λ s i is at. sym (same.step s i (within_of n.state m.state s (sym same.state) is) (within_of n.input m.input i (sym same.input) at));
  fails = λ s i is at. sym (same.fails s i (within_of n.state m.state s (sym same.state) is) (within_of n.input m.input i (sym same.input) at));
}

abbrev IsFalse : Bool → Type 0
IsFalse true = ⊥
IsFalse false = Unit {0}

false_not_true : false ≡ true → ⊥
false_not_true e = subst IsFalse e tt

-- ---- one reduction after another

pub both_first : (x y : Bool) → both x y ≡ true → x ≡ true
both_first true y e = refl
both_first false y e = absurd (false_not_true e)

pub both_second : (x y : Bool) → both x y ≡ true → y ≡ true
both_second true y e = e
both_second false y e = absurd (cc e)

pub both_are : (x y : Bool) → x ≡ true → y ≡ true → both x y ≡ true
both_are true y e f = f
both_are false y e f = absurd (false_not_true e)

pub start_over : (b c : Machine) (s : Values) → IsSame b c → IsStart b s → IsStart c s
start_over b c s same start = record {
  params = start.params;
  are_params = within_of b.params c.params start.params same.params start.are_params;
  is = start.is ∙ same.start start.params start.are_params;
}

-- a machine's steps in the place of another's that is the same
pub steps_over : (r : Maps) (first one two : Step) → one ≡ two → StepsTo r first one → StepsTo r first two
steps_over r first one two e to = subst (λ (x : Step). StepsTo r first x) e to

module _ (a b c d : Machine) (f g : Maps) (one : IsReduction a b f) (same : IsSame b c) (two : IsReduction c d g) where
  first_meant : (s : Values) → IsMeant a (joined f g) s → IsMeant a f s
  first_meant s is = record { is_state = is.is_state; inv = both_first (f.inv s) (g.inv (f.abs s)) is.inv }

  -- what it stands for between the two, as a state of the second reduction's machine
  between : (s : Values) → IsMeant a (joined f g) s → IsMeant c g (f.abs s)
  between s is = record {
    is_state = within_of b.state c.state (f.abs s) same.state (one.states s (first_meant s is));
    inv = both_second (f.inv s) (g.inv (f.abs s)) is.inv;
  }

  between_input : (s i : Values) → IsMeant a (joined f g) s → IsInput a i → IsInput c (f.push s i)
  between_input s i is at = within_of b.input c.input (f.push s i) same.input (one.inputs s i (first_meant s is) at)

  start_between : (p : Values) → AreParams a p → IsStart c (f.abs (a.start p))
  start_between p are = start_over b c (f.abs (a.start p)) same (one.to_starts p are)

  -- a start of the machine between the two is meant by the second
  start_meant : (s : Values) → IsStart c s → g.inv s ≡ true
  start_meant s start = ap g.inv start.is ∙ two.starts start.params start.are_params

  start_stands : (s : Values) → IsStart c s → IsStart d (g.abs s)
  start_stands s start = subst (λ (x : Values). IsStart d (g.abs x)) (sym start.is) (two.to_starts start.params start.are_params)

  -- the steps of both, where the first one's step ends so
  joined_steps : (first middle last : Step) → StepsTo f first middle → ((t : Values) → middle ≡ done t → StepsTo g (done t) last)
      → ((kind : TrapKind) (place : Place) → middle ≡ trap kind place → StepsTo g (trap kind place) last)
      → ((place : Place) → middle ≡ over place → StepsTo g (over place) last) → StepsTo (joined f g) first last
  joined_steps (done s) middle last to by_done by_trap by_over =
      let next = by_done (f.abs s) to.0 in (next.0, both_are (f.inv s) (g.inv (f.abs s)) to.1 next.1)
  joined_steps (trap kind place) middle last to by_done by_trap by_over = by_trap kind place to
  joined_steps (over place) middle last to by_done by_trap by_over = by_over place to

  steps_joined : (s i : Values) → IsMeant a (joined f g) s → IsInput a i
      → StepsTo (joined f g) (a.step s i) (d.step (g.abs (f.abs s)) (g.push (f.abs s) (f.push s i)))
  steps_joined s i is at =
      let last : Step = d.step (g.abs (f.abs s)) (g.push (f.abs s) (f.push s i)) in
      let first : StepsTo f (a.step s i) (b.step (f.abs s) (f.push s i)) = one.steps s i (first_meant s is) at in
      let middle : b.step (f.abs s) (f.push s i) ≡ c.step (f.abs s) (f.push s i) =
      same.step (f.abs s) (f.push s i) (one.states s (first_meant s is)) (one.inputs s i (first_meant s is) at) in
      let second : StepsTo g (c.step (f.abs s) (f.push s i)) last = two.steps (f.abs s) (f.push s i) (between s is) (between_input s i is at) in
      joined_steps (a.step s i) (c.step (f.abs s) (f.push s i)) last
      (steps_over f (a.step s i) (b.step (f.abs s) (f.push s i)) (c.step (f.abs s) (f.push s i)) middle first)
      (λ t e. subst (λ (x : Step). StepsTo g x last) e second)
      (λ kind place e. subst (λ (x : Step). StepsTo g x last) e second)
      (λ place e. subst (λ (x : Step). StepsTo g x last) e second)

  embeds_between : (t : Values) → IsState d t → IsState b (g.embed t)
  embeds_between t is = within_of c.state b.state (g.embed t) (sym same.state) ((two.embeds t is).is_state)

  embeds_joined : (t : Values) → IsState d t → IsMeant a (joined f g) (f.embed (g.embed t))
  embeds_joined t is =
      let in_first : IsMeant a f (f.embed (g.embed t)) = one.embeds (g.embed t) (embeds_between t is) in
      let back : f.abs (f.embed (g.embed t)) ≡ g.embed t = one.embeds_back (g.embed t) (embeds_between t is) in
      record {
        is_state = in_first.is_state;
        inv = both_are (f.inv (f.embed (g.embed t))) (g.inv (f.abs (f.embed (g.embed t)))) in_first.inv (ap g.inv back ∙ (two.embeds t is).inv);
      }

  pub two_joined : IsReduction a d (joined f g)
  two_joined = record {
    starts = λ p are. both_are (f.inv (a.start p)) (g.inv (f.abs (a.start p))) (one.starts p are) (start_meant (f.abs (a.start p)) (start_between p are));
    to_starts = λ p are. start_stands (f.abs (a.start p)) (start_between p are);
    of_starts = λ t start. one.of_starts (g.embed t) (start_over c b (g.embed t) (same_back b c same) (two.of_starts t start));
    states = λ s is. two.states (f.abs s) (between s is);
    inputs = λ s i is at. two.inputs (f.abs s) (f.push s i) (between s is) (between_input s i is at);
    steps = steps_joined;
    fails = λ s i is at. one.fails s i (first_meant s is) at
        ∙ (same.fails (f.abs s) (f.push s i) (one.states s (first_meant s is)) (one.inputs s i (first_meant s is) at)
        ∙ two.fails (f.abs s) (f.push s i) (between s is) (between_input s i is at));
    embeds = embeds_joined;
    embeds_back = λ t is. ap g.abs (one.embeds_back (g.embed t) (embeds_between t is)) ∙ two.embeds_back t is;
    pulls = λ j at. one.pulls (g.pull j) (within_of c.input b.input (g.pull j) (sym same.input) (two.pulls j at));
  }

  pub exact_joined : IsExact a b f → IsExact c d g → IsExact a d (joined f g)
  exact_joined by_first by_second s j is at =
      ap (λ (x : Values). g.push (f.abs s) x) (by_first s (g.pull j) (first_meant s is) (within_of c.input b.input (g.pull j) (sym same.input) (two.pulls j at)))
      ∙ by_second (f.abs s) j (between s is) at

pub then_replays : (a b c d : Machine) (f g : Maps) (x y : Bool) → IsReduction a b f → IsSame b c → IsReduction c d g
    → (x ≡ true → IsExact a b f) → (y ≡ true → IsExact c d g) → both x y ≡ true → IsExact a d (joined f g)
then_replays a b c d f g x y one same two by_first by_second e =
    exact_joined a b c d f g one same two (by_first (both_first x y e)) (by_second (both_second x y e))
