-- Reductions: maps from a machine to a smaller one by which each run of the first is a run of the second, and by an exact one also
-- each run of the second is a run of the first.
use Rattle.std.specs.Prelude.{◌≡◌, Bool, true, false, List, [], ◌∷◌}
use Rattle.pv_machine.specs.Machines.{Machine, Values, Step, done, trap, over, IsState, IsInput, AreParams}
use Rattle.pv_machine.specs.Same.{IsSame}

-- which states of the first machine are meant, where they and their inputs lie in the second, and where inputs and states of the
-- second lie in the first
pub record Maps : Type 0 where
  pub inv : Values → Bool
  pub abs : Values → Values
  pub push : Values → Values → Values
  pub pull : Values → Values
  pub embed : Values → Values

-- a state of the first machine that is meant
pub record IsMeant (a : Machine) (r : Maps) (s : Values) : Type 0 where
  pub is_state : IsState a s
  pub inv : r.inv s ≡ true

-- how the second machine's step ends where the first one's ends so: done at the state that stands for the first one's, which is
-- meant, or by the same trap, or over at the same place
abbrev pub StepsTo : Maps → Step → Step → Type 0
StepsTo r (done s) other = (other ≡ done (r.abs s)) × (r.inv s ≡ true)
StepsTo r (trap kind place) other = other ≡ trap kind place
StepsTo r (over place) other = other ≡ over place

-- a start of the machine
pub record IsStart (m : Machine) (s : Values) : Type 0 where
  pub params : Values
  pub are_params : AreParams m params
  pub is : s ≡ m.start params

pub record IsReduction (a b : Machine) (r : Maps) : Type 0 where
  -- starts are meant, and stand for starts
  pub starts : (p : Values) → AreParams a p → r.inv (a.start p) ≡ true
  pub to_starts : (p : Values) → AreParams a p → IsStart b (r.abs (a.start p))
  pub of_starts : (t : Values) → IsStart b t → IsStart a (r.embed t)
  -- states that are meant stand for states, and their inputs for inputs
  pub states : (s : Values) → IsMeant a r s → IsState b (r.abs s)
  pub inputs : (s i : Values) → IsMeant a r s → IsInput a i → IsInput b (r.push s i)
  -- steps end alike, and the same of them fail
  pub steps : (s i : Values) → IsMeant a r s → IsInput a i → StepsTo r (a.step s i) (b.step (r.abs s) (r.push s i))
  pub fails : (s i : Values) → IsMeant a r s → IsInput a i → a.fails s i ≡ b.fails (r.abs s) (r.push s i)
  -- each state of the second machine has one of the first, and each input too
  pub embeds : (t : Values) → IsState b t → IsMeant a r (r.embed t)
  pub embeds_back : (t : Values) → IsState b t → r.abs (r.embed t) ≡ t
  pub pulls : (j : Values) → IsInput b j → IsInput a (r.pull j)

-- inputs of the second machine are those for which their inputs of the first stand
abbrev pub IsExact : Machine → Machine → Maps → Type 0
IsExact a b r = (s j : Values) → IsMeant a r s → IsInput b j → r.push s (r.pull j) ≡ j

-- ---- what reductions are joined to

abbrev pub both : Bool → Bool → Bool
both true x = x
both false x = false

-- first one reduction, then another
abbrev pub joined : Maps → Maps → Maps
joined f g = record {
  inv = λ s. both (f.inv s) (g.inv (f.abs s));
  abs = λ s. g.abs (f.abs s);
  push = λ s i. g.push (f.abs s) (f.push s i);
  pull = λ j. f.pull (g.pull j);
  embed = λ t. f.embed (g.embed t);
}

-- the reduction that changes nothing
abbrev pub unchanged : Maps
unchanged = record { inv = λ s. true; abs = λ s. s; push = λ s i. i; pull = λ j. j; embed = λ t. t }

-- a reduction with its two machines, and whether it is exact
pub record Link : Type 0 where
  pub source : Machine
  pub target : Machine
  pub maps : Maps
  pub exact : Bool

-- each is a reduction, is exact where it says so, and goes on where the one before ends
abbrev pub AreJoined : Machine → List Link → Machine → Type 0
AreJoined a [] z = IsSame a z
AreJoined a (link ∷ more) z = IsSame a link.source × IsReduction link.source link.target link.maps
    × (link.exact ≡ true → IsExact link.source link.target link.maps) × AreJoined link.target more z

abbrev pub all_joined : List Link → Maps
all_joined [] = unchanged
all_joined (link ∷ more) = joined link.maps (all_joined more)

abbrev pub all_exact : List Link → Bool
all_exact [] = true
all_exact (link ∷ more) = both link.exact (all_exact more)
