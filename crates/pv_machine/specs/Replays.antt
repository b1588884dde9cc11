-- What runs of a reduction's second machine say of its first.
use Rattle.std.specs.Prelude.{◌≡◌, List, [], ◌∷◌, map}
use Rattle.std.specs.List.{AllByRecursion}
use Rattle.pv_machine.specs.Machines.{Machine, Values, done, IsInput, AreParams}
use Rattle.pv_machine.specs.Queries.{FailsAtLast}
use Rattle.pv_machine.specs.Reductions.{Maps, StepsTo}

-- scan by scan: from s by the pulled inputs the first machine's scans end as the second one's do from the state that s stands for, and
-- the same of them fail, up to the first that isn't done
abbrev pub ReplaysAs : Machine → Machine → Maps → Values → List Values → Type 0
ReplaysAs a b r s [] = Unit {0}
ReplaysAs a b r s (j ∷ inputs) = StepsTo r (a.step s (r.pull j)) (b.step (r.abs s) j)
    × (a.fails s (r.pull j) ≡ b.fails (r.abs s) j)
    × ((u : Values) → a.step s (r.pull j) ≡ done u → ReplaysAs a b r u inputs)

-- a run of the second machine that meets base is one of the first: by parameters from which it starts where the second one's start
-- lies in it, and by the pulled inputs
pub record BaseReplays (a b : Machine) (r : Maps) (params : Values) (inputs : List Values) : Type 0 where
  pub first_params : Values
  pub are_params : AreParams a first_params
  pub starts : r.embed (b.start params) ≡ a.start first_params
  pub are_inputs : AllByRecursion (IsInput a) (map r.pull inputs)
  pub fails : FailsAtLast a (a.start first_params) (map r.pull inputs)
