-- Lists of which each element is so, with one more at the end; and the base queries.
use Rattle.std.proofs.Common.{ℕ, zero, suc, ◌≤◌, List, [], ◌∷◌, ◌++◌, length, arith}
use Rattle.std.specs.List.{AllByRecursion}
use Rattle.pv_machine.specs.Machines.{Machine, Values}
use Rattle.pv_machine.specs.Queries.{MeetsBase, FailsAtLast}
use Rattle.pv_cert.specs.declared.proof.Query.TheVariants.{Base}
use Rattle.pv_kind.specs.declared.told.TheConstants.{LAST_QUERY}
use Rattle.pv_kind.specs.Oracles.{IsAsked}
use Rattle.pv_kind.specs.Decisions.{bases}

pub all-push : {X : Type 0} (P : X → Type 0) (xs : List X) (x : X) → AllByRecursion P xs → P x → AllByRecursion P (xs ++ x ∷ [])
all-push P [] x all is = (is, tt)
all-push P (y ∷ xs) x all is = (all.0, all-push P xs x all.1 is)

pub all-parts : {X : Type 0} (P : X → Type 0) (xs : List X) (x : X) → AllByRecursion P (xs ++ x ∷ []) → AllByRecursion P xs × P x
all-parts P [] x all = (tt, all.0)
all-parts P (y ∷ xs) x all = (let rest = all-parts P xs x all.1 in ((all.0, rest.0), rest.1))

-- base queries up to the last are asked
pub bases-asked : (n : ℕ) → n ≤ LAST_QUERY → AllByRecursion IsAsked (bases n)
bases-asked zero le = tt
bases-asked (suc n) le = all-push IsAsked (bases n) (Base (suc n)) (bases-asked n (omega (arith, le))) (omega arith, le)

-- some scan fails
pub some-scan : (m : Machine) (s : Values) (inputs : List Values) → FailsAtLast m s inputs → 1 ≤ length inputs
some-scan m s [] fails = absurd fails
some-scan m s (i ∷ inputs) fails = omega arith

pub from-one : (m : Machine) (n : ℕ) → MeetsBase m n → 1 ≤ n
from-one m n met = (let count = met.count in omega (arith, count, some-scan m (m.start met.params) met.inputs met.fails))
