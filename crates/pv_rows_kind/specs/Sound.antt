-- That the oracle of the tests keeps its laws.
use Rattle.std.proofs.Common.{◌≡◌, ℕ, zero, suc, ◌+◌, ◌-◌, ◌<◌, ◌≤◌, Bool, true, false, cond, List, [], ◌∷◌, length, refl, sym, ap, subst, ◌∙◌, arith, pos}
use Rattle.std.specs.Prelude.{nat_eq, nat_lt}
use Rattle.std.specs.List.{AllByRecursion}
use Rattle.std.proofs.lemmas.Bool.{ne_eqb, eqb-true, eq-eqb, lt-ltb, ltb-true}
use Rattle.pv_cnf.specs.Clause.{Holds}
use Rattle.pv_machine.specs.Machines.{Machine, Values, IsInput}
use Rattle.pv_machine.specs.Queries.{MeetsBase, MeetsStep, MeetsReachableStep, FailsAtLast}
use Rattle.pv_machine.proofs.ForCallers.{step_of_reachable}
use Rattle.pv_cert.specs.declared.proof.Query.{Query}
use Rattle.pv_cert.specs.declared.proof.Query.TheVariants as query
use Rattle.pv_cert.specs.declared.proof.Chain.{Chain}
use Rattle.pv_kind.specs.Oracles.{IsAsked, IsSound, IsRefuted, Meets}
use Rattle.pv_rows_kind.specs.Countdowns.{counting, number_of, is_met, left_by, number_within, state_at, counting_is_lawful}
use Rattle.pv_rows_kind.specs.Toys.{Setting, number_in, clauses_of, encoding_of}

-- no inputs, so many times
abbrev pub scans : ℕ → List Values
scans zero = []
scans (suc n) = [] ∷ scans n

module _ (start most : ℕ) where
  count : (n : ℕ) → length (scans n) ≡ n
  count zero = refl
  count (suc n) = ap suc (count n)

  are : (n : ℕ) → AllByRecursion (IsInput (counting start most)) (scans n)
  are zero = tt
  are (suc n) = (tt, are n)

  -- where it fails at the last of some scans, it counts them down
  counted : (s : Values) (inputs : List Values) → FailsAtLast (counting start most) s inputs → number_of s ≡ length inputs
  counted s [] fails = absurd fails
  counted s (i ∷ []) fails = eqb-true (number_of s) 1 fails
  counted s (i ∷ j ∷ inputs) fails =
      let left : number_of s - 1 ≡ number_of fails.0 = ap (λ x. number_of (left_by x)) fails.1.done in
      let rest : number_of fails.0 ≡ length (j ∷ inputs) = counted fails.0 (j ∷ inputs) fails.2 in
      omega (arith, left, rest)

  -- it fails at the last of as many scans as its number is
  falls : (n : ℕ) (s : Values) → number_of s ≡ suc n → FailsAtLast (counting start most) s (scans (suc n))
  falls zero s is = subst (λ (k : ℕ). nat_eq k 1 ≡ true) (sym is) refl
  falls (suc n) s is = (
    pos (number_of s - 1) ∷ [],
    record { done = refl; keeps = ne_eqb (number_of s) 1 (λ e. absurd (omega (arith, is, e))) },
    falls n (pos (number_of s - 1) ∷ []) (omega (arith, is)),
  )

  met : (q : Query) → start ≤ most → IsAsked q → is_met start most q ≡ true → Meets (counting start most) q
  met (query.Base zero) le asked is = absurd (omega (arith, asked.0))
  met (query.Base (suc k)) le asked is = record {
    params = [];
    inputs = scans (suc k);
    are_params = tt;
    are_inputs = are (suc k);
    count = count (suc k);
    fails = falls k (pos start ∷ []) (sym (eqb-true (suc k) start is));
  }
  met (query.Step k) le asked is = record {
    state = pos (suc k) ∷ [];
    inputs = scans (suc k);
    is_state = (let lt = ltb-true k most is in state_at (suc k) most (omega arith));
    are_inputs = are (suc k);
    count = (let n = count (suc k) in omega arith);
    fails = falls k (pos (suc k) ∷ []) refl;
  }

  met_base : (k : ℕ) → MeetsBase (counting start most) k → is_met start most (query.Base k) ≡ true
  met_base k b = (let n = counted (pos start ∷ []) b.inputs b.fails in let c = b.count in eq-eqb k start (omega arith))

  met_step : (k : ℕ) → MeetsStep (counting start most) k → is_met start most (query.Step k) ≡ true
  met_step k b =
      let n = counted b.state b.inputs b.fails in
      let fits = number_within start most b.state b.is_state in
      let c = b.count in
      lt-ltb k most (omega arith)

-- a query that is met has no clauses, and those can be made to hold
held : (s : Setting) (q : Query) → is_met s.machine.start s.machine.most q ≡ true → IsRefuted (clauses_of s q) → ⊥
held s q is refuted =
    let none : clauses_of s q ≡ [] =
    ap (λ (b : Bool). cond b [] (cond (nat_lt (number_in q) s.hard_from) s.easy.clauses s.hard.clauses)) is in
    refuted (λ v. true) (subst (λ (c : List (List ℕ)). Holds (λ v. true) c) (sym none) refl)

pub sound_of : (s : Setting) (chain : Chain) (ready : Query → Type 0) → s.machine.start ≤ s.machine.most
    → IsSound (counting s.machine.start s.machine.most) (encoding_of s) chain ready
sound_of s chain ready le = record {
  shown = λ q trace shows. met s.machine.start s.machine.most q le shows.0 shows.1;
  base = λ k asked is refuted b. held s (query.Base k) (met_base s.machine.start s.machine.most k b) refuted;
  step = λ k asked is refuted b. held s (query.Step k) (met_step s.machine.start s.machine.most k
      (step_of_reachable (counting s.machine.start s.machine.most) k (counting_is_lawful s.machine.start s.machine.most le) b)) refuted;
}
