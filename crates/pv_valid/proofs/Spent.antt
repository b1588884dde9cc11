-- The same of proofs for which a limit was spent: base queries from 1 on, and the one that is named.
use Rattle.std.proofs.Common.{◌≡◌, ℕ, zero, suc, ◌+◌, ◌<◌, ◌≤◌, Bool, true, eqb, List, [], ◌∷◌, ◌++◌, map, length, refl, ap, sym, subst, ◌∙◌, Option, None, arith}
use Rattle.std.specs.Prelude.{◌&&◌, nat_le}
use Rattle.std.proofs.lemmas.Bool.{and_parts, and_from, eqb-true, eq-eqb, leb-true, le-leb}
use Rattle.pv_cnf.specs.Clause.{Cnf}
use Rattle.pv_log.specs.declared.line.Line as line
use Rattle.pv_solver.specs.Lemmas.{AreLemmas}
use Rattle.pv_cert.specs.declared.proof.Query.{Query}
use Rattle.pv_cert.specs.declared.proof.Query.TheVariants.{Base, Step}
use Rattle.pv_cert.specs.declared.proof.Proof.{Proof}
use Rattle.pv_kind.specs.Decisions.{bases, bases_before, IsWithin}
use Rattle.pv_valid.specs.declared.fault.Fault.{Fault}
use Rattle.pv_valid.specs.Cases.{Case}
use Rattle.pv_valid.specs.Claims.{is_query}
use Rattle.pv_valid.specs.Validity.{AreProofs, AreSpent}
use Rattle.pv_valid.specs.Walk.{or_else, refuting_fault, proof_fault, behind_proof, is_named, spent_fault}
use Rattle.pv_valid.proofs.Logs.{both-none, none-both}
use Rattle.pv_valid.proofs.Proofs.{IsClear, clear-is, is-clear, refutes-is, is-refutes, query-is, own-query, same-head}

-- ---- base queries from a number on

-- so many, the first of which is base(n)
abbrev bases_from : ℕ → ℕ → List Query
bases_from n zero = []
bases_from n (suc k) = Base n ∷ bases_from (suc n) k

from-push : (n k : ℕ) → bases_from n (suc k) ≡ bases_from n k ++ Base (n + k) ∷ []
from-push n zero = (let is : n ≡ n + 0 = omega arith in ap (λ (i : ℕ). Base i ∷ []) is)
from-push n (suc k) =
    let is : suc n + k ≡ n + suc k = omega arith in
    ap (λ (l : List Query). Base n ∷ l) (from-push (suc n) k ∙ ap (λ (i : ℕ). bases_from (suc n) k ++ Base i ∷ []) is)

bases-are : (k : ℕ) → bases_from 1 k ≡ bases k
bases-are zero = refl
bases-are (suc k) =
    let is : 1 + k ≡ suc k = omega arith in
    from-push 1 k ∙ (ap (λ (i : ℕ). bases_from 1 k ++ Base i ∷ []) is ∙ ap (λ (l : List Query). l ++ Base (suc k) ∷ []) (bases-are k))

-- ---- the query that is named

named-is : (depth k : ℕ) (q : Query) → is_named depth (suc k) q ≡ true → (bases_before q ≡ k) × IsWithin depth q
named-is depth k (Base b) e =
    let parts = and_parts (eqb b (suc k)) (nat_le (suc k) depth) e in
    let is : b ≡ suc k = eqb-true b (suc k) parts.0 in
    let le : suc k ≤ depth = leb-true (suc k) depth parts.1 in
    (omega (arith, is), (omega (arith, is), omega (arith, is, le)))
named-is depth k (Step j) e =
    let parts = and_parts (eqb (suc j) (suc k)) (nat_le j depth) e in
    let is : suc j ≡ suc k = eqb-true (suc j) (suc k) parts.0 in
    (omega (arith, is), leb-true j depth parts.1)

is-named : (depth k : ℕ) (q : Query) → bases_before q ≡ k → IsWithin depth q → is_named depth (suc k) q ≡ true
is-named depth k (Base b) is within =
    let from = within.0 in
    let to = within.1 in
    and_from (eqb b (suc k)) (nat_le (suc k) depth) (eq-eqb b (suc k) (omega (arith, is, from)))
    (le-leb (suc k) depth (omega (arith, is, from, to)))
is-named depth k (Step j) is within =
    and_from (eqb (suc j) (suc k)) (nat_le j depth) (eq-eqb (suc j) (suc k) (ap suc is)) (le-leb j depth within)

-- the query that is named lies at most one past the depth's base queries
before-most : (depth : ℕ) (q : Query) → IsWithin depth q → bases_before q ≤ depth
before-most depth (Base b) within = (let to = within.1 in omega arith)
before-most depth (Step j) within = within

module _ (case : Case) (log_fault : Cnf → ℕ → List line.Line → Option Fault) where
  abbrev depth : ℕ
  depth = case.facts.depth

  abbrev is_earlier : ℕ → Proof → Bool
  is_earlier n p = is_query (Base n) p.query && nat_le n depth

  -- proofs from base(n) on of which nothing is wrong first
  pub record SpentFrom (n : ℕ) (proofs : List Proof) : Type 0 where
    pub count : ℕ
    pub front : List Proof
    pub named : Proof
    pub place : ℕ
    pub split : proofs ≡ front ++ named ∷ []
    pub earlier : AreProofs case (bases_from n count) front
    pub clear : IsClear case (is_named depth (n + count) named.query) log_fault place named

  spent-from : (proofs : List Proof) (n at : ℕ) → spent_fault case log_fault n at proofs ≡ None → SpentFrom n proofs
  spent-from [] n at e = absurd cc
  spent-from (p ∷ []) n at e =
      let is : n ≡ n + 0 = omega arith in
      record {
        count = 0;
        front = [];
        named = p;
        place = at;
        split = refl;
        earlier = record { in_order = refl; refute = tt };
        clear = subst (λ (m : ℕ). IsClear case (is_named depth m p.query) log_fault at p) is
            (clear-is case (is_named depth n p.query) log_fault at p e);
      }
  spent-from (p ∷ next ∷ proofs) n at e =
      let parts = both-none (proof_fault case (is_earlier n p) refuting_fault at p)
      (spent_fault case log_fault (suc n) (behind_proof at p) (next ∷ proofs)) e in
      let clear = clear-is case (is_earlier n p) refuting_fault at p parts.0 in
      let query = (and_parts (is_query (Base n) p.query) (nat_le n depth) clear.query).0 in
      let rest = spent-from (next ∷ proofs) (suc n) (behind_proof at p) parts.1 in
      let is : suc n + rest.count ≡ n + suc rest.count = omega arith in
      record {
        count = suc rest.count;
        front = p ∷ rest.front;
        named = rest.named;
        place = rest.place;
        split = ap (λ (l : List Proof). p ∷ l) rest.split;
        earlier = record {
          in_order = ap (λ (x : Query). x ∷ map (λ (p : Proof). p.query) rest.front) (sym (query-is (Base n) p.query query))
              ∙ ap (λ (l : List Query). Base n ∷ l) rest.earlier.in_order;
          refute = (refutes-is case (is_earlier n p) at p clear, rest.earlier.refute);
        };
        clear = subst (λ (m : ℕ). IsClear case (is_named depth m rest.named.query) log_fault rest.place rest.named) is rest.clear;
      }

  some-there : (front : List Proof) (p : Proof) → 0 < length (front ++ p ∷ [])
  some-there [] p = omega arith
  some-there (q ∷ front) p = omega arith

  goes-on : (p : Proof) (rest : List Proof) (n at : ℕ) → 0 < length rest
      → spent_fault case log_fault n at (p ∷ rest)
      ≡ or_else (proof_fault case (is_earlier n p) refuting_fault at p) (spent_fault case log_fault (suc n) (behind_proof at p) rest)
  goes-on p [] n at some = absurd (omega arith)
  goes-on p (next ∷ rest) n at some = refl

  from-spent : (front : List Proof) (named : Proof) (n k at : ℕ) → AreProofs case (bases_from n k) front → n + k ≤ suc depth
      → ((place : ℕ) → IsClear case (is_named depth (n + k) named.query) log_fault place named)
      → spent_fault case log_fault n at (front ++ named ∷ []) ≡ None
  from-spent [] named n zero at are most clear =
      let is : n + 0 ≡ n = omega arith in
      is-clear case (is_named depth n named.query) log_fault at named
      (subst (λ (m : ℕ). IsClear case (is_named depth m named.query) log_fault at named) is (clear at))
  from-spent [] named n (suc k) at are most clear = (let e = are.in_order in absurd cc)
  from-spent (p ∷ front) named n zero at are most clear = (let e = are.in_order in absurd cc)
  from-spent (p ∷ front) named n (suc k) at are most clear =
      let same = same-head case (Base n) p.query (bases_from (suc n) k) (map (λ (p : Proof). p.query) front) are.in_order in
      let is : n + suc k ≡ suc n + k = omega arith in
      let asked : is_earlier n p ≡ true = and_from (is_query (Base n) p.query) (nat_le n depth)
      (ap (λ (x : Query). is_query x p.query) same.0 ∙ own-query p.query) (le-leb n depth (omega (arith, most))) in
      goes-on p (front ++ named ∷ []) n at (some-there front named)
      ∙ none-both (proof_fault case (is_earlier n p) refuting_fault at p)
      (spent_fault case log_fault (suc n) (behind_proof at p) (front ++ named ∷ []))
      (is-clear case (is_earlier n p) refuting_fault at p (is-refutes case (is_earlier n p) at p asked are.refute.0))
      (from-spent front named (suc n) k (behind_proof at p) (record { in_order = same.1; refute = are.refute.1 }) (omega (arith, most))
      (λ place. subst (λ (m : ℕ). IsClear case (is_named depth m named.query) log_fault place named) is (clear place)))

  -- ---- a log that says what its task asks

  module _ (Says : Cnf → List line.Line → Type 0) where
    pub are-spent : ((f : Cnf) (at : ℕ) (log : List line.Line) → log_fault f at log ≡ None → AreLemmas f.variables f.clauses log × Says f log)
        → (proofs : List Proof) (at : ℕ) → spent_fault case log_fault 1 at proofs ≡ None → AreSpent case Says proofs
    are-spent reads proofs at e =
        let from = spent-from proofs 1 at e in
        let clear = from.clear in
        let next : 1 + from.count ≡ suc from.count = omega arith in
        let named = named-is depth from.count from.named.query
        (subst (λ (m : ℕ). is_named depth m from.named.query ≡ true) next clear.query) in
        let log = reads (case.formula from.named.query) (suc (suc from.place)) from.named.log clear.log in
        record {
          front = from.front;
          named = from.named;
          split = from.split;
          earlier = subst (λ (l : List Query). AreProofs case l from.front) (bases-are from.count ∙ ap bases (sym named.0)) from.earlier;
          spends = record { within = named.1; chain = clear.chain; fits = clear.fits; lemmas = log.0; says = log.1 };
        }

    pub spent-are : ((f : Cnf) (at : ℕ) (log : List line.Line) → AreLemmas f.variables f.clauses log → Says f log → log_fault f at log ≡ None)
        → (proofs : List Proof) (at : ℕ) → AreSpent case Says proofs → spent_fault case log_fault 1 at proofs ≡ None
    spent-are tells proofs at are =
        let q = are.named.query in
        let k = bases_before q in
        let s = are.spends in
        let most = before-most depth q s.within in
        let next : suc k ≡ 1 + k = omega arith in
        let earlier = subst (λ (l : List Query). AreProofs case l are.front) (sym (bases-are k)) are.earlier in
        subst (λ (l : List Proof). spent_fault case log_fault 1 at l ≡ None) (sym are.split)
        (from-spent are.front are.named 1 k at earlier (omega (arith, most)) (λ place. record {
          query = subst (λ (m : ℕ). is_named depth m q ≡ true) next (is-named depth k q refl s.within);
          chain = s.chain;
          fits = s.fits;
          log = tells (case.formula q) (suc (suc place)) are.named.log s.lemmas s.says;
        }))
