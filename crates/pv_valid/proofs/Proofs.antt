-- Nothing is wrong first with proofs exactly where they are those that belong to the claim. Base queries from a number on are a recursion
-- (`bases_from`), which is what the walk goes by.
use Rattle.std.proofs.Common.{◌≡◌, ℕ, suc, Bool, true, false, not, eqb, List, [], ◌∷◌, map, length, refl, ap, sym, ◌∙◌, Option, None, arith}
use Rattle.std.specs.Prelude.{◌&&◌}
use Rattle.std.proofs.lemmas.Bool.{and_parts, eqb-true, eq-eqb}
use Rattle.pv_cnf.specs.Clause.{Cnf}
use Rattle.pv_log.specs.declared.line.Line as line
use Rattle.pv_cert.specs.declared.proof.Query.{Query}
use Rattle.pv_cert.specs.declared.proof.Query.TheVariants.{Base, Step}
use Rattle.pv_cert.specs.declared.proof.Chain.{Chain}
use Rattle.pv_cert.specs.declared.proof.Proof.{Proof}
use Rattle.pv_cert.specs.CertificateText.{no_reduction}
use Rattle.pv_valid.specs.declared.fault.Kind.TheVariants as kind
use Rattle.pv_valid.specs.declared.fault.Fault.{Fault}
use Rattle.pv_valid.specs.Cases.{Case}
use Rattle.pv_valid.specs.Claims.{is_query}
use Rattle.pv_valid.specs.Validity.{Refutes, AreProofs}
use Rattle.pv_valid.specs.Walk.{or_else, unless, refuting_fault, is_plain, gates_fault, proof_fault, behind_proof, proofs_fault}
use Rattle.pv_valid.proofs.Logs.{both-none, none-both, is-so, so-is, refuting-accepted, accepted-refuting}

-- ---- a proof

pub query-is : (q p : Query) → is_query q p ≡ true → q ≡ p
query-is (Base n) (Base m) e = ap (λ (k : ℕ). Base k) (eqb-true n m e)
query-is (Base n) (Step k) e = absurd cc
query-is (Step j) (Base m) e = absurd cc
query-is (Step j) (Step k) e = ap (λ (i : ℕ). Step i) (eqb-true j k e)

pub own-query : (q : Query) → is_query q q ≡ true
own-query (Base n) = eq-eqb n n refl
own-query (Step k) = eq-eqb k k refl

plain-parts : (constants : Bool) (havoc : List ℕ) (cone : Bool) → (not constants && (eqb (length havoc) 0 && not cone)) ≡ true
    → ◌≡◌ {A = Chain} (record { constants = constants; havoc = havoc; cone = cone }) no_reduction
plain-parts false [] false e = refl
plain-parts false [] true e = absurd cc
plain-parts false (cell ∷ cells) cone e =
    let parts = and_parts (eqb (length (cell ∷ cells)) 0) (not cone) e in
    let none = eqb-true (length (cell ∷ cells)) 0 parts.0 in
    absurd (omega (arith, none))
plain-parts true havoc cone e = absurd cc

plain-is : (chain : Chain) → is_plain chain ≡ true → chain ≡ no_reduction
plain-is chain e = plain-parts chain.constants chain.havoc chain.cone e

gates-none : (b : Bool) → gates_fault b ≡ None → b ≡ false
gates-none true e = absurd cc
gates-none false e = refl

-- what a proof says of which nothing is wrong first
pub record IsClear (case : Case) (is_expected : Bool) (log_fault : Cnf → ℕ → List line.Line → Option Fault) (at : ℕ) (p : Proof) : Type 0 where
  pub query : is_expected ≡ true
  pub chain : p.chain ≡ no_reduction
  pub fits : case.passes ≡ false
  pub log : log_fault (case.formula p.query) (suc (suc at)) p.log ≡ None

module _ (case : Case) (is_expected : Bool) (log_fault : Cnf → ℕ → List line.Line → Option Fault) (at : ℕ) (p : Proof) where
  abbrev query_part : Option Fault
  query_part = unless is_expected at kind.WrongQuery

  abbrev chain_part : Option Fault
  chain_part = unless (is_plain p.chain) (suc at) kind.WrongQuery

  abbrev log_part : Option Fault
  log_part = log_fault (case.formula p.query) (suc (suc at)) p.log

  pub clear-is : proof_fault case is_expected log_fault at p ≡ None → IsClear case is_expected log_fault at p
  clear-is e =
      let first = both-none query_part (or_else chain_part (or_else (gates_fault case.passes) log_part)) e in
      let second = both-none chain_part (or_else (gates_fault case.passes) log_part) first.1 in
      let third = both-none (gates_fault case.passes) log_part second.1 in
      record {
        query = is-so is_expected at kind.WrongQuery first.0;
        chain = plain-is p.chain (is-so (is_plain p.chain) (suc at) kind.WrongQuery second.0);
        fits = gates-none case.passes third.0;
        log = third.1;
      }

  pub is-clear : IsClear case is_expected log_fault at p → proof_fault case is_expected log_fault at p ≡ None
  is-clear c = none-both query_part (or_else chain_part (or_else (gates_fault case.passes) log_part))
      (so-is is_expected at kind.WrongQuery c.query)
      (none-both chain_part (or_else (gates_fault case.passes) log_part)
      (so-is (is_plain p.chain) (suc at) kind.WrongQuery (ap is_plain c.chain))
      (none-both (gates_fault case.passes) log_part (ap gates_fault c.fits) c.log))

-- ---- proofs of expected queries

pub refutes-is : (case : Case) (b : Bool) (at : ℕ) (p : Proof) → IsClear case b refuting_fault at p → Refutes case p
refutes-is case b at p c = record {
  chain = c.chain;
  fits = c.fits;
  log = refuting-accepted (case.formula p.query) (suc (suc at)) p.log c.log;
}

pub is-refutes : (case : Case) (b : Bool) (at : ℕ) (p : Proof) → b ≡ true → Refutes case p → IsClear case b refuting_fault at p
is-refutes case b at p e r = record {
  query = e;
  chain = r.chain;
  fits = r.fits;
  log = accepted-refuting (case.formula p.query) (suc (suc at)) p.log r.log;
}

module _ (case : Case) where
  pub proofs-are : (queries : List Query) (at : ℕ) (proofs : List Proof) → proofs_fault case queries at proofs ≡ None → AreProofs case queries proofs
  proofs-are [] at [] e = record { in_order = refl; refute = tt }
  proofs-are [] at (p ∷ proofs) e = absurd cc
  proofs-are (q ∷ queries) at [] e = absurd cc
  proofs-are (q ∷ queries) at (p ∷ proofs) e =
      let parts = both-none (proof_fault case (is_query q p.query) refuting_fault at p) (proofs_fault case queries (behind_proof at p) proofs) e in
      let clear = clear-is case (is_query q p.query) refuting_fault at p parts.0 in
      let rest = proofs-are queries (behind_proof at p) proofs parts.1 in
      record {
        in_order = ap (λ (x : Query). x ∷ map (λ (p : Proof). p.query) proofs) (sym (query-is q p.query clear.query))
            ∙ ap (λ (l : List Query). q ∷ l) rest.in_order;
        refute = (refutes-is case (is_query q p.query) at p clear, rest.refute);
      }

  -- two lists that begin alike
  pub same-head : (q p : Query) (qs ps : List Query) → ◌≡◌ {A = List Query} (p ∷ ps) (q ∷ qs) → (q ≡ p) × (ps ≡ qs)
  same-head q p qs ps e = (cc, cc)

  pub are-proofs : (queries : List Query) (at : ℕ) (proofs : List Proof) → AreProofs case queries proofs → proofs_fault case queries at proofs ≡ None
  are-proofs [] at [] are = refl
  are-proofs [] at (p ∷ proofs) are = (let e = are.in_order in absurd cc)
  are-proofs (q ∷ queries) at [] are = (let e = are.in_order in absurd cc)
  are-proofs (q ∷ queries) at (p ∷ proofs) are =
      let same = same-head q p.query queries (map (λ (p : Proof). p.query) proofs) are.in_order in
      none-both (proof_fault case (is_query q p.query) refuting_fault at p) (proofs_fault case queries (behind_proof at p) proofs)
      (is-clear case (is_query q p.query) refuting_fault at p (is-refutes case (is_query q p.query) at p
      (ap (λ (x : Query). is_query x p.query) same.0 ∙ own-query p.query) are.refute.0))
      (are-proofs queries (behind_proof at p) proofs (record { in_order = same.1; refute = are.refute.1 }))
