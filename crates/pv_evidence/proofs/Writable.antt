-- A right certificate of a decision can be written: its literals and its hints are none below the first.
use Rattle.std.proofs.Common.{◌≡◌, ℕ, zero, suc, ◌≤◌, true, false, List, [], ◌∷◌, ◌++◌, sym, subst, Option, Some, None, arith}
use Rattle.std.specs.List.{AllByRecursion}
use Rattle.std.proofs.lemmas.Bool.{or_parts}
use Rattle.pv_cnf.specs.Clause.{has_outside}
use Rattle.pv_cnf.specs.Literal.{complement, is_outside}
use Rattle.pv_log.specs.declared.line.Line.{Line}
use Rattle.pv_log.specs.LineText.{IsWritable as IsWritableLine}
use Rattle.pv_log.specs.Propagation.{named, LeadsToFalse}
use Rattle.pv_log.specs.Follows.{Follows, EachFollows}
use Rattle.pv_log.proofs.ForCallers.{inside-bounds, each-follows}
use Rattle.pv_claims.specs.declared.claim.Claim.{Claim}
use Rattle.pv_claims.specs.declared.claim.Claim.TheVariants.{Satisfied, Unreachable, Violated, Trapped, Reached, Depth, Loop, Lemmas, Region}
use Rattle.pv_cert.specs.declared.proof.Chain.{Chain}
use Rattle.pv_cert.specs.declared.proof.Proof.{Proof}
use Rattle.pv_cert.specs.ChainText.{HasChainText}
use Rattle.pv_cert.specs.CertificateText.{no_reduction, IsWritableProof, IsWritableNext}
use Rattle.pv_cnf.specs.Clause.{Cnf}
use Rattle.pv_valid.specs.Cases.{Case}
use Rattle.pv_valid.specs.Validity.{Refutes, AreSpent, HasBudget, HasNeed, IsNextLemma, ProofsBelong}
use Rattle.pv_valid.proofs.ForCallers.{all-push}

-- ---- lines

lits-big : (v : ℕ) (lits : List ℕ) → has_outside v lits ≡ false → AllByRecursion (λ lit. 2 ≤ lit) lits
lits-big v [] inside = tt
lits-big v (lit ∷ lits) inside =
    let parts = or_parts (is_outside v lit) (has_outside v lits) inside in
    let bounds = inside-bounds v lit parts.0 in
    (omega (arith, bounds), lits-big v lits parts.1)

named-some : (clauses : List (List ℕ)) (h : ℕ) (clause : List ℕ) → named clauses h ≡ Some clause → 1 ≤ h
named-some clauses zero clause e = absurd cc
named-some clauses (suc n) clause e = omega arith

hints-big : (clauses : List (List ℕ)) (hints falses : List ℕ) → LeadsToFalse clauses falses hints → AllByRecursion (λ h. 1 ≤ h) hints
hints-big clauses [] falses leads = absurd leads
hints-big clauses (h ∷ []) falses leads = (named-some clauses h leads.0 leads.1, tt)
hints-big clauses (h ∷ next ∷ hints) falses leads =
    (named-some clauses h leads.0 leads.2, hints-big clauses (next ∷ hints) (falses ++ complement leads.1 ∷ []) leads.4)

follows-writable : (v : ℕ) (clauses : List (List ℕ)) (line : Line) → Follows v clauses line → IsWritableLine line
follows-writable v clauses line f =
    record { lits = lits-big v line.lits f.inside; hints = hints-big clauses line.hints line.lits f.refutes }

each-writable : (v : ℕ) (clauses : List (List ℕ)) (lines : List Line) → EachFollows (Follows v) clauses lines → AllByRecursion IsWritableLine lines
each-writable v clauses [] each = tt
each-writable v clauses (line ∷ lines) each =
    (follows-writable v clauses line each.0, each-writable v (clauses ++ line.lits ∷ []) lines each.1)

-- ---- proofs

plain-chain : (c : Chain) → c ≡ no_reduction → HasChainText c
plain-chain c is = subst HasChainText (sym is) tt

module _ (case : Case) where
  proof-writable : (p : Proof) → Refutes case p → IsWritableProof p
  proof-writable p r = record {
    chain = plain-chain p.chain r.chain;
    lines = each-writable (case.formula p.query).variables (case.formula p.query).clauses p.log r.log.each;
  }

  proofs-writable : (proofs : List Proof) → AllByRecursion (Refutes case) proofs → AllByRecursion IsWritableProof proofs
  proofs-writable [] all = tt
  proofs-writable (p ∷ proofs) all = (proof-writable p all.0, proofs-writable proofs all.1)

  spent-writable : (Says : Cnf → List Line → Type 0) (proofs : List Proof) → AreSpent case Says proofs → AllByRecursion IsWritableProof proofs
  spent-writable Says proofs s =
      let q = s.named.query in
      let last : IsWritableProof s.named = record {
        chain = plain-chain s.named.chain s.spends.chain;
        lines = each-writable (case.formula q).variables (case.formula q).clauses s.named.log
            (each-follows (case.formula q).variables (case.formula q).clauses s.named.log s.spends.lemmas.each);
      } in
      subst (AllByRecursion IsWritableProof) (sym s.split)
      (all-push IsWritableProof s.front s.named (proofs-writable s.front s.earlier.refute) last)

  pub belonging-writable : (claim : Claim) (next : Option Line) (proofs : List Proof) → ProofsBelong case claim next proofs
      → AllByRecursion IsWritableProof proofs
  belonging-writable (Satisfied k) next proofs belong = proofs-writable proofs belong.refute
  belonging-writable (Unreachable k) next proofs belong = proofs-writable proofs belong.refute
  belonging-writable (Violated n) next proofs belong = proofs-writable proofs belong.refute
  belonging-writable (Trapped n) next proofs belong = proofs-writable proofs belong.refute
  belonging-writable (Reached n) next proofs belong = proofs-writable proofs belong.refute
  belonging-writable (Depth k) next proofs belong = proofs-writable proofs belong.refute
  belonging-writable (Loop n) next proofs belong = proofs-writable proofs belong.refute
  belonging-writable (Lemmas b) next proofs belong = spent-writable (HasBudget b) proofs belong
  belonging-writable (Region x) next proofs belong = spent-writable (HasNeed case.facts.words x next) proofs belong

  next-writable : (f : Cnf) (log : List Line) (next : Option Line) → IsNextLemma f log next → IsWritableNext true next
  next-writable f log None is = tt
  next-writable f log (Some next) is = follows-writable f.variables _ next is.new.follows

  pub region-writable : (x : ℕ) (next : Option Line) (proofs : List Proof) → ProofsBelong case (Region x) next proofs
      → IsWritableNext true next
  region-writable x next proofs belong =
      next-writable (case.formula belong.named.query) belong.named.log next belong.spends.says.lemma
