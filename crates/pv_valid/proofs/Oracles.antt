-- Proofs of an oracle that makes nothing smaller and has a case's clauses are those of the case.
use Rattle.std.proofs.Common.{◌≡◌, ℕ, ◌<◌, List, [], ◌∷◌, length, sym, subst, ◌∙◌, arith}
use Rattle.std.specs.Prelude.{IsTrue}
use Rattle.std.specs.List.{AllByRecursion}
use Rattle.pv_log.specs.Follows.{Follows, IsAccepted}
use Rattle.pv_cert.specs.declared.proof.Query.{Query}
use Rattle.pv_cert.specs.declared.proof.Chain.{Chain}
use Rattle.pv_cert.specs.declared.proof.Proof.{Proof}
use Rattle.pv_cert.specs.CertificateText.{no_reduction}
use Rattle.pv_kind.specs.declared.decision.Limits.{Limits}
use Rattle.pv_kind.specs.Refinements.{Stage, Round, Tells, IsRound, Refines, is_among, AreOnWay}
use Rattle.pv_kind.specs.Oracles.{Encoding}
use Rattle.pv_kind.specs.Decisions.{Refutes as OracleRefutes, AreProofs as OracleProofs}
use Rattle.pv_valid.specs.Cases.{Case}
use Rattle.pv_valid.specs.Validity.{Refutes, AreProofs}
use Rattle.pv_valid.specs.Deciding.{IsOracleOf}

-- ---- nothing is put back where nothing is abstracted

none-among : (abstracted cells : List ℕ) → abstracted ≡ [] → 0 < length cells
    → AllByRecursion (λ cell. IsTrue (is_among abstracted cell)) cells → ⊥
none-among abstracted [] none some all = omega arith
none-among abstracted (cell ∷ cells) none some all =
    (let there : IsTrue (is_among [] cell) = subst (λ (l : List ℕ). IsTrue (is_among l cell)) none all.0 in absurd cc)

no-round : (tells : Tells) (s : Stage) (round : Round) → s.abstracted ≡ [] → IsRound tells s round → ⊥
no-round tells s round none is = none-among s.abstracted round.cells none is.some is.abstracted

stays : (tells : Tells) (rounds : List Round) (s t : Stage) → s.abstracted ≡ [] → Refines tells s rounds t → s ≡ t
stays tells [] s t none leads = leads
stays tells (round ∷ rounds) s t none leads = absurd (no-round tells s round none leads.0)

pub record Plain (proofs : List Proof) (s t : Stage) : Type 0 where
  pub chains : AllByRecursion (λ (p : Proof). p.chain ≡ no_reduction) proofs
  pub last : s ≡ t

pub on-way : (tells : Tells) (proofs : List Proof) (s t : Stage) → s.abstracted ≡ [] → s.chain ≡ no_reduction → AreOnWay tells s proofs t
    → Plain proofs s t
on-way tells [] s t none plain way = record { chains = tt; last = stays tells way.0 s t none way.1 }
on-way tells (p ∷ proofs) s t none plain way =
    let same : s ≡ way.0 = stays tells way.1.0 s way.0 none way.1.1 in
    let none_there = subst (λ (u : Stage). u.abstracted ≡ []) same none in
    let plain_there = subst (λ (u : Stage). u.chain ≡ no_reduction) same plain in
    let rest = on-way tells proofs way.0 t none_there plain_there way.4 in
    record { chains = (sym way.2 ∙ plain_there, rest.chains); last = same ∙ rest.last }

module _ (case : Case) (e : Encoding) (first : Stage) (limits : Limits) (o : IsOracleOf case e first limits) where
  accepted : (p : Proof) → p.chain ≡ no_reduction → OracleRefutes e p
      → IsAccepted (Follows (case.formula p.query).variables) (case.formula p.query).clauses p.log
  accepted p plain r =
      let here = subst (λ (c : Chain). IsAccepted (Follows (e.variables c p.query)) (e.clauses c p.query) p.log) plain r in
      let over = subst (λ (v : ℕ). IsAccepted (Follows v) (e.clauses no_reduction p.query) p.log) (o.variables p.query) here in
      subst (λ (cs : List (List ℕ)). IsAccepted (Follows (case.formula p.query).variables) cs p.log) (o.clauses p.query) over

  all-refute : (proofs : List Proof) → AllByRecursion (λ (p : Proof). p.chain ≡ no_reduction) proofs → AllByRecursion (OracleRefutes e) proofs
      → AllByRecursion (Refutes case) proofs
  all-refute [] plain refute = tt
  all-refute (p ∷ proofs) plain refute =
      (record { chain = plain.0; fits = o.fits; log = accepted p plain.0 refute.0 }, all-refute proofs plain.1 refute.1)

  pub way-of : (last : Stage) (queries : List Query) (proofs : List Proof) → OracleProofs e first last queries proofs → Plain proofs first last
  way-of last queries proofs are = on-way e.tells proofs first last o.abstracted o.chain are.chains

  pub proofs-of : (last : Stage) (queries : List Query) (proofs : List Proof) → OracleProofs e first last queries proofs → AreProofs case queries proofs
  proofs-of last queries proofs are = record {
    in_order = are.in_order;
    refute = all-refute proofs (way-of last queries proofs are).chains are.refute;
  }
