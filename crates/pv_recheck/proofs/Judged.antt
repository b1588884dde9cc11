-- What the steps of a check find decides the answer, and the answer is one.
--
-- The steps of a check have stops and relations of their own (specs/Judging), one a layer: their exits close with no file, and one lemma
-- (`answers_by_proofs`) goes from the inner to the outer.
use Rattle.std.proofs.Common.{◌≡◌, ℕ, zero, suc, arith, List, [], ◌∷◌, refl, ap, sym, subst, ◌∙◌, inl, inr, Result, Ok, Err, ℤ}
use Rattle.std.specs.Prelude.{codes, IfOk}
use Rattle.pv_bool.specs.Tree.{ProgramTree}
use Rattle.pv_gate.specs.declared.fault.GateFault.{GateFault}
use Rattle.pv_gate.specs.Netlist.{Netlist}
use Rattle.pv_cnf.specs.Clause.{Cnf}
use Rattle.pv_circuit.specs.declared.start.Start.{Start}
use Rattle.pv_circuit.specs.declared.circuit.StepCircuit.{StepCircuit}
use Rattle.pv_circuit.specs.Circuits.{Literals, Circuit, circuit_with}
use Rattle.pv_circuit.specs.Made.{circuit_seen, IsStepCircuit}
use Rattle.pv_cert.specs.declared.proof.Proof.{Proof}
use Rattle.pv_cert.specs.declared.certificate.Certificate.{Certificate}
use Rattle.pv_cert.specs.CertificateText.{satisfied_by, no_reduction, IsTextOf}
use Rattle.pv_cert.specs.ChainText.{chain_line}
use Rattle.pv_claims.specs.declared.claim.Claim.{Claim}
use Rattle.pv_claims.specs.declared.claim.Claim.TheVariants.{Satisfied, Unreachable, Violated, Trapped, Reached, Depth, Loop, Lemmas, Region}
use Rattle.pv_claims.specs.Heads.{claim_text, verdict_line, ClaimFits}
use Rattle.pv_claims.proofs.ForCallers.{one-claim, verdict-zero}
use Rattle.pv_cert.proofs.ForCallers.{made-of-proofs, without-words}
use Rattle.pv_recheck.specs.declared.stop.LogStop.TheVariants.{TooManyGates, Line, NoEmpty, NoMemory}
use Rattle.pv_recheck.specs.declared.stop.ProofStop.{ProofStop}
use Rattle.pv_recheck.specs.declared.stop.ProofStop.TheVariants.{Log, WrongQuery}
use Rattle.pv_recheck.specs.Form.{IsUnbuilt}
use Rattle.pv_recheck.specs.Validity.{formula_over, IsValid}
use Rattle.pv_recheck.specs.Answers.{Answers}
use Rattle.pv_recheck.specs.Judging.{JudgesProofs, answer_of}
use Rattle.pv_recheck.proofs.Lines.{fourth_of, second_of}

-- no other claim has this verdict
other_claim : (c : Claim) → ClaimFits c → (c ≡ Satisfied 0 → ⊥) → verdict_line c ≡ codes "verdict satisfied 0" → ⊥
other_claim c fits other e = other (one-claim c (Satisfied 0) fits (omega arith) (e ∙ sym verdict-zero))

-- a claim whose verdict can't be another one
claim_by : (c : Claim) → ClaimFits c → ((verdict_line c ≡ codes "verdict satisfied 0" → ⊥) → ⊥) → c ≡ Satisfied 0
claim_by (Satisfied zero) fits never = refl
claim_by (Satisfied (suc k)) fits never = absurd (never (other_claim (Satisfied (suc k)) fits (λ e. cc)))
claim_by (Unreachable k) fits never = absurd (never (other_claim (Unreachable k) fits (λ e. cc)))
claim_by (Violated n) fits never = absurd (never (other_claim (Violated n) fits (λ e. cc)))
claim_by (Trapped n) fits never = absurd (never (other_claim (Trapped n) fits (λ e. cc)))
claim_by (Reached n) fits never = absurd (never (other_claim (Reached n) fits (λ e. cc)))
claim_by (Depth k) fits never = absurd (never (other_claim (Depth k) fits (λ e. cc)))
claim_by (Loop n) fits never = absurd (never (other_claim (Loop n) fits (λ e. cc)))
claim_by (Lemmas b) fits never = absurd (never (other_claim (Lemmas b) fits (λ e. cc)))
claim_by (Region x) fits never = absurd (never (other_claim (Region x) fits (λ e. cc)))

-- a certificate of a form that is read claims 'satisfied' with k = 0
claim_of : (bytes : List ℕ) (c : Certificate) → (IsUnbuilt bytes → ⊥) → IsTextOf bytes c → c.claim ≡ Satisfied 0
claim_of bytes c built t =
    claim_by c.claim t.valid.claim (λ other. built (inl (verdict_line c.claim, second_of bytes c t, (claim_text c.claim, refl), other)))

-- such a certificate's text is that of its proofs
proofs_text : (bytes : List ℕ) (c : Certificate) (p : Proof) → (IsUnbuilt bytes → ⊥) → IsTextOf bytes c → c.proofs ≡ p ∷ []
    → IsTextOf bytes (satisfied_by (p ∷ []))
proofs_text bytes c p built t e =
    subst (λ (d : Certificate). IsTextOf bytes d) (made-of-proofs c t.valid (claim_of bytes c built t) ∙ ap satisfied_by e) t

-- the first chain has no words where line 4 isn't one with words
plain_chain : (bytes : List ℕ) (p : Proof) (ps : List Proof) → (IsUnbuilt bytes → ⊥) → IsTextOf bytes (satisfied_by (p ∷ ps))
    → p.chain ≡ no_reduction
plain_chain bytes p ps built t = without-words p.chain (λ rest e. built (inr (chain_line p.chain, fourth_of bytes p ps t, (rest, e))))

module _ (limit : ℕ) (program : ProgramTree) where
  valid_by : (bytes : List ℕ) (c : Certificate) (done : Unit {0}) → (IsUnbuilt bytes → ⊥) → IsTextOf bytes c
      → JudgesProofs limit program c.proofs (Ok done) → IsValid program bytes
  valid_by bytes c done built t j =
      let text = proofs_text bytes c j.1 built t j.2 in
      record { proof = j.1; is_text = text; is_proof = record { query = j.3; chain = plain_chain bytes j.1 [] built text; refutes = j.4 } }

  -- a certificate was read, and its proofs were judged
  pub answers_by_proofs : (bytes : List ℕ) (c : Certificate) (r : Result (Unit {0}) ProofStop) → (IsUnbuilt bytes → ⊥) → IsTextOf bytes c
      → JudgesProofs limit program c.proofs r → Answers limit program bytes (answer_of r)
  answers_by_proofs bytes c (Ok done) built t j = (valid_by bytes c done built t j, j.0)
  answers_by_proofs bytes c (Err (Log TooManyGates)) built t j = (built, j.0, (c, t, j.1))
  answers_by_proofs bytes c (Err (Log (Line at fault))) built t j = (built, (c, t, j.1), λ many. absurd (j.0 many))
  answers_by_proofs bytes c (Err (Log NoEmpty)) built t j = (built, (c, t, j.1, refl), λ many. absurd (j.0 many))
  answers_by_proofs bytes c (Err (Log NoMemory)) built t j = tt
  answers_by_proofs bytes c (Err (WrongQuery at)) built t (inl j) = (built, (c, t, inl j), λ many. inr j.1)
  answers_by_proofs bytes c (Err (WrongQuery at)) built t (inr j) = (built, (c, t, inr j.1), λ many. absurd (j.0 many))

-- what the code has of a circuit is that circuit
pub seen-is : (c : Circuit) (limit : ℕ) (made : StepCircuit) → IsStepCircuit c limit made → circuit_seen made ≡ c
seen-is c limit made is =
    ap (λ (g : Netlist). circuit_with g.nodes made.state_in.items made.input.items made.state_out.items made.ok made.fail) is.gates
    ∙ (ap (λ (ls : Literals). circuit_with c.nodes ls made.input.items made.state_out.items made.ok made.fail) is.state_in
    ∙ (ap (λ (ls : Literals). circuit_with c.nodes c.state_in ls made.state_out.items made.ok made.fail) is.input
    ∙ (ap (λ (ls : Literals). circuit_with c.nodes c.state_in c.input ls made.ok made.fail) is.state_out
    ∙ (ap (λ (l : ℤ). circuit_with c.nodes c.state_in c.input c.state_out l made.fail) is.ok
    ∙ ap (λ (l : ℤ). circuit_with c.nodes c.state_in c.input c.state_out c.ok l) is.fail))))

-- a formula of the same circuit, whose state begins in the same way
pub formula-is : (c d : Circuit) (starts others : List Start) (r : Result Cnf GateFault) → c ≡ d → starts ≡ others
    → IfOk r (λ f. f ≡ formula_over c starts) → IfOk r (λ f. f ≡ formula_over d others)
formula-is c d starts others (Ok f) e s h = h ∙ (ap (λ (x : Circuit). formula_over x starts) e ∙ ap (λ (xs : List Start). formula_over d xs) s)
formula-is c d starts others (Err fault) e s h = tt
