-- A certificate has one first fault, a valid one has none, and so the answer is one: two answers that aren't want of memory are the same
-- (`one_answer`), and 'exactly where' comes with it.
use Rattle.std.proofs.Common.{◌≡◌, ℕ, ◌==◌, true, false, List, [], ◌∷◌, ◌++◌, get_or, refl, ap, sym, subst, ◌∙◌, arith, inl}
use Rattle.std.proofs.Common.{inr, Result, Ok, Err}
use Rattle.std.specs.Prelude.{codes, ◌⊎◌}
use Rattle.std.proofs.lemmas.Bool.{both_ways, false≢true}
use Rattle.pv_bool.specs.Tree.{ProgramTree}
use Rattle.pv_log.specs.declared.fault.LineFault.{LineFault}
use Rattle.pv_log.specs.Follows.{ends_empty}
use Rattle.pv_log.proofs.ForCallers.{follows-not-fails, fails-once}
use Rattle.pv_cert.specs.declared.proof.Chain.{Chain}
use Rattle.pv_cert.specs.declared.proof.Proof.{Proof}
use Rattle.pv_cert.specs.ChainText.{chain_line}
use Rattle.pv_cert.specs.declared.certificate.Certificate.{Certificate}
use Rattle.pv_cert.specs.CertificateText.{satisfied_by, IsTextOf, FailsAt}
use Rattle.pv_cert.proofs.ForCallers.{one-certificate, fails-once as one-stuck}
use Rattle.pv_recheck.specs.declared.fault.Kind.{Kind}
use Rattle.pv_recheck.specs.declared.fault.Kind.TheVariants.{NotACertificate, Line, NoEmpty, WrongQuery}
use Rattle.pv_recheck.specs.declared.fault.RecheckFault.{RecheckFault}
use Rattle.pv_recheck.specs.declared.fault.RecheckFault.TheVariants.{Unbuilt, TooManyGates, Fault, NoMemory}
use Rattle.pv_recheck.specs.Form.{IsLine, IsUnbuilt}
use Rattle.pv_recheck.specs.Validity.{step_formula, IsStepProof, IsValid}
use Rattle.pv_recheck.specs.Faults.{BeginsWithStep, first_log, number_of_log_line, LineFails, LogLacksEmpty, HasSecondAt, IsFaultAt}
use Rattle.pv_recheck.specs.Answers.{IsBeforeLog, ComesToLog, Answers, IsUnlessNoMemory}
use Rattle.pv_recheck.proofs.Lines.{same_line, second_and_fourth}

module _ (program : ProgramTree) where
  -- what is wrong with the contents
  abbrev Contents : List Proof → ℕ → Kind → Type 0
  Contents ps at NotACertificate = ⊥
  Contents ps at (Line fault) = LineFails program ps at fault
  Contents ps at NoEmpty = LogLacksEmpty program ps × (at ≡ 5)
  Contents ps at WrongQuery = ((BeginsWithStep ps → ⊥) × (at ≡ 3)) ⊎ HasSecondAt program ps at

  lines_one : (ps : List Proof) (at to : ℕ) (f g : LineFault) → LineFails program ps at f → LineFails program ps to g
      → (at ≡ to) × (Line f ≡ Line g)
  lines_one ps at to f g h k =
      let same = fails-once (step_formula program).variables (step_formula program).clauses (first_log ps) h.1 k.1 f g h.3 k.3 in
      (h.2 ∙ ap number_of_log_line same.0 ∙ sym k.2, ap (λ x. Line x) same.1)

  line_lacks : (ps : List Proof) (at : ℕ) (f : LineFault) → LineFails program ps at f → LogLacksEmpty program ps → ⊥
  line_lacks ps at f h k = follows-not-fails (step_formula program).variables (step_formula program).clauses
      (first_log ps) h.1 f k.1.each h.3

  line_second : (ps : List Proof) (at to : ℕ) (f : LineFault) → LineFails program ps at f → HasSecondAt program ps to → ⊥
  line_second [] at to f h k = k
  line_second (p ∷ ps) at to f h k = follows-not-fails (step_formula program).variables
      (step_formula program).clauses p.log h.1 f k.1.each h.3

  lacks_second : (ps : List Proof) (to : ℕ) → LogLacksEmpty program ps → HasSecondAt program ps to → ⊥
  lacks_second [] to h k = k
  lacks_second (p ∷ ps) to h k = both_ways (ends_empty p.log) h.1.unfinished k.1.ends

  second_begins : (ps : List Proof) (at : ℕ) → HasSecondAt program ps at → BeginsWithStep ps
  second_begins [] at k = absurd k
  second_begins (p ∷ ps) at k = k.0

  second_one : (ps : List Proof) (at to : ℕ) → HasSecondAt program ps at → HasSecondAt program ps to → at ≡ to
  second_one [] at to h k = absurd h
  second_one (p ∷ ps) at to h k = h.3 ∙ sym k.3

  line_wrong : (ps : List Proof) (at to : ℕ) (f : LineFault) → LineFails program ps at f → Contents ps to WrongQuery → ⊥
  line_wrong ps at to f h (inl k) = k.0 h.0
  line_wrong ps at to f h (inr k) = line_second ps at to f h k

  lacks_wrong : (ps : List Proof) (to : ℕ) → LogLacksEmpty program ps → Contents ps to WrongQuery → ⊥
  lacks_wrong ps to h (inl k) = k.0 h.0
  lacks_wrong ps to h (inr k) = lacks_second ps to h k

  wrong_one : (ps : List Proof) (at to : ℕ) → Contents ps at WrongQuery → Contents ps to WrongQuery → at ≡ to
  wrong_one ps at to (inl h) (inl k) = h.1 ∙ sym k.1
  wrong_one ps at to (inl h) (inr k) = absurd (h.0 (second_begins ps to k))
  wrong_one ps at to (inr h) (inl k) = absurd (k.0 (second_begins ps at h))
  wrong_one ps at to (inr h) (inr k) = second_one ps at to h k

  contents_one : (ps : List Proof) (at to : ℕ) (f g : Kind) → Contents ps at f → Contents ps to g → (at ≡ to) × (f ≡ g)
  contents_one ps at to NotACertificate g h k = absurd h
  contents_one ps at to (Line f) NotACertificate h k = absurd k
  contents_one ps at to (Line f) (Line g) h k = lines_one ps at to f g h k
  contents_one ps at to (Line f) NoEmpty h k = absurd (line_lacks ps at f h k.0)
  contents_one ps at to (Line f) WrongQuery h k = absurd (line_wrong ps at to f h k)
  contents_one ps at to NoEmpty NotACertificate h k = absurd k
  contents_one ps at to NoEmpty (Line g) h k = absurd (line_lacks ps to g k h.0)
  contents_one ps at to NoEmpty NoEmpty h k = (h.1 ∙ sym k.1, refl)
  contents_one ps at to NoEmpty WrongQuery h k = absurd (lacks_wrong ps to h.0 k)
  contents_one ps at to WrongQuery NotACertificate h k = absurd k
  contents_one ps at to WrongQuery (Line g) h k = absurd (line_wrong ps to at g k h)
  contents_one ps at to WrongQuery NoEmpty h k = absurd (lacks_wrong ps at k.0 h)
  contents_one ps at to WrongQuery WrongQuery h k = (wrong_one ps at to h k, refl)

  -- the fault of a certificate's text is one of its contents
  contents_of : (bytes : List ℕ) (c : Certificate) (at : ℕ) (f : Kind) → IsTextOf bytes c → IsFaultAt program bytes at f
      → Contents c.proofs at f
  contents_of bytes c at NotACertificate t h = absurd (h.none c t)
  contents_of bytes c at (Line f) t h = subst (λ (d : Certificate). LineFails program d.proofs at f) (one-certificate bytes h.0 c h.1 t) h.2
  contents_of bytes c at NoEmpty t h = (
    subst (λ (d : Certificate). LogLacksEmpty program d.proofs)
        (one-certificate bytes h.0 c h.1 t) h.2,
    h.3,
  )
  contents_of bytes c at WrongQuery t h = subst (λ (d : Certificate). Contents d.proofs at WrongQuery)
      (one-certificate bytes h.0 c h.1 t) h.2

  one_of_text : (bytes : List ℕ) (c : Certificate) (at to : ℕ) (f g : Kind) → IsTextOf bytes c → IsFaultAt program bytes at f
      → IsFaultAt program bytes to g → (at ≡ to) × (f ≡ g)
  one_of_text bytes c at to f g t h k = contents_one c.proofs at to f g (contents_of bytes c at f t h) (contents_of bytes c to g t k)

  -- no certificate's text: the fault is the grammar's
  one_stuck : (bytes : List ℕ) (at to : ℕ) (g : Kind) → FailsAt bytes at → IsFaultAt program bytes to g → (at ≡ to) × (NotACertificate ≡ g)
  one_stuck bytes at to NotACertificate h k = (one-stuck bytes at to h k, refl)
  one_stuck bytes at to (Line g) h k = absurd (h.none k.0 k.1)
  one_stuck bytes at to NoEmpty h k = absurd (h.none k.0 k.1)
  one_stuck bytes at to WrongQuery h k = absurd (h.none k.0 k.1)

  pub one_fault : (bytes : List ℕ) (at to : ℕ) (f g : Kind) → IsFaultAt program bytes at f → IsFaultAt program bytes to g
      → (at ≡ to) × (f ≡ g)
  one_fault bytes at to NotACertificate g h k = one_stuck bytes at to g h k
  one_fault bytes at to (Line f) g h k = one_of_text bytes h.0 at to (Line f) g h.1 h k
  one_fault bytes at to NoEmpty g h k = one_of_text bytes h.0 at to NoEmpty g h.1 h k
  one_fault bytes at to WrongQuery g h k = one_of_text bytes h.0 at to WrongQuery g h.1 h k

  -- ---- a valid one

  shown_right : (p : Proof) (at : ℕ) (f : Kind) → IsStepProof program p → Contents (p ∷ []) at f → ⊥
  shown_right p at NotACertificate s h = h
  shown_right p at (Line f) s h = follows-not-fails (step_formula program).variables
      (step_formula program).clauses p.log h.1 f s.refutes.each h.3
  shown_right p at NoEmpty s h = both_ways (ends_empty p.log) h.0.1.unfinished s.refutes.ends
  shown_right p at WrongQuery s (inl h) = h.0 s.query
  shown_right p at WrongQuery s (inr h) = h.2 refl

  pub valid_right : (bytes : List ℕ) (at : ℕ) (f : Kind) → IsValid program bytes → IsFaultAt program bytes at f → ⊥
  valid_right bytes at f v h = shown_right v.proof at f v.is_proof (contents_of bytes (satisfied_by (v.proof ∷ [])) at f v.is_text h)

  no_words : (rest : List ℕ) → codes "chain" ≡ codes "chain " ++ rest → ⊥
  no_words rest e = (let differ : false ≡ true = ap (λ l. get_or l 5 0 == 32) e in false≢true differ)

  valid_lines : (bytes : List ℕ) → IsValid program bytes → IsLine 2 bytes (codes "verdict satisfied 0") × IsLine 4 bytes (codes "chain")
  valid_lines bytes v =
      let lines = second_and_fourth bytes v.proof [] v.is_text in
      (lines.0, subst (λ (chain : Chain). IsLine 4 bytes (chain_line chain)) v.is_proof.chain lines.1)

  pub valid_built : (bytes : List ℕ) → IsValid program bytes → IsUnbuilt bytes → ⊥
  valid_built bytes v (inl u) = u.3 (same_line 2 bytes u.0 (codes "verdict satisfied 0") u.1 (valid_lines bytes v).0)
  valid_built bytes v (inr u) = no_words u.2.0 (same_line 4 bytes (codes "chain") u.0 (valid_lines bytes v).1 u.1 ∙ u.2.1)

  -- ---- the answer

  begun : (bytes : List ℕ) (at : ℕ) (f : Kind) → at ≡ 3 → ComesToLog bytes → IsFaultAt program bytes at f → ⊥
  begun bytes at f e c h = no_early c.0.proofs at f e c.2 (contents_of bytes c.0 at f c.1 h)
    where
      no_second : (ps : List Proof) (at : ℕ) → at ≡ 3 → HasSecondAt program ps at → ⊥
      no_second [] at e k = k
      no_second (p ∷ ps) at e k = omega (arith, e, k.3)

      no_early : (ps : List Proof) (at : ℕ) (f : Kind) → at ≡ 3 → BeginsWithStep ps → Contents ps at f → ⊥
      no_early ps at NotACertificate e s k = k
      no_early ps at (Line g) e s k = omega (arith, e, k.2)
      no_early ps at NoEmpty e s k = omega (arith, e, k.1)
      no_early ps at WrongQuery e s (inl k) = k.0 s
      no_early ps at WrongQuery e s (inr k) = no_second ps at e k

  before_log : (bytes : List ℕ) (at : ℕ) (f : Kind) → IsBeforeLog at f → ComesToLog bytes → IsFaultAt program bytes at f → ⊥
  before_log bytes at f (inl e) c h = (let stuck : FailsAt bytes at = subst
      (λ (g : Kind). IsFaultAt program bytes at g) e h in stuck.none c.0 c.1)
  before_log bytes at f (inr e) c h = begun bytes at f e c h

  same_fault : (at to : ℕ) (f g : Kind) → (at ≡ to) × (f ≡ g) → ◌≡◌ {A = Result (Unit {0}) RecheckFault} (Err (Fault at f))
      (Err (Fault to g))
  same_fault at to f g e = ap (λ (n : ℕ). Err (Fault n f)) e.0 ∙ ap (λ (k : Kind). Err (Fault to k)) e.1

  pub one_answer : (limit : ℕ) (bytes : List ℕ) (r s : Result (Unit {0}) RecheckFault) → Answers limit program bytes r
      → (s ≡ Err NoMemory → ⊥) → Answers limit program bytes s → IsUnlessNoMemory r s
  one_answer limit bytes (Ok d) (Ok e) h few k = inl refl
  one_answer limit bytes (Ok d) (Err Unbuilt) h few k = absurd (valid_built bytes h.0 k)
  one_answer limit bytes (Ok d) (Err TooManyGates) h few k = absurd (h.1 k.1)
  one_answer limit bytes (Ok d) (Err (Fault at f)) h few k = absurd (valid_right bytes at f h.0 k.1)
  one_answer limit bytes (Ok d) (Err NoMemory) h few k = absurd (few refl)
  one_answer limit bytes (Err Unbuilt) (Ok e) h few k = absurd (valid_built bytes k.0 h)
  one_answer limit bytes (Err Unbuilt) (Err Unbuilt) h few k = inl refl
  one_answer limit bytes (Err Unbuilt) (Err TooManyGates) h few k = absurd (k.0 h)
  one_answer limit bytes (Err Unbuilt) (Err (Fault at f)) h few k = absurd (k.0 h)
  one_answer limit bytes (Err Unbuilt) (Err NoMemory) h few k = absurd (few refl)
  one_answer limit bytes (Err TooManyGates) (Ok e) h few k = absurd (k.1 h.1)
  one_answer limit bytes (Err TooManyGates) (Err Unbuilt) h few k = absurd (h.0 k)
  one_answer limit bytes (Err TooManyGates) (Err TooManyGates) h few k = inl refl
  one_answer limit bytes (Err TooManyGates) (Err (Fault at f)) h few k = absurd (before_log bytes at f (k.2 h.1) h.2 k.1)
  one_answer limit bytes (Err TooManyGates) (Err NoMemory) h few k = absurd (few refl)
  one_answer limit bytes (Err (Fault at f)) (Ok e) h few k = absurd (valid_right bytes at f k.0 h.1)
  one_answer limit bytes (Err (Fault at f)) (Err Unbuilt) h few k = absurd (h.0 k)
  one_answer limit bytes (Err (Fault at f)) (Err TooManyGates) h few k = absurd (before_log bytes at f (h.2 k.1) k.2 h.1)
  one_answer limit bytes (Err (Fault at f)) (Err (Fault to g)) h few k = inl (same_fault at to f g (one_fault bytes at to f g h.1 k.1))
  one_answer limit bytes (Err (Fault at f)) (Err NoMemory) h few k = absurd (few refl)
  one_answer limit bytes (Err NoMemory) s h few k = inr refl
