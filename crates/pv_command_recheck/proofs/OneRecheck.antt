-- What files hold for a recheck is one thing that it works on with one right certificate at most, or one refusal at most, and not both: what
-- the files hold of the form is one, and what is answered of bytes is one.
use Rattle.std.proofs.Common.{◌≡◌, ◌⊎◌, inl, inr, ℕ, List, Some, Result, Ok, Err, refl, sym, ap, subst, ◌∙◌}
use Rattle.std.proofs.lemmas.Option.{same_Some}
use Rattle.pv_edge.specs.Files.{FileMap}
use Rattle.pv_cert.specs.declared.certificate.Certificate.{Certificate}
use Rattle.pv_cert.specs.CertificateText.{IsTextOf}
use Rattle.pv_valid.specs.declared.fault.Kind.{Kind}
use Rattle.pv_valid.specs.declared.fault.Fault.{Fault}
use Rattle.pv_valid.specs.declared.fault.Fault.TheVariants.{TooManyGates, Line, NoMemory}
use Rattle.pv_valid.specs.declared.fault.Verdict.{Verdict}
use Rattle.pv_valid.specs.Cases.{Case}
use Rattle.pv_valid.specs.Validity.{verdict_of}
use Rattle.pv_valid.specs.Faults.{Answers}
use Rattle.pv_command_verdict.specs.Handed.{Holds, HoldsBytes, SubjectData, FilesDecideOneFirst}
use Rattle.pv_command_verdict.specs.Sizes.{HasTooManyEdges}
use Rattle.pv_command_verdict.specs.Cases.{case_in}
use Rattle.pv_command_recheck.specs.Certificates.{IsText, AreAnswered, CertificateRefusal, faulty, too_many_edges, too_many_gates, RefusesCertificate}
use Rattle.pv_command_recheck.specs.Refusals.{RecheckRefusal, as_first, by_certificate, RefusesRecheck}
use Rattle.pv_command_recheck.specs.Rechecks.{HoldsRight}
use Rattle.pv_command_recheck.specs.Decided.{FilesDecideOneRecheck}

-- ---- what the laws below say

abbrev OneText : Type 0
OneText = (bytes : List ℕ) (c d : Certificate) → IsTextOf bytes c → IsTextOf bytes d → c ≡ d

abbrev OneAnswer : Type 0
OneAnswer = (case : Case) (bytes : List ℕ) (answer other : Result Verdict Fault) → Answers case bytes answer → Answers case bytes other
    → (answer ≡ Err NoMemory) ⊎ ((other ≡ Err NoMemory) ⊎ (answer ≡ other))

pub record Laws (files : FileMap) (case_file : List ℕ) : Type 0 where
  pub first : FilesDecideOneFirst files case_file
  pub text : OneText
  pub answer : OneAnswer

-- ---- answers that are refusals, or none

ok-err : (v : Verdict) (f : Fault) → ◌≡◌ {A = Result Verdict Fault} (Ok v) (Err f) → ⊥
ok-err v f e = cc

same_err : (f g : Fault) → ◌≡◌ {A = Result Verdict Fault} (Err f) (Err g) → f ≡ g
same_err f g e = cc

line-memory : (line : ℕ) (kind : Kind) → Line line kind ≡ NoMemory → ⊥
line-memory line kind e = cc

gates-memory : TooManyGates ≡ NoMemory → ⊥
gates-memory e = cc

line-gates : (line : ℕ) (kind : Kind) → Line line kind ≡ TooManyGates → ⊥
line-gates line kind e = cc

-- the refusal that an answer is, and that of too many edges for each other one
abbrev refusal_of : Fault → CertificateRefusal
refusal_of (Line line kind) = faulty line kind
refusal_of TooManyGates = too_many_gates
refusal_of NoMemory = too_many_edges

module _ (files : FileMap) (case_file file : List ℕ) (laws : Laws files case_file) where
  one_held : (a b : List ℕ) → Holds (Some files) file a → Holds (Some files) file b → a ≡ b
  one_held a b h k = same_Some a b (sym h ∙ k)

  -- two answers that the file's bytes have
  same_answer : (s t : SubjectData) (answer other : Result Verdict Fault) → s ≡ t
      → (h : HoldsBytes (Some files) file (AreAnswered s answer)) (k : HoldsBytes (Some files) file (AreAnswered t other))
      → (answer ≡ Err NoMemory → ⊥) → (other ≡ Err NoMemory → ⊥) → answer ≡ other
  same_answer s t answer other same h k some others =
      let bytes = one_held h.bytes k.bytes h.held k.held in
      let P : SubjectData → Type 0 = λ x. Answers (case_in x) h.bytes answer in
      let Q : List ℕ → Type 0 = λ b. Answers (case_in t) b answer in
      lead (laws.answer (case_in t) k.bytes answer other (subst Q bytes (subst P same h.are.answers)) k.are.answers)
    where
      lead : (answer ≡ Err NoMemory) ⊎ ((other ≡ Err NoMemory) ⊎ (answer ≡ other)) → answer ≡ other
      lead (inl e) = absurd (some e)
      lead (inr (inl e)) = absurd (others e)
      lead (inr (inr e)) = e

  -- what is answered at all isn't so of a block with too many edges, where the bytes are a text
  edges_apart : (s t : SubjectData) (answer : Result Verdict Fault) → s ≡ t → HoldsBytes (Some files) file (AreAnswered s answer)
      → HasTooManyEdges t × HoldsBytes (Some files) file IsText → ⊥
  edges_apart s t answer same h k =
      h.are.few (subst IsText (one_held k.1.bytes h.bytes k.1.held h.held) k.1.are) (subst HasTooManyEdges (sym same) k.0)

  no_line : (line : ℕ) (kind : Kind) → ◌≡◌ {A = Result Verdict Fault} (Err (Line line kind)) (Err NoMemory) → ⊥
  no_line line kind e = line-memory line kind (same_err (Line line kind) NoMemory e)

  no_gates : ◌≡◌ {A = Result Verdict Fault} (Err TooManyGates) (Err NoMemory) → ⊥
  no_gates e = gates-memory (same_err TooManyGates NoMemory e)

  -- ---- refusals of the certificate

  one_certificate : (s t : SubjectData) (r q : CertificateRefusal) → s ≡ t → RefusesCertificate (Some files) file s r
      → RefusesCertificate (Some files) file t q → r ≡ q
  one_certificate s t (faulty a k) (faulty b j) same h g =
      ap refusal_of (same_err (Line a k) (Line b j) (same_answer s t (Err (Line a k)) (Err (Line b j)) same h g (no_line a k) (no_line b j)))
  one_certificate s t (faulty a k) too_many_edges same h g = absurd (edges_apart s t (Err (Line a k)) same h g)
  one_certificate s t (faulty a k) too_many_gates same h g =
      absurd (line-gates a k (same_err (Line a k) TooManyGates (same_answer s t (Err (Line a k)) (Err TooManyGates) same h g (no_line a k) no_gates)))
  one_certificate s t too_many_edges (faulty b j) same h g = absurd (edges_apart t s (Err (Line b j)) (sym same) g h)
  one_certificate s t too_many_edges too_many_edges same h g = refl
  one_certificate s t too_many_edges too_many_gates same h g = absurd (edges_apart t s (Err TooManyGates) (sym same) g h)
  one_certificate s t too_many_gates (faulty b j) same h g =
      absurd (line-gates b j (same_err (Line b j) TooManyGates
      (same_answer t s (Err (Line b j)) (Err TooManyGates) (sym same) g h (no_line b j) no_gates)))
  one_certificate s t too_many_gates too_many_edges same h g = absurd (edges_apart s t (Err TooManyGates) same h g)
  one_certificate s t too_many_gates too_many_gates same h g = refl

  -- ---- a right certificate is answered so

  right_answered : (s : SubjectData) (c : Certificate) → HoldsRight (Some files) case_file file s c
      → HoldsBytes (Some files) file (AreAnswered s (Ok (verdict_of (case_in s) c)))
  right_answered s c h = record {
    bytes = h.bytes;
    held = h.held;
    are = record {
      answers = record { certificate = c; is_text = h.is_text; is_right = h.is_right; says = refl };
      few = λ text. h.few;
    };
  }

  no_memory : (v : Verdict) → ◌≡◌ {A = Result Verdict Fault} (Ok v) (Err NoMemory) → ⊥
  no_memory v e = ok-err v NoMemory e

  right_apart : (s t : SubjectData) (c : Certificate) (r : CertificateRefusal) → s ≡ t → HoldsRight (Some files) case_file file s c
      → RefusesCertificate (Some files) file t r → ⊥
  right_apart s t c (faulty line kind) same h g =
      let v = verdict_of (case_in s) c in
      ok-err v (Line line kind) (same_answer s t (Ok v) (Err (Line line kind)) same (right_answered s c h) g (no_memory v) (no_line line kind))
  right_apart s t c too_many_edges same h g = edges_apart s t (Ok (verdict_of (case_in s) c)) same (right_answered s c h) g
  right_apart s t c too_many_gates same h g =
      let v = verdict_of (case_in s) c in
      ok-err v TooManyGates (same_answer s t (Ok v) (Err TooManyGates) same (right_answered s c h) g (no_memory v) no_gates)

  -- ---- all of it

  one_right : (s t : SubjectData) (c d : Certificate) → HoldsRight (Some files) case_file file s c
      → HoldsRight (Some files) case_file file t d → (s ≡ t) × (c ≡ d)
  one_right s t c d h k =
      let P : List ℕ → Type 0 = λ b. IsTextOf b c in (
        laws.first.one_subject s t h.reads k.reads,
        laws.text k.bytes c d (subst P (one_held h.bytes k.bytes h.held k.held) h.is_text) k.is_text,
      )

  one_refusal : (r q : RecheckRefusal) → RefusesRecheck (Some files) case_file file r → RefusesRecheck (Some files) case_file file q → r ≡ q
  one_refusal (as_first r) (as_first q) h k = ap as_first (laws.first.one_refusal r q h k)
  one_refusal (as_first r) (by_certificate q) h k = absurd (laws.first.apart k.0 r k.1 h)
  one_refusal (by_certificate r) (as_first q) h k = absurd (laws.first.apart h.0 q h.1 k)
  one_refusal (by_certificate r) (by_certificate q) h k =
      ap by_certificate (one_certificate h.0 k.0 r q (laws.first.one_subject h.0 k.0 h.1 k.1) h.2 k.2)

  apart : (s : SubjectData) (c : Certificate) (r : RecheckRefusal) → HoldsRight (Some files) case_file file s c
      → RefusesRecheck (Some files) case_file file r → ⊥
  apart s c (as_first r) h k = laws.first.apart s r h.reads k
  apart s c (by_certificate r) h k = right_apart s k.0 c r (laws.first.one_subject s k.0 h.reads k.1) h k.2

  pub decide_one_recheck : FilesDecideOneRecheck files case_file file
  decide_one_recheck = record { one_right = one_right; one_refusal = one_refusal; apart = apart }
