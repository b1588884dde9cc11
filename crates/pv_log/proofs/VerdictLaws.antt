-- What a verdict says excludes the other verdicts.
use Rattle.std.proofs.Common.{◌≡◌, ℕ, List, refl, ap, subst, ◌∙◌, Option, Result, Ok, Err}
use Rattle.std.specs.Prelude.{◌↔◌, IfOk}
use Rattle.std.proofs.lemmas.Bool.{both_ways}
use Rattle.pv_log.specs.declared.line.Line.{Line}
use Rattle.pv_log.specs.declared.fault.LineFault.{LineFault}
use Rattle.pv_log.specs.declared.fault.Verdict.{Verdict}
use Rattle.pv_log.specs.declared.fault.Verdict.TheVariants.{Accepted, NoEmpty, Refused}
use Rattle.pv_log.specs.Follows.{EachFollows, ends_empty, IsAccepted, LacksEmpty, FailsFirst}
use Rattle.pv_log.specs.Checking.{EndsAs, Says}
use Rattle.pv_log.proofs.LineByLine.{Decides, all-not-first, first-once}

module _ (follows : List (List ℕ) → Line → Type 0) (fault : List (List ℕ) → Line → Option LineFault) (clauses : List (List ℕ)) (lines : List Line) where
  -- where each line follows
  pub says-ending : (verdict : Verdict) → EachFollows follows clauses lines → EndsAs lines verdict → Says follows fault clauses lines verdict
  says-ending Accepted each ends = record { each = each; ends = ends }
  says-ending NoEmpty each ends = record { each = each; unfinished = ends }
  says-ending (Refused n kind) each ends = absurd ends

  pub accepted-as : (verdict : Verdict) → Says follows fault clauses lines verdict → verdict ≡ Accepted → IsAccepted follows clauses lines
  accepted-as Accepted s e = s
  accepted-as NoEmpty s e = absurd cc
  accepted-as (Refused n kind) s e = absurd cc

  pub says-accepted : Decides follows fault → (verdict : Verdict) → Says follows fault clauses lines verdict → (verdict ≡ Accepted) ↔ IsAccepted follows clauses lines
  says-accepted d Accepted s = ((λ e. s), (λ a. refl))
  says-accepted d NoEmpty s = ((λ e. absurd cc), (λ a. absurd (both_ways (ends_empty lines) s.unfinished a.ends)))
  says-accepted d (Refused n kind) s = ((λ e. absurd cc), (λ a. absurd (all-not-first follows fault d clauses lines n kind a.each s)))

  pub says-no_empty : Decides follows fault → (verdict : Verdict) → Says follows fault clauses lines verdict → (verdict ≡ NoEmpty) ↔ LacksEmpty follows clauses lines
  says-no_empty d Accepted s = ((λ e. absurd cc), (λ a. absurd (both_ways (ends_empty lines) a.unfinished s.ends)))
  says-no_empty d NoEmpty s = ((λ e. s), (λ a. refl))
  says-no_empty d (Refused n kind) s = ((λ e. absurd cc), (λ a. absurd (all-not-first follows fault d clauses lines n kind a.each s)))

  same-refusal : (n m : ℕ) (kind other : LineFault) → Refused n kind ≡ Refused m other → (n ≡ m) × (kind ≡ other)
  same-refusal n m kind other e = (cc, cc)

  pub says-refused : Decides follows fault → (verdict : Verdict) → Says follows fault clauses lines verdict → (m : ℕ) (other : LineFault) → (verdict ≡ Refused m other) ↔ FailsFirst fault clauses lines m other
  says-refused d Accepted s m other = ((λ e. absurd cc), (λ a. absurd (all-not-first follows fault d clauses lines m other s.each a)))
  says-refused d NoEmpty s m other = ((λ e. absurd cc), (λ a. absurd (all-not-first follows fault d clauses lines m other s.each a)))
  says-refused d (Refused n kind) s m other = (
    (λ e. (let same = same-refusal n m kind other e in subst (λ (i : ℕ). FailsFirst fault clauses lines i other) same.0 (subst (λ (k : LineFault). FailsFirst fault clauses lines n k) same.1 s))),
    (λ a. (let same = first-once fault clauses lines n m kind other s a in ap (λ (i : ℕ). Refused i kind) same.0 ∙ ap (Refused m) same.1)),
  )

pub if-ok : {T E : Type 0} {P Q : T → Type 0} → ((x : T) → P x → Q x) → (r : Result T E) → IfOk r P → IfOk r Q
if-ok f (Ok x) p = f x p
if-ok f (Err e) p = p
