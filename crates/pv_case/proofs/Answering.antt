-- What is answered of a case, from what its parts answer.
use Rattle.std.proofs.Common.{◌≡◌, ℕ, List, IsTrue, Some, Result, Ok, Err, IfErr, IsErrAnd, sym, ap, ◌∙◌, subst, String}
use mathlib.Core.Logic.{inr}
use Rattle.std.specs.Prelude.{IsUtf8, string_bytes}
use Rattle.std.specs.declared.alloc.Global.{Global}
use Rattle.serde_json.specs.Data.{Data}
use Rattle.serde_json.specs.Read.{read}
use Rattle.pv_case.specs.declared.case.Case.{Case}
use Rattle.pv_case.specs.declared.checks.Breach.{Breach}
use Rattle.pv_case.specs.declared.fault.Kind.{Kind}
use Rattle.pv_case.specs.declared.fault.CaseFault.{CaseFault}
use Rattle.pv_case.specs.declared.fault.CaseFault.TheVariants as fault
use Rattle.pv_case.specs.declared.stop.Stop.{Stop}
use Rattle.pv_case.specs.declared.stop.Stop.TheVariants.{Broken, NoMemory}
use Rattle.pv_case.specs.Checks.{Checks, ◌⨾◌}
use Rattle.pv_case.specs.Members.{is_object}
use Rattle.pv_case.specs.Makes.{Makes}
use Rattle.pv_case.specs.Fields.{case_checks}
use Rattle.pv_case.specs.Cases.{BreaksFirst}

-- an exit by `?` with what a callee answered
pub stops : {A : Type 0} (checks : Checks) (IsMade : A → Type 0) (r : Result A Stop) (stop : Stop) → IsErrAnd r (λ e. e ≡ stop)
    → ((b : Breach) → stop ≡ Broken b → checks.breaks b.kind b.field.now) → Makes checks IsMade r
stops checks IsMade (Ok made) stop is breaks = absurd is
stops checks IsMade (Err (Broken b)) stop is breaks = breaks b (sym is)
stops checks IsMade (Err NoMemory) stop is breaks = tt

-- an exit behind three that held
pub stops_last : {A : Type 0} (first second third last : Checks) (IsMade : A → Type 0) (r : Result A Stop) (b : Breach)
    → IsErrAnd r (λ e. e ≡ Broken b) → first.keeps → second.keeps → third.keeps → last.breaks b.kind b.field.now
    → Makes (first ⨾ second ⨾ third ⨾ last) IsMade r
stops_last first second third last IsMade r b is k l m breaks =
    stops (first ⨾ second ⨾ third ⨾ last) IsMade r (Broken b) is (λ other e.
    let same : b ≡ other = same_breach b other e in
    inr (k, inr (l, inr (m, subst (λ (z : Breach). last.breaks z.kind z.field.now) same breaks))))
  where
    same_breach : (x y : Breach) → Broken x ≡ Broken y → x ≡ y
    same_breach x y e = cc

-- the rule and the member that are told are those of the breach
pub told : {A : Type 0} (checks : Checks) (IsMade : A → Type 0) (r : Result A Stop) (stop : Stop) (b : Breach) (kind : Kind) (field : List ℕ)
    → Makes checks IsMade r → r ≡ Err stop → stop ≡ Broken b → kind ≡ b.kind → field ≡ b.field.now → checks.breaks kind field
told checks IsMade r stop b kind field makes is of k f =
    let here = subst (Makes checks IsMade) (is ∙ ap Err of) makes in
    subst (λ (n : Kind). checks.breaks n field) (sym k) (subst (λ (n : List ℕ). checks.breaks b.kind n) (sym f) here)

pub with_object : (O : Type 0) (checks : Checks) (r : Result Case CaseFault) → O
    → IfErr r (λ e. (kind : Kind) (field : String Global) → e ≡ fault.Broken kind field → checks.breaks kind (string_bytes field))
    → IfErr r (λ e. (kind : Kind) (field : String Global) → e ≡ fault.Broken kind field → O × checks.breaks kind (string_bytes field))
with_object O checks (Ok made) holds h = h
with_object O checks (Err e) holds h = λ kind field is. (holds, h kind field is)

pub of_text : (bytes : List ℕ) (d : Data) (r : Result Case CaseFault) → IsUtf8 bytes → read bytes ≡ Some d
    → IfErr r (λ e. (kind : Kind) (field : String Global) → e ≡ fault.Broken kind field
    → IsTrue (is_object d) × (case_checks d).breaks kind (string_bytes field))
    → IfErr r (λ e. (kind : Kind) (field : String Global) → e ≡ fault.Broken kind field → BreaksFirst bytes kind (string_bytes field))
of_text bytes d (Ok made) utf8 reads h = h
of_text bytes d (Err e) utf8 reads h = λ kind field is.
    let told = h kind field is in
    record { value = d; text = record { utf8 = utf8; reads = reads; object = told.0 }; breaks = told.1 }
