-- From what became of the lines that are told of an outcome, to where its text went and what is kept.
use Rattle.std.proofs.Common.{◌≡◌, ◌≢◌, ◌⊎◌, inl, inr, ℕ, List, [], Bool, true, false, Option, Some, None, Result, Ok, Err, Vec, refl, sym, subst, ap, ◌∙◌, arith}
use Rattle.std.specs.Prelude.{IfOk, MatchResult, unwrap_or, ◌==◌, if◌then◌else◌}
use Rattle.std.specs.declared.alloc.Global.{Global}
use Rattle.std.specs.declared.alloc.AllocError.{AllocError}
use Rattle.pv_edge.specs.declared.outside.SinkFault.{SinkFault}
use Rattle.pv_edge.specs.declared.outside.SinkFault.TheVariants.{Failed, NoMemory}
use Rattle.pv_edge.specs.Sink.{Takes, Offered, StopsOffering}
use Rattle.pv_top.specs.declared.outcome.Outcome.{Outcome}
use Rattle.pv_top.specs.declared.outcome.Told.{Told}
use Rattle.pv_top.specs.declared.printing.Printed.{Printed}
use Rattle.pv_top.specs.Outcomes.{status_of, text_of, silent_status, keeps_of, kept_by}
use Rattle.pv_top.specs.Calls.{fault_status, Offers, Delivers, IsSettled}
use Rattle.pv_top.specs.Calls as calls
use Rattle.pv_top.specs.Printing.{Sinks, PrintsLines, to_end, stopped, PrintsNone, Prints, kept_if}

-- ---- what is kept

kept_all : (keep : Option (List ℕ)) (kept : List ℕ) → kept_if true keep kept ≡ unwrap_or keep kept
kept_all (Some evidence) kept = refl
kept_all None kept = refl

kept_whole : (outcome : Outcome) (whole : Bool) (keep : Option (List ℕ)) (kept kept_after : List ℕ) → whole ≡ true → keep ≡ keeps_of outcome
    → kept_after ≡ kept_if whole keep kept → kept_after ≡ kept_by outcome kept
kept_whole outcome whole keep kept kept_after all same is =
    is ∙ ap (λ b. kept_if b keep kept) all ∙ kept_all keep kept ∙ ap (λ k. unwrap_or k kept) same

kept_part : (whole : Bool) (keep : Option (List ℕ)) (kept kept_after : List ℕ) → whole ≡ false → kept_after ≡ kept_if whole keep kept
    → kept_after ≡ kept
kept_part whole keep kept kept_after part is = is ∙ ap (λ b. kept_if b keep kept) part

fault_seven : (status : ℕ) (fault : SinkFault) → status ≡ fault_status fault → (status ≡ 7) ⊎ (status ≡ 9)
fault_seven status Failed e = inl e
fault_seven status NoMemory e = inr e

-- ---- where the text went

-- what is told of an outcome
pub record IsToldOf (outcome : Outcome) (told : Told) : Type 0 where
  pub status : told.status ≡ status_of outcome
  pub text : IfOk told.text (λ text. text_of outcome ≡ Some text.items)
  pub keep : told.keep ≡ keeps_of outcome

-- the lines went there, and so much is kept
pub record GoesTo {S : Type 0} (call : List ℕ → Result ℕ SinkFault → S → S → Type 0) (outcome : Outcome) (status : ℕ) (sinks : Sinks S)
    (kept kept_after : List ℕ) : Type 0 where
  pub offers : Offers call outcome status sinks.old sinks.new
  pub delivers : Delivers outcome status sinks.taken sinks.taken_after kept kept_after

module _ {S : Type 0} (call : List ℕ → Result ℕ SinkFault → S → S → Type 0) (outcome : Outcome) (told : Told) (printed : Printed)
    (sinks : Sinks S) (kept kept_after : List ℕ) (is : IsToldOf outcome told)
    (keeps : kept_after ≡ kept_if printed.whole told.keep kept) where
  of_lines : (lines : List ℕ) → text_of outcome ≡ Some lines → PrintsLines call told.status lines printed sinks
      → GoesTo call outcome printed.status sinks kept kept_after
  of_lines lines text (to_end whole status offered takes) = record {
    offers = calls.to_end lines text (status ∙ is.status) offered;
    delivers = calls.whole lines text (status ∙ is.status) takes
        (kept_whole outcome printed.whole told.keep kept kept_after whole is.keep keeps);
  }
  of_lines lines text (stopped fault part status stops takes) = record {
    offers = calls.stopped lines fault text status stops;
    delivers = calls.part lines text (fault_seven printed.status fault status) takes
        (kept_part printed.whole told.keep kept kept_after part keeps);
  }

  of_none : PrintsNone told.status printed sinks → GoesTo call outcome printed.status sinks kept kept_after
  of_none none = record {
    offers = calls.no_call (none.silent ∙ ap silent_status is.status) none.idle;
    delivers = calls.silent (none.silent ∙ ap silent_status is.status) none.same
        (kept_part printed.whole told.keep kept kept_after none.part keeps);
  }

  by_text : (text : Result (Vec ℕ Global) AllocError) → IfOk text (λ t. text_of outcome ≡ Some t.items)
      → MatchResult text (λ lines. PrintsLines call told.status lines.items printed sinks) (λ error. PrintsNone told.status printed sinks)
      → GoesTo call outcome printed.status sinks kept kept_after
  by_text (Ok lines) text prints = of_lines lines.items text prints
  by_text (Err error) text prints = of_none prints

  pub goes_to : Prints call told printed sinks → GoesTo call outcome printed.status sinks kept kept_after
  goes_to prints = by_text told.text is.text prints

-- lines that are there, and are offered so
pub prints_lines : {S : Type 0} (call : List ℕ → Result ℕ SinkFault → S → S → Type 0) (told : Told) (printed : Printed) (sinks : Sinks S)
    (lines : Vec ℕ Global) (bytes : List ℕ) → told.text ≡ Ok lines → bytes ≡ lines.items
    → PrintsLines call told.status bytes printed sinks → Prints call told printed sinks
prints_lines call told printed sinks lines bytes is same prints =
    let P : Result (Vec ℕ Global) AllocError → Type 0 =
    λ t. MatchResult t (λ l. PrintsLines call told.status l.items printed sinks) (λ error. PrintsNone told.status printed sinks) in
    let Q : List ℕ → Type 0 = λ l. PrintsLines call told.status l printed sinks in
    subst P (sym is) (subst Q same prints)

-- ---- with a settled status the whole text is delivered

pub record IsWhole (outcome : Outcome) (status : ℕ) (taken taken_after : Option (List ℕ)) (kept kept_after : List ℕ) : Type 0 where
  pub text : List ℕ
  pub is : text_of outcome ≡ Some text
  pub code : status ≡ status_of outcome
  pub takes : Takes text taken taken_after
  pub kept_is : kept_after ≡ kept_by outcome kept

silent_by : (b : Bool) → (◌≡◌ {A = ℕ} (if b then 7 else 9) 7) ⊎ (◌≡◌ {A = ℕ} (if b then 7 else 9) 9)
silent_by true = inl refl
silent_by false = inr refl

pub silent_ends : (status : ℕ) → (silent_status status ≡ 7) ⊎ (silent_status status ≡ 9)
silent_ends status = silent_by (status == 7)

pub settled : (outcome : Outcome) (status : ℕ) (taken taken_after : Option (List ℕ)) (kept kept_after : List ℕ) → IsSettled status
    → Delivers outcome status taken taken_after kept kept_after → IsWhole outcome status taken taken_after kept kept_after
settled outcome status taken taken_after kept kept_after is (calls.whole text of code takes keeps) =
    record { text = text; is = of; code = code; takes = takes; kept_is = keeps }
settled outcome status taken taken_after kept kept_after is (calls.part text of (inl e) takes keeps) = absurd (is.written e)
settled outcome status taken taken_after kept kept_after is (calls.part text of (inr e) takes keeps) = absurd (is.roomy e)
settled outcome status taken taken_after kept kept_after is (calls.silent e same keeps) = absurd (lead (silent_ends (status_of outcome)))
  where
    lead : (silent_status (status_of outcome) ≡ 7) ⊎ (silent_status (status_of outcome) ≡ 9) → ⊥
    lead (inl h) = is.written (e ∙ h)
    lead (inr h) = is.roomy (e ∙ h)
