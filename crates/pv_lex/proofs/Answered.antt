-- What the code answers of the front of a text, in the words of the definitions.
use Rattle.std.proofs.Common.{◌≡◌, ◌⊎◌, ℕ, ◌-◌, ◌<◌, ◌≤◌, ◌^◌, length, take, nat_lt, Bool, true, cond, not, inl, inr, List, [], ◌∷◌, ◌++◌, Option, Some, None, Result, Ok, Err, refl, ap, sym, ◌∙◌, subst, arith, length-append}
use Rattle.std.proofs.Math.Seq.{take-append_seam}
use Rattle.std.proofs.lemmas.Bool.{cases_Bool}
use Rattle.pv_lex.specs.declared.class.Class.TheVariants as c
use Rattle.pv_lex.specs.declared.context.Context.{Context}
use Rattle.pv_lex.specs.declared.stretch.Stretch.{Stretch}
use Rattle.pv_lex.specs.declared.stretch.Next.{Next}
use Rattle.pv_lex.specs.declared.fault.FaultKind.{FaultKind}
use Rattle.pv_lex.specs.declared.fault.FaultKind.TheVariants as f
use Rattle.pv_lex.specs.declared.token.Language.{Language}
use Rattle.pv_lex.specs.declared.token.Kind.{Kind}
use Rattle.pv_lex.specs.declared.token.Kind.TheVariants as k
use Rattle.pv_lex.specs.Shapes.{begins}
use Rattle.pv_lex.specs.Values.{magnitude, runs_fit}
use Rattle.pv_lex.specs.Tokens.{
  IsStretch,
  IsLongest,
  IsNext,
  NoneBegins,
  NoneIsNext,
  IsNumeric,
  IsOfFault,
  is_fit,
  opens_comment,
}
use Rattle.pv_lex.specs.Scans.{stretch_of, next_of, fitting, fault_of}
use Rattle.pv_lex.proofs.Scanning.{or_left, or_right, not_of}
use Rattle.pv_lex.proofs.Least.{stretch-found, found-longest, none-begins, unfit-none, stretch-some}

-- the stretch that is next, as the code has it
pub record IsFound (language : Language) (context : Context) (text : List ℕ) (next : Next) : Type 0 where
  pub bytes : List ℕ
  pub rest : List ℕ
  pub whole : text ≡ bytes ++ rest
  pub len_is : next.len ≡ length bytes
  pub some : 0 < next.len
  pub is_next : IsNext language context next.kind bytes rest

abbrev pub IsAnswer : Language → Context → List ℕ → Result Next FaultKind → Type 0
IsAnswer language context text (Ok next) = IsFound language context text next
IsAnswer language context text (Err kind) = NoneIsNext language context text × IsOfFault language context text kind

some-len : (language : Language) (context : Context) (kind : Option Kind) (bytes : List ℕ) → IsStretch language context kind bytes
    → 0 < length bytes
some-len language context kind [] x = absurd (stretch-some language context kind x)
some-len language context kind (b ∷ bytes) x = omega arith

-- the longest stretch that is fit
fit : (language : Language) (context : Context) (text : List ℕ) (kind : Option Kind) (bytes rest : List ℕ)
    → text ≡ bytes ++ rest
    → IsLongest language context kind bytes rest → is_fit kind bytes rest ≡ true
    → IsFound language context text (record { kind = kind; len = length bytes })
fit language context text kind bytes rest whole longest on = record {
  bytes = bytes;
  rest = rest;
  whole = whole;
  len_is = refl;
  some = some-len language context kind bytes longest.stretch;
  is_next = record { longest = longest; fit = on };
}

numeric : (language : Language) (context : Context) (text : List ℕ) (kind : Kind) (bytes rest : List ℕ) → text ≡ bytes ++ rest
    → IsLongest language context (Some kind) bytes rest
    → (kind ≡ k.Number) ⊎ (kind ≡ k.Address) → IsNumeric language context text
numeric language context text kind bytes rest whole longest h = record {
  kind = kind;
  bytes = bytes;
  rest = rest;
  whole = whole;
  longest =
      longest;
  numeric = h;
}

fitted : (language : Language) (context : Context) (text : List ℕ) (kind : Option Kind) (bytes rest : List ℕ) → text ≡ bytes ++ rest
    → IsLongest language context kind bytes rest → IsAnswer language context text (fitting kind bytes text)
fitted language context text None bytes rest whole longest = fit language context text None bytes rest whole longest refl
fitted language context text (Some k.Word) bytes rest whole longest = fit language context text (Some k.Word) bytes rest whole
    longest refl
fitted language context text (Some k.Quoted) bytes rest whole longest = fit language context text (Some k.Quoted) bytes rest whole
    longest refl
fitted language context text (Some k.Real) bytes rest whole longest = fit language context text (Some k.Real) bytes rest whole
    longest refl
fitted language context text (Some k.End) bytes rest whole longest = absurd longest.stretch
fitted language context text (Some k.Number) bytes rest whole longest =
    elim (cases_Bool (nat_lt (magnitude bytes) (2 ^ 64))) [
      | inl on ↦ subst (λ (v : Bool). IsAnswer language context text (cond v (Ok (record {
        kind = Some k.Number;
        len = length bytes;
      })) (Err f.NumberTooWide))) (sym on)
          (fit language context text (Some k.Number) bytes rest whole longest on)
      | inr off ↦ subst (λ (v : Bool). IsAnswer language context text (cond v (Ok (record {
        kind = Some k.Number;
        len = length bytes;
      })) (Err f.NumberTooWide))) (sym off) (
        unfit-none language context text (Some k.Number) bytes rest whole longest off,
        numeric language context text k.Number bytes rest
            whole longest (inl refl),
      )
    ]
fitted language context text (Some k.Address) bytes rest whole longest =
    elim (cases_Bool (runs_fit 0 bytes)) [
      | inl on ↦ subst (λ (v : Bool). IsAnswer language context text (cond v (Ok (record {
        kind = Some k.Address;
        len = length bytes;
      })) (Err f.NumberTooWide))) (sym on)
          (fit language context text (Some k.Address) bytes rest whole longest on)
      | inr off ↦ subst (λ (v : Bool). IsAnswer language context text (cond v (Ok (record {
        kind = Some k.Address;
        len = length bytes;
      })) (Err f.NumberTooWide))) (sym off) (
        unfit-none language context text (Some k.Address) bytes rest whole longest off,
        numeric language context text k.Address bytes
            rest whole longest (inr refl),
      )
    ]
fitted language context text (Some k.Sign) bytes rest whole longest =
    elim (cases_Bool (opens_comment text)) [
      | inl on ↦ subst (λ (v : Bool). IsAnswer language context text (cond v (Err f.OpenComment) (Ok (record {
        kind = Some k.Sign;
        len = length bytes;
      })))) (sym on) (
        unfit-none language context text (Some k.Sign) bytes rest whole longest (ap not (sym (ap opens_comment whole)
            ∙ on)),
        or_left (opens_comment text) (begins (c.Byte 123) text) on,
      )
      | inr off ↦ subst (λ (v : Bool). IsAnswer language context text (cond v (Err f.OpenComment) (Ok (record {
        kind = Some k.Sign;
        len = length bytes;
      })))) (sym off)
          (fit language context text (Some k.Sign) bytes rest whole longest (ap not (sym (ap opens_comment whole) ∙ off)))
    ]

-- where nothing begins nothing is next
none-next : (language : Language) (context : Context) (text : List ℕ) → NoneBegins language context text → NoneIsNext language context text
none-next language context text none = λ kind bytes rest is n. none kind bytes rest is n.longest.stretch

faulty : (language : Language) (context : Context) (text : List ℕ) → NoneBegins language context text
    → IsAnswer language context text (Err (fault_of text))
faulty language context text none =
    elim (cases_Bool (begins (c.Byte 123) text)) [
      | inl on ↦ subst (λ (v : Bool). IsAnswer language context text (Err (cond v f.OpenComment (cond (begins (c.Byte 34) text) f.OpenQuote
          f.BadByte)))) (sym on)
          (none-next language context text none, or_right (opens_comment text) (begins (c.Byte 123) text) on)
      | inr off ↦ subst (λ (v : Bool). IsAnswer language context text (Err (cond v f.OpenComment (cond (begins (c.Byte 34) text)
          f.OpenQuote f.BadByte)))) (sym off)
          (elim (cases_Bool (begins (c.Byte 34) text)) [
            | inl on ↦ subst (λ (v : Bool). IsAnswer language context text (Err (cond v f.OpenQuote f.BadByte))) (sym on) (
              none-next
                  language context text none,
              on,
            )
            | inr out ↦ subst (λ (v : Bool). IsAnswer language context text (Err (cond v f.OpenQuote f.BadByte))) (sym out)
                (none-next language context text none, (none, not_of (begins (c.Byte 123) text) off, not_of (begins (c.Byte 34) text) out))
          ])
    ]

-- the front of a text before what is left
front-taken : (text bytes rest : List ℕ) (left : ℕ) → text ≡ bytes ++ rest → length rest ≡ left → take (length text - left) text ≡ bytes
front-taken text bytes rest left whole e =
    let n : length text - left ≡ length bytes = omega (arith, ap length whole, length-append bytes rest, e) in
    ap (λ (m : ℕ). take m text) n ∙ ap (take (length bytes)) whole ∙ take-append_seam bytes rest

by_found : (language : Language) (context : Context) (text : List ℕ) (found : Option Stretch) → stretch_of language context text ≡ found
    → IsAnswer language context text (elim found [
      | None ↦ Err (fault_of text)
      | Some s ↦ fitting s.kind (take (length text - s.left) text)
          text
    ])
by_found language context text None e = faulty language context text (none-begins language context text e)
by_found language context text (Some s) e =
    let x = stretch-found language context text s e in
    subst (λ (b : List ℕ). IsAnswer language context text (fitting s.kind b text)) (sym (front-taken text x.bytes x.rest s.left x.whole
    x.left_is))
    (fitted language context text s.kind x.bytes x.rest x.whole (found-longest language context text s e x))

-- what is answered of a text is right
pub answered : (language : Language) (context : Context) (text : List ℕ) → IsAnswer language context text (next_of language context text)
unfolding next_of
answered language context text = by_found language context text (stretch_of language context text) refl

-- what is found leaves no more than the text
pub left-within : (language : Language) (context : Context) (text : List ℕ) (s : Stretch) → stretch_of language context text ≡ Some s
    → s.left ≤ length text
left-within language context text s e =
    let x = stretch-found language context text s e in
    omega (arith, ap length x.whole, length-append x.bytes x.rest, x.left_is)
