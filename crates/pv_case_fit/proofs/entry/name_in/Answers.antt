use Rattle.std.proofs.Common.{ℕ, List, sym, subst, ◌∙◌}
use Rattle.pv_lex.specs.declared.token.Language.TheVariants.{Scl}
use Rattle.pv_lex.specs.Tokens.{IsFault}
use Rattle.pv_case_fit.proofs.NameLaws.{found_in, none_in, faultless}
use Rattle.pv_case_fit.proofs.entry.name_in.Goals as goal

pub returns-in-Ok-clause-found : goal.returns-in-Ok-clause-found
returns-in-Ok-clause-found c =
    found_in c.args.text.now c.as_bytes.result.now c.as_bytes-in-Ok.result.now c.in-Ok.tokens.items c.as_slice.result.now c.name_among.result
    (sym c.is_short.ensures ∙ c.if-not-is_short.false) c.as_bytes.ensures.value c.as_bytes-in-Ok.ensures.value c.as_slice.ensures.value c.in-Ok.ensures.found
    c.name_among.ensures.found

pub returns-in-Ok-clause-none : goal.returns-in-Ok-clause-none
returns-in-Ok-clause-none c =
    none_in c.args.text.now c.as_bytes.result.now c.as_bytes-in-Ok.result.now c.in-Ok.tokens.items c.as_slice.result.now c.name_among.result
    c.as_bytes.ensures.value c.as_bytes-in-Ok.ensures.value c.as_slice.ensures.value c.in-Ok.ensures.found c.name_among.ensures.none

pub returns-in-Err-NoToken-clause-none : goal.returns-in-Err-NoToken-clause-none
returns-in-Err-NoToken-clause-none c = λ name h.
    faultless c.args.text.now c.in-Err-NoToken.field-0-0 c.in-Err-NoToken.field-0-1 name
    (subst (λ (b : List ℕ). IsFault Scl 0 b c.in-Err-NoToken.field-0-0 c.in-Err-NoToken.field-0-1) c.as_bytes.ensures.value
    (c.in-Err-NoToken.ensures.refused c.in-Err-NoToken.field-0-0 c.in-Err-NoToken.field-0-1 c.in-Err-NoToken.field-0-is)) h
