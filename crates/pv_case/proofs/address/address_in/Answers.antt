use Rattle.std.proofs.Common.{sym, ◌∙◌}
use Rattle.pv_case.proofs.AddressLaws.{found_in, none_in, text_faultless}
use Rattle.std.proofs.Common.{subst, ℕ, List}
use Rattle.pv_lex.specs.declared.token.Language.TheVariants.{Scl}
use Rattle.pv_lex.specs.Tokens.{IsFault}
use Rattle.pv_case.proofs.address.address_in.Goals as goal

pub returns-in-Ok-clause-found : goal.returns-in-Ok-clause-found
returns-in-Ok-clause-found c =
    found_in c.args.text.now c.as_bytes.result.now c.as_bytes-in-Ok.result.now c.in-Ok.tokens.items c.as_slice.result.now c.address_of.result
    (sym c.is_short.ensures ∙ c.if-not-is_short.false) c.as_bytes.ensures.value c.as_bytes-in-Ok.ensures.value c.as_slice.ensures.value c.in-Ok.ensures.found
    c.address_of.ensures.found

pub returns-in-Ok-clause-none : goal.returns-in-Ok-clause-none
returns-in-Ok-clause-none c =
    none_in c.args.text.now c.as_bytes.result.now c.as_bytes-in-Ok.result.now c.in-Ok.tokens.items c.as_slice.result.now c.address_of.result
    c.as_bytes.ensures.value c.as_bytes-in-Ok.ensures.value c.as_slice.ensures.value c.in-Ok.ensures.found c.address_of.ensures.none

pub returns-in-Err-NoToken-clause-none : goal.returns-in-Err-NoToken-clause-none
returns-in-Err-NoToken-clause-none c = λ its bits byte bit place h.
    text_faultless c.args.text.now c.in-Err-NoToken.field-0-0 c.in-Err-NoToken.field-0-1 its bits byte bit place
    (subst (λ (b : List ℕ). IsFault Scl 0 b c.in-Err-NoToken.field-0-0 c.in-Err-NoToken.field-0-1) c.as_bytes.ensures.value
    (c.in-Err-NoToken.ensures.refused c.in-Err-NoToken.field-0-0 c.in-Err-NoToken.field-0-1 c.in-Err-NoToken.field-0-is)) h
