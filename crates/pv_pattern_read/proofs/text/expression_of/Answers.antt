use Rattle.std.proofs.Common.{ℕ, List, subst}
use Rattle.pv_lex.specs.declared.token.Language.TheVariants.{Scl}
use Rattle.pv_lex.specs.Tokens.{IsFault}
use Rattle.pv_pattern_read.proofs.Telling.{found_in, none_in, faultless}
use Rattle.pv_pattern_read.proofs.text.expression_of.Goals as goal

pub returns-in-Ok-clause-found : goal.returns-in-Ok-clause-found
returns-in-Ok-clause-found c =
    found_in c.args.text.now c.as_bytes.result.now c.as_bytes-in-Ok.result.now c.in-Ok.tokens.items c.as_slice.result.now c.expression_among.result
    c.as_bytes.ensures.value c.as_bytes-in-Ok.ensures.value c.as_slice.ensures.value c.in-Ok.ensures.found
    c.expression_among.ensures.found

pub returns-in-Ok-clause-none : goal.returns-in-Ok-clause-none
returns-in-Ok-clause-none c =
    none_in c.args.text.now c.as_bytes.result.now c.as_bytes-in-Ok.result.now c.in-Ok.tokens.items c.as_slice.result.now c.expression_among.result
    c.as_bytes.ensures.value c.as_bytes-in-Ok.ensures.value c.as_slice.ensures.value c.in-Ok.ensures.found c.expression_among.ensures.none

pub returns-in-Err-NoToken-clause-none : goal.returns-in-Err-NoToken-clause-none
returns-in-Err-NoToken-clause-none c = λ e h.
    faultless c.args.text.now c.in-Err-NoToken.field-0-0 c.in-Err-NoToken.field-0-1 e
    (subst (λ (b : List ℕ). IsFault Scl 0 b c.in-Err-NoToken.field-0-0 c.in-Err-NoToken.field-0-1) c.as_bytes.ensures.value
    (c.in-Err-NoToken.ensures.refused c.in-Err-NoToken.field-0-0 c.in-Err-NoToken.field-0-1 c.in-Err-NoToken.field-0-is)) h
