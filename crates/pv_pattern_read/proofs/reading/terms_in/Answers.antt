use Rattle.std.proofs.Common.{refl, arith}
use Rattle.std.proofs.lemmas.Result.{err_from_is_err_and}
use Rattle.std.specs.Prelude.{string_bytes}
use Rattle.pv_pattern_read.proofs.PatternLaws.{read_none, read_next, read_all, read_fault}
use Rattle.pv_pattern_read.proofs.reading.terms_in.Goals as goal

pub loop-text-init : goal.loop-text-init
loop-text-init c = read_none c.args.context.now c.new-terms.result.items string_bytes c.args.texts.now c.new-terms.ensures.items

pub loop-text-preserved : goal.loop-text-preserved
loop-text-preserved c =
    read_next c.args.context.now c.loop-text.terms.items _ c.in_ok-term.term string_bytes c.args.texts.now c.loop-text.n _ c.loop-text.text-index _
    c.text-item.result c.as_str.result.now (omega arith) c.text-item.is refl refl c.in_ok-push.ensures.items c.as_str.ensures.value c.in_ok-term.ensures
    c.loop-text.invariant

pub returns-clause-found : goal.returns-clause-found
returns-clause-found c =
    read_all c.args.context.now c.loop-text.terms.items string_bytes c.args.texts.now c.loop-text.n c.loop-text.text-index (omega arith)
    c.loop-text.invariant

pub returns-in_err-term-clause-refused : goal.returns-in_err-term-clause-refused
returns-in_err-term-clause-refused c =
    let p = err_from_is_err_and c.from_residual.result c.from_residual.ensures.1 in
    rw (p.1, p.2) (read_fault c.args.context.now c.loop-text.terms.items string_bytes c.args.texts.now c.loop-text.n c.loop-text.text-index
    c.text-item.result c.as_str.result.now c.in_err-term.field-0.0 (omega arith) c.text-item.is c.as_str.ensures.value c.loop-text.invariant
    c.in_err-term.ensures)
