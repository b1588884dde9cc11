use Rattle.std.proofs.Common.{◌-◌, List, sym, subst, ◌<◌, ◌∙◌, arith}
use Rattle.pv_inline.specs.Blocks.{codes_in}
use Rattle.pv_flow.specs.declared.parts.CallEdge.{CallEdge}
use Rattle.pv_call_tables.proofs.ForCallers.{passed_on}
use Rattle.pv_inline.specs.Short.{EachCall, HasShortText}
use Rattle.pv_inline.proofs.Shorts.{each_at, text_short}
use Rattle.pv_inline.proofs.Coded.{ok_by}
use Rattle.pv_inline.proofs.Needing.{none_spans, some_spans}
use Rattle.pv_inline.proofs.called.+spanning.Goals as goal

pub span-returns-in_ok-texts-in-Some-clause-number : goal.span-returns-in_ok-texts-in-Some-clause-number
span-returns-in_ok-texts-in-Some-clause-number t c =
    let some : 0 < c.args.levels = omega arith in
    ok_by c.span_of.result (λ n is. some_spans (codes_in c.args.blocks.now) c.args.levels c.args.block n c.in-Some.parts.now
    c.as_slice-calls.result.now c.as_slice-list.result.now some c.in-Some.ensures c.as_slice-calls.ensures.value
    (c.as_slice-list.ensures.value ∙ c.in_ok-texts-in-Some.ensures.made) is) c.span_of.ensures.number

pub span-returns-in-None-clause-number : goal.span-returns-in-None-clause-number
span-returns-in-None-clause-number t c = none_spans (codes_in c.args.blocks.now) c.args.levels c.args.block c.in-None.ensures

pub span-returns-in_err-texts-in-Some-clause-short : goal.span-returns-in_err-texts-in-Some-clause-short
span-returns-in_err-texts-in-Some-clause-short t c short =
    let some : 0 < c.args.levels = omega arith in
    passed_on c.from_residual.result c.in_err-texts-in-Some.field-0.0 c.from_residual.ensures.1
    (c.in_err-texts-in-Some.ensures.short (subst (λ (cs : List CallEdge). EachCall (HasShortText (codes_in c.args.blocks.now) (c.args.levels - 1)) cs)
    (sym c.as_slice-calls.ensures.value) (text_short (codes_in c.args.blocks.now) c.args.levels c.args.block c.in-Some.parts.now some c.in-Some.ensures short).1))

pub spans-returns-in_err-span-clause-short : goal.spans-returns-in_err-span-clause-short
spans-returns-in_err-span-clause-short t c short =
    passed_on c.from_residual-in_err-span.result c.in_err-span.field-0.0 c.from_residual-in_err-span.ensures.1
    (c.in_err-span.ensures.short (each_at (HasShortText (codes_in c.args.blocks.now) c.args.levels) c.args.calls.now c.loop-call.call-index _ c.loop-call-test.true short))
