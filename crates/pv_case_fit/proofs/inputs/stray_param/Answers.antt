use Rattle.std.proofs.Common.{◌<◌, length, Some, sym, ap, ◌∙◌, arith, add-one}
use Rattle.std.specs.Prelude.{string_bytes}
use Rattle.pv_case_fit.specs.Inputs.{is_no_input}
use Rattle.pv_case_fit.proofs.Walking.{found_here, found_later, found_none}
use Rattle.pv_case_fit.proofs.inputs.stray_param.Goals as goal

pub returns-then-is_no_input : goal.returns-then-is_no_input
returns-then-is_no_input c =
    let h : c.loop-param.param-index < length c.args.params.now = omega arith in
    ap Some c.as_str-path.ensures.value ∙ sym (c.loop-param.invariant
    ∙ found_here (is_no_input c.args.cells.now) string_bytes c.args.params.now c.loop-param.param-index c.param-item.result h c.param-item.is
    (sym (c.is_no_input.ensures ∙ ap (is_no_input c.args.cells.now) c.as_str-path.ensures.value) ∙ c.if-is_no_input.true))

pub loop-param-preserved : goal.loop-param-preserved
loop-param-preserved c =
    let h : c.loop-param.param-index < length c.args.params.now = omega arith in
    rw add-one (c.loop-param.invariant
    ∙ found_later (is_no_input c.args.cells.now) string_bytes c.args.params.now c.loop-param.param-index c.param-item.result h c.param-item.is
    (sym (c.is_no_input.ensures ∙ ap (is_no_input c.args.cells.now) c.as_str-path.ensures.value) ∙ c.if-is_no_input.false))

pub returns : goal.returns
returns c =
    sym (c.loop-param.invariant ∙ found_none (is_no_input c.args.cells.now) string_bytes c.args.params.now c.loop-param.param-index (omega arith))
