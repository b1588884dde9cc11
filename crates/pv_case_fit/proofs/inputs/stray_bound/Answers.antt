use Rattle.std.proofs.Common.{◌<◌, length, Some, sym, ap, ◌∙◌, arith, add-one}
use Rattle.std.specs.Prelude.{string_bytes}
use Rattle.pv_case_fit.specs.Inputs.{is_no_input}
use Rattle.pv_case_fit.proofs.Walking.{found_here, found_later, found_none}
use Rattle.pv_case_fit.proofs.inputs.stray_bound.Goals as goal

pub returns-then-is_no_input : goal.returns-then-is_no_input
returns-then-is_no_input c =
    let h : c.loop-bound.bound-index < length c.args.bind.now = omega arith in
    ap Some c.as_str-path.ensures.value ∙ sym (c.loop-bound.invariant
    ∙ found_here (is_no_input c.args.cells.now) (λ b. string_bytes b.path) c.args.bind.now c.loop-bound.bound-index c.bound-item.result h c.bound-item.is
    (sym (c.is_no_input.ensures ∙ ap (is_no_input c.args.cells.now) c.as_str-path.ensures.value) ∙ c.if-is_no_input.true))

pub loop-bound-preserved : goal.loop-bound-preserved
loop-bound-preserved c =
    let h : c.loop-bound.bound-index < length c.args.bind.now = omega arith in
    rw add-one (c.loop-bound.invariant
    ∙ found_later (is_no_input c.args.cells.now) (λ b. string_bytes b.path) c.args.bind.now c.loop-bound.bound-index c.bound-item.result h c.bound-item.is
    (sym (c.is_no_input.ensures ∙ ap (is_no_input c.args.cells.now) c.as_str-path.ensures.value) ∙ c.if-is_no_input.false))

pub returns : goal.returns
returns c =
    sym (c.loop-bound.invariant ∙ found_none (is_no_input c.args.cells.now) (λ b. string_bytes b.path) c.args.bind.now c.loop-bound.bound-index (omega arith))
