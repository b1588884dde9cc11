use Rattle.std.proofs.Common.{subst}
use Rattle.serde_json.specs.View.{view}
use Rattle.pv_case.specs.Fields.{symbol_has}
use Rattle.pv_case.proofs.OverMaps.{keeps_next, breaks_next, keeps_all}
use Rattle.pv_case.proofs.symbols.symbols_have.Goals as goal

pub loop-path-preserved : goal.loop-path-preserved
loop-path-preserved c =
    keeps_next symbol_has c.loop-path.yielded (c.in-Some.path, c.in-Some.value) c.loop-path.invariant c.in_ok-symbol_has.ensures

pub returns-in_err-symbol_has : goal.returns-in_err-symbol_has
returns-in_err-symbol_has c =
    breaks_next symbol_has c.args.pairs.now.entries c.loop-path.yielded c.into_iter-path-iterator.result c.loop-path.path-iterator c.next.new.self
    c.next.result (c.in-Some.path, c.in-Some.value) c.in_err-symbol_has.field-0.0 c.from_residual.result c.from_residual.ensures.1
    c.into_iter-path-iterator.ensures.into_iter_gives.0 c.loop-path.yielded_by c.in-Some.is c.next.ensures.steps c.loop-path.invariant
    (subst (λ path. (symbol_has (path, view c.in-Some.value.now)).breaks c.in_err-symbol_has.field-0.0.kind c.in_err-symbol_has.field-0.0.field.now)
    c.as_str.ensures.value c.in_err-symbol_has.ensures)

pub returns : goal.returns
returns c =
    keeps_all symbol_has c.args.pairs.now.entries c.loop-path.yielded c.into_iter-path-iterator.result c.loop-path.path-iterator c.next.new.self
    c.next.result c.into_iter-path-iterator.ensures.into_iter_gives.0 c.loop-path.yielded_by c.in-None.is c.next.ensures.steps c.loop-path.invariant
