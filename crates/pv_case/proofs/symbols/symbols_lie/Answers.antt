use Rattle.std.proofs.Common.{subst}
use Rattle.serde_json.specs.View.{view}
use Rattle.pv_case.specs.Fields.{symbol_lies}
use Rattle.pv_case.proofs.OverMaps.{keeps_next, breaks_next, keeps_all}
use Rattle.pv_case.proofs.symbols.symbols_lie.Goals as goal

pub loop-path-preserved : goal.loop-path-preserved
loop-path-preserved c =
    keeps_next symbol_lies c.loop-path.yielded (c.in-Some.path, c.in-Some.value) c.loop-path.invariant c.in_ok-symbol_lies.ensures

pub returns-in_err-symbol_lies : goal.returns-in_err-symbol_lies
returns-in_err-symbol_lies c =
    breaks_next symbol_lies c.args.pairs.now.entries c.loop-path.yielded c.into_iter-path-iterator.result c.loop-path.path-iterator c.next.new.self
    c.next.result (c.in-Some.path, c.in-Some.value) c.in_err-symbol_lies.field-0.0 c.from_residual.result c.from_residual.ensures.1
    c.into_iter-path-iterator.ensures.into_iter_gives.0 c.loop-path.yielded_by c.in-Some.is c.next.ensures.steps c.loop-path.invariant
    (subst (λ path. (symbol_lies (path, view c.in-Some.value.now)).breaks c.in_err-symbol_lies.field-0.0.kind c.in_err-symbol_lies.field-0.0.field.now)
    c.as_str.ensures.value c.in_err-symbol_lies.ensures)

pub returns : goal.returns
returns c =
    keeps_all symbol_lies c.args.pairs.now.entries c.loop-path.yielded c.into_iter-path-iterator.result c.loop-path.path-iterator c.next.new.self
    c.next.result c.into_iter-path-iterator.ensures.into_iter_gives.0 c.loop-path.yielded_by c.in-None.is c.next.ensures.steps c.loop-path.invariant
