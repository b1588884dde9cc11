use Rattle.std.proofs.Common.{ℕ, List, [], map, subst, ◌∙◌}
use Rattle.serde_json.specs.View.{view}
use Rattle.pv_case.specs.Viewed.{pair_of}
use Rattle.pv_case.specs.Fields.{symbols_behind}
use Rattle.pv_case.specs.SymbolLists.{Adds, IsGood}
use Rattle.pv_case.proofs.SymbolLaws.{read_next, read_bad}
use Rattle.pv_case.proofs.Answering.{stops}
use Rattle.pv_case.proofs.symbol_list.good_among.Goals as goal

pub loop-name-preserved : goal.loop-name-preserved
loop-name-preserved c =
    read_next c.loop-name.symbols c.add.new.symbols c.loop-name.yielded (c.in-Some.name, c.in-Some.symbol) c.loop-name.invariant
    (subst (λ (n : List ℕ). Adds c.loop-name.symbols c.add.new.symbols (n, view c.in-Some.symbol.now)) c.as_str.ensures.value
    c.in_ok-add.ensures.added)

pub returns-in_err-add : goal.returns-in_err-add
returns-in_err-add c =
    stops (symbols_behind [] (map pair_of c.args.pairs.now.entries)) _ c.from_residual.result c.in_err-add.field-0.0 c.from_residual.ensures.1 (λ b is.
    let bad = c.in_err-add.ensures.bad b is in
    read_bad c.loop-name.symbols c.args.pairs.now.entries c.loop-name.yielded c.into_iter-name-iterator.result c.loop-name.name-iterator
    c.next.new.self c.next.result (c.in-Some.name, c.in-Some.symbol) b.kind b.field.now c.into_iter-name-iterator.ensures.into_iter_gives.0
    c.loop-name.yielded_by c.in-Some.is c.next.ensures.steps c.loop-name.invariant
    (subst (λ (n : List ℕ). IsGood c.loop-name.symbols.seen.keys (n, view c.in-Some.symbol.now) → ⊥) c.as_str.ensures.value bad.2) bad.0
    (bad.1 ∙ c.as_str.ensures.value))
