use Rattle.std.proofs.Common.{rules, ◌≡◌, ◌∷◌, ◌++◌, [], ◌∙◌, ap}
use Rattle.std.specs.Str.{str_to_ascii_lowercase}
use Rattle.serde_json.specs.View.{view}
use Rattle.pv_case.specs.declared.case.Symbol.{Symbol}
use Rattle.pv_case.proofs.SymbolLaws.{none_typed, met_before, adds, typed_as}
use Rattle.pv_case.proofs.symbol_list.add.Goals as goal

pub returns-in_default-clause-bad : goal.returns-in_default-clause-bad
returns-in_default-clause-bad c = λ b is.
    let told = c.bad.ensures b is in (
      told.0,
      told.1,
      λ good. none_typed c.in_ok-typed.field-0 c.text_in.result.now c.text_in-2.result.now c.args.symbols.now.seen.keys
          (c.args.name.now, view c.args.symbol.now) c.in_default.is c.in_ok-typed.ensures.none c.text_in.ensures c.text_in-2.ensures good,
    )

pub returns-then-not-branch-clause-bad : goal.returns-then-not-branch-clause-bad
returns-then-not-branch-clause-bad c = λ b is.
    let told = c.bad-then-not-branch.ensures b is in (
      told.0,
      told.1,
      λ good. met_before c.args.symbols.now.seen.keys (c.args.name.now, view c.args.symbol.now) c.in_ok-key.key
          c.in_ok-insert.field-0
          (c.in_ok-key.ensures.cases ∙ c.key.ensures ∙ c.in_ok-name_of.ensures.key ∙ ap str_to_ascii_lowercase c.as_bytes.ensures.value)
          c.in_ok-insert.ensures.added c.if-not-branch.true good,
    )

pub returns-clause-added : goal.returns-clause-added
returns-clause-added c =
    let symbol : Symbol = record { name = c.in_ok-name_of.name_of; at = c.in-Some.typed.at; ty = c.in-Some.typed.ty } in
    let pushed : c.push.new.self.items ≡ c.args.symbols.now.list.items ++ symbol ∷ [] = search rules in
    adds c.args.symbols.now (record { list = c.push.new.self; seen = c.insert.new.self }) (c.args.name.now, view c.args.symbol.now)
    symbol c.text_in.result.now c.text_in-2.result.now
    c.in_ok-key.key c.as_bytes.result.now c.in_ok-insert.field-0
    (typed_as c.in_ok-typed.field-0 c.in-Some.typed c.text_in.result.now c.text_in-2.result.now
    c.in_ok-typed.ensures.found c.in-Some.is)
    c.text_in.ensures c.text_in-2.ensures c.as_bytes.ensures.value
    c.in_ok-name_of.ensures.key c.in_ok-name_of.ensures.spelled c.in_ok-name_of.ensures.paired (c.in_ok-key.ensures.cases ∙ c.key.ensures) c.in_ok-insert.ensures.added
    c.if-not-branch.false c.in_ok-insert.ensures.keys pushed
