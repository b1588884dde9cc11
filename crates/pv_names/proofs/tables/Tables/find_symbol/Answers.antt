use Rattle.std.proofs.Common.{◌∙◌}
use Rattle.pv_tree.specs.Projects.{symbol_tree}
use Rattle.pv_names.proofs.FirstNumbers.{found_at, found_none}
use Rattle.pv_names.proofs.LookUps.{symbol_found}
use Rattle.pv_names.proofs.tables.Tables.find_symbol.Goals as goal

pub returns-in-Some : goal.returns-in-Some
returns-in-Some c =
    found_at symbol_tree (λ b. b.now) c.args.self.now.symbols.now c.in-Some.number _ c.get.result (c.in-Some.ensures ∙ c.args.self.now.by_symbol c.args.name.now.key)
    c.get.ensures.lookup.0 c.get.ensures.lookup.1
    ∙ symbol_found c.args.self.now.symbols.now c.args.name.now.key

pub returns-in-None : goal.returns-in-None
returns-in-None c =
    found_none symbol_tree c.args.self.now.symbols.now _ (c.in-None.ensures ∙ c.args.self.now.by_symbol c.args.name.now.key) ∙ symbol_found c.args.self.now.symbols.now c.args.name.now.key
