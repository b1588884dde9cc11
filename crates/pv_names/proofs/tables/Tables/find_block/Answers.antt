use Rattle.std.proofs.Common.{◌∙◌}
use Rattle.pv_names.specs.Entries.{block_of}
use Rattle.pv_names.proofs.FirstNumbers.{found_at, found_none}
use Rattle.pv_names.proofs.LookUps.{block_found}
use Rattle.pv_names.proofs.tables.Tables.find_block.Goals as goal

pub returns-in-Some : goal.returns-in-Some
returns-in-Some c =
    found_at block_of (λ b. b.now) c.args.self.now.entries.now c.in-Some.number _ c.get.result (c.in-Some.ensures ∙ c.args.self.now.by_block c.args.name.now.key)
    c.get.ensures.lookup.0 c.get.ensures.lookup.1
    ∙ block_found c.args.self.now.entries.now c.args.name.now.key

pub returns-in-None : goal.returns-in-None
returns-in-None c =
    found_none block_of c.args.self.now.entries.now _ (c.in-None.ensures ∙ c.args.self.now.by_block c.args.name.now.key) ∙ block_found c.args.self.now.entries.now c.args.name.now.key
