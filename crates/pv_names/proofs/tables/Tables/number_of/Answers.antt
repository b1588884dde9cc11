use Rattle.std.proofs.Common.{◌∙◌, ap, sym, bytes_eq}
use Rattle.std.proofs.lemmas.Simd.{map-map}
use Rattle.pv_names.specs.Entries.{block_of}
use Rattle.pv_names.specs.Firsts.{first_number}
use Rattle.pv_names.proofs.tables.Tables.number_of.Goals as goal

pub returns : goal.returns
returns c =
    c.find.ensures ∙ c.args.self.now.by_block c.args.name.now.key
    ∙ ap (first_number (bytes_eq c.args.name.now.key)) (sym (map-map (λ b. b.name.key) block_of c.args.self.now.entries.now))
