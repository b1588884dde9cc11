use Rattle.std.proofs.Common.{ap, ◌∙◌, map}
use Rattle.pv_names.specs.Entries.{block_of}
use Rattle.pv_rules.proofs.found.nearest_of.Goals as goal

pub nearest_among-requires : goal.nearest_among-requires
nearest_among-requires c = ap (map block_of) c.as_slice.ensures.value ∙ c.in_ok-all.ensures
