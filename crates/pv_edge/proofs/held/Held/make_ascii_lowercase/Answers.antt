use Rattle.std.proofs.lemmas.List.{take-map}
use Rattle.std.specs.Char.{to_ascii_lowercase}
use Rattle.pv_edge.proofs.held.Held.make_ascii_lowercase.Goals as goal

pub returns-in-Short : goal.returns-in-Short
returns-in-Short c = rw (c.make_ascii_lowercase.ensures.after, c.in-Short.is) (take-map to_ascii_lowercase c.in-Short.len c.in-Short.bytes)
