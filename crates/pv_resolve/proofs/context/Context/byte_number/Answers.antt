use Rattle.std.proofs.Common.{arith}
use Rattle.pv_resolve.proofs.Naming.{byte_cell}
use Rattle.pv_resolve.specs.Contexts.{block_in}
use Rattle.pv_resolve.proofs.Nears.{byte_near}
use Rattle.pv_resolve.proofs.context.Context.byte_number.Goals as goal

pub returns-in-Ok-clause-value : goal.returns-in-Ok-clause-value
returns-in-Ok-clause-value c =
    λ source is. byte_cell c.args.self.now source c.args.area c.args.byte c.place_of-place.result c.in-Ok.n is c.place_of-place.ensures.place
    (omega arith)

pub returns-in-Err-clause-room : goal.returns-in-Err-clause-room
returns-in-Err-clause-room c =
    λ source is h. absurd (let near = byte_near c.args.self.now source (block_in c.args.self.now) c.place_of-place.result is h c.place_of-place.ensures.within in
    omega (arith, near))
