use Rattle.std.proofs.Common.{subst}
use Rattle.pv_cert.specs.Reading.{StopsWith}
use Rattle.pv_cert.proofs.Wholes.{told-line}
use Rattle.pv_cert.proofs.reader.read_parts.Goals as goal

pub returns-in-Err-Left : goal.returns-in-Err-Left
returns-in-Err-Left c = told-line c.args.bytes.now c.in-Err-Left.left c.line_at.result (subst (StopsWith c.args.bytes.now) c.in-Err-Left.field-0-is c.in-Err-Left.ensures.stuck) c.line_at.ensures
