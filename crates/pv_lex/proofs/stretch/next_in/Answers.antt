use Rattle.std.proofs.Common.{sym}
use Rattle.pv_lex.proofs.Answered.{left-within}
use Rattle.pv_lex.proofs.stretch.next_in.Goals as goal

pub overflow_sub-text : goal.overflow_sub-text
overflow_sub-text c = left-within c.args.language c.args.context c.args.text.now c.in-Some.stretch (sym c.in-Some.ensures)
