use Rattle.pv_pattern.proofs.Unread.{judged_same, marked_same}
use Rattle.pv_pattern.proofs.laws.unread_cells_play_no_part.Goals as goal

pub returns-clause-judged : goal.returns-clause-judged
returns-clause-judged c = λ source p prev begin other_begin end other_end fixed at_begin at_end.
    judged_same source p prev begin other_begin end other_end fixed at_begin at_end

pub returns-clause-marked : goal.returns-clause-marked
returns-clause-marked c = marked_same
