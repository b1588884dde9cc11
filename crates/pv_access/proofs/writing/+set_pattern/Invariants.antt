use Rattle.pv_access.proofs.writing.+set_pattern.Given as goal

abbrev pub decreases-set_pattern : goal.decreases-set_pattern
decreases-set_pattern l = l.count
