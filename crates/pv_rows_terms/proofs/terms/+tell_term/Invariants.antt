use Rattle.pv_rows_terms.proofs.terms.+tell_term.Given as goal

abbrev pub decreases-tell_term : goal.decreases-tell_term
decreases-tell_term l = l.depth
