use Rattle.pv_bool_load.proofs.Subjects.{of_program}
use Rattle.pv_bool_load.proofs.laws.subjects_are_their_programs.Goals as goal

pub returns : goal.returns
returns c = λ told file s is. of_program told file s c.texts_are_one_expression.ensures is
