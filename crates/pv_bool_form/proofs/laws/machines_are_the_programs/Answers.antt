use Rattle.pv_bool_form.proofs.Machines.{of_program}
use Rattle.pv_bool_form.proofs.laws.machines_are_the_programs.Goals as goal

pub returns : goal.returns
returns c = λ block patterns bound p is are first. of_program block patterns bound p is.form are first is.few
