use Rattle.pv_ll.proofs.Tested.{ll1_from}
use Rattle.pv_ll.proofs.machine.recognize.Goals as goal

pub run-requires : goal.run-requires
run-requires c = ll1_from c.args.language.now c.requires
