use Rattle.pv_command_load.proofs.Lines.{too_large}
use Rattle.pv_command_load.proofs.table.TableStop.text.Goals as goal

pub returns-in-TooLarge : goal.returns-in-TooLarge
returns-in-TooLarge c = too_large c.args.self.now c.from_str.result c.in-TooLarge.is c.from_str.ensures.ok
