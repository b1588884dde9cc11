use Rattle.pv_command_replay.proofs.Places.{one_text}
use Rattle.pv_command_replay.proofs.laws.places_have_one_text.Goals as goal

pub returns : goal.returns
returns c = one_text
