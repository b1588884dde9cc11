use Rattle.pv_queries.proofs.Meets.{numbers-meet}
use Rattle.pv_queries.proofs.laws.numbers_meet_queries.Goals as goal

pub returns : goal.returns
returns c = numbers-meet
