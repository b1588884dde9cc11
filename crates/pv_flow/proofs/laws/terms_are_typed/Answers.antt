use Rattle.pv_flow.proofs.Typing.{typed_value}
use Rattle.pv_flow.proofs.laws.terms_are_typed.Goals as goal

pub returns : goal.returns
returns c = λ n types w t are names is. typed_value n types w are t names is
