use Rattle.pv_tree.proofs.AddressLaws.{byte-kept, bit-kept}
use Rattle.pv_tree.proofs.laws.addresses_say_their_digits.Goals as goal

pub returns : goal.returns
returns c = record {
  byte = λ language context bytes rest h. byte-kept language context bytes rest h;
  bit = λ language context bytes rest h. bit-kept language context bytes rest h;
}
