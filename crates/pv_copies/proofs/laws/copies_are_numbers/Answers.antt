use Rattle.std.proofs.Common.{sym, ◌∙◌}
use Rattle.pv_copies.proofs.Turning.{loops_are_copies}
use Rattle.pv_copies.proofs.Numbers.{copies_are_numbers}
use Rattle.pv_copies.proofs.laws.copies_are_numbers.Goals as goal

pub returns : goal.returns
returns c = λ p n steps w f well some. sym (loops_are_copies p n f well steps w ∙ copies_are_numbers p n steps w f well some)
