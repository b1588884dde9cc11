use Rattle.pv_rules.proofs.found.declarations_near.Goals as goal

pub returns : goal.returns
returns c = λ project same. record {
  doubled = c.in_ok-doubled.ensures project same;
  untyped = c.in_ok-untyped.ensures project same;
  array = c.in_ok-array.ensures project same;
}
