use Rattle.pv_laws_lower.proofs.laws.terms_hold.Goals as goal

pub returns : goal.returns
returns c = record {
  conversions = c.conversions_hold.ensures;
  unaries = c.unaries_hold.ensures;
  binaries = c.binaries_hold.ensures;
  functions = c.functions_hold.ensures;
  indexes = c.indexes_hold.ensures;
}
