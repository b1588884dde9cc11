-- The block in a region.
use Rattle.pv_region.specs.declared.region.Region.TheInside.{Inside}
use Rattle.pv_region.specs.Layout.{Block}

abbrev pub block_of : Inside → Block
block_of r = record {
  variables = r.variables;
  clauses = r.clauses;
  lemmas = r.lemmas;
  clauses_end = r.clauses_end;
  end = r.end;
  words = r.words.items;
}
