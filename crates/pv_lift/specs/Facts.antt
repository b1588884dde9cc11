-- What is known of the case that a lift is of: its limits, and the ranges of its cells.
use Rattle.std.specs.Prelude.{Bool, List, map}
use Rattle.pv_place.specs.Ranges.{Range}
use Rattle.pv_mean.specs.declared.cell.Cell.{Cell}
use Rattle.pv_mean.specs.Frames.{image_ranges, input_ranges, param_ranges}
use Rattle.pv_kind.specs.declared.decision.Limits.{Limits}
use Rattle.pv_valid.specs.declared.facts.Facts.{Facts}
use Rattle.pv_valid.specs.Cases.{Bounds}

abbrev pub bounds_of : Range → Bounds
bounds_of range = (range.least, range.greatest)

-- by its cells, whether its pattern asks for a goal, whether it looks back, and the case's limits
abbrev pub facts_of : List Cell → Bool → Bool → Limits → Facts
facts_of cells goal back limits = record {
  goal = goal;
  looks_back = back;
  depth = limits.depth;
  lemmas = limits.lemmas;
  words = limits.words;
  params = map bounds_of (param_ranges cells);
  input = map bounds_of (input_ranges cells);
  image = map bounds_of (image_ranges cells);
}

-- the limits that are known
abbrev pub limits_in : Facts → Limits
limits_in facts = record { depth = facts.depth; lemmas = facts.lemmas; words = facts.words }
