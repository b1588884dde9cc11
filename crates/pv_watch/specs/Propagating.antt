-- What contracts see of clauses with their watches and a trail.
use Rattle.std.specs.Prelude.{ℕ}
use Rattle.pv_region.specs.Stored.{Stored}
use Rattle.pv_watch.specs.Trail.{Path}

pub record Propagating : Type 0 where
  pub stored : Stored
  pub path : Path
  -- how many of the literals that are false have had their turn
  pub done : ℕ
