-- The code's tables are those of the parts.
use Rattle.std.specs.Prelude.{◌≡◌, ℕ, length}
use Rattle.pv_flow.specs.declared.parts.Parts.{Parts as CodeParts}
use Rattle.pv_unroll.specs.declared.unrolling.Known.{Known}
use Rattle.pv_unroll.specs.Endings.{endings_of}
use Rattle.pv_unroll.specs.Chains.{chains_of}
use Rattle.pv_unroll.specs.Turning.{turns_of}
use Rattle.pv_unroll.specs.Tables.{plain_loops, copy_sizing}
use Rattle.pv_unroll.specs.Seen.{chains_seen, sizing_seen}

pub record IsKnown (p : CodeParts) (n : ℕ) (known : Known) : Type 0 where
  pub endings : known.endings.items ≡ endings_of p
  pub sizing : sizing_seen known.sizing ≡ copy_sizing p n
  pub turned : known.turned.items ≡ turns_of (length p.edges.items) (plain_loops p)
  pub chains : chains_seen known.chains ≡ chains_of p.locations p.edges.items
