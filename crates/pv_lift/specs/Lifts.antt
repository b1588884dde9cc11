-- Of which source and pattern a machine of circuits is lifted.
use Rattle.std.specs.Prelude.{Bool, true, false, List}
use Rattle.pv_machine.specs.Machines.{Machine}
use Rattle.pv_machine.specs.Same.{IsSame}
use Rattle.pv_mean.specs.declared.cell.Cell.{Cell}
use Rattle.pv_mean.specs.Sources.{Source}
use Rattle.pv_pattern.specs.Patterns as patterns
use Rattle.pv_pattern.specs.declared.pattern.Pattern.{Pattern}
use Rattle.pv_pattern.specs.declared.pattern.Pattern.TheVariants.{Invariant, Forbidden, Implication, Within, Between, Reach}
use Rattle.pv_pattern.specs.Found.{IsPatternOf}
use Rattle.pv_pattern.specs.Sources.{machine_of}
use Rattle.pv_valid.specs.declared.facts.Facts.{Facts}
use Rattle.pv_replay.specs.declared.replay.Replay.{Replay}
use Rattle.pv_replay.specs.Replays.{IsReplayOf, cells_of}

-- whether the pattern is one over two scans
abbrev pub looks_back_of : Pattern → Bool
looks_back_of (Invariant a) = false
looks_back_of (Forbidden a) = false
looks_back_of (Implication a b) = false
looks_back_of (Within a b) = false
looks_back_of (Between a b c) = true
looks_back_of (Reach a) = false

-- what no call of a lift changes: its machine, its cells, whether its pattern looks back, and what is known of its case
abbrev pub fixed_of : {M : Type 0} → M → Replay → Pattern → Facts → M × List Cell × Bool × Facts
fixed_of machine replay pattern facts = (machine, cells_of replay, looks_back_of pattern, facts)

-- the replay and the pattern are those of a source, whose machine is the same as this one
pub record IsLifted (m : Machine) (replay : Replay) (pattern : Pattern) : Type 0 where
  pub source : Source
  pub said : patterns.Pattern
  pub is_replay : IsReplayOf source replay
  pub is_pattern : IsPatternOf source pattern said
  pub same : IsSame (machine_of source said) m
