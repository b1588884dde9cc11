use Rattle.std.proofs.Common.{inl, inr, arith}
use Rattle.pv_pattern_read.proofs.spot.bytes.Goals as goal

pub unreachable-requires : goal.unreachable-requires
unreachable-requires c = elim c.requires [
  | inl e ↦ omega (arith, e)
  | inr f ↦ elim f [
    | inl e ↦ omega (arith, e)
    | inr e ↦ omega (arith, e)
  ]
]
