use Rattle.std.proofs.Common.{◌≡◌, take}
use Rattle.pv_cells.proofs.copies.copied_names.Given as goal

abbrev pub invariant-loop-word : goal.invariant-loop-word
invariant-loop-word l = l.copies.items ≡ take l.word-index l.names
