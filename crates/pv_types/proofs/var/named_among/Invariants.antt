use Rattle.std.proofs.Common.{◌≡◌, map, drop}
use Rattle.std.specs.Prelude.{bytes_eq, find}
use Rattle.pv_types.specs.View.{name_of}
use Rattle.pv_types.proofs.Words.{word_in}
use Rattle.pv_types.proofs.var.named_among.Given as goal

abbrev pub invariant-loop-word : goal.invariant-loop-word
invariant-loop-word l =
    find (λ v. bytes_eq l.name.key (name_of v).key) (map (word_in l.of) (drop l.word-index l.word-items))
    ≡ find (λ v. bytes_eq l.name.key (name_of v).key) (map (word_in l.of) l.word-items)
