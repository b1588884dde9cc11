use Rattle.std.proofs.Common.{◌≡◌, length, arith}
use Rattle.std.proofs.lemmas.Grind.{common_steps}
use Rattle.pv_region.proofs.Seen.{written-lemma}
use Rattle.pv_region.proofs.words.write_lemma.Goals as goal

pub returns-clause-lemma : goal.returns-clause-lemma
returns-clause-lemma c =
    let size : length c.copy_to-2.new.words ≡ length c.args.words.now = grind (
      arith,
      common_steps,
      c.copy_to-2.ensures.size,
      c.copy_to.ensures.size,
    ) in
    written-lemma c.args.words.now c.copy_to.new.words c.copy_to-2.new.words c.args.end c.record_at-record.result c.args.lits.now
    c.args.hints.now c.copy_to.ensures c.copy_to-2.ensures (omega (arith, size)) (omega (arith, size))
