use Rattle.std.proofs.Common.{◌≡◌, rules}
use Rattle.pv_log.specs.LineText.{line_text}
use Rattle.pv_log.proofs.Spelled.{written-spells}
use Rattle.pv_log.proofs.write.write_line.Goals as goal

pub returns-clause-spells : goal.returns-clause-spells
returns-clause-spells c =
    let text : c.push-2.new.self.items ≡ line_text c.args.line.now = search rules in
    written-spells c.push-2.new.self.items c.args.line.now c.as_slice.result.now c.as_slice-2.result.now c.in_ok-push_number.ensures.fits c.as_slice.ensures c.as_slice-2.ensures
    c.requires.lits c.requires.hints c.in_ok-push_literals.ensures.fits c.in_ok-push_hints.ensures.fits text
