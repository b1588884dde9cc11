use Rattle.std.proofs.Common.{ap, option_map, sym, refl}
use Rattle.pv_names.specs.Entries.{block_of}
use Rattle.pv_mean.specs.LaidOut.{capped_laid, laid_tree, test_of}
use Rattle.pv_resolve.proofs.Tabling.{nth_found, none_laid}
use Rattle.pv_resolve.proofs.context.Context.variable_in.Goals as goal

pub returns-in-Some-nth : goal.returns-in-Some-nth
returns-in-Some-nth c = λ source is at.
    sym (nth_found source.project (test_of c.args.part) (block_of c.args.entry.now).vars c.args.name.now.key c.in-Some.number 0
    (laid_tree c.in-Some-nth.laid) refl (sym c.in-Some.ensures) (c.in-Some-nth.ensures source is at))

pub returns-in-None-nth : goal.returns-in-None-nth
returns-in-None-nth c = λ source is at. c.walked.ensures source is

pub returns-in-None : goal.returns-in-None
returns-in-None c = λ source is at.
    sym (ap (option_map capped_laid) (none_laid source.project (test_of c.args.part) (block_of c.args.entry.now).vars c.args.name.now.key 0
    (sym c.in-None.ensures)))
