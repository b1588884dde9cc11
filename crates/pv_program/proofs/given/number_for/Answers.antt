use Rattle.std.proofs.Common.{◌≡◌, ◌∙◌, bytes_eq}
use Rattle.pv_tree.specs.View.{arg_tree}
use Rattle.pv_names.specs.Entries.{block_of}
use Rattle.pv_names.specs.Firsts.{first_number}
use Rattle.pv_program.specs.Sought.{keys_of}
use Rattle.pv_program.proofs.Seeking.{named-number, only-for}
use Rattle.pv_program.proofs.given.number_for.Goals as goal

pub returns-in-Some : goal.returns-in-Some
returns-in-Some c = λ how key e.
    c.number_of.ensures
    ∙ named-number how (block_of c.args.callee.now) key (arg_tree c.args.arg.now) (c.in-Some.name, c.in-Some.field-0-1) c.in-Some.is e

pub returns-in-None : goal.returns-in-None
returns-in-None c = λ how key e.
    only-for how (block_of c.args.callee.now) key (arg_tree c.args.arg.now)
    (c.only_number.result ≡ first_number (bytes_eq key) (keys_of (block_of c.args.callee.now).vars)) c.in-None.is e
    (λ p is same. c.only_number.ensures p key is same)
