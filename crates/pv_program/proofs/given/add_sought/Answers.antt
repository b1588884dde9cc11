use Rattle.pv_tree.specs.View.{arg_tree}
use Rattle.pv_names.specs.Entries.{block_of}
use Rattle.pv_program.proofs.Seeking.{sought-more, sought-none}
use Rattle.pv_program.proofs.given.add_sought.Goals as goal

pub returns-in_ok-push-in-Some : goal.returns-in_ok-push-in-Some
returns-in_ok-push-in-Some c = λ how args unique all.
    sought-more how (block_of c.args.callee.now) args (arg_tree c.args.arg.now) c.in-Some.number c.args.numbers.now.items
    c.push.new.self.items (λ key e. c.in-Some.ensures how key e) c.in_ok-push-in-Some.ensures.items unique all

pub returns-in-None : goal.returns-in-None
returns-in-None c = λ how args unique all.
    sought-none how (block_of c.args.callee.now) args (arg_tree c.args.arg.now) c.args.numbers.now.items
    (λ key e. c.in-None.ensures how key e) unique all
