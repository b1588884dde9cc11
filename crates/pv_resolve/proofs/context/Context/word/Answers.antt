use Rattle.std.proofs.lemmas.Result.{IfOk-weaker}
use Rattle.pv_types.specs.View.{var_tree}
use Rattle.pv_resolve.specs.Contexts.{block_in}
use Rattle.pv_eval.specs.Means.{activation}
use Rattle.pv_resolve.specs.Begins.{begin_at}
use Rattle.pv_resolve.proofs.Naming.{word_declared, word_undeclared}
use Rattle.pv_resolve.proofs.Nears.{declared_fits}
use Rattle.pv_resolve.proofs.context.Context.word.Goals as goal

pub returns-in-Some-clause-value : goal.returns-in-Some-clause-value
returns-in-Some-clause-value c =
    λ source first is. IfOk-weaker c.variable.result _ _ (λ b e.
    word_declared source (activation (block_in c.args.self.now) first) c.args.name.now.key c.args.hash (var_tree c.in-Some.var) (begin_at b first)
    c.in-Some.ensures e)
    (c.variable.ensures.value source first is)

pub returns-in-None-clause-value : goal.returns-in-None-clause-value
returns-in-None-clause-value c =
    λ source first is. IfOk-weaker c.undeclared.result _ _ (λ b e.
    word_undeclared source (activation (block_in c.args.self.now) first) c.args.name.now.key c.args.hash (begin_at b first) c.in-None.ensures e)
    (c.undeclared.ensures.value source first is)

pub returns-in-Some-clause-room : goal.returns-in-Some-clause-room
returns-in-Some-clause-room c =
    λ source is h. c.variable.ensures.room source is h (declared_fits source (block_in c.args.self.now) h c.args.name.now.key c.in-Some.var c.in-Some.ensures)

pub returns-in-None-clause-room : goal.returns-in-None-clause-room
returns-in-None-clause-room c =
    λ source is h. c.undeclared.ensures.room source is h
