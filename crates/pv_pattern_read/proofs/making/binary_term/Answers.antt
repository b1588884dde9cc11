use Rattle.std.proofs.Common.{sym, ap, ◌∙◌}
use Rattle.std.specs.Prelude.{is_some}
use Rattle.std.proofs.lemmas.Bool.{false≢true}
use Rattle.std.proofs.lemmas.Result.{IfOk-weaker}
use Rattle.pv_pattern_read.proofs.Termed.{of_binary}
use Rattle.pv_pattern_read.proofs.making.binary_term.Goals as goal

pub returns : goal.returns
returns c = λ source place l r type_is h k.
    IfOk-weaker c.two.result _ _
    (λ t made. of_binary source c.args.op c.in-Some.op place c.args.ty l r c.args.left c.args.right t (sym c.two_of.ensures ∙ c.in-Some.is) type_is h k
    made) c.two.ensures

pub unreachable-requires : goal.unreachable-requires
unreachable-requires c = false≢true (ap is_some (sym c.in-None.is ∙ c.two_of.ensures) ∙ c.requires)
