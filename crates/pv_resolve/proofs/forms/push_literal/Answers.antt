use Rattle.std.proofs.Common.{◌∙◌, rules}
use Rattle.std.specs.Prelude.{FitsSigned}
use Rattle.std.specs.Int.{w64}
use Rattle.std.proofs.lemmas.Int.{to_z-of_z}
use Rattle.std.proofs.lemmas.Result.{IfOk-weaker}
use Rattle.pv_resolve.proofs.FormLaws.{added_grows, added_within, literal_means}
use Rattle.pv_resolve.proofs.forms.push_literal.Goals as goal

pub push-requires-clause-follows : goal.push-requires-clause-follows
push-requires-clause-follows c = record { below = tt; most = tt }

pub returns : goal.returns
returns c =
    let fits : FitsSigned w64 c.args.v.now = search rules in
    record {
      grows = IfOk-weaker c.push.result _ _ (λ n adds. added_grows _ _ _ n adds) c.push.ensures.adds;
      within = IfOk-weaker c.push.result _ _ (λ n adds. added_within _ _ _ n adds) c.push.ensures.adds;
      memory = c.push.ensures.memory;
      means = λ source block e w is same.
          IfOk-weaker c.push.result _ _
          (λ n adds. literal_means source block _ _ n e w _ is (to_z-of_z w64 c.args.v.now fits ∙ same) adds) c.push.ensures.adds;
    }
