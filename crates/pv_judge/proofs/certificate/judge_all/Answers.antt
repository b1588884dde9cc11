use Rattle.std.proofs.Common.{◌≤◌, ◌+◌, List, length, sym, subst}
use Rattle.std.specs.List.{AllByRecursion}
use Rattle.pv_cert.specs.declared.proof.Query.{Query}
use Rattle.pv_kind.specs.declared.told.TheConstants.{LAST_QUERY}
use Rattle.pv_kind.specs.Oracles.{IsAsked}
use Rattle.pv_valid.proofs.ForCallers.{belongs-is}
use Rattle.pv_judge.proofs.Queries.{expected-few}
use Rattle.pv_judge.proofs.certificate.judge_all.Goals as goal

pub judge_proofs-requires : goal.judge_proofs-requires
judge_proofs-requires g c =
    let facts = (g.J.Judged.case c.args.case.now).facts in
    let few = expected-few facts c.args.claim (g.met.J.Judged.sound c.args.case.now).depth (belongs-is facts c.args.claim c.requires.belongs) in
    record {
      asked = subst (λ (qs : List Query). AllByRecursion IsAsked qs) (sym c.of.ensures) few.asked;
      few = subst (λ (qs : List Query). length qs ≤ LAST_QUERY + 1) (sym c.of.ensures) few.few;
      line = c.requires.line;
    }
