use Rattle.std.proofs.Common.{◌≡◌, subst}
use Rattle.std.specs.Prelude.{option_map}
use Rattle.pv_mean.specs.LaidOut as counted
use Rattle.pv_resolve.specs.Laying.{laid_tree}
use Rattle.pv_resolve.proofs.Beginning.{exact_none, found_exact}
use Rattle.std.proofs.lemmas.Bool.{false≢true}
use Rattle.pv_resolve.proofs.Nears.{none_beyond}
use Rattle.pv_resolve.proofs.laid.exact.Goals as goal

pub returns-in_ok-laid-in-Some-clause-value : goal.returns-in_ok-laid-in-Some-clause-value
returns-in_ok-laid-in-Some-clause-value c =
    λ o e. found_exact o (counted.laid_tree c.in-Some.found) (laid_tree c.in_ok-laid-in-Some.laid)
    (subst (λ f. option_map counted.laid_tree f ≡ option_map counted.capped_laid o) c.in-Some.is e) c.in_ok-laid-in-Some.ensures.value

pub returns-in-None-clause-value : goal.returns-in-None-clause-value
returns-in-None-clause-value c = λ o e. exact_none o (subst (λ f. option_map counted.laid_tree f ≡ option_map counted.capped_laid o) c.in-None.is e)

pub returns-in_err-laid-in-Some-clause-near : goal.returns-in_err-laid-in-Some-clause-near
returns-in_err-laid-in-Some-clause-near c =
    λ o e near. absurd (none_beyond o (counted.laid_tree c.in-Some.found)
    (subst (λ f. option_map counted.laid_tree f ≡ option_map counted.capped_laid o) c.in-Some.is e) near
    (λ l same close. false≢true (c.in_err-laid-in-Some.ensures.near l same close)))
