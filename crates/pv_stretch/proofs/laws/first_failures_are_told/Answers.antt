use Rattle.pv_stretch.proofs.Stretching.{told_first, first_told}
use Rattle.pv_stretch.proofs.laws.first_failures_are_told.Goals as goal

pub returns : goal.returns
returns c = λ source p prev image inputs good told.
    (told_first source p prev image inputs good told, first_told source p prev image inputs good told)
