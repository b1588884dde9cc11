use Rattle.std.proofs.Common.{sym, ◌∙◌, ap, is_some}
use Rattle.pv_bool_form.specs.Wording.{words_of}
use Rattle.pv_bool_form.proofs.Places.{root_declared}
use Rattle.pv_bool_form.proofs.words.Words.has.Goals as goal

pub returns : goal.returns
returns c =
    let seen = root_declared (words_of c.args.self.now) c.args.root.now in
    let same = ap (λ o. is_some o) c.root.ensures in
    (λ h. seen.0 (sym same ∙ sym c.is_some.ensures ∙ h), λ h. c.is_some.ensures ∙ same ∙ seen.1 h)
