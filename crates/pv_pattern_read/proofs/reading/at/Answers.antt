use Rattle.std.proofs.Common.{Err, refl, subst}
use Rattle.pv_pattern_read.specs.Answers.{AnswersText}
use Rattle.pv_pattern_read.proofs.reading.at.Goals as goal

pub returns-in-Unread : goal.returns-in-Unread
returns-in-Unread c = λ scope text h. (refl, subst (λ f. AnswersText scope text (Err f)) c.in-Unread.is h)

pub returns-in-Broken : goal.returns-in-Broken
returns-in-Broken c = λ scope text h. (refl, subst (λ f. AnswersText scope text (Err f)) c.in-Broken.is h)

pub returns-in-BriefCell : goal.returns-in-BriefCell
returns-in-BriefCell c = λ scope text h. (refl, subst (λ f. AnswersText scope text (Err f)) c.in-BriefCell.is h)

pub returns-in-NotBool : goal.returns-in-NotBool
returns-in-NotBool c = λ scope text h. (refl, subst (λ f. AnswersText scope text (Err f)) c.in-NotBool.is h)
