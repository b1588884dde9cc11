use Rattle.std.proofs.Common.{refl, ◌∙◌, rules, FitsSigned, w64}
use Rattle.std.proofs.lemmas.Int.{to_z-of_z}
use Rattle.std.proofs.lemmas.Bool.{false≢true}
use Rattle.pv_resolve.proofs.ForCallers.{failed}
use Rattle.pv_program.proofs.Growing.{extends-then}
use Rattle.pv_program.proofs.Keeping.{value-kept}
use Rattle.pv_program.proofs.stmt.make_counting.Goals as goal

pub returns : goal.returns
returns c =
    let behind = extends-then _ _ _ c.in_ok-to.ensures.grows c.in_ok-variable.ensures.grows in
    record {
      grows = extends-then _ _ _ c.in_ok-from.ensures.grows behind;
      counts = λ source is. record {
        first = value-kept behind (c.in_ok-from.ensures.means source is);
        last = value-kept c.in_ok-variable.ensures.grows (c.in_ok-to.ensures.means source is);
        variable = c.in_ok-variable.ensures.means source is;
        place = refl;
        by = (let fits : FitsSigned w64 c.in_ok-step.step = search rules in to_z-of_z w64 c.in_ok-step.step fits) ∙ c.in_ok-step.ensures.value;
      };
      calls = c.in_ok-variable.ensures.calls ∙ (c.in_ok-to.ensures.calls ∙ c.in_ok-from.ensures.calls);
      room = λ source is h first last by. tt;
    }

pub returns-in_err-from-clause-room : goal.returns-in_err-from-clause-room
returns-in_err-from-clause-room c = λ source is h first last by.
    failed _ _ c.from_residual.ensures.1 (c.in_err-from.ensures.room source is h first)

pub returns-in_err-to-clause-room : goal.returns-in_err-to-clause-room
returns-in_err-to-clause-room c = λ source is h first last by.
    failed _ _ c.from_residual-in_err-to.ensures.1 (c.in_err-to.ensures.room source is h last)

pub returns-in_err-variable-clause-room : goal.returns-in_err-variable-clause-room
returns-in_err-variable-clause-room c = λ source is h first last by.
    failed _ _ c.from_residual-in_err-variable.ensures.1 (c.in_err-variable.ensures.room source is h)

pub returns-in_err-step-clause-room : goal.returns-in_err-step-clause-room
returns-in_err-step-clause-room c = λ source is h first last by. absurd (false≢true (c.in_err-step.ensures.fits by))
