-- Runs one after the other, and how many scans they have.
use Rattle.std.proofs.Common.{◌≡◌, ◌++◌, suc, List, [], ◌∷◌, length, Some, refl, ap}
use Rattle.std.proofs.lemmas.Option.{none-some}
use Rattle.pv_mean.specs.Frames.{Image, Input}
use Rattle.pv_mean.specs.Sources.{Source}
use Rattle.pv_mean.specs.Scans.{Visible, ScanEnd, scan}
use Rattle.pv_mean.specs.Endings.{ended, trapped, over}
use Rattle.pv_mean.specs.Runs.{after, run_from, run_on, with_image, end_image}

pub run_from-append : (source : Source) (image : Image) (inputs more : List Input)
    → run_from source image (inputs ++ more) ≡ run_from source image inputs ++ run_on source (end_image source image inputs) more
run_from-append source image [] more = refl
run_from-append source image (i ∷ inputs) more = ap (λ l. scan source image i ∷ l)
    (lead (scan source image i).beginning (scan source image i).end (λ next. run_from-append source next inputs more))
  where
    lead : (b : Visible) (e : ScanEnd) → ((next : Image) → run_from source next (inputs ++ more)
        ≡ run_from source next inputs ++ run_on source (end_image source next inputs) more)
        → after source b e (λ next. run_from source next (inputs ++ more))
        ≡ after source b e (λ next. run_from source next inputs) ++ run_on source
        (with_image source b e (λ next. end_image source next inputs)) more
    lead b (ended values) same = same _
    lead b (trapped kind place) same = refl
    lead b (over place) same = refl

-- where each scan is done none of the inputs is left out
pub run_from-length : (source : Source) (image : Image) (inputs : List Input) (end : Image) → end_image source image inputs ≡ Some end
    → length (run_from source image inputs) ≡ length inputs
run_from-length source image [] end whole = refl
run_from-length source image (i ∷ inputs) end whole =
    ap suc (lead (scan source image i).beginning (scan source image i).end (λ next. run_from-length source next inputs end) whole)
  where
    lead : (b : Visible) (e : ScanEnd)
        → ((next : Image) → end_image source next inputs ≡ Some end → length (run_from source next inputs) ≡ length inputs)
        → with_image source b e (λ next. end_image source next inputs) ≡ Some end
        → length (after source b e (λ next. run_from source next inputs)) ≡ length inputs
    lead b (ended values) same rest = same _ rest
    lead b (trapped kind place) same rest = absurd (none-some _ rest)
    lead b (over place) same rest = absurd (none-some _ rest)
