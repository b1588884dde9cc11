-- How the scans of a replay are told one by one. Private clauses cite this.
use Rattle.std.specs.Prelude.{◌≡◌, ℕ, List, [], ◌++◌, codes, Bool, true, false, Option, Some, None}
use Rattle.pv_mean.specs.Sources.{Source}
use Rattle.pv_mean.specs.Frames.{Image, Input}
use Rattle.pv_mean.specs.Endings.{ended}
use Rattle.pv_mean.specs.Scans.{Visible, Scan, scan, next_image}
use Rattle.pv_mean.specs.Runs.{after}
use Rattle.pv_pattern.specs.declared.pattern.Pattern.{Pattern as Found}
use Rattle.pv_pattern.specs.declared.pattern.Pattern.TheVariants as found
use Rattle.pv_pattern.specs.Terms.{is_true_term}
use Rattle.pv_replay.specs.declared.replay.Replay.{Replay}
use Rattle.pv_replay.specs.Replays.{image_of, end_of, is_ready}
use Rattle.pv_command_show.specs.declared.scans.Before.{Before}
use Rattle.pv_command_show.specs.Texts.{Seen, truth_line, seen_at}

-- ---- by terms

abbrev pub term_lines : Found → Visible → Visible → List ℕ
term_lines (found.Invariant s) begin end = truth_line (codes "a") (is_true_term end s)
term_lines (found.Forbidden s) begin end = truth_line (codes "a") (is_true_term end s)
term_lines (found.Implication s t) begin end =
    truth_line (codes "a") (is_true_term end s) ++ truth_line (codes "b") (is_true_term end t)
term_lines (found.Within s t) begin end =
    truth_line (codes "a") (is_true_term begin s) ++ truth_line (codes "b") (is_true_term end t)
term_lines (found.Between s t u) begin end =
    truth_line (codes "a") (is_true_term end s)
    ++ (truth_line (codes "b") (is_true_term end t) ++ truth_line (codes "c") (is_true_term end u))
term_lines (found.Reach s) begin end = truth_line (codes "a") (is_true_term end s)

-- ---- along a replay

-- the scan before, where there is one
abbrev pub seen_by : Bool → Visible → Visible → Option Seen
seen_by true begin end = Some (record { begin = begin; end = end })
seen_by false begin end = None

abbrev pub seen_in : Before → Option Seen
seen_in before = seen_by before.is_some before.begin.items before.end.items

-- the scan is done, and the replay may go on with what it leaves
pub record IsOn (source : Source) (earlier later : Replay) (seen : Option Seen) (input : Input) : Type 0 where
  pub ready : is_ready later ≡ true
  pub ends : (scan source (image_of earlier) input).end ≡ ended (end_of later)
  pub leaves : image_of later
      ≡ next_image source (scan source (image_of earlier) input).beginning (end_of later)
  pub seen_there : seen ≡ seen_at (scan source (image_of earlier) input).beginning (ended (end_of later))

-- whether it goes on; after a scan that isn't done there are none
abbrev pub GoesSo : Bool → Source → Replay → Replay → Option Seen → Input → Type 0
GoesSo true source earlier later seen input = IsOn source earlier later seen input
GoesSo false source earlier later seen input = (more : Image → List Scan)
    → after source (scan source (image_of earlier) input).beginning (scan source (image_of earlier) input).end more ≡ []
