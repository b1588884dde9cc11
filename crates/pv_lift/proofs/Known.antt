-- What is known of a lift's case: the ranges of its cells, one after another, and whether its pattern asks for a goal.
use Rattle.std.proofs.Common.{◌≡◌, ℕ, ◌+◌, ◌<◌, Bool, true, false, List, [], ◌∷◌, ◌++◌, length, drop, map, filter, cond, refl, sym, ◌∙◌, ap, append_assoc}
use Rattle.std.specs.Prelude.{slice_index_or, if◌then◌else◌}
use Rattle.std.proofs.lemmas.List.{drop_more}
use Rattle.pv_mean.specs.declared.cell.Cell.{Cell}
use Rattle.pv_mean.specs.Sources.{Source}
use Rattle.pv_mean.specs.Frames.{range_of_cell}
use Rattle.pv_machine.specs.Machines.{Machine}
use Rattle.pv_pattern.specs.Patterns.{Pattern, asks_for_goal}
use Rattle.pv_pattern.specs.declared.pattern.Pattern.{Pattern as Found}
use Rattle.pv_pattern.specs.Found.{IsPatternOf}
use Rattle.pv_replay.specs.declared.replay.Replay.{Replay}
use Rattle.pv_replay.specs.Replays.{cells_of}
use Rattle.pv_stretch.specs.Judged.{is_goal}
use Rattle.pv_kind.specs.declared.decision.Limits.{Limits}
use Rattle.pv_valid.specs.declared.facts.Facts.{Facts}
use Rattle.pv_valid.specs.Cases.{Bounds}
use Rattle.pv_lift.specs.declared.facts.Group.{Group}
use Rattle.pv_lift.specs.Lifts.{looks_back_of, IsLifted}
use Rattle.pv_lift.specs.Facts.{bounds_of, facts_of, limits_in}
use Rattle.pv_lift.specs.CaseSound.{goal_same}
use Rattle.pv_lift.specs.Groups.{has, bounds_in}

abbrev bounds_at : Cell → Bounds
bounds_at c = bounds_of (range_of_cell c)

by-has : (b : Bool) (c : Cell) (cs : List Cell)
    → map bounds_of (map range_of_cell (cond b (c ∷ cs) cs)) ≡ (if b then bounds_at c ∷ [] else []) ++ map bounds_of (map range_of_cell cs)
by-has true c cs = refl
by-has false c cs = refl

-- one cell more of a list of ranges
pub range-more : (group : Group) (cells : List Cell) (c : Cell) (k : ℕ) (ranges new whole : List Bounds) → k < length cells
    → c ≡ slice_index_or cells k c → new ≡ ranges ++ (if has group c then bounds_at c ∷ [] else [])
    → ranges ++ bounds_in group (drop k cells) ≡ whole → new ++ bounds_in group (drop (k + 1) cells) ≡ whole
range-more group cells c k ranges new whole lt is pushed all =
    let rest : List Bounds = bounds_in group (drop (k + 1) cells) in
    let one : List Bounds = if has group c then bounds_at c ∷ [] else [] in
    let next : drop k cells ≡ c ∷ drop (k + 1) cells = drop_more cells k c lt ∙ ap (λ (d : Cell). d ∷ drop (k + 1) cells) (sym is) in
    ap (λ (bs : List Bounds). bs ++ rest) pushed
    ∙ (append_assoc ranges one rest
    ∙ (ap (λ (bs : List Bounds). ranges ++ bs) (sym (by-has (has group c) c (filter (has group) (drop (k + 1) cells))))
    ∙ (ap (λ (cs : List Cell). ranges ++ bounds_in group cs) (sym next) ∙ all)))

-- ---- by what a lift is made of

pub facts-are : (m : Machine) (replay : Replay) (pattern : Found) → IsLifted m replay pattern → (cells : List Cell) (goal back : Bool)
    (limits : Limits) (facts : Facts) → cells ≡ cells_of replay
    → ((source : Source) (p : Pattern) → IsPatternOf source pattern p → goal ≡ asks_for_goal p) → back ≡ looks_back_of pattern
    → facts ≡ facts_of cells goal back limits → facts ≡ facts_of (cells_of replay) (is_goal pattern) (looks_back_of pattern) limits
facts-are m replay pattern is cells goal back limits facts cells_are goal_is back_is e =
    let asks : goal ≡ is_goal pattern = goal_is is.source is.said is.is_pattern ∙ sym (goal_same is.source pattern is.said is.is_pattern) in
    e
    ∙ (ap (λ (cs : List Cell). facts_of cs goal back limits) cells_are
    ∙ (ap (λ (b : Bool). facts_of (cells_of replay) b back limits) asks
    ∙ ap (λ (b : Bool). facts_of (cells_of replay) (is_goal pattern) b limits) back_is))

pub known-by : (cells : List Cell) (goal back : Bool) (limits : Limits) (facts : Facts) → facts ≡ facts_of cells goal back limits
    → facts ≡ facts_of cells goal back (limits_in facts)
known-by cells goal back limits facts e =
    let same : limits_in facts ≡ limits = ap limits_in e in
    e ∙ ap (λ (l : Limits). facts_of cells goal back l) (sym same)
