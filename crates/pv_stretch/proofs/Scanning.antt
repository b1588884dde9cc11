-- A replay's scans, one by one, are those of the run.
use Rattle.std.proofs.Common.{◌≡◌, ℕ, zero, suc, ◌+◌, ◌<◌, List, [], ◌∷◌, length, drop, get_or, Bool, true, false, not, Option, Some, None, refl, sym, ap, subst, ◌∙◌, arith}
use Rattle.std.specs.List.{AllByRecursion}
use Rattle.pv_place.specs.declared.place.Place.{Place}
use Rattle.pv_place.specs.declared.trap.TrapKind.{TrapKind}
use Rattle.pv_place.specs.Ranges.{AreWithin}
use Rattle.pv_mean.specs.Sources.{Source}
use Rattle.pv_mean.specs.Frames.{Image, Input, input_ranges}
use Rattle.pv_mean.specs.Scans.{Visible, ScanEnd, scan, next_image}
use Rattle.pv_mean.specs.Runs.{after, run_from}
use Rattle.pv_pattern.specs.declared.pattern.Pattern.{Pattern as Found}
use Rattle.pv_pattern.specs.Patterns.{Pattern, judge, mark, asks_for_goal}
use Rattle.pv_pattern.specs.Failing.{Cause, pattern, trap, ends_by, mark_of}
use Rattle.pv_pattern.specs.Found.{IsPatternOf, is_invariant, is_forbidden, is_implication, is_within, is_between, is_reach}
use Rattle.pv_replay.specs.declared.end.ScanEnd.TheVariants as code
use Rattle.pv_replay.specs.declared.replay.Replay.{Replay}
use Rattle.pv_replay.specs.Replays.{IsReplayOf, IsScanned, image_of, begin_of, end_of, is_ready}
use Rattle.pv_claims.specs.declared.trace.Ending.TheVariants as ending
use Rattle.pv_stretch.specs.declared.ends.StretchEnd.{StretchEnd}
use Rattle.pv_stretch.specs.declared.ends.StretchEnd.TheVariants.{Fails, Stopped}
use Rattle.pv_stretch.specs.declared.ends.Stretch.{Stretch}
use Rattle.pv_stretch.specs.Stretches.{stops_as, fails_or, last_of, last_or, one_more, stretch_of}
use Rattle.pv_stretch.specs.Judged.{is_goal, judged_by, trapped_by, GoesOn}

-- ---- one scan

pub goal_is : (source : Source) (found : Found) (p : Pattern) → IsPatternOf source found p → is_goal found ≡ asks_for_goal p
goal_is source found p (is_invariant s) = refl
goal_is source found p (is_forbidden s) = refl
goal_is source found p (is_implication s t) = refl
goal_is source found p (is_within s t) = refl
goal_is source found p (is_between s t u) = refl
goal_is source found p (is_reach s) = refl

-- how a scan with this beginning and end ends a stretch, if it does
abbrev last_at : Source → Pattern → Option Bool → Visible → ScanEnd → Option StretchEnd
last_at source p prev begin end = fails_or (ends_by source p prev begin end) (stops_as end)

abbrev failure_by : Bool → Bool → Bool
failure_by goal holds = elim goal [ true ↦ holds | false ↦ not holds ]

abbrev fails_where : Bool → Option Cause
fails_where failure = elim failure [ true ↦ Some pattern | false ↦ None ]

abbrev traps_by : Bool → TrapKind → Place → Option Cause
traps_by goal kind place = elim goal [ true ↦ None | false ↦ Some (trap kind place) ]

-- one that is done, by whether a goal is asked for and how the pattern is judged
judged_so : (goal holds : Bool) → judged_by goal holds ≡ fails_or (fails_where (failure_by goal holds)) None
judged_so true true = refl
judged_so true false = refl
judged_so false true = refl
judged_so false false = refl

trapped_so : (goal : Bool) (kind : TrapKind) (place : Place)
    → Some (trapped_by goal kind place) ≡ fails_or (traps_by goal kind place) (Some (Stopped kind place))
trapped_so true kind place = refl
trapped_so false kind place = refl

module _ (source : Source) (before after : Replay) (input : Input) where
  -- a scan that is done is judged
  pub done_is : (p : Pattern) (prev : Option Bool) (begin end : Visible) (goal holds : Bool) (stop : Option StretchEnd)
      → IsScanned source before after input code.Done → begin ≡ begin_of after → end ≡ end_of after → goal ≡ asks_for_goal p
      → holds ≡ judge source p prev begin end → stop ≡ judged_by goal holds
      → stop ≡ last_of source p prev (scan source (image_of before) input)
  done_is p prev begin end goal holds stop is from to asks judged e =
      let s = scan source (image_of before) input in
      let holds_there : holds ≡ judge source p prev s.beginning (end_of after) =
      judged ∙ ap (λ b. judge source p prev b end) (from ∙ is.beginning) ∙ ap (λ v. judge source p prev s.beginning v) to in
      e ∙ ap (λ g. judged_by g holds) asks ∙ ap (λ h. judged_by (asks_for_goal p) h) holds_there
      ∙ judged_so (asks_for_goal p) (judge source p prev s.beginning (end_of after))
      ∙ ap (λ x. last_at source p prev s.beginning x) is.ends

  pub goes_on : IsScanned source before after input code.Done → is_ready after ≡ true → GoesOn source before after input
  goes_on is ready =
      record {
        ready = ready;
        ends = sym is.ends;
        leaves = is.leaves ∙ ap (λ b. next_image source b (end_of after)) is.beginning;
      }

  pub trap_is : (p : Pattern) (prev : Option Bool) (kind : TrapKind) (place : Place) (goal : Bool) (end : StretchEnd)
      → IsScanned source before after input (code.Trap kind place) → goal ≡ asks_for_goal p → end ≡ trapped_by goal kind place
      → Some end ≡ last_of source p prev (scan source (image_of before) input)
  trap_is p prev kind place goal end is asks e =
      let s = scan source (image_of before) input in
      ap (λ x. Some x) (e ∙ ap (λ g. trapped_by g kind place) asks)
      ∙ trapped_so (asks_for_goal p) kind place
      ∙ ap (λ x. last_at source p prev s.beginning x) is.ends

  pub over_is : (p : Pattern) (prev : Option Bool) (place : Place)
      → IsScanned source before after input (code.Over place)
      → Some (Fails (ending.Over place)) ≡ last_of source p prev (scan source (image_of before) input)
  over_is p prev place is =
      let s = scan source (image_of before) input in
      ap (λ x. last_at source p prev s.beginning x) is.ends

-- ---- so many scans

-- a stretch behind so many good scans
abbrev pub added : ℕ → Stretch → Stretch
added n s = record { good = n + s.good; ending = s.ending }

-- what is left of a stretch of all inputs behind n good scans
pub record Remains (source : Source) (p : Pattern) (first : Option Bool) (start : Image) (all : List Input) (n : ℕ) (prev : Option Bool)
    (replay : Replay) : Type 0 where
  pub of : IsReplayOf source replay
  pub ready : is_ready replay ≡ true
  pub within : AllByRecursion (AreWithin (input_ranges source.cells)) (drop n all)
  pub same : stretch_of source p first (run_from source start all)
      ≡ added n (stretch_of source p prev (run_from source (image_of replay) (drop n all)))

none_dropped : (all : List Input) → drop 0 all ≡ all
none_dropped [] = refl
none_dropped (x ∷ xs) = refl

none_added : (s : Stretch) → s ≡ added 0 s
none_added s =
    let e : s.good ≡ 0 + s.good = omega arith in
    ap (λ n. record { good = n; ending = s.ending }) e

pub all_remains : (source : Source) (p : Pattern) (first : Option Bool) (all : List Input) (replay : Replay) → IsReplayOf source replay
    → is_ready replay ≡ true → AllByRecursion (AreWithin (input_ranges source.cells)) all
    → Remains source p first (image_of replay) all 0 first replay
all_remains source p first all replay of ready within = record {
  of = of;
  ready = ready;
  within = subst (AllByRecursion (AreWithin (input_ranges source.cells))) (sym (none_dropped all)) within;
  same = none_added (stretch_of source p first (run_from source (image_of replay) all))
      ∙ ap (λ l. added 0 (stretch_of source p first (run_from source (image_of replay) l))) (sym (none_dropped all));
}

-- the n-th input, and those behind it
split-suc : (n : ℕ) (all : List Input) (d : Input) → n < length all → drop n all ≡ get_or all n d ∷ drop (suc n) all
split-suc n [] d lt = absurd (omega (arith, lt))
split-suc zero (x ∷ xs) d lt = refl
split-suc (suc n) (x ∷ xs) d lt = split-suc n xs d (omega (arith, lt))

pub split : (n : ℕ) (all : List Input) (d : Input) → n < length all → drop n all ≡ get_or all n d ∷ drop (n + 1) all
split n all d lt =
    let e : suc n ≡ n + 1 = omega arith in
    split-suc n all d lt ∙ ap (λ k. get_or all n d ∷ drop k all) e

one_added : (n : ℕ) (later : Stretch) → added n (one_more later) ≡ added (n + 1) later
one_added n later =
    let e : n + (later.good + 1) ≡ n + 1 + later.good = omega arith in
    ap (λ g. record { good = g; ending = later.ending }) e

ended_added : (n : ℕ) (end : Option StretchEnd) → added n (record { good = 0; ending = end }) ≡ record { good = n; ending = end }
ended_added n end =
    let e : n + 0 ≡ n = omega arith in
    ap (λ g. record { good = g; ending = end }) e

module _ (source : Source) (p : Pattern) (first : Option Bool) (start : Image) (all : List Input) (n : ℕ) (prev : Option Bool)
    (before : Replay) where
  -- the next input lies in its ranges
  pub next_within : (input : Input) → Remains source p first start all n prev before → drop n all ≡ input ∷ drop (n + 1) all
      → AreWithin (input_ranges source.cells) input
  next_within input left e = (subst (AllByRecursion (AreWithin (input_ranges source.cells))) e left.within).0

  rest_of : (input : Input) → ScanEnd → Stretch
  rest_of input end =
      stretch_of source p (mark_of source p end)
      (after source (scan source (image_of before) input).beginning end (λ next. run_from source next (drop (n + 1) all)))

  -- the stretch at the next scan
  at_next : (input : Input) → Remains source p first start all n prev before → drop n all ≡ input ∷ drop (n + 1) all
      → stretch_of source p first (run_from source start all)
      ≡ added n (last_or (last_of source p prev (scan source (image_of before) input)) (rest_of input (scan source (image_of before) input).end))
  unfolding rest_of
  at_next input left e =
      left.same ∙ ap (λ l. added n (stretch_of source p prev (run_from source (image_of before) l))) e

  -- one ends it
  pub ends_there : (input : Input) (end : StretchEnd) → Remains source p first start all n prev before
      → drop n all ≡ input ∷ drop (n + 1) all
      → Some end ≡ last_of source p prev (scan source (image_of before) input)
      → record { good = n; ending = Some end } ≡ stretch_of source p first (run_from source start all)
  ends_there input end left e stops =
      sym (at_next input left e
      ∙ ap (λ o. added n (last_or o (rest_of input (scan source (image_of before) input).end))) (sym stops)
      ∙ ended_added n (Some end))

  -- one more that is good, and the replay goes on
  pub one_good : (input : Input) (later : Replay) (m : Bool) → Remains source p first start all n prev before
      → drop n all ≡ input ∷ drop (n + 1) all → None ≡ last_of source p prev (scan source (image_of before) input)
      → GoesOn source before later input → IsReplayOf source later → m ≡ mark source p (end_of later)
      → Remains source p first start all (n + 1) (Some m) later
  unfolding rest_of
  one_good input later m left e none on of marked = record {
    of = of;
    ready = on.ready;
    within = (subst (AllByRecursion (AreWithin (input_ranges source.cells))) e left.within).1;
    same = at_next input left e
        ∙ ap (λ o. added n (last_or o (rest_of input (scan source (image_of before) input).end))) (sym none)
        ∙ one_added n (rest_of input (scan source (image_of before) input).end)
        ∙ ap (λ x. added (n + 1) (rest_of input x)) on.ends
        ∙ ap (λ i. added (n + 1) (stretch_of source p (Some (mark source p (end_of later))) (run_from source i (drop (n + 1) all)))) (sym on.leaves)
        ∙ ap (λ b. added (n + 1) (stretch_of source p (Some b) (run_from source (image_of later) (drop (n + 1) all)))) (sym marked);
  }

-- no input is left
nothing_left : (all : List Input) → drop (length all) all ≡ []
nothing_left [] = refl
nothing_left (x ∷ xs) = nothing_left xs

pub all_good : (source : Source) (p : Pattern) (first : Option Bool) (start : Image) (all : List Input) (n : ℕ) (prev : Option Bool)
    (replay : Replay) → Remains source p first start all n prev replay → n ≡ length all
    → record { good = length all; ending = None } ≡ stretch_of source p first (run_from source start all)
all_good source p first start all n prev replay left is =
    let none : drop n all ≡ [] = ap (λ k. drop k all) is ∙ nothing_left all in
    sym (left.same ∙ ap (λ l. added n (stretch_of source p prev (run_from source (image_of replay) l))) none
    ∙ ended_added n None ∙ ap (λ k. record { good = k; ending = None }) is)
