-- The lines of a replay's scans, one by one, are those of the run.
use Rattle.std.proofs.Common.{◌≡◌, ℕ, zero, suc, ◌+◌, ◌<◌, ◌≤◌, List, [], ◌∷◌, ◌++◌, length, take, drop, get_or, append_assoc, append-nil, Bool, true, false, Option, None, sym, ap, subst, ◌∙◌}
use Rattle.std.specs.Prelude.{codes, decimal}
use Rattle.std.specs.List.{AllByRecursion}
use Rattle.std.proofs.lemmas.List.{drop_more, drop_all}
use Rattle.pv_place.specs.declared.place.Place.{Place}
use Rattle.pv_place.specs.declared.trap.TrapKind.{TrapKind}
use Rattle.pv_place.specs.Ranges.{AreWithin}
use Rattle.pv_tree.specs.Tree.{ExprTree}
use Rattle.pv_mean.specs.declared.cell.Cell.{Cell}
use Rattle.pv_mean.specs.Sources.{Source}
use Rattle.pv_mean.specs.Frames.{Image, Input, Params, input_ranges}
use Rattle.pv_mean.specs.Endings.{ended}
use Rattle.pv_mean.specs.Scans.{Visible, Scan, ScanEnd, scan, next_image}
use Rattle.pv_mean.specs.Runs.{start, after, run_from}
use Rattle.pv_pattern.specs.declared.term.Term.{Term}
use Rattle.pv_pattern.specs.declared.pattern.Pattern.{Pattern as Found}
use Rattle.pv_pattern.specs.Patterns.{Pattern, is_true_value, is_true_of}
use Rattle.pv_pattern.specs.Terms.{IsTermOf, is_true_term}
use Rattle.pv_pattern.specs.Found.{IsPatternOf, is_invariant, is_forbidden, is_implication, is_within, is_between, is_reach}
use Rattle.pv_replay.specs.declared.end.ScanEnd.TheVariants as code
use Rattle.pv_replay.specs.declared.replay.Replay.{Replay}
use Rattle.pv_replay.specs.Replays.{IsReplayOf, IsScanned, image_of, begin_of, end_of, is_ready}
use Rattle.pv_claims.specs.declared.trace.Trace.{Trace}
use Rattle.pv_command_replay.specs.declared.end.End.{End}
use Rattle.pv_command_replay.specs.declared.end.End.TheVariants.{Kept, Broken, Over, Reached, NotReached}
use Rattle.pv_command_show.specs.Texts.{Seen, input_lines, other_lines, truth_line, pattern_lines, done_lines, scan_text, seen_at, scans_text, told_inputs, shown_scans}
use Rattle.pv_command_show.specs.Steps.{term_lines, seen_by, IsOn, GoesSo}
use Rattle.pv_command_show.proofs.Cells.{none_dropped}

-- ---- the expressions

truth : (source : Source) (t : Term) (e : ExprTree) (values : Visible) → IsTermOf source t e → is_true_term values t ≡ is_true_of source values e
truth source t e values h = sym (ap is_true_value (h.value values))

two_lines : (x y z w : Bool) → x ≡ y → z ≡ w
    → truth_line (codes "a") x ++ truth_line (codes "b") z ≡ truth_line (codes "a") y ++ truth_line (codes "b") w
two_lines x y z w e f =
    ap (λ b. truth_line (codes "a") b ++ truth_line (codes "b") z) e ∙ ap (λ b. truth_line (codes "a") y ++ truth_line (codes "b") b) f

three_lines : (x y z w u v : Bool) → x ≡ y → z ≡ w → u ≡ v
    → truth_line (codes "a") x ++ (truth_line (codes "b") z ++ truth_line (codes "c") u)
    ≡ truth_line (codes "a") y ++ (truth_line (codes "b") w ++ truth_line (codes "c") v)
three_lines x y z w u v e f g =
    ap (λ b. truth_line (codes "a") b ++ (truth_line (codes "b") z ++ truth_line (codes "c") u)) e
    ∙ ap (λ b. truth_line (codes "a") y ++ (truth_line (codes "b") b ++ truth_line (codes "c") u)) f
    ∙ ap (λ b. truth_line (codes "a") y ++ (truth_line (codes "b") w ++ truth_line (codes "c") b)) g

pub terms_are : (source : Source) (found : Found) (p : Pattern) (begin end : Visible) → IsPatternOf source found p
    → term_lines found begin end ≡ pattern_lines source p begin end
terms_are source found p begin end (is_invariant h) = ap (λ b. truth_line (codes "a") b) (truth source _ _ end h)
terms_are source found p begin end (is_forbidden h) = ap (λ b. truth_line (codes "a") b) (truth source _ _ end h)
terms_are source found p begin end (is_implication h k) = two_lines _ _ _ _ (truth source _ _ end h) (truth source _ _ end k)
terms_are source found p begin end (is_within h k) = two_lines _ _ _ _ (truth source _ _ begin h) (truth source _ _ end k)
terms_are source found p begin end (is_between h k l) =
    three_lines _ _ _ _ _ _ (truth source _ _ end h) (truth source _ _ end k) (truth source _ _ end l)
terms_are source found p begin end (is_reach h) = ap (λ b. truth_line (codes "a") b) (truth source _ _ end h)

-- ---- one scan

headed : (n : ℕ) (rest : List ℕ)
    → (codes "scan " ++ (decimal n ++ codes "\n")) ++ rest ≡ codes "scan " ++ (decimal n ++ (codes "\n" ++ rest))
headed n rest =
    append_assoc (codes "scan ") (decimal n ++ codes "\n") rest
    ∙ ap (λ t. codes "scan " ++ t) (append_assoc (decimal n) (codes "\n") rest)

-- two parts, one after the other
parts : (first head rest a b : List ℕ) → a ≡ first ++ head → b ≡ a ++ rest → b ≡ first ++ (head ++ rest)
parts first head rest a b is_a is_b = is_b ∙ ap (λ t. t ++ rest) is_a ∙ append_assoc first head rest

abbrev head_of : ℕ → List ℕ
head_of n = codes "scan " ++ (decimal n ++ codes "\n")

module _ (source : Source) (p : Pattern) (n : ℕ) (before : Option Seen) (s : Scan) (cells : List Cell) (begin : Visible) where
  -- by what stands after the inputs
  by_rest : (rest first a b : List ℕ) → a ≡ first ++ head_of n → b ≡ a ++ (input_lines cells before begin ++ rest)
      → source.cells ≡ cells → begin ≡ s.beginning → rest ≡ done_lines source p before s.beginning s.end
      → b ≡ first ++ scan_text source p n before s
  by_rest rest first a b is_a is_b same from is =
      let given = input_lines source.cells before s.beginning in
      let done = done_lines source p before s.beginning s.end in
      parts first (head_of n) (input_lines cells before begin ++ rest) a b is_a is_b
      ∙ ap (λ d. first ++ (head_of n ++ (input_lines cells before begin ++ d))) is
      ∙ ap (λ cs. first ++ (head_of n ++ (input_lines cs before begin ++ done))) (sym same)
      ∙ ap (λ v. first ++ (head_of n ++ (input_lines source.cells before v ++ done))) from
      ∙ ap (λ t. first ++ t) (headed n (given ++ done))

  -- it is done
  pub done_told : (found : Found) (end : Visible) (first a b : List ℕ) → a ≡ first ++ head_of n
      → b ≡ a ++ (input_lines cells before begin ++ (other_lines cells before begin end ++ term_lines found begin end))
      → source.cells ≡ cells → begin ≡ s.beginning → ended end ≡ s.end → IsPatternOf source found p
      → b ≡ first ++ scan_text source p n before s
  done_told found end first a b is_a is_b same from to is =
      by_rest (other_lines cells before begin end ++ term_lines found begin end) first a b is_a is_b same from
      (ap (λ x. other_lines cells before begin end ++ x) (terms_are source found p begin end is)
      ∙ ap (λ cs. other_lines cs before begin end ++ pattern_lines source p begin end) (sym same)
      ∙ ap (λ e. done_lines source p before begin e) to
      ∙ ap (λ v. done_lines source p before v s.end) from)

  -- it isn't
  pub stopped_told : (first a b : List ℕ) → a ≡ first ++ head_of n → b ≡ a ++ input_lines cells before begin → source.cells ≡ cells
      → begin ≡ s.beginning → [] ≡ done_lines source p before s.beginning s.end → b ≡ first ++ scan_text source p n before s
  stopped_told first a b is_a is_b same from none =
      by_rest [] first a b is_a (is_b ∙ ap (λ t. a ++ t) (sym (append-nil (input_lines cells before begin)))) same from none

-- what a replay's scan says
module _ (source : Source) (earlier later : Replay) (input : Input) where
  abbrev here : Scan
  here = scan source (image_of earlier) input

  pub is_on : (seen : Option Seen) (begin end : Visible) → IsScanned source earlier later input code.Done → is_ready later ≡ true
      → begin ≡ begin_of later → end ≡ end_of later → seen ≡ seen_by true begin end → IsOn source earlier later seen input
  is_on seen begin end is ready from to kept = record {
    ready = ready;
    ends = sym is.ends;
    leaves = is.leaves ∙ ap (λ b. next_image source b (end_of later)) is.beginning;
    seen_there = kept ∙ ap (λ b. seen_by true b end) (from ∙ is.beginning) ∙ ap (λ v. seen_by true here.beginning v) to;
  }

  pub trap_off : (kind : TrapKind) (place : Place) → IsScanned source earlier later input (code.Trap kind place) → (seen : Option Seen)
      → GoesSo false source earlier later seen input
  trap_off kind place is seen = λ more. ap (λ e. after source here.beginning e more) (sym is.ends)

  pub over_off : (place : Place) → IsScanned source earlier later input (code.Over place) → (seen : Option Seen)
      → GoesSo false source earlier later seen input
  over_off place is seen = λ more. ap (λ e. after source here.beginning e more) (sym is.ends)

  pub trap_none : (p : Pattern) (before : Option Seen) (kind : TrapKind) (place : Place)
      → IsScanned source earlier later input (code.Trap kind place) → [] ≡ done_lines source p before here.beginning here.end
  trap_none p before kind place is = ap (λ e. done_lines source p before here.beginning e) is.ends

  pub over_none : (p : Pattern) (before : Option Seen) (place : Place)
      → IsScanned source earlier later input (code.Over place) → [] ≡ done_lines source p before here.beginning here.end
  over_none p before place is = ap (λ e. done_lines source p before here.beginning e) is.ends

-- ---- so many scans

-- the lines of n scans are written, and the replay goes on with what is left
pub record Remains (source : Source) (p : Pattern) (begun : Image) (all : List Input) (first : List ℕ) (n : ℕ) (seen : Option Seen)
    (replay : Replay) (text : List ℕ) : Type 0 where
  pub of : IsReplayOf source replay
  pub ready : is_ready replay ≡ true
  pub within : AllByRecursion (AreWithin (input_ranges source.cells)) (drop n all)
  pub same : text ++ scans_text source p (n + 1) seen (run_from source (image_of replay) (drop n all))
      ≡ first ++ scans_text source p 1 None (run_from source begun all)

pub all_remains : (source : Source) (p : Pattern) (all : List Input) (text : List ℕ) (replay : Replay) → IsReplayOf source replay
    → is_ready replay ≡ true → AllByRecursion (AreWithin (input_ranges source.cells)) all
    → Remains source p (image_of replay) all text 0 None replay text
all_remains source p all text replay of ready within = record {
  of = of;
  ready = ready;
  within = subst (AllByRecursion (AreWithin (input_ranges source.cells))) (sym (none_dropped all)) within;
  same = ap (λ l. text ++ scans_text source p 1 None (run_from source (image_of replay) l)) (none_dropped all);
}

-- the n-th input, and those after it
pub split : (n : ℕ) (all : List Input) (d : Input) → n < length all → drop n all ≡ get_or all n d ∷ drop (n + 1) all
split n all d lt = drop_more all n d lt

module _ (source : Source) (p : Pattern) (begun : Image) (all : List Input) (first : List ℕ) (n : ℕ) (seen : Option Seen) (before : Replay)
    (text : List ℕ) where
  pub next_within : (input : Input) → Remains source p begun all first n seen before text → drop n all ≡ input ∷ drop (n + 1) all
      → AreWithin (input_ranges source.cells) input
  next_within input left e = (subst (AllByRecursion (AreWithin (input_ranges source.cells))) e left.within).0

  abbrev now_at : Input → Scan
  now_at input = scan source (image_of before) input

  -- the lines after the next scan's
  rest_at : Input → ScanEnd → List ℕ
  rest_at input end =
      scans_text source p (n + 1 + 1) (seen_at (now_at input).beginning end)
      (after source (now_at input).beginning end (λ next. run_from source next (drop (n + 1) all)))

  at_next : (input : Input) → Remains source p begun all first n seen before text → drop n all ≡ input ∷ drop (n + 1) all
      → text ++ (scan_text source p (n + 1) seen (now_at input) ++ rest_at input (now_at input).end)
      ≡ first ++ scans_text source p 1 None (run_from source begun all)
  unfolding rest_at
  at_next input left e =
      sym (ap (λ l. text ++ scans_text source p (n + 1) seen (run_from source (image_of before) l)) e) ∙ left.same

  -- it isn't done
  pub stops_there : (input : Input) (later : Replay) (kept : Option Seen) (told : List ℕ) → Remains source p begun all first n seen before text
      → drop n all ≡ input ∷ drop (n + 1) all → told ≡ text ++ scan_text source p (n + 1) seen (now_at input)
      → GoesSo false source before later kept input → told ≡ first ++ scans_text source p 1 None (run_from source begun all)
  unfolding rest_at
  stops_there input later kept told left e line off =
      let line_of = scan_text source p (n + 1) seen (now_at input) in
      line ∙ ap (λ t. text ++ t) (sym (append-nil line_of))
      ∙ ap (λ ss. text ++ (line_of ++ scans_text source p (n + 1 + 1) (seen_at (now_at input).beginning (now_at input).end) ss))
      (sym (off (λ next. run_from source next (drop (n + 1) all))))
      ∙ at_next input left e

  -- it is, and the replay goes on
  pub goes_on : (input : Input) (later : Replay) (kept : Option Seen) (told : List ℕ) → Remains source p begun all first n seen before text
      → drop n all ≡ input ∷ drop (n + 1) all → told ≡ text ++ scan_text source p (n + 1) seen (now_at input)
      → IsOn source before later kept input → IsReplayOf source later → Remains source p begun all first (n + 1) kept later told
  unfolding rest_at
  goes_on input later kept told left e line on of =
      let line_of = scan_text source p (n + 1) seen (now_at input) in
      let rest = drop (n + 1) all in
      let lines : List ℕ = scans_text source p (n + 1 + 1) kept (run_from source (image_of later) rest) in
      let same_rest : lines ≡ rest_at input (now_at input).end =
      ap (λ i. scans_text source p (n + 1 + 1) kept (run_from source i rest)) on.leaves
      ∙ ap (λ z. scans_text source p (n + 1 + 1) z (run_from source (next_image source (now_at input).beginning (end_of later)) rest)) on.seen_there
      ∙ ap (λ x. rest_at input x) (sym on.ends) in
      record {
        of = of;
        ready = on.ready;
        within = (subst (AllByRecursion (AreWithin (input_ranges source.cells))) e left.within).1;
        same = ap (λ t. t ++ lines) line ∙ append_assoc text line_of lines ∙ ap (λ r. text ++ (line_of ++ r)) same_rest
            ∙ at_next input left e;
      }

-- no input is left
pub all_told : (source : Source) (p : Pattern) (begun : Image) (all : List Input) (first : List ℕ) (n : ℕ) (seen : Option Seen) (replay : Replay)
    (text : List ℕ) → Remains source p begun all first n seen replay text → length all ≤ n
    → text ≡ first ++ scans_text source p 1 None (run_from source begun all)
all_told source p begun all first n seen replay text left le =
    sym (append-nil text)
    ∙ ap (λ l. text ++ scans_text source p (n + 1) seen (run_from source (image_of replay) l)) (sym (drop_all n all le))
    ∙ left.same

-- ---- the scans that are told

take_within : {A : Type 0} (P : A → Type 0) (n : ℕ) (xs : List A) → AllByRecursion P xs → AllByRecursion P (take n xs)
take_within P zero xs h = lead xs
  where
    lead : (ys : List _) → AllByRecursion P (take 0 ys)
    lead [] = tt
    lead (y ∷ ys) = tt
take_within P (suc n) [] h = tt
take_within P (suc n) (x ∷ xs) h = (h.0, take_within P n xs h.1)

pub told_within : (P : Input → Type 0) (end : End) (inputs : List Input) → AllByRecursion P inputs → AllByRecursion P (told_inputs end inputs)
told_within P (Kept n) inputs h = h
told_within P (Broken n by) inputs h = take_within P n inputs h
told_within P (Over n place) inputs h = take_within P n inputs h
told_within P (Reached n) inputs h = take_within P n inputs h
told_within P (NotReached n trap) inputs h = h

pub shown_are : (source : Source) (p : Pattern) (trace : Trace) (end : End) (image : Image) (params : Params) (inputs told : List Input)
    (empty text : List ℕ) → image ≡ start source params → params ≡ trace.params → told ≡ told_inputs end inputs → inputs ≡ trace.inputs
    → empty ≡ [] → text ≡ empty ++ scans_text source p 1 None (run_from source image told) → text ≡ shown_scans source p trace end
shown_are source p trace end image params inputs told empty text from values are all none is =
    is ∙ ap (λ t. t ++ scans_text source p 1 None (run_from source image told)) none
    ∙ ap (λ i. scans_text source p 1 None (run_from source i told)) (from ∙ ap (λ vs. start source vs) values)
    ∙ ap (λ l. scans_text source p 1 None (run_from source (start source trace.params) l)) (are ∙ ap (λ l. told_inputs end l) all)
