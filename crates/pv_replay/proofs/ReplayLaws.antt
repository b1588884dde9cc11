-- What a replay has behind a scan, and with a new image.
use Rattle.std.proofs.Common.{◌≡◌, ◌++◌, List, length, take, drop, ℤ, Bool, true, false, ◌&&◌, refl, sym, ap, subst, ◌∙◌, []}
use Rattle.std.proofs.lemmas.List.{with_items_is}
use Rattle.pv_place.specs.Roles.{is_input, is_stored}
use Rattle.pv_place.specs.Ranges.{AreWithin}
use Rattle.pv_mean.specs.Sources.{Source}
use Rattle.pv_mean.specs.Cells.{most_calls}
use Rattle.pv_mean.specs.Frames.{is_free, param_ranges, image_ranges, input_ranges, visible_ranges, begin, image_after, start_image}
use Rattle.pv_mean.specs.Endings.{ended}
use Rattle.pv_mean.specs.Scans.{ScanEnd as End, scan_from}
use Rattle.pv_mean.specs.Runs.{start}
use Rattle.pv_run.specs.declared.stop.Stop.{Stop}
use Rattle.pv_run.specs.declared.stop.Stop.TheVariants as stop
use Rattle.pv_run.specs.Ends.{stop_end}
use Rattle.pv_replay.specs.declared.end.ScanEnd.{ScanEnd}
use Rattle.pv_replay.specs.declared.end.ScanEnd.TheVariants.{Done, Trap, Over}
use Rattle.pv_replay.specs.declared.replay.Replay.{Replay}
use Rattle.pv_replay.specs.Images as images
use Rattle.pv_replay.specs.Images.{AreLong, BeginLong, stored_count}
use Rattle.pv_replay.specs.Ends.{scan_end, is_done}
use Rattle.pv_replay.specs.Replays.{IsReplayOf, IsScanned, Leaves, image_of, begin_of, end_of}
use Rattle.pv_replay.proofs.ImageLaws.{begin-roles, left-roles, count-roles, length-within, long-values, begin-long}
use Rattle.pv_mean.proofs.ForCallers.{within-begin}

-- the visible cells at a scan's beginning
begins : (source : Source) (r : Replay) (input values : List ℤ) → IsReplayOf source r → AreWithin (input_ranges source.cells) input
    → (AreLong input → values ≡ images.begin_by_roles r.roles.items r.image.items input) → values ≡ begin source.cells r.image.items input
begins source r input values is within put =
    put (long-values (λ c. is_input c.role) source.cells input is.starts.bound within)
    ∙ ap (λ rs. images.begin_by_roles rs r.image.items input) is.roles
    ∙ sym (begin-roles source.cells r.image.items input)

pub range_scanned : (source : Source) (before : Replay) (input values told : List ℤ) → IsReplayOf source before → AreWithin (image_ranges source.cells) (image_of before)
    → AreWithin (input_ranges source.cells) input → (AreLong input → values ≡ images.begin_by_roles before.roles.items before.image.items input)
    → told ≡ values → AreWithin (visible_ranges source.cells) told
range_scanned source before input values told is imaged within put begun =
    subst (AreWithin (visible_ranges source.cells)) (sym (begun ∙ begins source before input values is within put))
    (within-begin source.cells before.image.items input is.starts.bound imaged within)

pub scanned_done : (source : Source) (before after : Replay) (input values ran : List ℤ) → IsReplayOf source before → AreWithin (input_ranges source.cells) input
    → (AreLong input → values ≡ images.begin_by_roles before.roles.items before.image.items input)
    → ended ran ≡ (scan_from source most_calls values).end
    → begin_of after ≡ values → end_of after ≡ ran → image_of after ≡ images.left_of before.roles.items before.image.items ran
    → IsScanned source before after input Done
scanned_done source before after input values ran is within put ends begun ended_so kept =
    let at = begins source before input values is within put in
    record {
      beginning = begun ∙ at;
      ends = ap (λ vs. let e : End = ended vs in e) ended_so ∙ ends ∙ ap (λ vs. (scan_from source most_calls vs).end) at;
      leaves = kept
          ∙ ap (λ rs. images.left_of rs before.image.items ran) is.roles
          ∙ sym (left-roles source.cells before.image.items input ran)
          ∙ ap (λ vs. image_after source.cells vs ran) (sym (begun ∙ at))
          ∙ ap (λ vs. image_after source.cells (begin_of after) vs) (sym ended_so);
    }

-- an end that stops leaves nothing
leaves_nothing : (end : ScanEnd) (s : Stop) (source : Source) (r : Replay) → ((vs : List ℤ) → scan_end end vs ≡ stop_end s) → Leaves end source r
leaves_nothing Done (stop.Trap t) source r is = let e = is (end_of r) in absurd cc
leaves_nothing Done (stop.Over place) source r is = let e = is (end_of r) in absurd cc
leaves_nothing (Trap kind place) s source r is = tt
leaves_nothing (Over place) s source r is = tt

pub stops_not_done : (end : ScanEnd) (s : Stop) → ((vs : List ℤ) → scan_end end vs ≡ stop_end s) → false ≡ is_done end
stops_not_done Done (stop.Trap t) is = let e = is [] in absurd cc
stops_not_done Done (stop.Over place) is = let e = is [] in absurd cc
stops_not_done (Trap kind place) s is = refl
stops_not_done (Over place) s is = refl

-- ---- readiness

pub stays_ready : (r : Bool) → r ≡ (r && true)
stays_ready true = refl
stays_ready false = refl

pub not_ready : (r : Bool) (end : ScanEnd) (s : Stop) → ((vs : List ℤ) → scan_end end vs ≡ stop_end s) → false ≡ (r && is_done end)
not_ready true end s is = stops_not_done end s is
not_ready false end s is = refl

pub scanned_stop : (source : Source) (before after : Replay) (input values : List ℤ) (end : ScanEnd) (s : Stop) → IsReplayOf source before → AreWithin (input_ranges source.cells) input
    → (AreLong input → values ≡ images.begin_by_roles before.roles.items before.image.items input)
    → stop_end s ≡ (scan_from source most_calls values).end → ((vs : List ℤ) → scan_end end vs ≡ stop_end s)
    → begin_of after ≡ values
    → IsScanned source before after input end
scanned_stop source before after input values end s is within put ends stopped begun =
    let at = begins source before input values is within put in
    record {
      beginning = begun ∙ at;
      ends = stopped (end_of after) ∙ ends ∙ ap (λ vs. (scan_from source most_calls vs).end) at;
      leaves = leaves_nothing end s source after stopped;
    }

-- ---- images that are given

pub image_set : (source : Source) (r : Replay) (given new : List ℤ) → IsReplayOf source r → AreWithin (image_ranges source.cells) given
    → (length r.image.items ≡ length given → AreLong given → new ≡ given) → length new ≡ r.image.len
    → take r.image.len (new ++ drop (length new) r.image.items) ≡ given
image_set source r given new is within put len =
    let counted = ap stored_count is.roles ∙ count-roles source.cells in
    let same = length-within (λ c. is_stored c.role) source.cells given within in
    with_items_is r.image new len
    ∙ put (r.stored ∙ counted ∙ sym same) (long-values (λ c. is_stored c.role) source.cells given is.starts.bound within)

pub image_started : (source : Source) (r : Replay) (params new : List ℤ) → IsReplayOf source r → AreWithin (param_ranges source.cells) params
    → (BeginLong r.cells.now → AreLong params → new ≡ start_image r.cells.now params) → length new ≡ r.image.len
    → take r.image.len (new ++ drop (length new) r.image.items) ≡ start source params
image_started source r params new is within put len =
    with_items_is r.image new len
    ∙ put (subst BeginLong is.cells (begin-long source.cells is.starts.starts is.starts.bound)) (long-values (λ c. is_free c.role c.bound) source.cells params is.starts.bound within)
    ∙ ap (λ cs. start_image cs params) (sym is.cells)
