-- Writing what an operand names: setting what an assignment to it sets is writing its spot, and frame and valuation agree behind it.
use Rattle.std.proofs.Common.{◌≡◌, ◌⊎◌, inl, inr, ◌≤◌, ◌<◌, ℕ, zero, suc, ◌+◌, ◌*◌, ◌/◌, ◌%◌, ◌^◌, ℤ, pos, List, [], ◌∷◌, Bool as Truth, true, false, Some, refl, sym, ap, subst, ◌∙◌, arith}
use Rattle.std.specs.Prelude.{⊤, slice_get, if◌then◌else◌}
use Rattle.pv_word.specs.declared.types.Ty.{Ty}
use Rattle.pv_word.specs.declared.types.Ty.TheVariants.{Bool, Byte}
use Rattle.pv_word.specs.Types.{InRange, width_of, pattern_of}
use Rattle.pv_word.proofs.ForCallers.{pattern-lt}
use Rattle.pv_types.specs.Tree.{TypeTree, plain, array, structure, named, unread}
use Rattle.pv_mean.specs.Layout.{Laid, size_in, entry_size}
use Rattle.pv_mean.specs.Sources.{Source}
use Rattle.pv_mean.specs.Frames.{Frame, with_visible}
use Rattle.pv_mean.specs.Spots.{visible, brief, bit, bytes, fixed, nowhere, with_bit, with_bytes, write_spot}
use Rattle.pv_mean.specs.Activations.{Activation, spot_by, spot_of}
use Rattle.pv_flow.specs.Terms.{Term, Valuation, value_of, holds_in}
use Rattle.pv_flow.specs.Runs.{put}
use Rattle.pv_flow.specs.Calls.{set_through}
use Rattle.pv_resolve.specs.Begins.{begins_further}
use Rattle.pv_variables.specs.Correct.{BriefCellsAreApart}
use Rattle.pv_variables.specs.Origins.{Origin, in_instance, in_table, in_activation, at_spot, origin_at}
use Rattle.pv_variables.specs.Variables.{shared_count, brief_variable, table_variable}
use Rattle.pv_access.specs.declared.access.Storage.TheVariants.{Cell, Brief, Bit}
use Rattle.pv_access.specs.Accesses.{Move, Writing, assigning, choosing, steps_of, write_sets}
use Rattle.pv_access.specs.Correct as access
use Rattle.pv_access.specs.Correct.{AreInside, moved_by, moved, span, AreNested, AreApart, CanTake, CanChoose, written, through, WritesHold, ChoicesHold}
use Rattle.pv_lower.specs.Storages.{Access, cell_where, storage_at}
use Rattle.pv_laws_types.specs.Typed.{visible_types, brief_types, SpotHas}
use Rattle.pv_laws_lower.specs.Agrees.{named_count, IsBrief, Agrees, HasBriefCells, AtWork, spot_in}
use Rattle.pv_laws_lower.proofs.Rooms.{IsRoom, StrideOver, reach, inside_reach}
use Rattle.pv_laws_lower.proofs.Regions.{InVariable, AreShared, Lies, IsKept}
use Rattle.pv_laws_lower.proofs.Roots.{visible_counted, shared_counted}
use Rattle.pv_laws_lower.proofs.Shown.{Sees, sees_all, within_list, shared_place, bytes_shown, variable_on}
use Rattle.pv_laws_lower.proofs.Putting.{agrees_same, visible_put, brief_put, bit_fits, byte_fits}

-- ---- elements don't overlap

span_is : (ms : List Move) → span ms ≡ suc (reach ms)
span_is [] = refl
span_is (m ∷ ms) = ap (λ (n : ℕ). steps_of m * m.stride + n) (span_is ms) ∙ next (steps_of m * m.stride) (reach ms)
  where
    next : (a b : ℕ) → a + suc b ≡ suc (a + b)
    next a b = omega arith

nested : (size : ℕ) (ms : List Move) → 1 ≤ size → StrideOver size ms → AreNested ms
nested size [] le h = tt
nested size (m ∷ ms) le h = (let a = h.0 in let b = span_is ms in omega (arith, a, b, le), nested size ms le h.1)

module _ (source : Source) (act : Activation) (place : ℕ → ℕ) (frame : Frame) (v : Valuation) (work : AtWork source act place frame v)
    (full : HasBriefCells source act frame) (cells : BriefCellsAreApart) where
  abbrev w : Valuation
  w = through place v

  abbrev entry : ℕ
  entry = entry_size source.project source.entry

  seen : Sees ⊤ source act place frame v
  seen = sees_all source act place frame v work

  abbrev After : Frame → Valuation → Type 0
  After f u = Agrees source act place f u

  -- what is put at the place of a visible cell
  put_there : (n m : ℕ) (ty : Ty) (x : ℤ) → place n ≡ m → slice_get (visible_types source) m ≡ Some ty → InRange ty x
      → (f : Frame) (u : Valuation) → After f u → After (with_visible source f m x) (put u (place n) x)
  put_there n m ty x at has lies f u a =
      subst (λ (p : ℕ). After (with_visible source f m x) (put u p x)) (sym at) (visible_put source act place work.lie f u m ty x has lies a)

  -- ---- cells of the instance

  instance_written : (l : Laid) (ms : List Move) (ty : Ty) (t : TypeTree) (x : ℤ) → l.ty ≡ t → AreInside w ms
      → IsRoom source.project l ms 0 (entry_size source.project act.block) → InRange ty x
      → SpotHas source act ty (spot_by (λ own n. visible n) t (moved_by w ms + (act.first + l.first)))
      → CanTake place (cell_where Cell t l.first) ms x
      × After (write_spot source frame (spot_by (λ own n. visible n) t (moved_by w ms + (act.first + l.first))) x)
      (written place v (moved (moved_by w ms) (cell_where Cell t l.first)) x)
  instance_written l ms ty (plain own) x is inside room lies has =
      let k = moved_by w ms in
      let a = inside_reach w ms inside in
      let b = room.high in
      let c = ap (size_in source.project) is in
      let d = work.lie.instance (l.first + k) (omega (arith, a, b, c)) in (
        (nested (size_in source.project l.ty) ms (omega (arith, c)) room.strides, apart),
        put_there (l.first + k) (k + (act.first + l.first)) ty x (d ∙ sums act.first l.first k) has lies frame v work.agrees,
      )
    where
      sums : (f n k : ℕ) → f + (n + k) ≡ k + (f + n)
      sums f n k = omega arith

      apart : AreApart place l.first (span ms)
      apart i j li lj e =
          let b = room.high in
          let c = ap (size_in source.project) is in
          let s = span_is ms in
          let p = work.lie.instance (l.first + i) (omega (arith, b, c, s, li)) in
          let q = work.lie.instance (l.first + j) (omega (arith, b, c, s, lj)) in omega (arith, e, p, q)
  instance_written l ms ty (array low high of p) x is inside room lies has = absurd has
  instance_written l ms ty (structure vars) x is inside room lies has = absurd has
  instance_written l ms ty (named name p) x is inside room lies has = absurd has
  instance_written l ms ty unread x is inside room lies has = absurd has

  -- ---- shared cells

  table_written : (l : Laid) (ms : List Move) (ty : Ty) (t : TypeTree) (x : ℤ) → l.ty ≡ t → AreInside w ms
      → IsRoom source.project l ms entry (shared_count source) → InRange ty x
      → SpotHas source act ty (spot_by (λ own n. visible n) t (moved_by w ms + l.first))
      → CanTake place (cell_where Cell t (table_variable source act.block l.first)) ms x
      × After (write_spot source frame (spot_by (λ own n. visible n) t (moved_by w ms + l.first)) x)
      (written place v (moved (moved_by w ms) (cell_where Cell t (table_variable source act.block l.first))) x)
  table_written l ms ty (plain own) x is inside room lies has =
      let k = moved_by w ms in
      let a = inside_reach w ms inside in
      let b = room.high in
      let c = ap (size_in source.project) is in (
        (nested (size_in source.project l.ty) ms (omega (arith, c)) room.strides, apart),
        put_there (table_variable source act.block l.first + k) (k + l.first) ty x
            (shared_place ⊤ source act place frame v seen l.first k room.low (omega (arith, a, b, c)) ∙ swap l.first k) has lies frame v work.agrees,
      )
    where
      swap : (n k : ℕ) → n + k ≡ k + n
      swap n k = omega arith

      apart : AreApart place (table_variable source act.block l.first) (span ms)
      apart i j li lj e =
          let b = room.high in
          let c = ap (size_in source.project) is in
          let s = span_is ms in
          let p = shared_place ⊤ source act place frame v seen l.first i room.low (omega (arith, b, c, s, li)) in
          let q = shared_place ⊤ source act place frame v seen l.first j room.low (omega (arith, b, c, s, lj)) in omega (arith, e, p, q)
  table_written l ms ty (array low high of p) x is inside room lies has = absurd has
  table_written l ms ty (structure vars) x is inside room lies has = absurd has
  table_written l ms ty (named name p) x is inside room lies has = absurd has
  table_written l ms ty unread x is inside room lies has = absurd has

  -- ---- brief cells

  half : (i : ℕ) → (i ≡ i / 2 * 2) ⊎ (i ≡ suc (i / 2 * 2))
  half i = by (i % 2) refl
    where
      by : (r : ℕ) → i % 2 ≡ r → (i ≡ i / 2 * 2) ⊎ (i ≡ suc (i / 2 * 2))
      by zero e = inl (omega (arith, e))
      by (suc r) e = inr (omega (arith, e))

  brief_written : (l : Laid) (ms : List Move) (ty : Ty) (t : TypeTree) (x : ℤ) → l.ty ≡ t → AreInside w ms
      → InVariable ⊤ source act.block l ms → InRange ty x
      → SpotHas source act ty (spot_by brief t (moved_by w ms + l.first))
      → CanTake place (cell_where Brief t (brief_variable source act.block l.first)) ms x
      × After (write_spot source frame (spot_by brief t (moved_by w ms + l.first)) x)
      (written place v (moved (moved_by w ms) (cell_where Brief t (brief_variable source act.block l.first))) x)
  brief_written l ms ty (plain own) x is inside room lies has =
      let k = moved_by w ms in
      let a = inside_reach w ms inside in
      let b = room.room.high in
      let low = room.room.low in
      let c = ap (size_in source.project) is in
      let within = room.variable.within in (
        (nested (size_in source.project l.ty) ms (omega (arith, c)) room.room.strides, apart),
        subst (λ (n : ℕ). After (write_spot source frame (brief own (k + l.first)) x) (put (put v (place n) x) (place (suc n)) (pos 1)))
            (on k (omega (arith, a, b, c, low)))
            (brief_put source act place work.lie cells frame v (k + l.first) own x full (omega (arith, a, b, c, within))
            (subst (λ (s : Ty). slice_get (brief_types source act) (k + l.first) ≡ Some s) (sym has.0) has.1)
            (subst (λ (s : Ty). InRange s x) (sym has.0) lies) work.agrees),
      )
    where
      -- so many cells further is twice as many variables
      on : (k : ℕ) → l.first + k < room.first + room.count
          → brief_variable source act.block (k + l.first) ≡ brief_variable source act.block l.first + k * 2
      on k lt = variable_on room.first l.first k room.count (brief_variable source act.block) room.room.low lt room.variable.follows

      -- a variable of one of the cells that indexes may name
      is_one : (i : ℕ) → i < span ms * 2 → IsBrief source act.block (brief_variable source act.block l.first + i)
      is_one i lt =
          let b = room.room.high in
          let c = ap (size_in source.project) is in
          let s = span_is ms in
          let within = room.variable.within in
          let few : i / 2 < span ms = omega (arith, lt) in
          let e = on (i / 2) (omega (arith, b, c, s, few)) in record {
            cell = i / 2 + l.first;
            within = omega (arith, b, c, s, few, within);
            is = which (half i) e;
          }
        where
          n : ℕ
          n = brief_variable source act.block l.first

          which : (i ≡ i / 2 * 2) ⊎ (i ≡ suc (i / 2 * 2)) → brief_variable source act.block (i / 2 + l.first) ≡ n + i / 2 * 2
              → (n + i ≡ brief_variable source act.block (i / 2 + l.first)) ⊎ (n + i ≡ suc (brief_variable source act.block (i / 2 + l.first)))
          which (inl h) e = inl (omega (arith, h, e))
          which (inr h) e = inr (omega (arith, h, e))

      apart : AreApart place (brief_variable source act.block l.first) (span ms * 2)
      apart i j li lj e =
          let p = work.lie.apart (brief_variable source act.block l.first + i) (brief_variable source act.block l.first + j) (is_one i li) (is_one j lj) e in
          omega (arith, p)
  brief_written l ms ty (array low high of p) x is inside room lies has = absurd has
  brief_written l ms ty (structure vars) x is inside room lies has = absurd has
  brief_written l ms ty (named name p) x is inside room lies has = absurd has
  brief_written l ms ty unread x is inside room lies has = absurd has

  -- ---- bits and bytes

  shared_byte : (n count k : ℕ) → AreShared source n count → k < count
      → (place (table_variable source act.block n + k) ≡ n + k) × (slice_get (visible_types source) (n + k) ≡ Some Byte)
  shared_byte n count k shared lt =
      let here = shared k lt in
      let first = (shared 0 (omega (arith, lt))).0 in
      let within = within_list (visible_types source) (n + k) Byte here.1 in
      let all = visible_counted source in
      let counted = shared_counted source (omega (arith, first, within, all)) in
      (shared_place ⊤ source act place frame v seen n k (omega (arith, first)) (omega (arith, within, all, counted)), here.1)

  small_byte : (m : ℕ) → m % 256 < 256
  small_byte m = omega arith

  bytes_put : (n count number : ℕ) (start : ℕ) (f : Frame) (u : Valuation)
      → ((k : ℕ) → k < count → (place (start + k) ≡ n + k) × (slice_get (visible_types source) (n + k) ≡ Some Byte))
      → After f u → After (with_bytes source f n count number) (access.with_bytes place u start count number)
  bytes_put n zero number start f u shared a = a
  bytes_put n (suc count) number start f u shared a =
      let here = shared 0 (omega arith) in
      bytes_put (n + 1) count number (suc start) (with_visible source f n (pos (number / 256 ^ count % 256)))
      (put u (place start) (pos (number / 256 ^ count % 256)))
      (λ k lt. let next = shared (suc k) (omega (arith, lt)) in (
        ap place (moved_one start k) ∙ next.0 ∙ sym (one_more n k),
        ap (slice_get (visible_types source)) (one_more n k) ∙ next.1,
      ))
      (put_there start n Byte (pos (number / 256 ^ count % 256)) (ap place (sym (none_more start)) ∙ here.0 ∙ none_more n)
      (ap (slice_get (visible_types source)) (sym (none_more n)) ∙ here.1) (byte_fits (number / 256 ^ count % 256) (small_byte (number / 256 ^ count)))
      f u a)
    where
      none_more : (m : ℕ) → m + 0 ≡ m
      none_more m = omega arith

      moved_one : (m k : ℕ) → suc m + k ≡ m + suc k
      moved_one m k = omega arith

      one_more : (m k : ℕ) → m + 1 + k ≡ m + suc k
      one_more m k = omega arith

  bit_written : (n b : ℕ) (x : ℤ) → b < 8 → AreShared source n 1
      → After (write_spot source frame (bit n b) x) (written place v (Bit (table_variable source act.block n) b) x)
  bit_written n b x few shared =
      let here = shared_byte n 1 0 shared (omega arith) in
      let at = ap place (sym (none_more (table_variable source act.block n))) ∙ here.0 ∙ none_more n in
      let has = ap (slice_get (visible_types source)) (sym (none_more n)) ∙ here.1 in
      let lt = within_list (visible_types source) n Byte has in
      let all = visible_counted source in
      let same = ap v at ∙ work.agrees.visible n (omega (arith, lt, all)) in
      subst (λ (y : ℤ). After (with_visible source frame n y) (written place v (Bit (table_variable source act.block n) b) x))
      (ap (λ (y : ℤ). pos (with_bit (pattern_of Byte y) b (pattern_of Bool x))) same)
      (put_there (table_variable source act.block n) n Byte
      (pos (with_bit (pattern_of Byte (v (place (table_variable source act.block n)))) b (pattern_of Bool x))) at has
      (byte_fits (with_bit (pattern_of Byte (v (place (table_variable source act.block n)))) b (pattern_of Bool x))
      (bit_fits b (pattern_of Byte (v (place (table_variable source act.block n)))) (pattern_of Bool x) few
      (pattern-lt 8 (v (place (table_variable source act.block n)))) (pattern-lt 1 x))) frame v work.agrees)
    where
      none_more : (m : ℕ) → m + 0 ≡ m
      none_more m = omega arith

  -- a function's value
  is_near : (j i : ℕ) → j < named_count source act.block → i < 2 → IsBrief source act.block (brief_variable source act.block j + i)
  is_near j zero within lt = record { cell = j; within = within; is = inl (omega arith) }
  is_near j (suc zero) within lt = record { cell = j; within = within; is = inr (omega arith) }
  is_near j (suc (suc i)) within lt = absurd (omega (arith, lt))

  value_written : (ms : List Move) (own : Ty) (j : ℕ) (x : ℤ) → ms ≡ [] → j < named_count source act.block → InRange own x
      → slice_get (brief_types source act) j ≡ Some own
      → CanTake place (Brief own (brief_variable source act.block j)) ms x
      × After (write_spot source frame (brief own j) x)
      (written place v (moved (moved_by w ms) (Brief own (brief_variable source act.block j))) x)
  value_written [] own j x none within range has = (
    (
      tt,
      λ i k li lk e. let p = work.lie.apart (brief_variable source act.block j + i) (brief_variable source act.block j + k)
          (is_near j i within li) (is_near j k within lk) e in omega (arith, p),
    ),
    subst (λ (n : ℕ). After (write_spot source frame (brief own j) x) (put (put v (place n) x) (place (suc n)) (pos 1)))
        (none_more (brief_variable source act.block j))
        (brief_put source act place work.lie cells frame v j own x full within has range work.agrees),
  )
    where
      none_more : (n : ℕ) → n ≡ n + 0 * 2
      none_more n = omega arith
  value_written (m ∷ ms) own j x none within range has = absurd (not_none m ms none)
    where
      not_none : (m : Move) (ms : List Move) → m ∷ ms ≡ [] → ⊥
      not_none m ms e = cc

  -- ---- all of them

  written_at : (o : Origin) (ms : List Move) (ty : Ty) (x : ℤ) → AreInside w ms → Lies ⊤ source act.block o ms → InRange ty x
      → SpotHas source act ty (spot_of (begins_further (moved_by w ms) (origin_at act.first o)))
      → CanTake place (storage_at source act.block o) ms x
      × After (write_spot source frame (spot_of (begins_further (moved_by w ms) (origin_at act.first o))) x)
      (written place v (moved (moved_by w ms) (storage_at source act.block o)) x)
  written_at (in_instance l) ms ty x inside lies range has = instance_written l ms ty l.ty x refl inside lies.0 range has
  written_at (in_table l) ms ty x inside lies range has = table_written l ms ty l.ty x refl inside lies.0 range has
  written_at (in_activation l) ms ty x inside lies range has = brief_written l ms ty l.ty x refl inside lies.0 range has
  written_at (at_spot (visible n)) ms ty x inside lies range has = absurd lies
  written_at (at_spot (brief own j)) ms ty x inside lies range has =
      value_written ms own j x lies.0 lies.1 (subst (λ (s : Ty). InRange s x) (sym has.0) range) (subst (λ (s : Ty). slice_get (brief_types source act) j ≡ Some s) (sym has.0) has.1)
  written_at (at_spot (bit n b)) ms ty x inside lies range has =
      ((lies.0, subst (λ (s : Ty). InRange s x) has range), bit_written n b x lies.0 lies.1)
  written_at (at_spot (bytes own n count)) ms ty x inside lies range has = (
    (lies.2, subst (λ (s : Ty). InRange s x) (sym has) range),
    bytes_put n count (pattern_of own x) (table_variable source act.block n) frame v (λ k lt. shared_byte n count k lies.1 lt) work.agrees,
  )
  written_at (at_spot (fixed y)) ms ty x inside lies range has = (tt, work.agrees)
  written_at (at_spot nowhere) ms ty x inside lies range has = absurd has

  -- a BOOL isn't bytes
  no_bool_bytes : (count : ℕ) → 8 * count ≡ 1 → ⊥
  no_bool_bytes count e = omega (arith, e)

  can_choose : (o : Origin) (ms : List Move) → Lies ⊤ source act.block o ms
      → SpotHas source act Bool (spot_of (begins_further (moved_by w ms) (origin_at act.first o)))
      → CanChoose place v (storage_at source act.block o)
  can_choose (in_instance l) ms lies has = any_cell l.ty l.first
    where
      any_cell : (t : TypeTree) (n : ℕ) → CanChoose place v (cell_where Cell t n)
      any_cell (plain own) n = tt
      any_cell (array low high of p) n = tt
      any_cell (structure vars) n = tt
      any_cell (named name p) n = tt
      any_cell unread n = tt
  can_choose (in_table l) ms lies has = any_cell l.ty (table_variable source act.block l.first)
    where
      any_cell : (t : TypeTree) (n : ℕ) → CanChoose place v (cell_where Cell t n)
      any_cell (plain own) n = tt
      any_cell (array low high of p) n = tt
      any_cell (structure vars) n = tt
      any_cell (named name p) n = tt
      any_cell unread n = tt
  can_choose (in_activation l) ms lies has = any_cell l.ty (brief_variable source act.block l.first)
    where
      any_cell : (t : TypeTree) (n : ℕ) → CanChoose place v (cell_where Brief t n)
      any_cell (plain own) n = tt
      any_cell (array low high of p) n = tt
      any_cell (structure vars) n = tt
      any_cell (named name p) n = tt
      any_cell unread n = tt
  can_choose (at_spot (visible n)) ms lies has = absurd lies
  can_choose (at_spot (brief own j)) ms lies has = tt
  can_choose (at_spot (bit n b)) ms lies has =
      let shown = bytes_shown ⊤ source act place frame v seen n 1 lies.1 0 (omega arith) in
      subst (λ (k : ℕ). InRange Byte (v (place k))) (none_more (table_variable source act.block n)) shown.1
    where
      none_more : (m : ℕ) → m + 0 ≡ m
      none_more m = omega arith
  can_choose (at_spot (bytes own n count)) ms lies has =
      no_bool_bytes count (lies.2 ∙ ap width_of has)
  can_choose (at_spot (fixed y)) ms lies has = tt
  can_choose (at_spot nowhere) ms lies has = absurd has

  -- ---- what sets do

  abbrev sets : Access → Writing → Valuation
  sets a writing = set_through place w (write_sets (storage_at source act.block a.origin) a.moves writing) v

  pub access_written : WritesHold → (a : Access) (ty : Ty) (t : Term) → IsKept ⊤ source act.block w a → InRange ty (value_of w t)
      → SpotHas source act ty (spot_in w act.first a)
      → After (write_spot source frame (spot_in w act.first a) (value_of w t)) (sets a (assigning t))
  access_written hold a ty t kept range has =
      let b = written_at a.origin a.moves ty (value_of w t) kept.inside kept.lies range has in
      agrees_same source act place work.lie (write_spot source frame (spot_in w act.first a) (value_of w t))
      (written place v (moved (moved_by w a.moves) (storage_at source act.block a.origin)) (value_of w t)) (sets a (assigning t))
      (λ n. hold place v (storage_at source act.block a.origin) a.moves t n kept.inside b.0) b.1

  pub access_chosen : ChoicesHold → (a : Access) (on t : Term) → IsKept ⊤ source act.block w a → InRange Bool (value_of w t)
      → SpotHas source act Bool (spot_in w act.first a)
      → After (if holds_in w on then write_spot source frame (spot_in w act.first a) (value_of w t) else frame) (sets a (choosing on t))
  access_chosen hold a on t kept range has = by (holds_in w on) (λ n. hold place v (storage_at source act.block a.origin) a.moves on t n
      kept.inside b.0 (can_choose a.origin a.moves kept.lies has))
    where
      b : CanTake place (storage_at source act.block a.origin) a.moves (value_of w t)
          × After (write_spot source frame (spot_in w act.first a) (value_of w t))
          (written place v (moved (moved_by w a.moves) (storage_at source act.block a.origin)) (value_of w t))
      b = written_at a.origin a.moves Bool (value_of w t) kept.inside kept.lies range has

      by : (h : Truth)
          → ((n : ℕ) → sets a (choosing on t) n
          ≡ (if h then written place v (moved (moved_by w a.moves) (storage_at source act.block a.origin)) (value_of w t) n else v n))
          → After (if h then write_spot source frame (spot_in w act.first a) (value_of w t) else frame) (sets a (choosing on t))
      by true same =
          agrees_same source act place work.lie (write_spot source frame (spot_in w act.first a) (value_of w t))
          (written place v (moved (moved_by w a.moves) (storage_at source act.block a.origin)) (value_of w t)) (sets a (choosing on t)) same b.1
      by false same = agrees_same source act place work.lie frame v (sets a (choosing on t)) same work.agrees
