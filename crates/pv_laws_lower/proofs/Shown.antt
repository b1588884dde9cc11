-- In a valuation that agrees with a frame, what an access leads to is what its spot is in the frame; and so it is where they say the same of the
-- visible cells alone and the access leads to such.
use Rattle.std.proofs.Common.{◌≡◌, ◌≤◌, ◌<◌, ℕ, zero, suc, ◌+◌, ◌-◌, ◌*◌, List, [], ◌∷◌, length, Some, refl, sym, ap, subst, ◌∙◌, arith}
use Rattle.std.specs.Prelude.{⊤, slice_get}
use Rattle.std.proofs.lemmas.Option.{none-some}
use Rattle.pv_word.specs.declared.types.Ty.{Ty}
use Rattle.pv_word.specs.declared.types.Ty.TheVariants.{Byte}
use Rattle.pv_word.specs.Types.{InRange}
use Rattle.pv_types.specs.Tree.{TypeTree, plain, array, structure, named, unread}
use Rattle.pv_mean.specs.Layout.{Laid, size_in, entry_size}
use Rattle.pv_mean.specs.Sources.{Source}
use Rattle.pv_mean.specs.Frames.{Frame, visible_len, visible_value, brief_value}
use Rattle.pv_mean.specs.Spots.{visible, brief, bit, bytes, fixed, nowhere}
use Rattle.pv_mean.specs.Activations.{Activation, spot_by, spot_of}
use Rattle.pv_flow.specs.Terms.{Valuation}
use Rattle.pv_resolve.specs.Begins.{begins_further}
use Rattle.pv_variables.specs.Origins.{Origin, in_instance, in_table, in_activation, at_spot, origin_at}
use Rattle.pv_variables.specs.Variables.{bound_count, shared_count, brief_variable, table_variable}
use Rattle.pv_access.specs.declared.access.Storage.TheVariants.{Cell, Brief}
use Rattle.pv_access.specs.Accesses.{Move}
use Rattle.pv_access.specs.Correct.{AreInside, moved_by, moved, IsTold, AreBytes, Shows, through}
use Rattle.pv_lower.specs.Storages.{Access, cell_where, storage_at}
use Rattle.pv_laws_types.specs.Typed.{visible_types, IsAtWork, CellsLie, SpotHas}
use Rattle.pv_laws_types.proofs.ForCallers.{read_lies}
use Rattle.pv_laws_lower.specs.Fit.{IsLaidOut}
use Rattle.pv_laws_lower.specs.Agrees.{named_count, LieAt, AtWork, spot_in}
use Rattle.pv_laws_lower.proofs.Rooms.{IsRoom, inside_reach}
use Rattle.pv_laws_lower.proofs.Regions.{InVariable, AreShared, Lies, IsKept}
use Rattle.pv_laws_lower.proofs.Roots.{visible_counted, shared_counted}

pub within_list : {X : Type 0} (xs : List X) (n : ℕ) (x : X) → slice_get xs n ≡ Some x → n < length xs
within_list [] n x e = absurd (none-some x e)
within_list (y ∷ xs) zero x e = omega arith
within_list (y ∷ xs) (suc n) x e = let p = within_list xs n x e in omega (arith, p)

-- so many cells further is twice as many variables
pub variable_on : (first n k count : ℕ) (f : ℕ → ℕ) → first ≤ n → n + k < first + count
    → ((i : ℕ) → i < count → f (first + i) ≡ f first + i * 2) → f (k + n) ≡ f n + k * 2
variable_on first n k count f low lt on =
    let here = on (n - first) (omega (arith, low, lt)) in
    let there = on (n - first + k) (omega (arith, low, lt)) in
    let back : first + (n - first) ≡ n = omega (arith, low) in
    let all : first + (n - first + k) ≡ k + n = omega (arith, low) in
    let p = sym (ap f all) ∙ there in
    let q = sym (ap f back) ∙ here in omega (arith, p, q)

-- a block at work, with a frame and a valuation that say the same of the visible cells, and of the brief ones where these are asked for
pub record Sees (asks : Type 0) (source : Source) (act : Activation) (place : ℕ → ℕ) (frame : Frame) (v : Valuation) : Type 0 where
  pub laid : IsLaidOut source act.block
  pub work : IsAtWork source act
  pub lie : LieAt source act place
  pub cells : CellsLie source act frame
  pub visible : (n : ℕ) → n < visible_len source.cells → v n ≡ visible_value frame n
  pub brief : asks → (j : ℕ) → j < named_count source act.block
      → IsTold (through place v) (brief_variable source act.block j) (brief_value frame j)

pub sees_all : (source : Source) (act : Activation) (place : ℕ → ℕ) (frame : Frame) (v : Valuation) → AtWork source act place frame v
    → Sees ⊤ source act place frame v
sees_all source act place frame v work = record {
  laid = work.laid;
  work = work.work;
  lie = work.lie;
  cells = work.agrees.cells;
  visible = work.agrees.visible;
  brief = λ ask j lt. work.agrees.brief j lt;
}

module _ (asks : Type 0) (source : Source) (act : Activation) (place : ℕ → ℕ) (frame : Frame) (v : Valuation)
    (work : Sees asks source act place frame v) where
  abbrev w : Valuation
  w = through place v

  abbrev entry : ℕ
  entry = entry_size source.project source.entry

  visible_there : (n : ℕ) (ty : Ty) → slice_get (visible_types source) n ≡ Some ty → v n ≡ visible_value frame n
  visible_there n ty is =
      let lt = within_list (visible_types source) n ty is in
      let e = visible_counted source in work.visible n (omega (arith, lt, e))

  -- ---- cells of the instance

  instance_shown : (l : Laid) (ms : List Move) (ty : Ty) (t : TypeTree) → l.ty ≡ t → AreInside w ms
      → IsRoom source.project l ms 0 (entry_size source.project act.block)
      → SpotHas source act ty (spot_by (λ own n. visible n) t (moved_by w ms + (act.first + l.first)))
      → Shows frame w (moved (moved_by w ms) (cell_where Cell t l.first)) (spot_by (λ own n. visible n) t (moved_by w ms + (act.first + l.first)))
  instance_shown l ms ty (plain own) is inside room has =
      let k = moved_by w ms in
      let a = inside_reach w ms inside in
      let b = room.high in
      let c = ap (size_in source.project) is in
      let d = work.lie.instance (l.first + k) (omega (arith, a, b, c)) in
      ap v (d ∙ sums act.first l.first k) ∙ visible_there (k + (act.first + l.first)) ty has
    where
      sums : (f n k : ℕ) → f + (n + k) ≡ k + (f + n)
      sums f n k = omega arith
  instance_shown l ms ty (array low high of p) is inside room has = absurd has
  instance_shown l ms ty (structure vars) is inside room has = absurd has
  instance_shown l ms ty (named name p) is inside room has = absurd has
  instance_shown l ms ty unread is inside room has = absurd has

  -- ---- shared cells

  -- the variable so many behind that of a shared cell lies there
  pub shared_place : (n k : ℕ) → entry ≤ n → n + k < entry + shared_count source → place (table_variable source act.block n + k) ≡ n + k
  shared_place n k low lt =
      ap place (sums (bound_count source act.block) (n - entry) k)
      ∙ work.lie.shared (n - entry + k) (omega (arith, low, lt)) ∙ back n k low
    where
      sums : (b x k : ℕ) → b + x + k ≡ b + (x + k)
      sums b x k = omega arith

      back : (n k : ℕ) → entry ≤ n → entry + (n - entry + k) ≡ n + k
      back n k le = omega (arith, le)

  table_shown : (l : Laid) (ms : List Move) (ty : Ty) (t : TypeTree) → l.ty ≡ t → AreInside w ms
      → IsRoom source.project l ms entry (shared_count source)
      → SpotHas source act ty (spot_by (λ own n. visible n) t (moved_by w ms + l.first))
      → Shows frame w (moved (moved_by w ms) (cell_where Cell t (table_variable source act.block l.first)))
      (spot_by (λ own n. visible n) t (moved_by w ms + l.first))
  table_shown l ms ty (plain own) is inside room has =
      let k = moved_by w ms in
      let a = inside_reach w ms inside in
      let b = room.high in
      let c = ap (size_in source.project) is in
      ap v (shared_place l.first k room.low (omega (arith, a, b, c)) ∙ swap l.first k) ∙ visible_there (k + l.first) ty has
    where
      swap : (n k : ℕ) → n + k ≡ k + n
      swap n k = omega arith
  table_shown l ms ty (array low high of p) is inside room has = absurd has
  table_shown l ms ty (structure vars) is inside room has = absurd has
  table_shown l ms ty (named name p) is inside room has = absurd has
  table_shown l ms ty unread is inside room has = absurd has

  -- ---- brief cells

  brief_shown : (l : Laid) (ms : List Move) (ty : Ty) (t : TypeTree) → l.ty ≡ t → AreInside w ms → InVariable asks source act.block l ms
      → SpotHas source act ty (spot_by brief t (moved_by w ms + l.first))
      → Shows frame w (moved (moved_by w ms) (cell_where Brief t (brief_variable source act.block l.first)))
      (spot_by brief t (moved_by w ms + l.first))
  brief_shown l ms ty (plain own) is inside room has =
      let k = moved_by w ms in
      let a = inside_reach w ms inside in
      let b = room.room.high in
      let low = room.room.low in
      let c = ap (size_in source.project) is in
      let within = room.variable.within in
      subst (λ (n : ℕ). IsTold w n (brief_value frame (k + l.first)))
      (variable_on room.first l.first k room.count (brief_variable source act.block) low (omega (arith, a, b, c, low)) room.variable.follows)
      (work.brief room.asked (k + l.first) (omega (arith, a, b, c, within)))
  brief_shown l ms ty (array low high of p) is inside room has = absurd has
  brief_shown l ms ty (structure vars) is inside room has = absurd has
  brief_shown l ms ty (named name p) is inside room has = absurd has
  brief_shown l ms ty unread is inside room has = absurd has

  -- ---- bits and bytes

  pub bytes_shown : (n count : ℕ) → AreShared source n count → AreBytes frame w (table_variable source act.block n) n count
  bytes_shown n count shared k lt =
      let here = shared k lt in
      let first = shared 0 (omega (arith, lt)) in
      let low = first.0 in
      let within = within_list (visible_types source) (n + k) Byte here.1 in
      let all = visible_counted source in
      let counted = shared_counted source (omega (arith, low, within, all)) in
      let e = ap v (shared_place n k (omega (arith, low)) (omega (arith, within, all, counted))) ∙ visible_there (n + k) Byte here.1 in (
        e,
        subst (InRange Byte) (sym e)
            (read_lies source act frame work.cells Byte (visible (n + k)) (record { file = 0; offset = 0 }) (visible_value frame (n + k)) here.1 refl),
      )

  -- ---- all of them

  shown_at : (o : Origin) (ms : List Move) (ty : Ty) → AreInside w ms → Lies asks source act.block o ms
      → SpotHas source act ty (spot_of (begins_further (moved_by w ms) (origin_at act.first o)))
      → Shows frame w (moved (moved_by w ms) (storage_at source act.block o)) (spot_of (begins_further (moved_by w ms) (origin_at act.first o)))
  shown_at (in_instance l) ms ty inside lies has = instance_shown l ms ty l.ty refl inside lies.0 has
  shown_at (in_table l) ms ty inside lies has = table_shown l ms ty l.ty refl inside lies.0 has
  shown_at (in_activation l) ms ty inside lies has = brief_shown l ms ty l.ty refl inside lies.0 has
  shown_at (at_spot (visible n)) ms ty inside lies has = absurd lies
  shown_at (at_spot (brief own j)) ms ty inside lies has =
      subst (λ (n : ℕ). IsTold w n (brief_value frame j))
      (still (brief_variable source act.block j) (moved_by w ms) (ap (moved_by w) lies.0)) (work.brief lies.2 j lies.1)
    where
      still : (n k : ℕ) → k ≡ 0 → n ≡ n + k * 2
      still n k e = omega (arith, e)
  shown_at (at_spot (bit n b)) ms ty inside lies has = (refl, lies.0, bytes_shown n 1 lies.1)
  shown_at (at_spot (bytes own n count)) ms ty inside lies has = (refl, refl, lies.0, bytes_shown n count lies.1)
  shown_at (at_spot (fixed x)) ms ty inside lies has = refl
  shown_at (at_spot nowhere) ms ty inside lies has = absurd has

  pub shown : (a : Access) (ty : Ty) → IsKept asks source act.block w a → SpotHas source act ty (spot_in w act.first a)
      → Shows frame w (moved (moved_by w a.moves) (storage_at source act.block a.origin)) (spot_in w act.first a)
  shown a ty kept has = shown_at a.origin a.moves ty kept.inside kept.lies has
