-- In a frame whose cells lie in their types each part of a block has a value of its type, and what an assignment writes is one of the
-- type of its target.
use Rattle.std.proofs.Common.{◌≡◌, ◌≢◌, zero, suc, ℤ, List, [], ◌∷◌, ◌++◌, Bool, true, false, Option, Some, None, IsTrue, Contains, refl, subst, arith}
use Rattle.std.specs.Prelude.{is_some, flat_map, option_to_list, if◌then◌else◌}
use Rattle.std.specs.List.{AllByRecursion}
use Rattle.std.proofs.lemmas.Bool.{false≢true}
use Rattle.pv_word.specs.declared.types.Ty.{Ty}
use Rattle.pv_word.specs.Types.{InRange}
use Rattle.pv_place.specs.declared.place.Place.{Place}
use Rattle.pv_types.specs.Tree.{plain, array, structure, named, unread}
use Rattle.pv_tree.specs.Tree.{ExprTree, lit, read, unary, binary, std, paren, ExprTrees, no_exprs, exprs, OperandTree, operand, StepTree, field, index, StepTrees, no_steps, steps, ArgTree, StmtTree, assign, assign_call, if_, case_, for_, while_, repeat_, exit_, continue_, return_, call_, empty_, InstrTree, BlockTree}
use Rattle.pv_tree.specs.LiteralTypes.{Want, nothing}
use Rattle.pv_tree.specs.Sorts.{wants_of, wanted_beside}
use Rattle.pv_tree.specs.Scopes.{ProjectTree, Scope, type_named}
use Rattle.pv_tree.specs.Things.{Thing, part, constant, a_block, no_name, no_array, a_date, untold, place_of_operand, thing_of}
use Rattle.pv_tree.specs.Types.{signed, literal_of, sort_of, sorts_of, type_of}
use Rattle.pv_tree.specs.Callees.{CallSite, want_of_arg, as_value, as_statement}
use Rattle.pv_tree.specs.InstructionGroups.{operand_of_instruction}
use Rattle.pv_tree.specs.Parts.{Part, Spot as StmtSpot, parts_of, parts_of_args, parts_of_operand, parts_of_steps, parts_of_step, parts_of_call, parts_of_stmt, parts_of_instruction, parts_of_block, want_of_target, want_of_counter, conditions_of, calls_of_instruction, spots_of_body, instructions_of, starts_of, site}
use Rattle.pv_tree.specs.RuleLaws.{EachHasType, IndexesLie}
use Rattle.pv_mean.specs.Sources.{Source}
use Rattle.pv_mean.specs.Frames.{Frame}
use Rattle.pv_mean.specs.Endings.{Tried, got, trap, and_then}
use Rattle.pv_mean.specs.Spots.{Spot, read_spot}
use Rattle.pv_mean.specs.Activations.{Activation, scope_in, Begins, in_visible, in_brief, at}
use Rattle.pv_mean.specs.Values.{value, locate}
use Rattle.pv_laws_types.specs.Typed.{SpotHas, IsTyped}
use Rattle.pv_laws_types.proofs.Tables.{Shows}
use Rattle.pv_laws_types.proofs.Locating.{Means}
use Rattle.pv_laws_types.proofs.Spotted.{not_got, spot_has, Located, located, typed_spot, read_lies}
use Rattle.pv_laws_types.proofs.Valued.{PartLies, PartsLie, front_lies, back_lies, ReadsLie, value_lies, widens_lies}
use Rattle.pv_laws_types.proofs.Kept.{all_of, IsThere, part_lies, right_address, value_part, target_there, target_fits}

-- ---- parts of parts

abbrev Whole : Scope → Part → Type 0
Whole scope p = PartsLie (parts_of scope p.want p.expr)

-- where the literals of parts lie in their types, those of each part do
abbrev pub Deep : Scope → List Part → Type 0
Deep scope ps = PartsLie ps → AllByRecursion (Whole scope) ps

all_append : {X : Type 0} (P : X → Type 0) (xs ys : List X) → AllByRecursion P xs → AllByRecursion P ys → AllByRecursion P (xs ++ ys)
all_append P [] ys a b = b
all_append P (x ∷ xs) ys a b = (a.0, all_append P xs ys a.1 b)

deep_both : (scope : Scope) (xs ys : List Part) → Deep scope xs → Deep scope ys → Deep scope (xs ++ ys)
deep_both scope xs ys d e h = all_append (Whole scope) xs ys (d (front_lies xs ys h)) (e (back_lies xs ys h))

deep_unless : (scope : Scope) (b : Bool) (xs : List Part) → Deep scope xs → Deep scope (if b then [] else xs)
deep_unless scope true xs d h = tt
deep_unless scope false xs d h = d h

deep_flat : {X : Type 0} (scope : Scope) (f : X → List Part) → ((x : X) → Deep scope (f x)) → (xs : List X) → Deep scope (flat_map f xs)
deep_flat scope f each [] h = tt
deep_flat scope f each (x ∷ xs) h = deep_both scope (f x) (flat_map f xs) (each x) (deep_flat scope f each xs) h

mutual
  deep : (scope : Scope) (want : Want) (e : ExprTree) → Deep scope (parts_of scope want e)
  deep scope want (lit ty v place) h = (h, tt)
  deep scope want (read o) h = (h, deep_operand scope o h.1)
  deep scope want (unary op place arg) h =
      (h, deep_unless scope (is_some (signed op (literal_of arg))) (parts_of scope nothing arg) (deep scope nothing arg) h.1)
  deep scope want (binary op place left right) h =
      let w = wanted_beside (sort_of scope left ∷ sort_of scope right ∷ []) in
      (h, deep_both scope (parts_of scope w left) (parts_of scope w right) (deep scope w left) (deep scope w right) h.1)
  deep scope want (std function place args) h = (h, deep_args scope (wants_of function (sorts_of scope args)) args h.1)
  deep scope want (paren place inner) h =
      (h, deep_unless scope (is_some (literal_of inner)) (parts_of scope want inner) (deep scope want inner) h.1)

  deep_args : (scope : Scope) (wants : List Want) (args : ExprTrees) → Deep scope (parts_of_args scope wants args)
  deep_args scope wants no_exprs h = tt
  deep_args scope [] (exprs e more) h =
      deep_both scope (parts_of scope nothing e) (parts_of_args scope [] more) (deep scope nothing e) (deep_args scope [] more) h
  deep_args scope (want ∷ wants) (exprs e more) h =
      deep_both scope (parts_of scope want e) (parts_of_args scope wants more) (deep scope want e) (deep_args scope wants more) h

  deep_operand : (scope : Scope) (o : OperandTree) → Deep scope (parts_of_operand scope o)
  deep_operand scope (operand root more place) h = deep_steps scope more h

  deep_steps : (scope : Scope) (more : StepTrees) → Deep scope (parts_of_steps scope more)
  deep_steps scope no_steps h = tt
  deep_steps scope (steps step more) h =
      deep_both scope (parts_of_step scope step) (parts_of_steps scope more) (deep_step scope step) (deep_steps scope more) h

  deep_step : (scope : Scope) (step : StepTree) → Deep scope (parts_of_step scope step)
  deep_step scope (field name place) h = tt
  deep_step scope (index e place) h = deep scope nothing e h

deep_call : (scope : Scope) (s : CallSite) → Deep scope (parts_of_call scope s)
deep_call scope s = deep_flat scope (λ (a : ArgTree). parts_of scope (want_of_arg scope s a) a.value)
    (λ a. deep scope (want_of_arg scope s a) a.value) s.call.args

deep_stmt : (scope : Scope) (s : StmtTree) → Deep scope (parts_of_stmt scope s)
deep_stmt scope (assign target place e) =
    deep_both scope (parts_of_operand scope target) (parts_of scope (want_of_target scope target) e) (deep_operand scope target)
    (deep scope (want_of_target scope target) e)
deep_stmt scope (assign_call target place call) =
    deep_both scope (parts_of_operand scope target) (parts_of_call scope (site as_value call)) (deep_operand scope target)
    (deep_call scope (site as_value call))
deep_stmt scope (if_ conditions other place) = deep_flat scope (parts_of scope nothing) (deep scope nothing) (conditions_of conditions)
deep_stmt scope (case_ selector choices other place) = deep scope nothing selector
deep_stmt scope (for_ name name_place first last by body place) =
    deep_both scope (parts_of scope (want_of_counter scope name name_place) first) (parts_of scope (want_of_counter scope name name_place) last)
    (deep scope (want_of_counter scope name name_place) first) (deep scope (want_of_counter scope name name_place) last)
deep_stmt scope (while_ condition body place) = deep scope nothing condition
deep_stmt scope (repeat_ body condition place) = deep scope nothing condition
deep_stmt scope (exit_ place) = λ h. tt
deep_stmt scope (continue_ place) = λ h. tt
deep_stmt scope (return_ place) = λ h. tt
deep_stmt scope (call_ call) = deep_call scope (site as_statement call)
deep_stmt scope (empty_ place) = λ h. tt

deep_instruction : (scope : Scope) (i : InstrTree) → Deep scope (parts_of_instruction scope i)
deep_instruction scope i =
    deep_both scope (flat_map (parts_of_operand scope) (option_to_list (operand_of_instruction i)))
    (flat_map (parts_of_call scope) (calls_of_instruction i))
    (deep_flat scope (parts_of_operand scope) (deep_operand scope) (option_to_list (operand_of_instruction i)))
    (deep_flat scope (parts_of_call scope) (deep_call scope) (calls_of_instruction i))

deep_block : (project : ProjectTree) (b : BlockTree) → Deep (record { project = project; block = b }) (parts_of_block project b)
deep_block project b =
    deep_both scope _ (flat_map (λ v. parts_of_operand scope v.0) (starts_of b.body))
    (deep_both scope (flat_map (λ (s : StmtSpot). parts_of_stmt scope s.stmt) (spots_of_body b.body))
    (flat_map (parts_of_instruction scope) (instructions_of b.body))
    (deep_flat scope (λ (s : StmtSpot). parts_of_stmt scope s.stmt) (λ s. deep_stmt scope s.stmt) (spots_of_body b.body))
    (deep_flat scope (parts_of_instruction scope) (deep_instruction scope) (instructions_of b.body)))
    (deep_flat scope (λ v. parts_of_operand scope v.0) (λ v. deep_operand scope v.0) (starts_of b.body))
  where
    scope : Scope
    scope = record { project = project; block = b }

all_at : {X : Type 0} (P : X → Type 0) (xs : List X) (x : X) → AllByRecursion P xs → Contains xs x → P x
all_at P [] x a (k, lt, e) = absurd (omega (arith, lt))
all_at P (y ∷ ys) x a (zero, lt, e) = subst P e a.0
all_at P (y ∷ ys) x a (suc k, lt, e) = all_at P ys x a.1 (k, omega (arith, lt), e)

some_is : {X : Type 0} (o : Option X) → o ≢ None → is_some o ≡ true
some_is None not_none = absurd (not_none refl)
some_is (Some x) not_none = refl

-- ---- values

pub reads_lie : Shows → (source : Source) (act : Activation) (frame : Frame) → IsTyped source act frame → ReadsLie source act frame
reads_lie shows source act frame t want o ty v is e = lead (locate source act frame o) refl e
  where
    lead : (s : Tried Spot) → locate source act frame o ≡ s → and_then s (λ spot. read_spot frame (place_of_operand o) spot) ≡ got v → InRange ty v
    lead (got spot) i f = read_lies source act frame t.cells ty spot (place_of_operand o) v
        (typed_spot shows source t.table t.rules t.symbols act t.work frame want o spot ty is i) f
    lead (trap kind p) i f = absurd (not_got kind p v f)

module _ (shows : Shows) (source : Source) (typed : EachHasType source.project) (lie : IndexesLie source.project) (act : Activation) (frame : Frame)
    (t : IsTyped source act frame) where
  abbrev scope : Scope
  scope = scope_in source act

  block_lies : PartsLie (parts_of_block source.project act.block)
  block_lies = all_of PartLies (parts_of_block source.project act.block)
      (λ p d. part_lies source.project t.rules typed lie act.block t.work.block p d)

  -- each part of the block
  pub part_value_lies : (p : Part) → Contains (parts_of_block source.project act.block) p → (ty : Ty) (v : ℤ)
      → type_of scope p.want p.expr ≡ Some ty → value source act frame p.expr ≡ got v → InRange ty v
  part_value_lies p d ty v is e = value_lies source act frame (reads_lie shows source act frame t) p.want p.expr
      (all_at (Whole scope) (parts_of_block source.project act.block) p (deep_block source.project act.block block_lies) d) ty v is e

  means_there : (x : Thing) (b : Begins) → Means source act x b → IsThere source.project x
  means_there (part (plain ty)) b h = tt
  means_there (part (array low high of o_place)) b h = tt
  means_there (part (structure vars)) b h = tt
  means_there (part (named name o_place)) (in_visible laid) h = some_is (type_named source.project name.key) h.known.there
  means_there (part (named name o_place)) (in_brief laid) h = some_is (type_named source.project name.key) h.known.there
  means_there (part (named name o_place)) (at spot) h = absurd h
  means_there (part unread) b h = tt
  means_there (constant ty) b h = tt
  means_there (a_block y) b h = tt
  means_there (no_name p) b h = tt
  means_there (no_array p) b h = tt
  means_there (a_date p) b h = tt
  means_there untold b h = absurd h

  -- what an assignment writes, and where
  pub assigned_lies : (target : OperandTree) (place : Place) (e : ExprTree) (s : StmtSpot) → Contains (spots_of_body act.block.body) s
      → s.stmt ≡ assign target place e → (v : ℤ) (spot : Spot) → value source act frame e ≡ got v → locate source act frame target ≡ got spot
      → (ty : Ty) × SpotHas source act ty spot × InRange ty v
  assigned_lies target place e s in_body is v spot has at_spot =
      lead (type_of scope (want_of_target scope target) e) refl
      (typed act.block (record { want = want_of_target scope target; expr = e }) t.work.block
      (value_part source.project t.rules typed lie act.block t.work.block target place e s in_body is))
    where
      l : Located source act target spot
      l = located shows source t.table t.rules t.symbols act t.work frame target spot
          (right_address source.project t.rules typed lie act.block t.work.block target
          (target_there source.project t.rules typed lie act.block t.work.block target place e s in_body is)) at_spot

      lead : (o : Option Ty) → type_of scope (want_of_target scope target) e ≡ o → IsTrue (is_some o)
          → (ty : Ty) × SpotHas source act ty spot × InRange ty v
      lead None i w = absurd (false≢true w)
      lead (Some own) i w =
          let f = target_fits source.project t.rules typed lie act.block t.work.block target place e s in_body is own i
          (means_there (thing_of scope target) l.begins l.means) in (
            f.ty,
            subst (SpotHas source act f.ty) l.is (spot_has source act f.ty l.begins (subst (λ x. Means source act x l.begins) f.thing l.means)),
            widens_lies own f.ty f.widened v
                (part_value_lies (record { want = want_of_target scope target; expr = e })
                (value_part source.project t.rules typed lie act.block t.work.block target place e s in_body is) own v i has),
          )
