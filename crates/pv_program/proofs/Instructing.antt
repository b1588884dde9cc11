-- Instructions that are made one behind another.
use Rattle.std.proofs.Common.{◌≡◌, ℕ, ◌+◌, ◌<◌, ◌≤◌, List, [], ◌∷◌, ◌++◌, length, map, drop, get_or, Some, refl, sym, ap, ◌∙◌, subst, arith, length-append}
use Rattle.std.specs.Prelude.{slice_get, option_map}
use Rattle.std.proofs.Math.Seq.{take-append_seam}
use Rattle.std.proofs.lemmas.List.{take-append-le}
use Rattle.std.proofs.lemmas.Option.{same_Some, none-some, slice_get_within, slice_get-map, slice_get_read}
use Rattle.pv_tree.specs.Tree.{CallPlain, InstrTree, BlockTree}
use Rattle.pv_mean.specs.Sources.{Source}
use Rattle.pv_mean.specs.Instructions.{site_of}
use Rattle.pv_stl_run.specs.declared.instr.Action.{Action}
use Rattle.pv_stl_run.specs.declared.instr.Action.TheVariants as action
use Rattle.pv_stl_run.specs.declared.instr.Instr.{Instr}
use Rattle.pv_stl_run.specs.Code.{MayDo, opened}
use Rattle.pv_stl_run.specs.Going.{range_of, nested_behind, nested_at, JumpsSo, AreInstrs, ranges_in}
use Rattle.pv_run.specs.declared.program.Span.{Span}
use Rattle.pv_run.specs.declared.program.Program.{Program}
use Rattle.pv_run.specs.Code.{IsCall, instrs_in, HasInstrs}
use Rattle.pv_program.specs.Growth.{Extends}
use Rattle.pv_program.specs.Bodies.{LeadsSo, CallsSo, IsMadeAction, Outside, IsMadeInstr, AreMadeInstrs}
use Rattle.pv_program.proofs.Keeping.{instr-kept, calls-kept, made-kept}
use Rattle.pv_program.proofs.Labelled.{split}

-- ---- nestings

nested-all : (code : List Instr) (c : Instr) (n : ℕ) → nested_behind (code ++ c ∷ []) n ≡ opened c.action (nested_behind code n)
nested-all [] c n = refl
nested-all (x ∷ xs) c n = nested-all xs c (opened x.action n)

pub nested-more : (code new : List Instr) (c : Instr) (depth n : ℕ) → new ≡ code ++ c ∷ [] → n ≡ opened c.action depth → depth ≡ nested_behind code 0
    → n ≡ nested_behind new 0
nested-more code new c depth n e is same =
    is ∙ ap (opened c.action) same ∙ sym (nested-all code c 0) ∙ ap (λ l. nested_behind l 0) (sym e)

nested-before : (code : List Instr) (c : Instr) (k : ℕ) → k ≤ length code → nested_at code k ≡ nested_at (code ++ c ∷ []) k
nested-before code c k le = ap (λ l. nested_behind l 0) (sym (take-append-le k code (c ∷ []) le))

nested-last : (code : List Instr) (c : Instr) → nested_at (code ++ c ∷ []) (length code) ≡ nested_behind code 0
nested-last code c = ap (λ l. nested_behind l 0) (take-append_seam code (c ∷ []))

pub tree-at : {X Y : Type 0} (f : X → Y) (xs : List X) (k : ℕ) (x : X) → k < length xs → x ≡ get_or xs k x → slice_get (map f xs) k ≡ Some (f x)
tree-at f xs k x inside is = slice_get-map f xs k ∙ ap (option_map f) (slice_get_read xs (length xs) k x refl inside is)

pub longer-by-one : (old new : List Instr) (c : Instr) → new ≡ old ++ c ∷ [] → length new ≡ length old + 1
longer-by-one old new c e = ap length e ∙ length-append old (c ∷ [])

-- ---- an instruction more

jumps-before : (all : List InstrTree) (old new : List Instr) (k : ℕ) (i : InstrTree) (d : Action) → nested_at old k ≡ nested_at new k
    → JumpsSo all old k i d → JumpsSo all new k i d
jumps-before all old new k i (action.Change c) e h = h
jumps-before all old new k i (action.Join j n) e h = h
jumps-before all old new k i (action.Write w n) e h = h
jumps-before all old new k i (action.Edge rising n) e h = h
jumps-before all old new k i (action.Load ty n) e h = h
jumps-before all old new k i (action.Transfer ty n) e h = h
jumps-before all old new k i (action.Jump w goal) e h = record { label = h.label; is = h.is; leads = h.leads; outside = sym e ∙ h.outside }
jumps-before all old new k i action.End e h = h
jumps-before all old new k i action.EndWhere e h = h
jumps-before all old new k i (action.Call n) e h = h

jumps-last : (all : List InstrTree) (new : List Instr) (k : ℕ) (i : InstrTree) (d : Action) (depth : ℕ) → nested_at new k ≡ depth
    → LeadsSo all k i d → Outside d depth → JumpsSo all new k i d
jumps-last all new k i (action.Change c) depth e h out = tt
jumps-last all new k i (action.Join j n) depth e h out = tt
jumps-last all new k i (action.Write w n) depth e h out = tt
jumps-last all new k i (action.Edge rising n) depth e h out = tt
jumps-last all new k i (action.Load ty n) depth e h out = tt
jumps-last all new k i (action.Transfer ty n) depth e h out = tt
jumps-last all new k i (action.Jump w goal) depth e h out = record { label = h.0; is = h.1; leads = h.2; outside = e ∙ out }
jumps-last all new k i action.End depth e h out = tt
jumps-last all new k i action.EndWhere depth e h out = tt
jumps-last all new k i (action.Call n) depth e h out = tt

made-before : {source : Source} {block : BlockTree} {p : Program} (all : List InstrTree) (old new : List Instr) (k : ℕ) (c : Instr) (i : InstrTree)
    → nested_at old k ≡ nested_at new k → IsMadeInstr source block p all old k c i → IsMadeInstr source block p all new k c i
made-before all old new k c i e h = record {
  is = record {
    place = h.is.place;
    does = h.is.does;
    range = h.is.range;
    jumps = jumps-before all old new k i c.action e h.is.jumps;
    nests = subst (λ n. MayDo c.action n) e h.is.nests;
  };
  calls = h.calls;
}

pub made-more : {source : Source} {block : BlockTree} {p q : Program} (all : List InstrTree) (old new : List Instr) (k depth : ℕ) (c : Instr)
    (i : InstrTree) → Extends p q → new ≡ old ++ c ∷ [] → k ≡ length old → slice_get all k ≡ Some i → IsMadeAction source block q all k i c.action
    → i.place ≡ c.place → c.range ≡ range_of (drop k all) → MayDo c.action depth → Outside c.action depth → depth ≡ nested_behind old 0
    → AreMadeInstrs source block p all old → AreMadeInstrs source block q all new
made-more {source} {block} {p} {q} all old new k depth c i x e is here made place range may out same before =
    subst (λ l. AreMadeInstrs source block q all l) (sym e)
    (λ j d t at tree. split (λ n a. (t : InstrTree) → slice_get all n ≡ Some t → IsMadeInstr source block q all (old ++ c ∷ []) n a t) old c
    (λ n a was t tree. made-before all old (old ++ c ∷ []) n a t (nested-before old c n (omega (arith, slice_get_within old n a was)))
    (made-kept x before n a t was tree))
    (λ t tree. last t tree) j d at t tree)
  where
    depth-here : nested_at (old ++ c ∷ []) (length old) ≡ depth
    depth-here = nested-last old c ∙ sym same

    last-at : IsMadeInstr source block q all (old ++ c ∷ []) (length old) c i
    last-at = subst (λ n. IsMadeInstr source block q all (old ++ c ∷ []) n c i) is (record {
      is = record {
        place = place;
        does = made.does;
        range = range;
        jumps = jumps-last all (old ++ c ∷ []) k i c.action depth (ap (nested_at (old ++ c ∷ [])) is ∙ depth-here) made.leads out;
        nests = subst (λ n. MayDo c.action n) (sym (ap (nested_at (old ++ c ∷ [])) is ∙ depth-here)) may;
      };
      calls = made.calls;
    })

    last : (t : InstrTree) → slice_get all (length old) ≡ Some t → IsMadeInstr source block q all (old ++ c ∷ []) (length old) c t
    last t tree = subst (λ u. IsMadeInstr source block q all (old ++ c ∷ []) (length old) c u)
        (same_Some i t (sym here ∙ ap (slice_get all) is ∙ tree)) last-at

pub none-made : {source : Source} {block : BlockTree} {p : Program} {all : List InstrTree} (code : List Instr) → code ≡ []
    → AreMadeInstrs source block p all code
none-made {source} {block} {p} {all} code e = subst (λ l. AreMadeInstrs source block p all l) (sym e) (λ k c i at is. absurd (none-some c at))

-- ---- a whole body

call-in : (source : Source) (block : BlockTree) (p : Program) (n : ℕ) (i : InstrTree) (d : Action) (call : CallPlain) → d ≡ action.Call n
    → i.call ≡ Some call → CallsSo source block p i d → IsCall source block p n (site_of i call)
call-in source block p n i d call makes of h = subst (λ e. CallsSo source block p i e) makes h call of

pub body-made : {source : Source} {block : BlockTree} {p q : Program} (all : List InstrTree) (code slice : List Instr) (s : Span) → Extends p q
    → slice ≡ code → instrs_in q s ≡ slice → s.first ≤ s.end → s.end ≤ length q.instrs.items → length code ≡ length all
    → ranges_in code ≤ q.ranges → AreMadeInstrs source block p all code → HasInstrs source block q s all
body-made {source} {block} {p} {q} all code slice s x taken is ordered within long room made =
    let same : code ≡ instrs_in q s = sym (is ∙ taken) in
    record {
      ordered = ordered;
      within = within;
      are = subst (λ l. AreInstrs source block q.targets.items q.scratch l all) same (record {
        same = long;
        each = λ k c i at tree. instr-kept x (made k c i at tree).is;
      });
      ranges = subst (λ l. ranges_in l ≤ q.ranges) same room;
      calls = subst (λ l. (k n : ℕ) (c : Instr) (i : InstrTree) (call : CallPlain) → slice_get l k ≡ Some c → slice_get all k ≡ Some i
          → c.action ≡ action.Call n → i.call ≡ Some call → IsCall source block q n (site_of i call)) same
          (λ k n c i call at tree makes of. call-in source block q n i c.action call makes of (calls-kept source block i c.action x (made k c i at tree).calls));
    }

-- ---- ranges, counted one by one
