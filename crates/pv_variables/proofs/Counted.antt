-- How many variables there are of each part of a block, as they are counted.
use Rattle.std.proofs.Common.{◌≡◌, ℕ, ◌+◌, ◌*◌, List, [], ◌∷◌, length, cond, Option, Some, None, refl, sym, ap, ◌∙◌, arith}
use Rattle.std.specs.Prelude.{filter, flat_map, option_to_list, Bool as Truth, true, false, is_some, if◌then◌else◌}
use Rattle.std.proofs.lemmas.List.{length-append}
use Rattle.std.proofs.lemmas.List.Elements.{filter-append}
use Rattle.pv_word.specs.declared.types.Ty.{Ty}
use Rattle.pv_place.specs.declared.place.Place.{Place}
use Rattle.pv_types.specs.declared.name.Name.{Name}
use Rattle.pv_types.specs.declared.declaration.Literal.{Literal}
use Rattle.pv_types.specs.declared.declaration.Section.{Section}
use Rattle.pv_types.specs.declared.declaration.Section.TheVariants.{Input, Output, InOut, Static, Temp, Const}
use Rattle.pv_types.specs.declared.leaf.Leaf.{Leaf}
use Rattle.pv_types.specs.Tree.{TypeTree, VarTree, var}
use Rattle.pv_types.specs.Leaves.{block, section_within, field_path, start_value, leaves_where, leaves_of_type, leaves_of_named, leaves_of}
use Rattle.pv_types.proofs.ForCallers.{counted_leaves}
use Rattle.pv_tree.specs.Scopes.{ProjectTree}
use Rattle.pv_tree.specs.NamedTypes.{types_of_project}
use Rattle.pv_mean.specs.Layout.{size_in, size_among}
use Rattle.pv_mean.proofs.ForCallers.{AreOf, of-type, of-named}
use Rattle.pv_flow.specs.Automata.{Variable}

-- ---- leaves of sections that pass a test

kept-all : (p : Section → Truth) (s : Section) (xs : List Leaf) → AreOf s xs → p s ≡ true → filter (λ l. p l.section) xs ≡ xs
kept-all p s [] are is = refl
kept-all p s (x ∷ xs) are is =
    ap (λ b. cond b (x ∷ filter (λ l. p l.section) xs) (filter (λ l. p l.section) xs)) (ap p are.0 ∙ is)
    ∙ ap (λ l. x ∷ l) (kept-all p s xs are.1 is)

kept-none : (p : Section → Truth) (s : Section) (xs : List Leaf) → AreOf s xs → p s ≡ false → filter (λ l. p l.section) xs ≡ []
kept-none p s [] are is = refl
kept-none p s (x ∷ xs) are is =
    ap (λ b. cond b (x ∷ filter (λ l. p l.section) xs) (filter (λ l. p l.section) xs)) (ap p are.0 ∙ is)
    ∙ kept-none p s xs are.1 is

abbrev expand_in : ProjectTree → List ℕ → List ℕ → Section → List Leaf
expand_in project = leaves_of_named (types_of_project project) (length (types_of_project project))

abbrev leaves_in : ProjectTree → Name → Option Literal → TypeTree → Section → List Leaf
leaves_in project name start ty r = leaves_of_type (expand_in project) (field_path [] name) (start_value start) r ty

-- of a variable whose leaves are of its section
of-section : (project : ProjectTree) (p : Section → Truth) (name : Name) (s : Section) (ty : TypeTree) (start : Option Literal)
    → length (leaves_in project name start ty s) ≡ size_in project ty → (b : Truth) → p s ≡ b
    → length (filter (λ l. p l.section) (leaves_in project name start ty s)) ≡ (if b then size_in project ty else 0)
of-section project p name s ty start counted true is =
    ap length (kept-all p s (leaves_in project name start ty s)
    (of-type (expand_in project) (of-named (types_of_project project) (length (types_of_project project)))
    (field_path [] name) (start_value start) s ty) is) ∙ counted
of-section project p name s ty start counted false is =
    ap length (kept-none p s (leaves_in project name start ty s)
    (of-type (expand_in project) (of-named (types_of_project project) (length (types_of_project project)))
    (field_path [] name) (start_value start) s ty) is)

one-kept : (project : ProjectTree) (p : Section → Truth) (name : Name) (s : Section) (ty : TypeTree) (start : Option Literal) (place : Place)
    → p Const ≡ false
    → length (filter (λ l. p l.section) (leaves_where (section_within block s) (leaves_in project name start ty)))
    ≡ (if p s then size_in project ty else 0)
one-kept project p name Input ty start place never =
    let c = counted_leaves (types_of_project project) (var name Input ty start place ∷ []) in
    let a = length-append (leaves_in project name start ty Input) [] in
    of-section project p name Input ty start (omega (arith, c, a)) (p Input) refl
one-kept project p name Output ty start place never =
    let c = counted_leaves (types_of_project project) (var name Output ty start place ∷ []) in
    let a = length-append (leaves_in project name start ty Output) [] in
    of-section project p name Output ty start (omega (arith, c, a)) (p Output) refl
one-kept project p name InOut ty start place never =
    let c = counted_leaves (types_of_project project) (var name InOut ty start place ∷ []) in
    let a = length-append (leaves_in project name start ty InOut) [] in
    of-section project p name InOut ty start (omega (arith, c, a)) (p InOut) refl
one-kept project p name Static ty start place never =
    let c = counted_leaves (types_of_project project) (var name Static ty start place ∷ []) in
    let a = length-append (leaves_in project name start ty Static) [] in
    of-section project p name Static ty start (omega (arith, c, a)) (p Static) refl
one-kept project p name Temp ty start place never =
    let c = counted_leaves (types_of_project project) (var name Temp ty start place ∷ []) in
    let a = length-append (leaves_in project name start ty Temp) [] in
    of-section project p name Temp ty start (omega (arith, c, a)) (p Temp) refl
one-kept project p name Const ty start place never = sym (ap (λ b. if b then size_in project ty else 0) never)

pub all-kept : (project : ProjectTree) (p : Section → Truth) (vars : List VarTree) → p Const ≡ false
    → length (filter (λ l. p l.section) (leaves_of (types_of_project project) vars)) ≡ size_among project p vars
all-kept project p [] never = refl
all-kept project p (var name section ty start place ∷ more) never =
    ap length (filter-append (λ l. p l.section) (leaves_where (section_within block section) (leaves_in project name start ty))
    (leaves_of (types_of_project project) more))
    ∙ (length-append (filter (λ l. p l.section) (leaves_where (section_within block section) (leaves_in project name start ty)))
    (filter (λ l. p l.section) (leaves_of (types_of_project project) more))
    ∙ (ap (λ n. n + length (filter (λ l. p l.section) (leaves_of (types_of_project project) more)))
    (one-kept project p name section ty start place never)
    ∙ (ap (λ n. (if p section then size_in project ty else 0) + n) (all-kept project p more never)
    ∙ lead (p section))))
  where
    lead : (b : Truth) → (if b then size_in project ty else 0) + size_among project p more
        ≡ (if b then size_in project ty + size_among project p more else size_among project p more)
    lead true = refl
    lead false = omega arith

-- none passes a test that never holds
pub none-among : (project : ProjectTree) (p : Section → Truth) (vars : List VarTree) → ((s : Section) → p s ≡ false)
    → size_among project p vars ≡ 0
none-among project p [] never = refl
none-among project p (var name section ty start place ∷ more) never =
    ap (λ b. if b then size_in project ty + size_among project p more else size_among project p more) (never section)
    ∙ none-among project p more never

-- ---- a cell and its 'set'

pub pairs : {A : Type 0} (f : A → List Variable) (xs : List A) → ((x : A) → length (f x) ≡ 2) → length (flat_map f xs) ≡ 2 * length xs
pairs f [] two = refl
pairs f (x ∷ xs) two =
    let e = length-append (f x) (flat_map f xs) in
    let h = two x in
    let more = pairs f xs two in
    omega (arith, e, h, more)

pub count-value : (o : Option Ty) → length (option_to_list o) ≡ (if is_some o then 1 else 0)
count-value None = refl
count-value (Some ty) = refl
