-- The places by depth of the parts of declared types, and that they are those of the parts. The tree doesn't keep where a type begins, so
-- they come from the spelling, as the parts do.
use Rattle.std.proofs.Common.{◌⊎◌, inl, inr, ℕ, suc, List, [], ◌∷◌, ◌++◌, Option}
use Rattle.pv_place.specs.declared.place.Place.{Place}
use Rattle.pv_types.specs.declared.declaration.Literal.{Literal}
use Rattle.pv_types.specs.declared.declaration.Section.{Section}
use Rattle.pv_types.specs.declared.declaration.Section.TheVariants as section
use Rattle.pv_types.specs.Tree.{TypeTree, plain, array, structure, named, unread, VarTree, var, VarTrees, no_vars, _then_}
use Rattle.pv_types.specs.View.{listed}
use Rattle.pv_tree.specs.Lexemes.{Lexeme}
use Rattle.pv_tree.specs.Declarations.{SpellsType, SpellsVars, SpellsSection, SpellsSections}
use Rattle.pv_tree.specs.Declarations.SpellsSections.{no_sections, sections}
use Rattle.pv_tree.specs.Blocks.{SpellsOwnFields}
use Rattle.pv_tree.specs.Nesting.{Part}
use Rattle.pv_tree.specs.Depth.{parts_of_either, parts_of_type, parts_of_vars, parts_of_section, parts_of_sections, parts_of_own_fields}
use Rattle.pv_parse.specs.Shades.{all, merged, part_places}
use Rattle.pv_parse.proofs.ForCallers.{Behind, MarksParts as Marks, marks_none, marks_both, marks_one, marks_part}

-- ---- types and variables

abbrev pub places_of_either : {A B : Type 0} → A ⊎ B → (A → List Place) → (B → List Place) → List Place
places_of_either (inl a) one other = one a
places_of_either (inr b) one other = other b

abbrev mutual
  pub places_of_type : (around : Section) (ty : TypeTree) (tokens : List Lexeme) → SpellsType around ty tokens → List Place
  places_of_type around (plain simple) tokens d = part_places d.token.place []
  places_of_type around unread tokens d = part_places d.token.place []
  places_of_type around (named name place) tokens d = part_places place []
  places_of_type around (array low high of place) tokens d =
      part_places place (all (places_of_type around of d.behind.behind.behind.behind.behind.behind.back
      d.behind.behind.behind.behind.behind.behind.behind ∷ []))
  places_of_type around (structure inner) tokens d =
      part_places d.in_front.token.place (all (places_of_vars around inner d.behind.front d.behind.in_front ∷ []))

  pub places_of_vars : (around : Section) (vars : VarTrees) (tokens : List Lexeme) → SpellsVars around vars tokens → List Place
  places_of_vars around no_vars tokens d = []
  places_of_vars around (_then_ (var name its ty start place) others) tokens d =
      places_of_either d.1.behind
      (λ own. merged (all (places_of_type around ty own.behind.front own.behind.in_front ∷ []))
      (places_of_vars around others own.behind.behind.behind.back own.behind.behind.behind.behind))
      (λ shared. places_of_vars around others shared.1.back shared.1.behind)

-- what stands behind a word of a declaration
abbrev pub places_of_rest : (around : Section) (ty : TypeTree) (start : Option Literal) (others : VarTrees) (tokens : List Lexeme)
    → Behind around ty start others tokens → List Place
places_of_rest around ty start others tokens x =
    places_of_either x
    (λ own. merged (all (places_of_type around ty own.behind.front own.behind.in_front ∷ []))
    (places_of_vars around others own.behind.behind.behind.back own.behind.behind.behind.behind))
    (λ shared. places_of_vars around others shared.1.back shared.1.behind)

-- where a type begins
abbrev pub first_of_type : (around : Section) (ty : TypeTree) (tokens : List Lexeme) → SpellsType around ty tokens → Place
first_of_type around (plain simple) tokens d = d.token.place
first_of_type around unread tokens d = d.token.place
first_of_type around (named name place) tokens d = place
first_of_type around (array low high of place) tokens d = place
first_of_type around (structure inner) tokens d = d.in_front.token.place

-- ---- sections and own fields

abbrev pub places_of_section : (around : Section) (vars : List VarTree) (tokens : List Lexeme) → SpellsSection around vars tokens → List Place
places_of_section section.Const vars tokens d = []
places_of_section section.Input vars tokens d = all (places_of_vars section.Input (listed vars) d.behind.front d.behind.in_front ∷ [])
places_of_section section.Output vars tokens d = all (places_of_vars section.Output (listed vars) d.behind.front d.behind.in_front ∷ [])
places_of_section section.InOut vars tokens d = all (places_of_vars section.InOut (listed vars) d.behind.front d.behind.in_front ∷ [])
places_of_section section.Static vars tokens d = all (places_of_vars section.Static (listed vars) d.behind.front d.behind.in_front ∷ [])
places_of_section section.Temp vars tokens d = all (places_of_vars section.Temp (listed vars) d.behind.front d.behind.in_front ∷ [])

abbrev pub places_of_sections : {vars : List VarTree} {tokens : List Lexeme} → SpellsSections vars tokens → List Place
places_of_sections no_sections = []
places_of_sections (sections around inner others vars front back tokens first rest split parts) =
    merged (places_of_section around inner front first) (places_of_sections rest)

abbrev pub places_of_own_fields : (vars : List VarTree) (tokens : List Lexeme) → SpellsOwnFields vars tokens → List Place
places_of_own_fields vars tokens d = all (places_of_vars section.Static (listed vars) d.behind.front d.behind.in_front ∷ [])

-- ---- they are those of the parts

marks_either : {A B : Type 0} (n : ℕ) (x : A ⊎ B) (f : A → List Place) (g : B → List Place) (p : A → List Part) (q : B → List Part)
    → ((a : A) → Marks (f a) n (p a)) → ((b : B) → Marks (g b) n (q b)) → Marks (places_of_either x f g) n (parts_of_either x p q)
marks_either n (inl a) f g p q h k = h a
marks_either n (inr b) f g p q h k = k b

mutual
  pub marks-type : (n : ℕ) (around : Section) (ty : TypeTree) (tokens : List Lexeme) (d : SpellsType around ty tokens)
      → Marks (places_of_type around ty tokens d) n (parts_of_type n around ty tokens d)
  marks-type n around (plain simple) tokens d = marks_part n d.token.place [] [] (marks_none (suc n))
  marks-type n around unread tokens d = marks_part n d.token.place [] [] (marks_none (suc n))
  marks-type n around (named name place) tokens d = marks_part n place [] [] (marks_none (suc n))
  marks-type n around (array low high of place) tokens d =
      let us = d.behind.behind.behind.behind.behind.behind.back in
      let x = d.behind.behind.behind.behind.behind.behind.behind in
      marks_part n place (all (places_of_type around of us x ∷ [])) (parts_of_type (suc n) around of us x)
      (marks_one (suc n) (places_of_type around of us x) (parts_of_type (suc n) around of us x) (marks-type (suc n) around of us x))
  marks-type n around (structure inner) tokens d =
      let us = d.behind.front in
      let x = d.behind.in_front in
      marks_part n d.in_front.token.place (all (places_of_vars around inner us x ∷ [])) (parts_of_vars (suc n) around inner us x)
      (marks_one (suc n) (places_of_vars around inner us x) (parts_of_vars (suc n) around inner us x) (marks-vars (suc n) around inner us x))

  pub marks-vars : (n : ℕ) (around : Section) (vars : VarTrees) (tokens : List Lexeme) (d : SpellsVars around vars tokens)
      → Marks (places_of_vars around vars tokens d) n (parts_of_vars n around vars tokens d)
  marks-vars n around no_vars tokens d = marks_none n
  marks-vars n around (_then_ (var name its ty start place) others) tokens d =
      marks_either n d.1.behind
      (λ own. merged (all (places_of_type around ty own.behind.front own.behind.in_front ∷ []))
      (places_of_vars around others own.behind.behind.behind.back own.behind.behind.behind.behind))
      (λ shared. places_of_vars around others shared.1.back shared.1.behind)
      (λ own. parts_of_type n around ty own.behind.front own.behind.in_front
      ++ parts_of_vars n around others own.behind.behind.behind.back own.behind.behind.behind.behind)
      (λ shared. parts_of_vars n around others shared.1.back shared.1.behind)
      (λ own. marks_both n (all (places_of_type around ty own.behind.front own.behind.in_front ∷ []))
      (places_of_vars around others own.behind.behind.behind.back own.behind.behind.behind.behind)
      (parts_of_type n around ty own.behind.front own.behind.in_front)
      (parts_of_vars n around others own.behind.behind.behind.back own.behind.behind.behind.behind)
      (marks_one n (places_of_type around ty own.behind.front own.behind.in_front) (parts_of_type n around ty own.behind.front own.behind.in_front)
      (marks-type n around ty own.behind.front own.behind.in_front))
      (marks-vars n around others own.behind.behind.behind.back own.behind.behind.behind.behind))
      (λ shared. marks-vars n around others shared.1.back shared.1.behind)

marks_alone : (around : Section) (vars : VarTrees) (tokens : List Lexeme) (d : SpellsVars around vars tokens)
    → Marks (all (places_of_vars around vars tokens d ∷ [])) 0 (parts_of_vars 0 around vars tokens d)
marks_alone around vars tokens d =
    marks_one 0 (places_of_vars around vars tokens d) (parts_of_vars 0 around vars tokens d) (marks-vars 0 around vars tokens d)

marks-section : (around : Section) (vars : List VarTree) (tokens : List Lexeme) (d : SpellsSection around vars tokens)
    → Marks (places_of_section around vars tokens d) 0 (parts_of_section around vars tokens d)
marks-section section.Const vars tokens d = marks_none 0
marks-section section.Input vars tokens d = marks_alone section.Input (listed vars) d.behind.front d.behind.in_front
marks-section section.Output vars tokens d = marks_alone section.Output (listed vars) d.behind.front d.behind.in_front
marks-section section.InOut vars tokens d = marks_alone section.InOut (listed vars) d.behind.front d.behind.in_front
marks-section section.Static vars tokens d = marks_alone section.Static (listed vars) d.behind.front d.behind.in_front
marks-section section.Temp vars tokens d = marks_alone section.Temp (listed vars) d.behind.front d.behind.in_front

pub marks-sections : {vars : List VarTree} {tokens : List Lexeme} (d : SpellsSections vars tokens) → Marks (places_of_sections d) 0 (parts_of_sections d)
marks-sections no_sections = marks_none 0
marks-sections (sections around inner others vars front back tokens first rest split parts) =
    marks_both 0 (places_of_section around inner front first) (places_of_sections rest) (parts_of_section around inner front first) (parts_of_sections rest)
    (marks-section around inner front first) (marks-sections rest)

pub marks-own-fields : (vars : List VarTree) (tokens : List Lexeme) (d : SpellsOwnFields vars tokens)
    → Marks (places_of_own_fields vars tokens d) 0 (parts_of_own_fields vars tokens d)
marks-own-fields vars tokens d = marks_alone section.Static (listed vars) d.behind.front d.behind.in_front
