-- Where files tell what they hold, a case's file holds one case or one refusal of a case.
use Rattle.std.proofs.Common.{◌≡◌, ℕ, List, Some, refl, ap, sym, ◌∙◌, subst}
use Rattle.std.proofs.lemmas.Option.{same_Some}
use Rattle.pv_edge.specs.Files.{FileMap}
use Rattle.pv_case.specs.declared.fault.Kind.{Kind}
use Rattle.pv_case.specs.Cases.{CaseData, IsCaseText, BreaksFirst}
use Rattle.pv_command_load.specs.Held.{HoldsBytes}
use Rattle.pv_command_load.specs.Refusals.{CaseRefusal, not_json, broken}
use Rattle.pv_command_load.specs.Reads.{HoldsCase, RefusesCase}

-- what a file holds is one list of bytes
pub one_held : (files : FileMap) (name : List ℕ) (a b : List ℕ) → files name ≡ Some a → files name ≡ Some b → a ≡ b
one_held files name a b r s = same_Some a b (sym r ∙ s)

-- so what is said of it is said of the same bytes
pub held_both : {Are Also : List ℕ → Type 0} (files : FileMap) (name : List ℕ) (r : HoldsBytes (Some files) name Are) → HoldsBytes (Some files) name Also
    → Also r.bytes
held_both {Are} {Also} files name r s = subst (λ z. Also z) (one_held files name s.bytes r.bytes s.held r.held) s.are

-- bytes are one case at most, and break one rule first
pub record CaseLaws : Type 0 where
  pub one : (bytes : List ℕ) (case other : CaseData) → IsCaseText bytes case → IsCaseText bytes other → case ≡ other
  pub one_breach : (bytes : List ℕ) (kind other : Kind) (field name : List ℕ) → BreaksFirst bytes kind field → BreaksFirst bytes other name
      → (kind ≡ other) × (field ≡ name)
  pub apart : (bytes : List ℕ) (case : CaseData) (kind : Kind) (field : List ℕ) → IsCaseText bytes case → BreaksFirst bytes kind field → ⊥

module _ (laws : CaseLaws) (files : FileMap) (file : List ℕ) where
  pub one_case : (a b : CaseData) → HoldsCase (Some files) file a → HoldsCase (Some files) file b → a ≡ b
  one_case a b r s = laws.one r.bytes a b r.are (held_both files file r s)

  pub one_refused : (a b : CaseRefusal) → RefusesCase (Some files) file a → RefusesCase (Some files) file b → a ≡ b
  one_refused not_json not_json r s = refl
  one_refused not_json (broken k f) r s = let h = held_both files file r s in absurd (r.are h.value h.text)
  one_refused (broken k f) not_json r s = let h = held_both files file s r in absurd (s.are h.value h.text)
  one_refused (broken k f) (broken l g) r s =
      let same = laws.one_breach r.bytes k l f g r.are (held_both files file r s) in
      ap (λ z. broken z f) same.0 ∙ ap (λ z. broken l z) same.1

  pub case_apart : (a : CaseData) (b : CaseRefusal) → HoldsCase (Some files) file a → RefusesCase (Some files) file b → ⊥
  case_apart a not_json r s = let h = held_both files file s r in s.are h.value h.text
  case_apart a (broken k f) r s = laws.apart r.bytes a k f r.are (held_both files file r s)
