-- The block that a text names, by the name that it reads as.
use Rattle.std.proofs.Common.{◌≡◌, ℕ, List, Option, Some, None, IfSome, IfNone, sym, ap, ◌∙◌, subst}
use Rattle.pv_types.specs.declared.name.Name.{Name}
use Rattle.pv_tree.specs.Tree.{BlockTree}
use Rattle.pv_case_fit.specs.Entries.{IsNameText, number_of_entry, IsEntry}
use Rattle.pv_case_fit.proofs.NameLaws.{one_name}

pub entry_is : (all given : List BlockTree) (text : List ℕ) (read : Option Name) (name : Name) (number : Option ℕ) (n : ℕ) → given ≡ all
    → read ≡ Some name → IfSome read (λ x. IsNameText text x) → number ≡ number_of_entry given name.key → number ≡ Some n
    → IsEntry all text n
entry_is all given text read name number n same is reads found some = record {
  name = name;
  read = subst (λ o. IfSome o (λ x. IsNameText text x)) is reads;
  is = ap (λ blocks. number_of_entry blocks name.key) (sym same) ∙ sym found ∙ some;
}

-- no name
pub no_name : (all : List BlockTree) (text : List ℕ) (read : Option Name) (n : ℕ) → read ≡ None
    → IfNone read ((x : Name) → IsNameText text x → ⊥) → IsEntry all text n → ⊥
no_name all text read n is none entry =
    subst (λ o. IfNone o ((x : Name) → IsNameText text x → ⊥)) is none entry.name entry.read

some_none : (o : Option ℕ) (n : ℕ) → o ≡ None → o ≡ Some n → ⊥
some_none o n e f = cc

-- no block of the name
pub no_block : (all given : List BlockTree) (text : List ℕ) (read : Option Name) (name : Name) (number : Option ℕ) (n : ℕ) → given ≡ all
    → read ≡ Some name → IfSome read (λ x. IsNameText text x) → number ≡ number_of_entry given name.key → number ≡ None
    → IsEntry all text n → ⊥
no_block all given text read name number n same is reads found none entry =
    let here = subst (λ o. IfSome o (λ x. IsNameText text x)) is reads in
    let names = one_name text entry.name name entry.read here in
    some_none (number_of_entry all name.key) n
    (ap (λ blocks. number_of_entry blocks name.key) (sym same) ∙ sym found ∙ none)
    (ap (λ (x : Name). number_of_entry all x.key) (sym names) ∙ entry.is)
