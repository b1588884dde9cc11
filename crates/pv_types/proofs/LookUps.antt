-- Named types in a map: what a look-up gives, and what a new type leaves.
use Rattle.std.specs.Prelude.{
  ◌≡◌,
  ℕ,
  true,
  false,
  List,
  [],
  ◌∷◌,
  ◌++◌,
  Option,
  Some,
  None,
  option_map,
  is_some,
  bytes_eq,
  cond,
  map,
  refl,
  if◌then◌else◌,
}
use Rattle.std.proofs.Common.{ap, sym, ◌∙◌, true≢false}
use Rattle.std.specs.Map.{lookup}
use Rattle.indexmap.specs.IndexMap.{insert_entry}
use Rattle.pv_types.specs.Tree.{VarTree}
use Rattle.pv_types.specs.Named.{NamedType, look_up, with_type}

module _ {X : Type 0} (vars_of : X → List VarTree) where
  abbrev pub typed : List ℕ × X → NamedType
  typed e = record { key = e.0; vars = vars_of e.1 }

  pub look_up-typed : (es : List (List ℕ × X)) (key : List ℕ) → look_up (map typed es) key ≡ option_map vars_of (lookup (bytes_eq key) es)
  look_up-typed [] key = refl
  look_up-typed (e ∷ es) key =
      elim (bytes_eq key e.0) as (λ b. cond b (Some (vars_of e.1)) (look_up (map typed es) key)
      ≡ option_map vars_of (cond b (Some e.1) (lookup (bytes_eq key) es)))
      [ true ↦ refl | false ↦ look_up-typed es key ]

  is_some-option_map : (o : Option X) → is_some (option_map vars_of o) ≡ is_some o
  is_some-option_map None = refl
  is_some-option_map (Some x) = refl

  is_known : (es : List (List ℕ × X)) (key : List ℕ) → is_some (look_up (map typed es) key) ≡ is_some (lookup (bytes_eq key) es)
  is_known es key = ap is_some (look_up-typed es key) ∙ is_some-option_map (lookup (bytes_eq key) es)

  pushed_behind : (es : List (List ℕ × X)) (key : List ℕ) (v : X) → is_some (lookup (bytes_eq key) es) ≡ false
      → map typed (insert_entry bytes_eq es key v) ≡ map typed es ++ typed (key, v) ∷ []
  pushed_behind [] key v none = refl
  pushed_behind (e ∷ es) key v none =
      elim (bytes_eq key e.0) as (λ b. is_some (cond b (Some e.1) (lookup (bytes_eq key) es)) ≡ false
      → map typed (cond b ((e.0, v) ∷ es) (e ∷ insert_entry bytes_eq es key v)) ≡ typed e ∷ (map typed es ++ typed (key, v) ∷ []))
      [ true ↦ λ h. absurd (true≢false h) | false ↦ λ h. ap (λ l. typed e ∷ l) (pushed_behind es key v h) ] none

  -- a key that is there leaves the types
  pub with_known : (es : List (List ℕ × X)) (key : List ℕ) (v : X) → is_some (lookup (bytes_eq key) es) ≡ true
      → map typed es ≡ with_type (map typed es) (typed (key, v))
  with_known es key v there = sym (ap (λ b. if b then map typed es else map typed es ++ typed (key, v) ∷ []) (is_known es key ∙ there))

  -- a new key goes behind them
  pub with_new : (es : List (List ℕ × X)) (key : List ℕ) (v : X) → is_some (lookup (bytes_eq key) es) ≡ false
      → map typed (insert_entry bytes_eq es key v) ≡ with_type (map typed es) (typed (key, v))
  with_new es key v none =
      pushed_behind es key v none ∙ sym (ap (λ b. if b then map typed es else map typed es ++ typed (key, v) ∷ []) (is_known es key ∙ none))
