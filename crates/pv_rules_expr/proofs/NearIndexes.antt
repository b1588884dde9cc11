-- The nearest index that breaks a rule, over the indexes behind what an operand begins with, and over the operands that parts read.
use Rattle.std.proofs.Common.{◌≡◌, inl, inr, refl, sym, ap, subst, ◌∙◌, List, map, Option, Some, None, Bool, false, true≢false, IsTrue, is_some}
use Rattle.std.specs.Prelude.{◌⊎◌, Any, option_and_then, unwrap_or}
use Rattle.pv_place.specs.declared.place.Place.{Place}
use Rattle.pv_tree.specs.Tree.{ExprTree, lit, read, unary, binary, std, paren}
use Rattle.pv_tree.specs.Scopes.{Scope}
use Rattle.pv_tree.specs.Things.{Thing, part, constant, a_block, no_name, no_array, a_date, untold}
use Rattle.pv_tree.specs.Parts.{Part, Path, IndexAt, operand_of, operands_read, reads_of_parts, path_of, thing_of_path, indexes_of}
use Rattle.pv_tree.specs.Rules.Misfits.{Misindexes, MisusesPath}
use Rattle.pv_tree.specs.Rules.Arrays.{IsBeyond, HasBeyond}
use Rattle.pv_tree.specs.Rules.PatternRule.{DividesAt, IsMovingIndex}
use Rattle.pv_rules_expr.specs.Members.{HasSome}
use Rattle.pv_rules_expr.specs.Nearest.{is_before, IsNearest}
use Rattle.pv_rules_expr.specs.Looks.{part_place, near_parts}
use Rattle.pv_rules_expr.specs.Indexes.{index_place, index_at, misuse_at, misused_at, divides_at}
use Rattle.pv_rules_expr.specs.declared.indexes.IndexFault.{IndexFault}
use Rattle.pv_rules_expr.specs.declared.indexes.IndexFault.TheVariants as index
use Rattle.pv_rules_expr.specs.declared.search.Look.{Look}
use Rattle.pv_rules_expr.specs.declared.search.Look.TheVariants as look
use Rattle.pv_rules_expr.proofs.Nearing.{itself, any_has, has_any}
use Rattle.pv_rules_expr.proofs.NearParts.{nearest_same, nearest_both, nearest_where, near_any}
use Rattle.pv_rules_expr.proofs.NearestLists.{in_any}
use Rattle.pv_rules_expr.proofs.NearReads.{mapped_to, mapped_from, of_option, over_reads}

-- ---- the indexes of a path

of_path : (what : IndexFault) (scope : Scope) (P : Place → IndexAt → Type 0) → ((i : IndexAt) → IsNearest (λ at. P at i) (index_place what scope i))
    → (p : Path) → IsNearest (λ at. Any (P at) (indexes_of scope p)) (index_at what scope p)
of_path what scope P one p = in_any (λ i at. P at i) (index_place what scope) one (indexes_of scope p)

pub beyond_path : (scope : Scope) (p : Path) → IsNearest (λ at. Any (IsBeyond scope at) (indexes_of scope p)) (index_at index.Beyond scope p)
beyond_path scope p = of_path index.Beyond scope (λ at i. IsBeyond scope at i) (λ i. nearest_where _ _) p

moving_path : (scope : Scope) (p : Path) → IsNearest (λ at. Any (IsMovingIndex at) (indexes_of scope p)) (index_at index.Moving scope p)
moving_path scope p = of_path index.Moving scope (λ at i. IsMovingIndex at i) (λ i. nearest_where _ _) p

-- ---- what a path misuses

abbrev has_misuse : Thing → Bool
has_misuse t = is_some (misuse_at t)

abbrev Misuses : Thing → Place → Type 0
Misuses t at = (t ≡ no_array at) ⊎ (t ≡ a_date at)

no_other : (t : Thing) (at : Place) → has_misuse t ≡ false → Misuses t at → ⊥
no_other t at isnt e = elim e [ inl is ↦ true≢false (sym (ap has_misuse is) ∙ isnt) | inr is ↦ true≢false (sym (ap has_misuse is) ∙ isnt) ]

that_one : (t : Thing) (a at : Place) → misuse_at t ≡ Some a → Misuses t at → IsTrue (is_before a at)
that_one t a at is e = elim e [
  | inl h ↦ subst (λ x. IsTrue (is_before a x)) (ap (λ o. unwrap_or o a) (sym is ∙ ap misuse_at h)) (itself a)
  | inr h ↦ subst (λ x. IsTrue (is_before a x)) (ap (λ o. unwrap_or o a) (sym is ∙ ap misuse_at h)) (itself a)
]

misuse_nearest : (t : Thing) → IsNearest (Misuses t) (misuse_at t)
misuse_nearest (part ty) = λ at. no_other (part ty) at refl
misuse_nearest (constant ty) = λ at. no_other (constant ty) at refl
misuse_nearest (a_block b) = λ at. no_other (a_block b) at refl
misuse_nearest (no_name a) = λ at. no_other (no_name a) at refl
misuse_nearest (no_array a) = (inl refl, λ at. that_one (no_array a) a at refl)
misuse_nearest (a_date a) = (inr refl, λ at. that_one (a_date a) a at refl)
misuse_nearest untold = λ at. no_other untold at refl

pub misused_path : (scope : Scope) (p : Path) → IsNearest (λ at. MisusesPath scope at p) (misused_at scope p)
misused_path scope p =
    nearest_same (λ at. Misuses (thing_of_path scope p) at ⊎ Any (Misindexes scope at) (indexes_of scope p)) (λ at. MisusesPath scope at p)
    (misused_at scope p)
    (λ at e. elim e [ inl f ↦ elim f [ inl a ↦ inl a | inr b ↦ inr (inl b) ] | inr b ↦ inr (inr b) ])
    (λ at e. elim e [ inl a ↦ inl (inl a) | inr f ↦ elim f [ inl b ↦ inl (inr b) | inr b ↦ inr b ] ])
    (nearest_both (Misuses (thing_of_path scope p)) (λ at. Any (Misindexes scope at) (indexes_of scope p)) (misuse_at (thing_of_path scope p))
    (index_at index.OtherType scope p) (misuse_nearest (thing_of_path scope p))
    (of_path index.OtherType scope (λ at i. Misindexes scope at i) (λ i. nearest_where _ _) p))

-- ---- over parts

over_paths : (what : Look) (scope : Scope) (Q : Place → Path → Type 0) (f : Path → Option Place)
    → ((p : Part) → part_place what scope p.want p.expr ≡ option_and_then (λ o. f (path_of scope o)) (operand_of p.expr))
    → ((p : Path) → IsNearest (λ at. Q at p) (f p))
    → (ps : List Part) → IsNearest (λ at. HasSome (λ o. Q at (path_of scope o)) (reads_of_parts ps)) (near_parts what scope ps None)
over_paths what scope Q f same one ps =
    over_reads what scope (λ at o. Q at (path_of scope o))
    (λ p. subst (λ x. IsNearest (λ at. HasSome (λ o. Q at (path_of scope o)) (operands_read p.expr)) x) (sym (same p))
    (of_option (λ at o. Q at (path_of scope o)) (λ o. f (path_of scope o)) (λ o. one (path_of scope o)) (operand_of p.expr))) ps

mapped : (scope : Scope) (Q : Place → Path → Type 0) (ps : List Part) (o : Option Place)
    → IsNearest (λ at. HasSome (λ o. Q at (path_of scope o)) (reads_of_parts ps)) o
    → IsNearest (λ at. Any (Q at) (map (path_of scope) (reads_of_parts ps))) o
mapped scope Q ps o n =
    nearest_same (λ at. HasSome (λ o. Q at (path_of scope o)) (reads_of_parts ps)) (λ at. Any (Q at) (map (path_of scope) (reads_of_parts ps))) o
    (λ at h. has_any (Q at) (map (path_of scope) (reads_of_parts ps)) (mapped_to (Q at) (path_of scope) (reads_of_parts ps) h))
    (λ at a. mapped_from (Q at) (path_of scope) (reads_of_parts ps) (any_has (Q at) (map (path_of scope) (reads_of_parts ps)) a)) n

pub misused_parts : (scope : Scope) (ps : List Part) (o : Option Place) → o ≡ near_parts look.Misused scope ps None
    → IsNearest (λ at. Any (MisusesPath scope at) (map (path_of scope) (reads_of_parts ps))) o
misused_parts scope ps o is =
    subst (IsNearest (λ at. Any (MisusesPath scope at) (map (path_of scope) (reads_of_parts ps)))) (sym is)
    (mapped scope (λ at p. MisusesPath scope at p) ps (near_parts look.Misused scope ps None)
    (over_paths look.Misused scope (λ at p. MisusesPath scope at p) (misused_at scope) (λ p. refl) (misused_path scope) ps))

pub beyond_parts : (scope : Scope) (ps : List Part) (o : Option Place) → o ≡ near_parts look.Beyond scope ps None
    → IsNearest (λ at. HasBeyond scope at (map (path_of scope) (reads_of_parts ps))) o
beyond_parts scope ps o is =
    subst (IsNearest (λ at. HasBeyond scope at (map (path_of scope) (reads_of_parts ps)))) (sym is)
    (mapped scope (λ at p. Any (IsBeyond scope at) (indexes_of scope p)) ps (near_parts look.Beyond scope ps None)
    (over_paths look.Beyond scope (λ at p. Any (IsBeyond scope at) (indexes_of scope p)) (index_at index.Beyond scope) (λ p. refl)
    (beyond_path scope) ps))

pub moving_parts : (scope : Scope) (ps : List Part) (o : Option Place) → o ≡ near_parts look.Moving scope ps None
    → IsNearest (λ at. Any (λ o. Any (IsMovingIndex at) (indexes_of scope (path_of scope o))) (reads_of_parts ps)) o
moving_parts scope ps o is =
    subst (IsNearest (λ at. Any (λ o. Any (IsMovingIndex at) (indexes_of scope (path_of scope o))) (reads_of_parts ps))) (sym is)
    (nearest_same (λ at. HasSome (λ o. Any (IsMovingIndex at) (indexes_of scope (path_of scope o))) (reads_of_parts ps))
    (λ at. Any (λ o. Any (IsMovingIndex at) (indexes_of scope (path_of scope o))) (reads_of_parts ps)) (near_parts look.Moving scope ps None)
    (λ at h. has_any (λ o. Any (IsMovingIndex at) (indexes_of scope (path_of scope o))) (reads_of_parts ps) h)
    (λ at a. any_has (λ o. Any (IsMovingIndex at) (indexes_of scope (path_of scope o))) (reads_of_parts ps) a)
    (over_paths look.Moving scope (λ at p. Any (IsMovingIndex at) (indexes_of scope p)) (index_at index.Moving scope) (λ p. refl)
    (moving_path scope) ps))

-- ---- operators that divide

divides_nearest : (e : ExprTree) → IsNearest (λ at. DividesAt at e) (divides_at e)
divides_nearest (lit ty value place) = λ at h. h
divides_nearest (read o) = λ at h. h
divides_nearest (unary op place arg) = λ at h. h
divides_nearest (binary op place left right) = nearest_where _ place
divides_nearest (std function place args) = λ at h. h
divides_nearest (paren place inner) = λ at h. h

pub divides_parts : (scope : Scope) (ps : List Part) (o : Option Place) → o ≡ near_parts look.Divides scope ps None
    → IsNearest (λ at. Any (λ p. DividesAt at p.expr) ps) o
divides_parts scope ps o is =
    subst (IsNearest (λ at. Any (λ p. DividesAt at p.expr) ps)) (sym is)
    (near_any look.Divides scope (λ p at. DividesAt at p.expr) (λ p. divides_nearest p.expr) ps)
