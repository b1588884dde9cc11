-- The least of texts so far, as the code goes over them. No public clause cites this.
use Rattle.std.specs.Prelude.{ℕ, List, [], map, codes, Option, Some, None, if◌then◌else◌, unwrap_or}
use Rattle.std.specs.List.{fold}
use Rattle.std.specs.Ordering.{nat_cmp, is_le}
use Rattle.std.specs.Cmp.Lexicographic.{slice_cmp}
use Rattle.serde_json.specs.Data.{Data}
use Rattle.serde_json.specs.Find.{get}
use Rattle.pv_case.specs.declared.strays.Object.{Object}
use Rattle.pv_case.specs.declared.strays.Object.TheVariants.{Case, Source, Symbol, Pattern}
use Rattle.pv_case.specs.Members.{is_among, items_at, pairs_at}
use Rattle.pv_case.specs.Fields.{names_in, field_names, source_names, symbol_names, pattern_names}

-- the members that an object may have
abbrev pub names_of : Object → List (List ℕ)
names_of Case = field_names
names_of Source = source_names
names_of Symbol = symbol_names
names_of Pattern = pattern_names

abbrev pub lesser : Option (List ℕ) → List ℕ → Option (List ℕ)
lesser None text = Some text
lesser (Some other) text = if is_le (slice_cmp nat_cmp other text) then Some other else Some text

-- one name more: those that are known don't count
abbrev pub behind : List (List ℕ) → Option (List ℕ) → List ℕ → Option (List ℕ)
behind known so_far name = if is_among known name then so_far else lesser so_far name

-- all names of an object more, and of several objects
abbrev pub behind_names : List (List ℕ) → Option (List ℕ) → Data → Option (List ℕ)
behind_names known so_far d = fold (behind known) so_far (names_in d)

abbrev pub behind_objects : List (List ℕ) → Option (List ℕ) → List Data → Option (List ℕ)
behind_objects known so_far objects = fold (behind_names known) so_far objects

abbrev pub behind_any : List (List ℕ) → Option (List ℕ) → Option Data → Option (List ℕ)
behind_any known so_far None = so_far
behind_any known so_far (Some d) = behind_names known so_far d

-- the least name that no case has
abbrev pub least_stray : Data → Option (List ℕ)
least_stray d =
    behind_any pattern_names
    (behind_objects symbol_names
    (behind_objects source_names (behind_names field_names None d) (unwrap_or (items_at d (codes "sources")) []))
    (map (λ p. p.1) (unwrap_or (pairs_at d (codes "symbols")) [])))
    (get (codes "pattern") d)
