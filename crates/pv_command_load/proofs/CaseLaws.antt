-- A case names no more sources than a case may.
use Rattle.std.proofs.Common.{◌≤◌, ℕ, List, [], length, map, sym, subst, arith, ◌&&◌, IsTrue, Option, Some, None}
use Rattle.std.specs.Prelude.{nat_le, codes, unwrap_or}
use Rattle.std.proofs.lemmas.List.{length-map}
use Rattle.pv_case.specs.declared.case.Case.{Case}
use Rattle.pv_case.specs.declared.case.TheConstants.{MAX_SOURCES}
use Rattle.pv_case.specs.Checks.{Checks, of_any}
use Rattle.pv_case.specs.Members.{items_at}
use Rattle.pv_case.specs.Fields.{source_list}
use Rattle.pv_case.specs.Cases.{SourceData, source_data, source_of, CaseData, data_of, IsCaseText}

few_of : (n : ℕ) → IsTrue (nat_le 1 n && nat_le n MAX_SOURCES) → n ≤ MAX_SOURCES
few_of n h = grind arith

few_any : {D : Type 0} (checks : List D → Checks) (of : D → SourceData) → ((items : List D) → (checks items).keeps → length items ≤ MAX_SOURCES)
    → (items : Option (List D)) → (of_any checks items).keeps → length (map of (unwrap_or items [])) ≤ MAX_SOURCES
few_any checks of few None h = omega arith
few_any checks of few (Some items) h = omega (arith, few items h, length-map items of)

few_sources : (bytes : List ℕ) (case : CaseData) → IsCaseText bytes case → length case.sources ≤ MAX_SOURCES
few_sources bytes case is =
    subst (λ (xs : List SourceData). length xs ≤ MAX_SOURCES) (sym is.says.sources)
    (few_any source_list source_of (λ items h. few_of (length items) h.1.1.0) (items_at is.value (codes "sources")) is.keeps.0.1.1.0.1.1)

pub few_in : (bytes : List ℕ) (case : Case) → IsCaseText bytes (data_of case) → length case.sources.items ≤ MAX_SOURCES
few_in bytes case is = omega (arith, few_sources bytes (data_of case) is, length-map case.sources.items source_data)
