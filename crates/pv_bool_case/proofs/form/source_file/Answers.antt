use Rattle.std.proofs.Common.{List, [], ◌∷◌, ◌≡◌, map, subst, arith}
use Rattle.std.specs.Prelude.{string_bytes}
use Rattle.pv_case.specs.declared.case.Source.{Source}
use Rattle.pv_case.specs.Cases.{SourceData, source_data}
use Rattle.pv_bool_case.proofs.Items.{source_alone}
use Rattle.pv_bool_case.proofs.form.source_file.Goals as goal

pub returns-in-len1-clause-some : goal.returns-in-len1-clause-some
returns-in-len1-clause-some c =
    let x = c.source-item.result in
    let P : List Source → Type 0 = λ xs. (source : SourceData) × (map source_data xs ≡ source ∷ []) × (string_bytes x.file ≡ source.file) in
    subst P c.as_slice.ensures.value (source_alone c.as_slice.result.now x (omega arith) c.source-item.is)
