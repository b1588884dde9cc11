-- The sources of a case have no more blocks than 32 bits can count: each has no more than bytes, and is no longer than a source may be.
use Rattle.std.proofs.Common.{◌≡◌, ◌+◌, ◌*◌, ◌<◌, ◌≤◌, ℕ, List, [], ◌∷◌, length, map, Option, sym, ap, ◌∙◌, arith}
use Rattle.std.specs.Prelude.{flat_map}
use Rattle.std.proofs.lemmas.List.{length-append, length-map}
use Rattle.pv_edge.specs.Files.{FileMap}
use Rattle.pv_lex.specs.declared.lex.TheConstants.{MAX_SOURCE}
use Rattle.pv_tree.specs.declared.kept.Project.{Project}
use Rattle.pv_tree.specs.Scopes.{ProjectTree}
use Rattle.pv_tree.specs.View.{block_tree}
use Rattle.pv_case.specs.declared.case.TheConstants.{MAX_SOURCES}
use Rattle.pv_case.specs.declared.case.Case.{Case}
use Rattle.pv_case.specs.Cases.{SourceData, source_data, data_of}
use Rattle.pv_laws_places.specs.Sources.{SourceRead, IsOfText}
use Rattle.pv_laws_spelled.proofs.ForCallers.{text-few}
use Rattle.pv_command_load.specs.Sources.{ReadSource, ReadsAs, HoldSources}
use Rattle.pv_command_load.specs.Made.{IsProjectOf}
use Rattle.pv_command_load.proofs.SubjectLaws.{given_by}

one_few : (number : ℕ) (source : SourceData) (bytes : List ℕ) (blocks : List _) → ReadsAs number source bytes blocks → length blocks ≤ MAX_SOURCE
one_few number source bytes blocks reads =
    let read : SourceRead = record { language = source.language; text = bytes; blocks = blocks } in
    let is : IsOfText number read = record { tokens = reads.tokens; cut = reads.cut.cut; read = reads.read } in
    let few = text-few number read is in
    let short = reads.cut.short in
    omega (arith, few, short)

all_few : (told : Option FileMap) (number : ℕ) (list : List SourceData) (reads : List ReadSource) → HoldSources told number list reads
    → length (flat_map (λ (s : ReadSource). s.blocks) reads) ≤ length list * MAX_SOURCE
all_few told number [] [] h = omega arith
all_few told number [] (read ∷ others) h = absurd h
all_few told number (source ∷ more) [] h = absurd h
all_few told number (source ∷ more) (read ∷ others) h =
    let first = one_few number source read.text.bytes read.blocks h.0.reads in
    let rest = all_few told (number + 1) more others h.1 in
    let all = length-append read.blocks (flat_map (λ (s : ReadSource). s.blocks) others) in
    omega (arith, first, rest, all)

-- as the code has them
pub few_blocks : (told : Option FileMap) (case : Case) (reads : List ReadSource) (project : Project)
    → length case.sources.items ≤ MAX_SOURCES → HoldSources told 0 (data_of case).sources reads
    → IsProjectOf (given_by (data_of case) reads) project → length project.blocks.list.items < 4294967296
few_blocks told case reads project few held is =
    let count = length-map case.sources.items source_data in
    let all = all_few told 0 (data_of case).sources reads held in
    let same = sym (length-map project.blocks.list.items block_tree) ∙ ap (λ (p : ProjectTree). length p.blocks) is.same in
    omega (arith, few, count, all, same)
