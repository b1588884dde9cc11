use Rattle.std.proofs.Common.{◌≡◌, ◌∙◌, sym, refl, ap, length, map, arith}
use Rattle.std.proofs.lemmas.List.{length-map}
use Rattle.std.proofs.lemmas.Bool.{ltb-true}
use Rattle.std.specs.Prelude.{slice_get}
use Rattle.pv_names.specs.Entries.{block_of}
use Rattle.pv_names.specs.Tables.{blocks_of, project_of}
use Rattle.pv_bool_case.proofs.Scopes.{entered_is, same_scope, in_scope}
use Rattle.pv_bool_case.proofs.text.said_over.Goals as goal

pub returns : goal.returns
returns c = λ block there.
    let tables = c.args.tables.now in
    let entered = c.in-Some.entered.now in
    let is = entered_is block_of c.entries.result.now c.args.entry entered block
    (ltb-true c.args.entry (length c.entries.result.now) (sym c.in-Some.ensures.lookup.0)) c.in-Some.ensures.lookup.1
    (ap (λ l. slice_get l c.args.entry) c.entries.ensures ∙ there) in
    in_scope (record { project = project_of tables; block = block_of entered }) (record { project = project_of tables; block = block })
    c.args.text.now c.said.result (same_scope (project_of tables) (project_of tables) (block_of entered) block refl is) c.said.ensures

pub unreachable-requires : goal.unreachable-requires
unreachable-requires c =
    let entries = c.entries.result.now in
    let all : length (map block_of entries) ≡ length (blocks_of c.args.tables.now) = ap length c.entries.ensures in
    omega (arith, c.requires.there, all, length-map entries block_of, c.in-None.ensures.lookup)
