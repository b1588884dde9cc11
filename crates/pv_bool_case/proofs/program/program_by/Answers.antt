use Rattle.std.proofs.Common.{List, ℕ, ◌∷◌, [], length, map, subst, sym, ap, ◌∙◌, arith}
use Rattle.std.proofs.lemmas.Bool.{ltb-false, ltb-true}
use Rattle.std.proofs.lemmas.List.{length-map}
use Rattle.std.specs.Prelude.{string_bytes}
use Rattle.pv_lex.specs.declared.lex.TheConstants.{MAX_SOURCE}
use Rattle.pv_tree.specs.Scopes.{Scope}
use Rattle.pv_tree.specs.View.{block_tree}
use Rattle.pv_mean.specs.ProjectSizes.{project_tree}
use Rattle.pv_pattern_read.specs.Kinds.{IsReadPattern}
use Rattle.pv_bool_case.specs.Programs.{AreAPattern}
use Rattle.pv_bool_case.proofs.Readings.{said_first, said_second, first_has_few, none_made}
use Rattle.pv_bool_case.proofs.Items.{item_short, one_mapped, two_mapped}
use Rattle.pv_bool_case.proofs.program.program_by.Goals as goal
use Rattle.pv_bool_case.proofs.program.program_by.Goals.{in_default-via-then-texts-lt1, in_default-via-else-texts-lt1+else-texts-lt2+else-texts-lt3}

pub by_one-requires-clause-short : goal.by_one-requires-clause-short
by_one-requires-clause-short c =
    item_short string_bytes c.args.texts.now 0 MAX_SOURCE c.a-item.result c.as_str.result.now c.requires.short (omega arith) c.a-item.is c.as_str.ensures.value

pub by_one-requires-clause-said : goal.by_one-requires-clause-said
by_one-requires-clause-said c =
    let project = project_tree c.args.project.now in
    let P : List (List ℕ) → Type 0 = λ ts. AreAPattern project c.args.entry c.args.kind ts in
    let are = one_mapped string_bytes c.args.texts.now c.a-item.result (omega arith) c.a-item.is ∙ ap (λ t. t ∷ []) (sym c.as_str.ensures.value) in
    said_first project c.args.entry c.args.kind c.as_str.result.now [] (subst P are c.requires.read)

pub by_two-requires-clause-short : goal.by_two-requires-clause-short
by_two-requires-clause-short c =
    item_short string_bytes c.args.texts.now 0 MAX_SOURCE c.a-item-then-texts-lt3.result c.as_str-in-len2.result.now c.requires.short (omega arith)
    c.a-item-then-texts-lt3.is c.as_str-in-len2.ensures.value

pub by_two-requires-clause-other_short : goal.by_two-requires-clause-other_short
by_two-requires-clause-other_short c =
    item_short string_bytes c.args.texts.now 1 MAX_SOURCE c.b-item.result c.as_str-in-len2-2.result.now c.requires.short (omega arith)
    c.b-item.is c.as_str-in-len2-2.ensures.value

pub by_two-requires-clause-said : goal.by_two-requires-clause-said
by_two-requires-clause-said c =
    let project = project_tree c.args.project.now in
    let P : List (List ℕ) → Type 0 = λ ts. AreAPattern project c.args.entry c.args.kind ts in
    let are = two_mapped string_bytes c.args.texts.now c.a-item-then-texts-lt3.result c.b-item.result (omega arith) c.a-item-then-texts-lt3.is c.b-item.is
    ∙ ap (λ t. t ∷ string_bytes c.b-item.result ∷ []) (sym c.as_str-in-len2.ensures.value) in
    said_first project c.args.entry c.args.kind c.as_str-in-len2.result.now (string_bytes c.b-item.result ∷ []) (subst P are c.requires.read)

pub by_two-requires-clause-other_said : goal.by_two-requires-clause-other_said
by_two-requires-clause-other_said c =
    let project = project_tree c.args.project.now in
    let P : List (List ℕ) → Type 0 = λ ts. AreAPattern project c.args.entry c.args.kind ts in
    let are = two_mapped string_bytes c.args.texts.now c.a-item-then-texts-lt3.result c.b-item.result (omega arith) c.a-item-then-texts-lt3.is c.b-item.is
    ∙ ap (λ t. string_bytes c.a-item-then-texts-lt3.result ∷ t ∷ []) (sym c.as_str-in-len2-2.ensures.value) in
    said_second project c.args.entry c.args.kind (string_bytes c.a-item-then-texts-lt3.result) c.as_str-in-len2-2.result.now [] (subst P are c.requires.read)

pub returns-in-len1 : goal.returns-in-len1
returns-in-len1 c = λ entered p there reads.
    let scope : Scope = record { project = project_tree c.args.project.now; block = entered } in
    let P : List (List ℕ) → Type 0 = λ ts. IsReadPattern scope c.args.kind ts p in
    let are = one_mapped string_bytes c.args.texts.now c.a-item.result (omega arith) c.a-item.is ∙ ap (λ t. t ∷ []) (sym c.as_str.ensures.value) in
    c.by_one.ensures entered p there (subst P are reads)

pub returns-in-len2 : goal.returns-in-len2
returns-in-len2 c = λ entered p there reads.
    let scope : Scope = record { project = project_tree c.args.project.now; block = entered } in
    let P : List (List ℕ) → Type 0 = λ ts. IsReadPattern scope c.args.kind ts p in
    let are = two_mapped string_bytes c.args.texts.now c.a-item-then-texts-lt3.result c.b-item.result (omega arith) c.a-item-then-texts-lt3.is c.b-item.is
    ∙ ap (λ t. t ∷ string_bytes c.b-item.result ∷ []) (sym c.as_str-in-len2.ensures.value) ∙ ap (λ t. c.as_str-in-len2.result.now ∷ t ∷ []) (sym c.as_str-in-len2-2.ensures.value) in
    c.by_two.ensures entered p there (subst P are reads)

pub returns-in_default : goal.returns-in_default
returns-in_default c = λ entered p there reads.
    let scope : Scope = record { project = project_tree c.args.project.now; block = entered } in
    let block = block_tree c.args.block.now in
    let texts = map string_bytes c.args.texts.now in
    let all = c.args.texts.now in
    let counted = length-map all string_bytes in
    elim c.in_default.branch [
      | in_default-via-then-texts-lt1 w ↦
          let few = ltb-true (length all) 1 w.if-texts-lt1-1.true in
          none_made block p (first_has_few scope block.vars p texts reads.say (λ e. omega (arith, e, counted, few)) (λ e. omega (arith, e, counted, few)))
      | in_default-via-else-texts-lt1+else-texts-lt2+else-texts-lt3 w ↦
          let many = ltb-false (length all) 3 w.if-texts-lt3-1.false in
          none_made block p (first_has_few scope block.vars p texts reads.say (λ e. omega (arith, e, counted, many)) (λ e. omega (arith, e, counted, many)))
    ]
