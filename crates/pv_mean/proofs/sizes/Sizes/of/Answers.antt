use Rattle.std.proofs.Common.{◌≡◌, [], map, length, ap, sym, ◌∙◌, subst}
use Rattle.pv_types.specs.Named.{types_of}
use Rattle.pv_tree.specs.View.{block_tree}
use Rattle.pv_tree.specs.NamedTypes.{types_of_project}
use Rattle.pv_types.specs.Sizes.{size_of_named}
use Rattle.pv_mean.specs.Layout.{data_first, data_size}
use Rattle.pv_mean.specs.Counts.{capped, known_in}
use Rattle.pv_mean.specs.Visits.{visits_of, seeds_of, AllNest, IsOpen}
use Rattle.pv_mean.specs.BlockNames.{number_named}
use Rattle.pv_mean.specs.ProjectSizes.{project_tree, with_blocks, AreSizesOf}
use Rattle.pv_mean.proofs.TypeTables.{search_begins, types_all_nest, table_has_all}
use Rattle.pv_mean.proofs.sizes.Sizes.of.Goals as goal

pub run-requires : goal.run-requires
run-requires c =
    let project = project_tree c.args.project.now in
    let keeps = c.args.project.now.keeps in
    let blocks : c.as_slice-blocks.result.now ≡ c.args.project.now.blocks.list.items =
    c.as_slice-blocks.ensures.value ∙ ap (λ b. b.list.items) c.blocks-2.ensures in
    let types : types_of c.in_ok-of.field-0.types ≡ types_of_project project =
    ap types_of c.in_ok-of.ensures.types ∙ c.in_ok-types.ensures ∙ ap (λ bs. with_blocks [] (map block_tree bs)) blocks
    ∙ table_has_all project keeps in
    let known = known_in c.in_ok-of.field-0.known in
    record {
      nest = subst AllNest (sym types) (types_all_nest project keeps);
      «open» = subst (λ ts. IsOpen ts known (visits_of c.in_ok-of.field-0.tasks.items)) (sym types)
          (subst (λ v. IsOpen (types_of_project project) known v)
          (sym (c.in_ok-of.ensures.tasks ∙ ap (λ bs. seeds_of (map block_tree bs)) blocks))
          (search_begins project known c.in_ok-of.ensures.known));
    }

pub invariant_of-result : goal.invariant_of-result
invariant_of-result c =
    let project = project_tree c.args.project.now in
    let blocks : c.as_slice-blocks.result.now ≡ c.args.project.now.blocks.list.items =
    c.as_slice-blocks.ensures.value ∙ ap (λ b. b.list.items) c.blocks-2.ensures in
    let types : types_of c.in_ok-of.field-0.types ≡ types_of_project project =
    ap types_of c.in_ok-of.ensures.types ∙ c.in_ok-types.ensures ∙ ap (λ bs. with_blocks [] (map block_tree bs)) blocks
    ∙ table_has_all project c.args.project.now.keeps in
    let are : AreSizesOf c.in_ok-known.known project =
    λ key. c.in_ok-known.ensures key ∙ ap (λ ts. capped (size_of_named ts (length ts) key)) types in
    record {
      by_name = λ key. c.in_ok-names.ensures key ∙ ap (λ bs. number_named (map block_tree bs) key) blocks;
      of_types = are;
      begins = λ key. c.in_ok-data_blocks.ensures.begins project are key
          ∙ ap (λ bs. capped (data_first project (map block_tree bs) key 0)) blocks;
      whole = c.in_ok-data_blocks.ensures.total project are ∙ ap (λ bs. capped (data_size project (map block_tree bs))) blocks;
    }
