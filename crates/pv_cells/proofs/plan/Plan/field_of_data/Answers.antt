use Rattle.std.proofs.Common.{rules, ◌≡◌, None, Some, refl, ap, sym, ◌∙◌}
use Rattle.pv_tree.specs.declared.block.BlockKind.TheVariants.{Db, Fb, Fc, Ob, Udt}
use Rattle.pv_types.specs.View.{var_trees}
use Rattle.pv_mean.specs.Sized.{sized_project}
use Rattle.pv_names.specs.Entries.{block_of}
use Rattle.pv_cells.specs.Planned.{planned}
use Rattle.pv_cells.proofs.DataFields.{data-own, data-typed, data-none}
use Rattle.pv_cells.proofs.plan.Plan.field_of_data.Goals as goal

pub returns-in-Db-None : goal.returns-in-Db-None
returns-in-Db-None c =
    let kind : Db None ≡ c.block-block.result.now.kind = search rules in
    c.variable.ensures
    ∙ data-own (planned c.args.self.now) (sized_project c.args.self.now.sizes) c.requires.sized (block_of c.args.entry.now)
    (var_trees c.as_slice-vars.result.now) c.args.name.now.key
    (kind ∙ ap (λ b. b.kind) c.block-block.ensures)
    (ap var_trees c.as_slice-vars.ensures.value ∙ ap (λ b. b.vars) c.block-block.ensures)

pub returns-in-Db-Some : goal.returns-in-Db-Some
returns-in-Db-Some c =
    let kind : Db (Some (c.in-Db-Some.type_name, c.in-Db-Some.of-0-1)) ≡ c.block-block.result.now.kind = search rules in
    c.field_of_type.ensures
    ∙ data-typed (planned c.args.self.now) (block_of c.args.entry.now) (c.in-Db-Some.type_name, c.in-Db-Some.of-0-1) c.args.name.now.key
    (kind ∙ ap (λ b. b.kind) c.block-block.ensures)

pub returns-in-Fb : goal.returns-in-Fb
returns-in-Fb c =
    data-none (planned c.args.self.now) (block_of c.args.entry.now) Fb c.args.name.now.key (sym c.in-Fb.is ∙ ap (λ b. b.kind) c.block-block.ensures) refl

pub returns-in-Fc : goal.returns-in-Fc
returns-in-Fc c =
    data-none (planned c.args.self.now) (block_of c.args.entry.now) Fc c.args.name.now.key (sym c.in-Fc.is ∙ ap (λ b. b.kind) c.block-block.ensures) refl

pub returns-in-Ob : goal.returns-in-Ob
returns-in-Ob c =
    data-none (planned c.args.self.now) (block_of c.args.entry.now) Ob c.args.name.now.key (sym c.in-Ob.is ∙ ap (λ b. b.kind) c.block-block.ensures) refl

pub returns-in-Udt : goal.returns-in-Udt
returns-in-Udt c =
    data-none (planned c.args.self.now) (block_of c.args.entry.now) Udt c.args.name.now.key (sym c.in-Udt.is ∙ ap (λ b. b.kind) c.block-block.ensures) refl
