use Rattle.std.proofs.lemmas.List.{with_items_is}
use Rattle.pv_tree.specs.Parts.{starts_of}
use Rattle.pv_mean.specs.Layout.{data_type}
use Rattle.pv_mean.specs.Cells.{with_starts}
use Rattle.pv_cells.proofs.Starting.{starts-keep}
use Rattle.std.proofs.Common.{arith, ◌≡◌, ◌≤◌, length, subst, refl, sym, ap, ◌∙◌, ◌++◌, [], map}
use Rattle.pv_types.specs.Leaves.{leaves_of}
use Rattle.pv_cells.specs.Forms.{formed}
use Rattle.pv_cells.specs.declared.variables.Form.TheVariants.{Visible}
use Rattle.pv_types.specs.declared.layout.TheConstants.{MAX_LEAVES}
use Rattle.pv_types.specs.Named.{types_of}
use Rattle.pv_types.specs.View.{vars_tree}
use Rattle.pv_cells.specs.Starts.{data_var}
use Rattle.pv_names.specs.Entries.{block_of}
use Rattle.pv_cells.specs.Planned.{planned}
use Rattle.pv_cells.proofs.DataCells.{held-few, laid-few, held-made}
use Rattle.pv_cells.proofs.plan.Plan.held_cells.Goals as goal

pub push_declared-requires : goal.push_declared-requires
push_declared-requires c =
    subst (λ vs. length (leaves_of (types_of c.args.self.now.types) vs) ≤ MAX_LEAVES) (sym c.requires.held)
    (held-few (planned c.args.self.now) (block_of c.args.entry.now) (types_of c.args.self.now.types) (data_var (block_of c.args.entry.now))
    c.requires.plan.typed refl c.requires.kind MAX_LEAVES c.requires.few)

pub set_starts_of-requires : goal.set_starts_of-requires
set_starts_of-requires c =
    record {
      plan = c.requires.plan;
      few = subst (λ l. length l ≤ MAX_LEAVES) (sym c.as_mut_slice.ensures.value) (laid-few (planned c.args.self.now) (block_of c.args.entry.now) (types_of c.args.self.now.types) (data_var (block_of c.args.entry.now))
          c.requires.plan.typed refl c.requires.kind MAX_LEAVES _ c.requires.few
          (c.in_ok-push_declared.ensures ∙ ap (λ l. l ++ map (formed Visible) (leaves_of (types_of c.args.self.now.types) (vars_tree c.args.held.now)))
          c.new-cells.ensures.items
          ∙ ap (λ vs. [] ++ map (formed Visible) (leaves_of (types_of c.args.self.now.types) vs)) c.requires.held));
    }

pub returns : goal.returns
returns c =
    let p = planned c.args.self.now in
    let b = block_of c.args.entry.now in
    let cells = c.push_declared.new.cells in
    let new = c.set_starts_of.new.cells in
    let set : new ≡ with_starts p (data_type b) (starts_of b.body) cells.items =
    c.set_starts_of.ensures ∙ ap (λ x. with_starts p (data_type b) (starts_of x.body) c.as_mut_slice.result.now) c.block.ensures
    ∙ ap (with_starts p (data_type b) (starts_of b.body)) c.as_mut_slice.ensures.value in
    let kept : length new ≡ length cells.items = ap length set ∙ starts-keep p (data_type b) (starts_of b.body) cells.items in
    with_items_is cells new (omega (arith, kept, cells.ok.0))
    ∙ held-made p b (types_of c.args.self.now.types) (data_var (block_of c.args.entry.now)) c.requires.plan.typed refl c.requires.kind cells.items new
    (c.in_ok-push_declared.ensures ∙ ap (λ l. l ++ map (formed Visible) (leaves_of (types_of c.args.self.now.types) (vars_tree c.args.held.now)))
    c.new-cells.ensures.items
    ∙ ap (λ vs. [] ++ map (formed Visible) (leaves_of (types_of c.args.self.now.types) vs)) c.requires.held) set
