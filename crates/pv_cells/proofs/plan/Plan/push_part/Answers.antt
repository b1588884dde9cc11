use Rattle.std.proofs.Common.{sym, ap, ◌∙◌, ◌++◌, map}
use Rattle.std.proofs.lemmas.List.{append-nil}
use Rattle.pv_types.specs.declared.layout.TheConstants.{MAX_LEAVES}
use Rattle.pv_types.specs.Named.{types_of}
use Rattle.pv_mean.specs.LaidOut.{test_of}
use Rattle.pv_cells.specs.Forms.{formed}
use Rattle.pv_cells.specs.Planned.{planned}
use Rattle.pv_cells.proofs.Results.{on_ok}
use Rattle.pv_cells.proofs.PlanParts.{part-same, part-few, part-none}
use Rattle.pv_cells.proofs.plan.Plan.push_part.Goals as goal

pub push_declared-requires : goal.push_declared-requires
push_declared-requires c =
    part-few (planned c.args.self.now) (types_of c.args.self.now.types) (test_of c.args.part) c.args.of.now c.requires.plan.typed MAX_LEAVES
    (sym c.has.ensures ∙ c.if-not-has.false) c.requires.few

pub returns : goal.returns
returns c =
    on_ok c.push_declared.result _ _
    (λ e. e ∙ ap (λ l. c.args.cells.now.items ++ map (formed c.args.form) l) (part-same (planned c.args.self.now) (types_of c.args.self.now.types)
    (test_of c.args.part) c.args.of.now c.requires.plan.typed (sym c.has.ensures ∙ c.if-not-has.false)))
    c.push_declared.ensures

pub returns-then-not-has : goal.returns-then-not-has
returns-then-not-has c =
    sym (append-nil c.args.cells.now.items)
    ∙ ap (λ l. c.args.cells.now.items ++ map (formed c.args.form) l) (part-none (planned c.args.self.now) (types_of c.args.self.now.types)
    (test_of c.args.part) c.args.of.now c.requires.plan.typed (sym c.has.ensures ∙ c.if-not-has.true))
