use Rattle.std.proofs.Common.{refl, ◌∙◌}
use Rattle.pv_learn.proofs.ForCallers.{room-self}
use Rattle.pv_solver.proofs.Steps.{under-way}
use Rattle.pv_solver.proofs.Endings.{begun}
use Rattle.pv_solver.specs.States.{problem_in}
use Rattle.pv_solver.proofs.search.Search.run.Goals as goal

pub refute-requires-clause-under_way : goal.refute-requires-clause-under_way
refute-requires-clause-under_way c =
    let s = c.args.self.now in let e = c.begin.ensures.goes in
    (problem_in s, under-way (problem_in s) s _ (begun s c.requires) e.text e.extends.variables refl refl (room-self s.draft))

pub refute-requires-clause-undecided : goal.refute-requires-clause-undecided
refute-requires-clause-undecided c = c.begin.ensures.goes.extends.starts ∙ c.requires.starts

pub refute-requires-clause-sound : goal.refute-requires-clause-sound
refute-requires-clause-sound c = c.begin.ensures.goes.sound

pub returns-in-Some : goal.returns-in-Some
returns-in-Some c =
    let s = c.args.self.now in let e = c.begin.ensures.goes in
    c.refute.ensures (problem_in s) (under-way (problem_in s) s _ (begun s c.requires) e.text e.extends.variables refl refl (room-self s.draft))

pub go_on-requires : goal.go_on-requires
go_on-requires c =
    let s = c.args.self.now in let e = c.begin.ensures.goes in (
      problem_in s,
      record {
        under_way = under-way (problem_in s) s _ (begun s c.requires) e.text e.extends.variables refl refl (room-self s.draft);
        ready = c.in-None.ensures.ready;
      },
    )

pub returns : goal.returns
returns c =
    let s = c.args.self.now in let e = c.begin.ensures.goes in
    c.go_on.ensures (problem_in s) (record {
      under_way = under-way (problem_in s) s _ (begun s c.requires) e.text e.extends.variables refl refl (room-self s.draft);
      ready = c.in-None.ensures.ready;
    })
