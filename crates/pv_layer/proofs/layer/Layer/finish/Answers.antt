use Rattle.pv_layer.proofs.Finished.{are_parts, are_legal, are_body}
use Rattle.pv_layer.proofs.layer.Layer.finish.Goals as goal

pub returns-clause-parts : goal.returns-clause-parts
returns-clause-parts c = λ head done spots loops h all. are_parts head done spots loops c.args.self.parts c.args.self.here c.args.self.yes h all

pub returns-clause-legal : goal.returns-clause-legal
returns-clause-legal c = λ head done text h all vars counts sound.
    are_legal head done text c.args.self.parts c.args.self.here c.args.self.yes h all vars counts sound

pub returns-clause-body : goal.returns-clause-body
returns-clause-body c = λ body h typed. are_body body c.args.self.parts c.args.self.here c.args.self.yes h typed
