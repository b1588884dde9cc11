use Rattle.pv_circuit.specs.Made.{circuit_seen}
use Rattle.pv_frames.proofs.FromCircuit.{fit}
use Rattle.pv_frames.proofs.query.fit.Goals as goal

pub returns : goal.returns
returns c =
    fit (circuit_seen c.args.c.now) c.args.start.now c.args.query c.args.c.now.kept c.nodes-count.ensures.netlist c.requires.start c.requires.query c.requires.nodes
