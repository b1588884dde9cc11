use Rattle.std.proofs.Common.{arith, ◌+◌, ◌-◌, length, mul-le-mul}
use Rattle.std.specs.Option.{is_some}
use Rattle.std.proofs.lemmas.List.Sums.{count_by-le-length}
use Rattle.pv_frames.specs.Queries.{first_of}
use Rattle.pv_frames.proofs.FromCircuit.{few-frames}
use Rattle.pv_frames.proofs.query.variables.Goals as goal

pub overflow_cast-first : goal.overflow_cast-first
overflow_cast-first c =
    omega (arith, c.constants.ensures, count_by-le-length (λ s. is_some (first_of c.args.query s)) c.args.start.now, c.requires.start, c.requires.nodes, c.fit.ensures.inputs)

pub overflow_sub-first : goal.overflow_sub-first
overflow_sub-first c =
    omega (arith, c.constants.ensures, count_by-le-length (λ s. is_some (first_of c.args.query s)) c.args.start.now, c.requires.start, c.nodes-nodes.ensures.count, c.fit.ensures.inputs)

pub overflow_cast-later : goal.overflow_cast-later
overflow_cast-later c = omega (arith, c.requires.start, c.requires.nodes, c.fit.ensures.inputs)

pub overflow_add-later : goal.overflow_add-later
overflow_add-later c = omega (arith, c.requires.start, c.requires.nodes, c.fit.ensures.inputs)

pub overflow_sub-later : goal.overflow_sub-later
overflow_sub-later c = omega (arith, c.requires.start, c.nodes-nodes.ensures.count, c.fit.ensures.inputs)

pub overflow_mul-result : goal.overflow_mul-result
overflow_mul-result c =
    let few = few-frames c.args.query c.requires.query in
    let most = mul-le-mul {n₁ = c.frame_count.result - 1} {m₁ = c.nodes-nodes.result - (1 + length c.args.start.now)} {n₂ = 64} {m₂ = 30000000}
    (omega (arith, few, c.frame_count.ensures)) (omega (arith, c.nodes-nodes.ensures.count, c.requires.nodes)) in
    omega (arith, most)

pub overflow_add-result : goal.overflow_add-result
overflow_add-result c =
    let few = few-frames c.args.query c.requires.query in
    let most = mul-le-mul {n₁ = c.frame_count.result - 1} {m₁ = c.nodes-nodes.result - (1 + length c.args.start.now)} {n₂ = 64} {m₂ = 30000000}
    (omega (arith, few, c.frame_count.ensures)) (omega (arith, c.nodes-nodes.ensures.count, c.requires.nodes)) in
    omega (arith, most, c.nodes-nodes.ensures.count, c.requires.nodes)

pub returns-clause-few : goal.returns-clause-few
returns-clause-few c =
    let few = few-frames c.args.query c.requires.query in
    let most = mul-le-mul {n₁ = c.frame_count.result - 1} {m₁ = c.nodes-nodes.result - (1 + length c.args.start.now)} {n₂ = 64} {m₂ = 30000000}
    (omega (arith, few, c.frame_count.ensures)) (omega (arith, c.nodes-nodes.ensures.count, c.requires.nodes)) in
    omega (arith, most, c.nodes-nodes.ensures.count, c.requires.nodes)
