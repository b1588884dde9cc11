use Rattle.std.proofs.Common.{arith, ap, sym}
use Rattle.pv_stl_run.specs.Going.{frame_end}
use Rattle.pv_stl_run.proofs.go.Going.goes_back.Goals as goal

pub returns-in-Ok-Some-clause-same : goal.returns-in-Ok-Some-clause-same
returns-in-Ok-Some-clause-same c = λ source calls act all k limit key w h nested back.
    let s = rw c.in-Ok-Some.field-0-is at c.in-Ok-Some.ensures.same in s source calls act all k limit key w h nested back

pub returns-in-Ok-Some-clause-most : goal.returns-in-Ok-Some-clause-most
returns-in-Ok-Some-clause-most c = λ bound.
    let s = rw c.in-Ok-Some.field-0-is at c.in-Ok-Some.ensures.most in omega (arith, s bound)

pub returns-in-Ok-None-clause-same : goal.returns-in-Ok-None-clause-same
returns-in-Ok-None-clause-same c = λ source calls act all k limit key w h nested back.
    let s = rw c.in-Ok-None.field-0-is at c.in-Ok-None.ensures.same in
    sym (ap frame_end (s source calls act all k limit key w h nested back))
