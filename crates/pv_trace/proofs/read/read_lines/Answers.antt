use Rattle.std.proofs.Common.{◌≡◌, rules, sym, ap, ◌∙◌, ◌++◌, ◌∷◌, codes}
use Rattle.pv_trace.proofs.Reading.{fails-first, fails-second, later-fault, read-whole, at-none, at-some, other-line, no-whole-line, passed-on}
use Rattle.pv_trace.proofs.read.read_lines.Goals as goal

pub returns-in_default : goal.returns-in_default
returns-in_default c = fails-first c.args.params.now c.args.inputs.now c.args.bytes.now c.requires.params c.requires.inputs
    (λ next after plain e is. no-whole-line c.args.bytes.now next after c.in_default.ensures.none e)

pub returns-then-not-is_same : goal.returns-then-not-is_same
returns-then-not-is_same c = fails-first c.args.params.now c.args.inputs.now c.args.bytes.now c.requires.params c.requires.inputs
    (λ next after plain e is. (
    let same = other-line c.args.bytes.now next after c.in-Some.head.now c.in-Some.rest.now plain c.in-Some.ensures.found.0 e c.in-Some.ensures.found.1 in
    let yes = c.is_same.ensures.1 (sym same ∙ is) in search rules))

pub returns-in_default-cut_line : goal.returns-in_default-cut_line
returns-in_default-cut_line c =
    let head : c.in-Some.head.now ≡ codes "PLCVTRACE 1" = search rules in
    fails-second c.args.params.now c.args.inputs.now c.args.bytes.now c.in-Some.head.now c.in-Some.rest.now c.requires.params c.requires.inputs c.in-Some.ensures.found.1 head
    (λ next after plain e values are is. no-whole-line c.in-Some.rest.now next after c.in_default-cut_line.ensures.none e)

pub returns-in_default-2 : goal.returns-in_default-2
returns-in_default-2 c =
    let head : c.in-Some.head.now ≡ codes "PLCVTRACE 1" = search rules in
    fails-second c.args.params.now c.args.inputs.now c.args.bytes.now c.in-Some.head.now c.in-Some.rest.now c.requires.params c.requires.inputs c.in-Some.ensures.found.1 head
    (λ next after plain e values are is.
    at-none _ _ c.in_ok-values.field-0 c.in_default-2.is c.in_ok-values.ensures values are
    (sym (other-line c.in-Some.rest.now next after c.in-Some-cut_line.line.now c.in-Some-cut_line.rest.now plain c.in-Some-cut_line.ensures.found.0 e c.in-Some-cut_line.ensures.found.1) ∙ is))

pub returns-in_err-scans : goal.returns-in_err-scans
returns-in_err-scans c =
    let head : c.in-Some.head.now ≡ codes "PLCVTRACE 1" = search rules in
    let values = at-some _ _ c.in_ok-values.field-0 c.in-Some-2.values c.in-Some-2.is c.in_ok-values.ensures in
    let all = c.in-Some.ensures.found.1 ∙ ap (λ r. c.in-Some.head.now ++ 10 ∷ r) c.in-Some-cut_line.ensures.found.1 in
    let fault = later-fault c.args.params.now c.args.inputs.now c.args.bytes.now c.in-Some.head.now c.in-Some-cut_line.line.now c.in-Some-cut_line.rest.now c.in-Some-2.values c.in_err-scans.field-0.0
    c.requires.params c.requires.inputs all head values.0 values.1 c.in_err-scans.ensures in
    passed-on c.args.params.now c.args.inputs.now c.args.bytes.now c.from_residual-in_err-scans.result c.in_err-scans.field-0.0 c.from_residual-in_err-scans.ensures.1 fault

pub returns : goal.returns
returns c =
    let head : c.in-Some.head.now ≡ codes "PLCVTRACE 1" = search rules in
    let values = at-some _ _ c.in_ok-values.field-0 c.in-Some-2.values c.in-Some-2.is c.in_ok-values.ensures in
    let all = c.in-Some.ensures.found.1 ∙ ap (λ r. c.in-Some.head.now ++ 10 ∷ r) c.in-Some-cut_line.ensures.found.1 in
    read-whole c.args.params.now c.args.inputs.now c.args.bytes.now c.in-Some.head.now c.in-Some-cut_line.line.now c.in-Some-cut_line.rest.now c.in-Some-2.values c.in_ok-scans.scans
    all head values.0 values.1 c.in_ok-scans.ensures.0 c.in_ok-scans.ensures.1
