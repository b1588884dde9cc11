-- The block that a call begins, or none.
use Rattle.std.proofs.Common.{◌≡◌, ℕ, zero, suc, Some, None, refl, ap, subst, ◌∙◌}
use Rattle.std.specs.Prelude.{slice_get}
use Rattle.pv_tree.specs.Tree.{BlockTree}
use Rattle.pv_tree.specs.Callees.{CallSite, Callee, runs, not_declared, not_callable, unknown, callee_of}
use Rattle.pv_mean.specs.Sources.{Source}
use Rattle.pv_mean.specs.Frames.{Frame}
use Rattle.pv_mean.specs.Activations.{Activation}
use Rattle.pv_mean.specs.Calls.{not_made, run_callee, run_body, calls_within}
use Rattle.pv_eval.specs.Means.{activation}
use Rattle.pv_run.specs.declared.program.Called.{Called}
use Rattle.pv_run.specs.declared.program.Code.{Code}
use Rattle.pv_run.specs.declared.program.Program.{Program}
use Rattle.pv_run.specs.declared.program.At.{At}
use Rattle.pv_run.specs.Code.{first_of, code_at, RunsSo, IsCall, IsProgram}
use Rattle.pv_run.specs.Runs.{Begins}
use Rattle.pv_run.proofs.Lists.{the_one, not_both}

-- a call that runs no block isn't made
not_run : (source : Source) (block : BlockTree) (p : Program) (call : Called) (n : ℕ) (caller : Activation) (site : CallSite)
    (frame : Frame) (c : Callee)
    → RunsSo source block p call site None c
    → run_callee source (λ callee f. run_body source (calls_within source n) callee f) caller site c frame ≡ not_made frame
not_run source block p call n caller site frame (runs b) r = absurd r
not_run source block p call n caller site frame (not_declared place) r = refl
not_run source block p call n caller site frame (not_callable place) r = refl
not_run source block p call n caller site frame unknown r = refl

pub runs_none : (source : Source) (block : BlockTree) (p : Program) (c n first : ℕ) (site : CallSite) (frame : Frame) (call : Called)
    → IsCall source block p c site → slice_get p.calls.items c ≡ Some call → call.block ≡ None
    → calls_within source n (activation block first) site frame ≡ not_made frame
runs_none source block p c zero first site frame call is at e = refl
runs_none source block p c (suc n) first site frame call is at e =
    let same = the_one (slice_get p.calls.items c) is.call call is.at at in
    not_run source block p is.call n (activation block first) site frame (callee_of
    (record { project = source.project; block = block }) site)
    (subst (λ b. RunsSo source block p is.call site b (callee_of (record { project = source.project; block = block }) site))
    (ap (λ x. x.block) same ∙ e) is.runs)

code_missing : (source : Source) (block : BlockTree) (p : Program) (call : Called) (site : CallSite) (n : ℕ) (c : Callee)
    → IsProgram source p
    → RunsSo source block p call site (Some n) c → code_at p n ≡ None → ⊥
code_missing source block p call site n (runs b) program r e = not_both (code_at p n) r.made.0 r.made.1 e
code_missing source block p call site n (not_declared place) program r e = r
code_missing source block p call site n (not_callable place) program r e = r
code_missing source block p call site n unknown program r e = r

pub no_code : (source : Source) (block : BlockTree) (p : Program) (c n : ℕ) (site : CallSite) (call : Called) → IsProgram source p
    → IsCall source block p c site → slice_get p.calls.items c ≡ Some call → call.block ≡ Some n → code_at p n ≡ None → ⊥
no_code source block p c n site call program is at e missing =
    let same = the_one (slice_get p.calls.items c) is.call call is.at at in
    code_missing source block p is.call site n (callee_of (record { project = source.project; block = block }) site) program
    (subst (λ b. RunsSo source block p is.call site b (callee_of (record { project = source.project; block = block }) site))
    (ap (λ x. x.block) same ∙ e) is.runs) missing

begins_with : (source : Source) (block : BlockTree) (p : Program) (at inside : At) (call : Called) (site : CallSite) (n : ℕ) (c : Callee)
    → callee_of (record { project = source.project; block = block }) site ≡ c → IsProgram source p
    → RunsSo source block p call site (Some n) c → (code : Code) → code_at p n ≡ Some code
    → inside.first ≡ first_of at.first call.first
    → Begins source block p at site (record { call = call; code = code; at = inside })
begins_with source block p at inside call site n (runs b) e program r code is first = record {
  callee = b;
  number = n;
  is = e;
  runs_block = r;
  code = program.code n b code r.number is;
  first = first ∙ r.first at.first;
}
begins_with source block p at inside call site n (not_declared place) e program r code is first = absurd r
begins_with source block p at inside call site n (not_callable place) e program r code is first = absurd r
begins_with source block p at inside call site n unknown e program r code is first = absurd r

pub begins : (source : Source) (block : BlockTree) (p : Program) (c n : ℕ) (at inside : At) (site : CallSite) (call : Called)
    → IsProgram source p
    → IsCall source block p c site → slice_get p.calls.items c ≡ Some call → call.block ≡ Some n
    → (code : Code) → code_at p n ≡ Some code → inside.first ≡ first_of at.first call.first
    → Begins source block p at site (record { call = call; code = code; at = inside })
begins source block p c n at inside site call program is found e code there first =
    let same = the_one (slice_get p.calls.items c) is.call call is.at found in
    let scope = callee_of (record { project = source.project; block = block }) site in
    begins_with source block p at inside call site n scope refl program
    (subst (λ b. RunsSo source block p call site b scope) e (subst (λ x. RunsSo source block p x site x.block scope) same is.runs))
    code there first
