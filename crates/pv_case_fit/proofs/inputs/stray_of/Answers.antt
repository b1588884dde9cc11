use Rattle.std.proofs.Common.{map, ap}
use Rattle.std.specs.Prelude.{string_bytes, option_map}
use Rattle.pv_case.specs.Cases.{bound_data}
use Rattle.pv_case_fit.proofs.Listing.{stray_front, stray_behind}
use Rattle.pv_case_fit.proofs.inputs.stray_of.Goals as goal

pub returns-in-Some : goal.returns-in-Some
returns-in-Some c =
    stray_front c.args.cells.now (map string_bytes c.args.case.now.params.items) (map string_bytes c.as_slice.result.now)
    (map bound_data c.args.case.now.bind.items) (option_map (λ t. t.now) c.stray_param.result) c.in-Some.path.now
    (ap (map string_bytes) c.as_slice.ensures.value) c.stray_param.ensures (ap (option_map (λ t. t.now)) c.in-Some.is)

pub returns-in-None : goal.returns-in-None
returns-in-None c =
    stray_behind c.args.cells.now (map string_bytes c.args.case.now.params.items) (map string_bytes c.as_slice.result.now)
    c.args.case.now.bind.items c.as_slice-in-None.result.now (option_map (λ t. t.now) c.stray_param.result)
    (option_map (λ t. t.now) c.stray_bound.result) (ap (map string_bytes) c.as_slice.ensures.value)
    c.as_slice-in-None.ensures.value c.stray_param.ensures (ap (option_map (λ t. t.now)) c.in-None.is) c.stray_bound.ensures
