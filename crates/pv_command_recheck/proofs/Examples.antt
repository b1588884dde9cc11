-- Lines and statuses, found by hand.
use Rattle.std.proofs.Common.{◌≡◌, codes, refl}
use Rattle.std.specs.Fmt.{digits}
use Rattle.pv_log.specs.declared.fault.LineFault.TheVariants.{BadId}
use Rattle.pv_valid.specs.declared.fault.Kind.TheVariants.{NotACertificate, Line, NoEmpty, WrongQuery}
use Rattle.pv_command_verdict.specs.Handed.{of_table, of_fit, no_entry, pattern_text, as_any, case_form, source_form}
use Rattle.pv_command_recheck.specs.Certificates.{too_many_edges, too_many_gates, faulty}
use Rattle.pv_command_recheck.specs.Refusals.{as_first, by_certificate, recheck_refusal_status, recheck_refusal_line}

other_case : recheck_refusal_line (as_first (case_form (codes "c.json"))) ≡ codes "plcv: form c.json\n"
other_case = refl

other_source : recheck_refusal_line (as_first (source_form (codes "a.scl"))) ≡ codes "plcv: form a.scl\n"
other_source = refl

case_is_4 : recheck_refusal_status (as_first (case_form (codes "c.json"))) ≡ 4
case_is_4 = refl

source_is_3 : recheck_refusal_status (as_first (source_form (codes "a.scl"))) ≡ 3
source_is_3 = refl

entry_is_4 : recheck_refusal_status (as_first (as_any (of_table no_entry))) ≡ 4
entry_is_4 = refl

unread_text : recheck_refusal_line (as_first (as_any (of_fit (pattern_text 0)))) ≡ codes "plcv: case: PatternText a\n"
unread_text = refl

many_edges : recheck_refusal_line (by_certificate too_many_edges) ≡ codes "plcv: TooLarge edges 200000\n"
unfolding digits
many_edges = refl

edges_are_3 : recheck_refusal_status (by_certificate too_many_edges) ≡ 3
edges_are_3 = refl

many_gates : recheck_refusal_line (by_certificate too_many_gates) ≡ codes "plcv: TooLarge gates 1000000\n"
unfolding digits
many_gates = refl

gates_are_3 : recheck_refusal_status (by_certificate too_many_gates) ≡ 3
gates_are_3 = refl

bad_id : recheck_refusal_line (by_certificate (faulty 6 (Line BadId))) ≡ codes "plcv: certificate: line 6 BadId\n"
unfolding digits
bad_id = refl

no_empty : recheck_refusal_line (by_certificate (faulty 5 NoEmpty)) ≡ codes "plcv: certificate: line 5 NoEmpty\n"
unfolding digits
no_empty = refl

other_chain : recheck_refusal_line (by_certificate (faulty 4 WrongQuery)) ≡ codes "plcv: certificate: line 4 WrongQuery\n"
unfolding digits
other_chain = refl

no_certificate : recheck_refusal_line (by_certificate (faulty 12 NotACertificate)) ≡ codes "plcv: certificate: line 12 NotACertificate\n"
unfolding digits
no_certificate = refl

fault_is_8 : recheck_refusal_status (by_certificate (faulty 12 NotACertificate)) ≡ 8
fault_is_8 = refl
