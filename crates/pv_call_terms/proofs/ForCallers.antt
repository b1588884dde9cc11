-- What proofs of crates above cite.
pub use Rattle.pv_call_terms.proofs.Small.{narrow_is}
pub use Rattle.pv_call_terms.proofs.Copied.{terms_joined, terms_count, operand_copied, terms_are_copied, ordered_joined, terms_stay_ordered}
pub use Rattle.pv_call_terms.proofs.DeedLaws.{plain_guard, plain_sets, seen_in, seen_at, guard_seen, sets_seen, guards_mean, sets_mean, plain_has, all_seen, all_later}
pub use Rattle.pv_call_terms.proofs.ResetLaws.{resets_are_made}
