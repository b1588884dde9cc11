-- What proofs of the crates above take from here.
pub use Rattle.pv_rules_expr.proofs.Looking.{if_ok, near_append, near_called, near_two, next_parts}
pub use Rattle.pv_rules_expr.proofs.MemberLaws.{contains_has, has_behind, has_contains, has_either, has_front, is_later, later_is, taken_one}
pub use Rattle.pv_rules_expr.proofs.NearIndexes.{beyond_parts, beyond_path, divides_parts, misused_parts, misused_path, moving_parts}
pub use Rattle.pv_rules_expr.proofs.NearParts.{misapplied_any, misapplied_nearest, near_any, nearest_both, nearest_same, nearest_where, outside_any, outside_nearest}
pub use Rattle.pv_rules_expr.proofs.NearReads.{IsWrongAt, address_nearest, appended_from, appended_to, mapped_from, mapped_to, missing_name_parts, missing_nearest, name_nearest, not_callable_parts, reads_from, reads_to, wrong_address_parts}
pub use Rattle.pv_rules_expr.proofs.NearerLaws.{added_both, in_from, in_more, nearer_commutes, nearer_joins, nearer_none, nearer_pairs, nearer_swapped, parts_from, parts_more}
pub use Rattle.pv_rules_expr.proofs.NearestLists.{in_all_any, in_any, in_append, nearest_is, next_in}
pub use Rattle.pv_rules_expr.proofs.Nearing.{all_taken, any_has, has_any, itself, near_all, near_more, near_next, near_none, near_same, near_then, nearest_by}
