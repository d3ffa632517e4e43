-- The laws of the core that other crates cite.
pub use Rattle.warp_core.proofs.Theory.Locals.{only_one, cut}
pub use Rattle.warp_core.proofs.Theory.Moves.{first_consistent}
pub use Rattle.warp_core.proofs.Theory.Runs.{step_keeps, steps_keep, core_law, committed_law, step_grows, steps_grow}
pub use Rattle.warp_core.proofs.Theory.PartRuns.{runs, round_keeps, sound_rebased, sound_raised, next_rebased, none_rebased, run_rebased}
pub use Rattle.warp_core.proofs.Theory.Later.{offers_late}
pub use Rattle.warp_core.proofs.Simulation.Instance.{is_world, is_monotone, same_after_all}
pub use Rattle.warp_core.proofs.Theory.Delivers.{take_falls}
pub use Rattle.warp_core.proofs.Theory.Sweeps.{takes_join, takes_consistent, takes_horizon, takes_end, swept_none, swept_rows, swept_nothing, swept_end, swept_took, swept_one, swept_no_one, swept_not, swept_row, swept_no_row, swept_measure, swept_empty, least_first, least_better, least_other}
pub use Rattle.warp_core.proofs.Theory.Settles.{settles_first, passing_first, passing_skips, passing_steps, settles_next, settles_falls, settles_done, finishing_first, finishing_skips, finishing_steps, finishing_done, may_commit, round_gives, round_moves, handed_out, pass_settles, pass_lags, two_passes}
pub use Rattle.warp_core.proofs.Theory.Commits.{own_base_kept, commit_keeps}
pub use Rattle.warp_core.proofs.Theory.Merging.{mergeable, merged_is}
pub use Rattle.warp_core.proofs.Theory.Forgets.{forgetful_keeps}
pub use Rattle.warp_core.proofs.Theory.Locals.{after_all_append, raised}
pub use Rattle.warp_core.proofs.Theory.Parts.{if_at_some, next_is, applied_sound, ended_sound, take_sound}
pub use Rattle.warp_core.proofs.Theory.Later.{unwound, not_before_clock}
pub use Rattle.warp_core.proofs.Theory.Accepted.{none_or_op, accepted_from, tested_put, put_tested}
pub use Rattle.warp_core.proofs.Theory.Cuts.{at_below, at_from, below_below, below_all, below_from}
-- What holds of a surface on its ground, of entries and of what a cut puts: a region at work has the same.
pub use Rattle.warp_core.proofs.Machine.Runs.{led, events-append, events-below, events-from}
pub use Rattle.warp_core.proofs.Machine.Ground.{sites-append, ground_sites, ground_lattice, ground_species, ground_bounds, ground_room, step_by, push_ground, cut_ground, drop_ground, run_places, is_later, rising_right, all_right}
pub use Rattle.warp_core.proofs.Machine.Fitting.{products_below}
pub use Rattle.warp_core.proofs.Machine.First.{fresh_sites}
pub use Rattle.warp_core.proofs.Machine.Scans.{place_at}
-- How the next entry is found.
pub use Rattle.warp_core.proofs.Machine.Chosen.{IsBest, best_start, best_from, best_next, best_none}
pub use Rattle.warp_core.proofs.Machine.Homes.{puts_at}
