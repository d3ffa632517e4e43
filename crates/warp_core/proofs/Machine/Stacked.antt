-- Stacks after a message.
use Rattle.std.proofs.Common.{◌≡◌, ℕ, ◌<◌, ◌==◌, List, [], length, sym, ap, ◌∙◌, slice_index_or, slice_set, inl, inr, cond, if◌then◌else◌}
use Rattle.std.proofs.lemmas.List.{get_or-set_same, get_or-set_other}
use Rattle.std.proofs.lemmas.Bool.Decides.{eqb_tells}
use Rattle.surf_kinds.specs.declared.event.Event.{Event}
use Rattle.border.specs.declared.op.Op.{Op}
use Rattle.border.specs.Messages.{replay_one}

pub stack_replayed : (stacks : List (List Event)) (sender : ℕ) (op : Op) (s : ℕ) → sender < length stacks
    → slice_index_or (slice_set stacks sender (replay_one (slice_index_or stacks sender []) op)) s [] ≡ (if s == sender then replay_one (slice_index_or stacks s []) op else slice_index_or stacks s [])
stack_replayed stacks sender op s h =
    elim (eqb_tells s sender) [
      | inl q ↦
          ap (λ n. slice_index_or (slice_set stacks sender (replay_one (slice_index_or stacks sender []) op)) n []) q.1
          ∙ (get_or-set_same stacks sender (replay_one (slice_index_or stacks sender []) op) [] h
          ∙ (ap (λ n. replay_one (slice_index_or stacks n []) op) (sym q.1)
          ∙ ap (λ t. cond t (replay_one (slice_index_or stacks s []) op) (slice_index_or stacks s [])) (sym q.0)))
      | inr q ↦
          get_or-set_other stacks sender s (replay_one (slice_index_or stacks sender []) op) [] q.1
          ∙ ap (λ t. cond t (replay_one (slice_index_or stacks s []) op) (slice_index_or stacks s [])) (sym q.0)
    ]
