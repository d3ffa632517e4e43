-- The status and the message of an ending are those of its answer.
use Rattle.std.proofs.Common.{rules, ◌≡◌, ◌⊎◌, inl, inr, ℕ, Bool, true, false, List, [], ◌∷◌, ◌++◌, Option, refl, sym, ap}
use Rattle.std.specs.Prelude.{codes}
use Rattle.surf_outside.specs.Known.{AppendsPrefix}
use Rattle.surf_outside.proofs.LawLemmas.{prefix_whole}
use Rattle.surf_kinds.specs.declared.status.Status.{Status}
use Rattle.surf_kinds.specs.declared.status.Status.TheVariants as status
use Rattle.surface_top.specs.declared.ending.Ending.{Ending}
use Rattle.surface_top.specs.declared.ending.Ending.TheVariants as ending
use Rattle.surface_top.specs.Answer.{Answer, BadManifest, BadCircuit, BadNetlist, text_of}
use Rattle.surface_top.specs.Ending.{status_of, answer_by, IsEndingOf}
use Rattle.surface_top.specs.Outcome.{is_over, are_too_many, has_too_many_nets, limit_or_faulty, own_status, IsStatusOf, OutGains, answer_note, message}

own_or : (over : Bool) (a : Answer) → own_status a ≡ limit_or_faulty over → IsStatusOf (limit_or_faulty over) a
own_or true a h = h
own_or false a h = h

-- the status of an ending is one of its answer's
pub status_is : (e : Ending) (a : Answer) → IsEndingOf e a → IsStatusOf (status_of e) a
status_is ending.Done a h = ap own_status h.1
status_is (ending.WrongWord index) a h = ap own_status h
status_is ending.TooLong a h = ap own_status h
status_is (ending.BadManifest fault) a h = own_or (is_over fault.kind) a (ap own_status h)
status_is (ending.BadCircuit fault) a h = own_or (are_too_many fault.kind) a (ap own_status h)
status_is (ending.BadNetlist fault) a h = own_or (has_too_many_nets fault.kind) a (ap own_status h)
status_is (ending.WrongInputs expected given) a h = ap own_status h
status_is (ending.TooManySites sites) a h = ap own_status h
status_is (ending.EventLimit limit) a h = ap own_status h.1
status_is ending.ReadFault a h = tt
status_is ending.WriteFault a h = tt
status_is ending.Memory a h = tt

noted : (over : Bool) (a b : Answer) → answer_note a ≡ answer_note b → message (limit_or_faulty over) a ≡ message (limit_or_faulty over) b
unfolding message
noted true a b h = h
noted false a b h = h

-- the message of an ending is its answer's
pub message_is : (e : Ending) (a : Answer) → IsEndingOf e a → message (status_of e) (answer_by e) ≡ message (status_of e) a
unfolding message
message_is ending.Done a h = sym (ap answer_note h.1)
message_is (ending.WrongWord index) a h = sym (ap answer_note h)
message_is ending.TooLong a h = sym (ap answer_note h)
message_is (ending.BadManifest fault) a h = noted (is_over fault.kind) (BadManifest fault) a (sym (ap answer_note h))
message_is (ending.BadCircuit fault) a h = noted (are_too_many fault.kind) (BadCircuit fault) a (sym (ap answer_note h))
message_is (ending.BadNetlist fault) a h = noted (has_too_many_nets fault.kind) (BadNetlist fault) a (sym (ap answer_note h))
message_is (ending.WrongInputs expected given) a h = sym (ap answer_note h)
message_is (ending.TooManySites sites) a h = sym (ap answer_note h)
message_is (ending.EventLimit limit) a h = sym (ap answer_note h.1)
message_is ending.ReadFault a h = refl
message_is ending.WriteFault a h = refl
message_is ending.Memory a h = refl

-- whatever the status, a prefix of the text was written
pub out_prefix : (s : Status) (a : Answer) (old new : Option (List ℕ)) → OutGains s a old new → AppendsPrefix old new (text_of a)
out_prefix status.WriteFault a old new h = h
out_prefix status.Memory a old new h = h
out_prefix status.ReadFault a old new h = (0, h)
out_prefix status.Done a old new h = prefix_whole old new _ h
out_prefix status.Words a old new h = prefix_whole old new _ h
out_prefix status.Faulty a old new h = prefix_whole old new _ h
out_prefix status.Limit a old new h = prefix_whole old new _ h

-- without a fault the status is the answer's own, unless memory ran out
pub complete_of : (s : Status) (a : Answer) (R W : Type 0) → IsStatusOf s a → (s ≡ status.ReadFault → R) → (s ≡ status.WriteFault → W) → (R → ⊥) → (W → ⊥) → (s ≡ own_status a) ⊎ (s ≡ status.Memory)
complete_of status.Done a R W h r w nr nw = inl (sym h)
complete_of status.Words a R W h r w nr nw = inl (sym h)
complete_of status.Faulty a R W h r w nr nw = inl (sym h)
complete_of status.Limit a R W h r w nr nw = inl (sym h)
complete_of status.ReadFault a R W h r w nr nw = absurd (nr (r refl))
complete_of status.WriteFault a R W h r w nr nw = absurd (nw (w refl))
complete_of status.Memory a R W h r w nr nw = inr refl

not_read : (over : Bool) → limit_or_faulty over ≡ status.ReadFault → ⊥
not_read true h = search rules
not_read false h = search rules

not_write : (over : Bool) → limit_or_faulty over ≡ status.WriteFault → ⊥
not_write true h = search rules
not_write false h = search rules

-- an ending with the status of a fault of the outside is that fault

pub read_fault : (e : Ending) → status_of e ≡ status.ReadFault → e ≡ ending.ReadFault
read_fault ending.ReadFault h = refl
read_fault ending.Done h = search rules
read_fault (ending.WrongWord index) h = search rules
read_fault ending.TooLong h = search rules
read_fault (ending.BadManifest fault) h = absurd (not_read (is_over fault.kind) h)
read_fault (ending.BadCircuit fault) h = absurd (not_read (are_too_many fault.kind) h)
read_fault (ending.BadNetlist fault) h = absurd (not_read (has_too_many_nets fault.kind) h)
read_fault (ending.WrongInputs expected given) h = search rules
read_fault (ending.TooManySites sites) h = search rules
read_fault (ending.EventLimit limit) h = search rules
read_fault ending.WriteFault h = search rules
read_fault ending.Memory h = search rules

pub write_fault : (e : Ending) → status_of e ≡ status.WriteFault → e ≡ ending.WriteFault
write_fault ending.WriteFault h = refl
write_fault ending.Done h = search rules
write_fault (ending.WrongWord index) h = search rules
write_fault ending.TooLong h = search rules
write_fault (ending.BadManifest fault) h = absurd (not_write (is_over fault.kind) h)
write_fault (ending.BadCircuit fault) h = absurd (not_write (are_too_many fault.kind) h)
write_fault (ending.BadNetlist fault) h = absurd (not_write (has_too_many_nets fault.kind) h)
write_fault (ending.WrongInputs expected given) h = search rules
write_fault (ending.TooManySites sites) h = search rules
write_fault (ending.EventLimit limit) h = search rules
write_fault ending.ReadFault h = search rules
write_fault ending.Memory h = search rules

pub memory_message : (a : Answer) → codes "memory" ++ 10 ∷ [] ≡ message status.Memory a
unfolding message
memory_message a = refl

not_done : (over : Bool) → limit_or_faulty over ≡ status.Done → ⊥
not_done true h = search rules
not_done false h = search rules

-- an ending with status 0 is that of a call that is done
pub done_is : (e : Ending) → status_of e ≡ status.Done → e ≡ ending.Done
done_is ending.Done h = refl
done_is (ending.WrongWord index) h = search rules
done_is ending.TooLong h = search rules
done_is (ending.BadManifest fault) h = absurd (not_done (is_over fault.kind) h)
done_is (ending.BadCircuit fault) h = absurd (not_done (are_too_many fault.kind) h)
done_is (ending.BadNetlist fault) h = absurd (not_done (has_too_many_nets fault.kind) h)
done_is (ending.WrongInputs expected given) h = search rules
done_is (ending.TooManySites sites) h = search rules
done_is (ending.EventLimit limit) h = search rules
done_is ending.ReadFault h = search rules
done_is ending.WriteFault h = search rules
done_is ending.Memory h = search rules
