-- What contracts see of a call of a program.
use Rattle.std.specs.Prelude.{ℕ, List, map, drop, Option, string_bytes}
use Rattle.surface_top.specs.Outcome.{Outside, outside, source_view, sink_view}
use Rattle.program_call.specs.declared.call.Call.{Call}

-- the words behind the name of the program
abbrev pub words_of : {S O N : Type 0} → Call S O N → List (List ℕ)
words_of call = map string_bytes (drop 1 call.words.items)

-- its streams, by what a source and a sink tell of their bytes and their faults
abbrev pub outside_of : {S O N : Type 0} → (S → Option (List ℕ)) → (S → ℕ) → (O → Option (List ℕ)) → (O → ℕ) → (N → Option (List ℕ)) → (N → ℕ) → Call S O N → Outside
outside_of unread faults written out_faults noted notes_faults call =
    outside (source_view (unread call.source) (faults call.source)) (sink_view (written call.out) (out_faults call.out)) (sink_view (noted call.notes) (notes_faults call.notes))
