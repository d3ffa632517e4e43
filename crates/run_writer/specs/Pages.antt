-- What a writer has written, where some of it may still wait to go out.
use Rattle.std.specs.Prelude.{◌≡◌, ℕ, ◌≤◌, List, [], ◌++◌, Option, Result, Ok, Err}
use Rattle.std.specs.Io.KnownBytes.{Appends}
use Rattle.surf_outside.specs.Causes.{Rose}
use Rattle.surf_outside.specs.Known.{AppendsPrefix}
use Rattle.run_writer.specs.declared.pages.Stop.{Stop}
use Rattle.run_writer.specs.declared.pages.Stop.TheVariants as stops

-- a list of bytes that grows, and how often memory ran out for it
pub record Waiting : Type 0 where
  pub bytes : List ℕ
  pub faults : ℕ

-- what the sink holds, its count of faults, and the bytes that haven't gone out yet
pub record Page : Type 0 where
  pub written : Option (List ℕ)
  pub faults : ℕ
  pub pending : List ℕ

abbrev pub page : Option (List ℕ) → ℕ → Waiting → Page
page written faults w = record { written = written; faults = faults; pending = w.bytes }

-- a text was written: the first of what pended and of the text were sent, and the rest pends
pub record Wrote (old new : Page) (text : List ℕ) : Type 0 where
  pub sent : List ℕ
  pub gone : Appends old.written new.written sent
  pub rest : old.pending ++ text ≡ sent ++ new.pending
  pub later : old.faults ≤ new.faults

-- the write of a text fails at a fault of the sink, or for want of memory
abbrev pub IsFailure : Stop → ℕ → ℕ → Type 0
IsFailure stops.Limit old new = ⊥
IsFailure stops.Write old new = Rose old new
IsFailure stops.Memory old new = Unit {0}

-- a prefix of what pended and of the text went out, and then the outside or memory failed
pub record Stopped (old new : Page) (text : List ℕ) (stop : Stop) : Type 0 where
  pub prefix : AppendsPrefix old.written new.written (old.pending ++ text)
  pub later : old.faults ≤ new.faults
  pub cause : IsFailure stop old.faults new.faults

-- what a call that writes this text leaves
abbrev pub Puts : {T : Type 0} → Page → Page → List ℕ → Result T Stop → Type 0
Puts old new text (Ok x) = Wrote old new text
Puts old new text (Err stop) = Stopped old new text stop

-- a text was written, and all of it has gone out
pub record Sent (old new : Page) (text : List ℕ) : Type 0 where
  pub wrote : Wrote old new text
  pub none : new.pending ≡ []

-- what a call leaves that stops behind this text, at the limit, or within it
abbrev pub StopsWith : Page → Page → List ℕ → Stop → Type 0
StopsWith old new text stops.Limit = Sent old new text
StopsWith old new text stops.Write = Stopped old new text stops.Write
StopsWith old new text stops.Memory = Stopped old new text stops.Memory

-- what a call leaves that sends this text to its end
abbrev pub Sends : {T : Type 0} → Page → Page → List ℕ → Result T Stop → Type 0
Sends old new text (Ok x) = Sent old new text
Sends old new text (Err stop) = StopsWith old new text stop
