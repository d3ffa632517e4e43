-- Texts that are written one after the other.
use Rattle.std.proofs.Common.{◌≡◌, ℕ, ◌≤◌, List, [], ◌++◌, Option, Some, None, sym, ap, ◌∙◌, append_assoc, append-nil, arith, subst}
use Rattle.std.specs.Prelude.{Result, Ok, Err}
use Rattle.std.specs.Io.KnownBytes.{Appends}
use Rattle.surf_outside.specs.Causes.{Rose}
use Rattle.surf_outside.specs.Known.{AppendsPrefix}
use Rattle.surf_outside.proofs.LawLemmas.{appends_more, prefix_more, prefix_longer}
use Rattle.run_writer.specs.declared.pages.Stop.{Stop}
use Rattle.run_writer.specs.declared.pages.Stop.TheVariants as stops
use Rattle.run_writer.specs.Pages.{Page, Wrote, Stopped, Puts, Sent, StopsWith, Sends, IsFailure}

pub appends_none : (a : Option (List ℕ)) → Appends a a []
appends_none None = tt
appends_none (Some xs) = sym (append-nil xs)

-- nothing was written
pub wrote_nothing : (a : Page) → Wrote a a []
wrote_nothing a = record { sent = []; gone = appends_none a.written; rest = append-nil a.pending; later = omega arith }

-- one text and then another
pub wrote_more : (a b c : Page) (x y : List ℕ) → Wrote a b x → Wrote b c y → Wrote a c (x ++ y)
wrote_more a b c x y p q = record {
  sent = p.sent ++ q.sent;
  gone = appends_more a.written b.written c.written p.sent q.sent p.gone q.gone;
  rest = sym (append_assoc a.pending x y) ∙ (ap (λ l. l ++ y) p.rest ∙ (append_assoc p.sent b.pending y ∙ (ap (λ l. p.sent ++ l) q.rest ∙ sym (append_assoc p.sent q.sent c.pending))));
  later = omega (arith, p.later, q.later);
}

failure_before : (stop : Stop) (n m k : ℕ) → n ≤ m → IsFailure stop m k → IsFailure stop n k
failure_before stops.Limit n m k h c = absurd c
failure_before stops.Write n m k h c = omega (arith, h, c)
failure_before stops.Memory n m k h c = tt

-- one text, and then a failure within another
pub stopped_after : (a b c : Page) (x y : List ℕ) (stop : Stop) → Wrote a b x → Stopped b c y stop → Stopped a c (x ++ y) stop
stopped_after a b c x y stop p q = record {
  prefix = subst (AppendsPrefix a.written c.written)
      (sym (sym (append_assoc a.pending x y) ∙ (ap (λ l. l ++ y) p.rest ∙ append_assoc p.sent b.pending y)))
      (prefix_more a.written b.written c.written p.sent (b.pending ++ y) p.gone q.prefix);
  later = omega (arith, p.later, q.later);
  cause = failure_before stop a.faults b.faults c.faults p.later q.cause;
}

pub puts_after : {T : Type 0} (a b c : Page) (x y : List ℕ) (r : Result T Stop) → Wrote a b x → Puts b c y r → Puts a c (x ++ y) r
puts_after a b c x y (Ok v) p q = wrote_more a b c x y p q
puts_after a b c x y (Err stop) p q = stopped_after a b c x y stop p q

-- a failure within a text is one within a longer text
pub stopped_longer : (a b : Page) (x y : List ℕ) (stop : Stop) → Stopped a b x stop → Stopped a b (x ++ y) stop
stopped_longer a b x y stop p = record {
  prefix = subst (AppendsPrefix a.written b.written) (append_assoc a.pending x y) (prefix_longer a.written b.written (a.pending ++ x) y p.prefix);
  later = p.later;
  cause = p.cause;
}

-- all that pended was sent
pub wrote_all : (a b : Page) (x : List ℕ) → Wrote a b x → a.pending ≡ [] → b.pending ≡ [] → Appends a.written b.written x
wrote_all a b x p h k =
    subst (Appends a.written b.written) (sym (append-nil p.sent) ∙ (ap (λ l. p.sent ++ l) (sym k) ∙ (sym p.rest ∙ ap (λ l. l ++ x) h))) p.gone

-- the text that was written is a whole text
pub sent_as : (a b : Page) (x y : List ℕ) → x ≡ y → Sent a b x → Sent a b y
sent_as a b x y e p = subst (Sent a b) e p

-- what stopped with a text, stopped so behind another
pub stops_after : (a b c : Page) (x y : List ℕ) (stop : Stop) → Wrote a b x → StopsWith b c y stop → StopsWith a c (x ++ y) stop
stops_after a b c x y stops.Limit p q = record { wrote = wrote_more a b c x y p q.wrote; none = q.none }
stops_after a b c x y stops.Write p q = stopped_after a b c x y stops.Write p q
stops_after a b c x y stops.Memory p q = stopped_after a b c x y stops.Memory p q

pub sends_after : {T : Type 0} (a b c : Page) (x y : List ℕ) (r : Result T Stop) → Wrote a b x → Sends b c y r → Sends a c (x ++ y) r
sends_after a b c x y (Ok v) p q = record { wrote = wrote_more a b c x y p q.wrote; none = q.none }
sends_after a b c x y (Err stop) p q = stops_after a b c x y stop p q

-- a failure within the first part of a text stops the whole of it
pub stops_within : (a b : Page) (x y : List ℕ) (stop : Stop) → Stopped a b x stop → StopsWith a b (x ++ y) stop
stops_within a b x y stops.Limit p = absurd p.cause
stops_within a b x y stops.Write p = stopped_longer a b x y stops.Write p
stops_within a b x y stops.Memory p = stopped_longer a b x y stops.Memory p

-- a text went out past what waits, where nothing does

pub sent_directly : (a b : Page) (written : Option (List ℕ)) (faults : ℕ) (x : List ℕ) → Wrote a b [] → b.pending ≡ [] → Appends b.written written x → b.faults ≤ faults → Wrote a (record { written = written; faults = faults; pending = b.pending }) x
sent_directly a b written faults x p none gone later =
    let c : Page = record { written = written; faults = faults; pending = b.pending } in
    wrote_more a b c [] x p (record { sent = x; gone = gone; rest = ap (λ l. l ++ x) none ∙ (sym (append-nil x) ∙ ap (λ l. x ++ l) (sym none)); later = later })

pub stopped_directly : (a b : Page) (written : Option (List ℕ)) (faults : ℕ) (x : List ℕ) → Wrote a b [] → b.pending ≡ [] → AppendsPrefix b.written written x → b.faults ≤ faults → Rose b.faults faults → Stopped a (record { written = written; faults = faults; pending = b.pending }) x stops.Write
stopped_directly a b written faults x p none some later rose =
    let c : Page = record { written = written; faults = faults; pending = b.pending } in
    stopped_after a b c [] x stops.Write p (record { prefix = subst (λ l. AppendsPrefix b.written written (l ++ x)) (sym none) some; later = later; cause = rose })
