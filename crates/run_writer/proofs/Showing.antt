-- The surfaces of sampling ticks, one after the other.
use Rattle.std.proofs.Common.{◌≡◌, ℕ, ◌<◌, List, [], ◌∷◌, ◌++◌, refl, sym, ap, ◌∙◌, append_assoc, append-nil, subst}
use Rattle.trace_text.specs.Lines.{surface_text}
use Rattle.run_writer.specs.declared.pages.Stop.{Stop}
use Rattle.run_writer.specs.declared.writer.Writer.{Writer}
use Rattle.run_writer.specs.Pages.{Page, Waiting, Wrote, Stopped}
use Rattle.run_writer.specs.RunText.{Scene, shown, ticks_before, ticks_from}
use Rattle.run_writer.specs.Writing.{reached_of}
use Rattle.run_writer.proofs.Written.{wrote_nothing, wrote_more, stopped_after, stopped_longer}
use Rattle.run_writer.proofs.Sampling.{before_more, from_more, from_all}

-- the surfaces of the first ticks before a time were written
pub record Showing (s : Scene) (w v : Writer) (time : ℕ) (a b : Page) : Type 0 where
  pub text : List ℕ
  pub wrote : Wrote a b text
  pub rest : shown s (reached_of w) (ticks_before time w.ticks) ≡ text ++ shown s (reached_of w) (ticks_before time v.ticks)
  pub ticks : ticks_from time w.ticks ≡ ticks_from time v.ticks
  pub same : v ≡ record w { ticks = v.ticks; buffer = v.buffer }

pub showing_start : (s : Scene) (w : Writer) (time : ℕ) (a : Page) → Showing s w w time a a
showing_start s w time a = record { text = []; wrote = wrote_nothing a; rest = refl; ticks = refl; same = refl }

-- the surface that is shown next
the_text : Scene → Writer → ℕ → List ℕ
the_text s w tick = surface_text s.names s.network.lattice w.surface.sites tick w.events

one_more : (s : Scene) (w v : Writer) (time tick : ℕ) (rest : List ℕ) (a b : Page) (h : Showing s w v time a b) → tick < time → v.ticks ≡ tick ∷ rest
    → shown s (reached_of w) (ticks_before time w.ticks) ≡ (h.text ++ surface_text s.names s.network.lattice v.surface.sites tick v.events) ++ shown s (reached_of w) (ticks_before time rest)
one_more s w v time tick rest a b h lt is =
    let text = surface_text s.names s.network.lattice v.surface.sites tick v.events in
    let next : ticks_before time v.ticks ≡ tick ∷ ticks_before time rest = ap (ticks_before time) is ∙ before_more time tick rest lt in
    let here : surface_text s.names s.network.lattice w.surface.sites tick w.events ≡ text = sym (ap (λ (x : Writer). surface_text s.names s.network.lattice x.surface.sites tick x.events) h.same) in
    h.rest
    ∙ (ap (λ l. h.text ++ shown s (reached_of w) l) next
    ∙ (ap (λ l. h.text ++ (l ++ shown s (reached_of w) (ticks_before time rest))) here
    ∙ sym (append_assoc h.text text (shown s (reached_of w) (ticks_before time rest)))))

pub showing_step : (s : Scene) (w v : Writer) (time tick : ℕ) (rest : List ℕ) (a b c : Page) (buffer : Waiting) → Showing s w v time a b → tick < time → v.ticks ≡ tick ∷ rest
    → Wrote b c (surface_text s.names s.network.lattice v.surface.sites tick v.events) → Showing s w (record v { ticks = rest; buffer = buffer }) time a c
showing_step s w v time tick rest a b c buffer h lt is p = record {
  text = h.text ++ surface_text s.names s.network.lattice v.surface.sites tick v.events;
  wrote = wrote_more a b c h.text (surface_text s.names s.network.lattice v.surface.sites tick v.events) h.wrote p;
  rest = one_more s w v time tick rest a b h lt is;
  ticks = h.ticks ∙ (ap (ticks_from time) is ∙ from_more time tick rest lt);
  same = ap (λ (x : Writer). record x { ticks = rest; buffer = buffer }) h.same;
}

-- a surface was not written to its end
pub showing_stops : (s : Scene) (w v : Writer) (time tick : ℕ) (rest : List ℕ) (a b c : Page) (stop : Stop) → Showing s w v time a b → tick < time → v.ticks ≡ tick ∷ rest
    → Stopped b c (surface_text s.names s.network.lattice v.surface.sites tick v.events) stop → Stopped a c (shown s (reached_of w) (ticks_before time w.ticks)) stop
showing_stops s w v time tick rest a b c stop h lt is p =
    let text = surface_text s.names s.network.lattice v.surface.sites tick v.events in
    subst (λ l. Stopped a c l stop) (sym (one_more s w v time tick rest a b h lt is))
    (stopped_longer a c (h.text ++ text) (shown s (reached_of w) (ticks_before time rest)) stop (stopped_after a b c h.text text stop h.wrote p))

-- no tick before the time is left
pub showing_ends : (s : Scene) (w v : Writer) (time : ℕ) (a b : Page) → Showing s w v time a b → ticks_before time v.ticks ≡ [] → Wrote a b (shown s (reached_of w) (ticks_before time w.ticks))
showing_ends s w v time a b h none =
    subst (Wrote a b) (sym (append-nil h.text) ∙ sym (h.rest ∙ ap (λ l. h.text ++ shown s (reached_of w) l) none)) h.wrote

pub showing_leaves : (s : Scene) (w v : Writer) (time : ℕ) (a b : Page) → Showing s w v time a b → ticks_before time v.ticks ≡ [] → v ≡ record w { ticks = ticks_from time w.ticks; buffer = v.buffer }
showing_leaves s w v time a b h none =
    h.same ∙ ap (λ (l : List ℕ). record w { ticks = l; buffer = v.buffer }) (sym (h.ticks ∙ from_all time v.ticks none))
