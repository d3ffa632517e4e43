-- A surface, written line by line.
use Rattle.std.proofs.Common.{◌≡◌, ℕ, ◌+◌, ◌<◌, List, [], ◌∷◌, ◌++◌, append_assoc, refl, sym, ◌∙◌, subst}
use Rattle.std.specs.Prelude.{Result}
use Rattle.surf_kinds.specs.declared.site.SpeciesId.{SpeciesId}
use Rattle.surf_kinds.specs.declared.site.SiteState.{SiteState}
use Rattle.lattice.specs.Shape.{Shape}
use Rattle.surface_rows.specs.Rows.{row_line, rows_text}
use Rattle.surface_rows.proofs.LawLemmas.{rows-none, rows-more, rows-within}
use Rattle.trace_text.specs.Lines.{heading_text, cells_of, counts_text, surface_text}
use Rattle.run_writer.specs.declared.pages.Stop.{Stop}
use Rattle.run_writer.specs.Pages.{Page, Wrote, Stopped, Puts}
use Rattle.run_writer.proofs.Written.{wrote_nothing, wrote_more, puts_after, stopped_after, stopped_longer}

pub rows_begin : (names : List (List ℕ)) (cols : ℕ) (cells : List SpeciesId) (a : Page) → Wrote a a (rows_text names 0 cols cells)
rows_begin names cols cells a = subst (Wrote a a) (rows-none names cols cells) (wrote_nothing a)

pub rows_step : (names : List (List ℕ)) (row cols : ℕ) (cells : List SpeciesId) (a b c : Page)
    → Wrote a b (rows_text names row cols cells) → Wrote b c (row_line names cols cells row ++ 10 ∷ []) → Wrote a c (rows_text names (row + 1) cols cells)
rows_step names row cols cells a b c p q =
    subst (Wrote a c) (rows-more names row cols cells) (wrote_more a b c (rows_text names row cols cells) (row_line names cols cells row ++ 10 ∷ []) p q)

pub rows_stop : (names : List (List ℕ)) (row rows cols : ℕ) (cells : List SpeciesId) (a b c : Page) (stop : Stop) → row < rows
    → Wrote a b (rows_text names row cols cells) → Stopped b c (row_line names cols cells row ++ 10 ∷ []) stop → Stopped a c (rows_text names rows cols cells) stop
rows_stop names row rows cols cells a b c stop lt p q =
    let line = row_line names cols cells row ++ 10 ∷ [] in
    let rest = rows-within names row rows cols cells lt in
    subst (λ t. Stopped a c t stop) rest.1 (stopped_longer a c (rows_text names row cols cells ++ line) rest.0 stop (stopped_after a b c (rows_text names row cols cells) line stop p q))

-- a surface in its three parts
in_parts : (names : List (List ℕ)) (l : Shape) (sites : List SiteState) (tick events : ℕ)
    → (heading_text tick events ++ rows_text names l.rows l.cols (cells_of sites)) ++ counts_text names sites ≡ surface_text names l sites tick events
unfolding surface_text
in_parts names l sites tick events = refl

module _ (names : List (List ℕ)) (l : Shape) (sites : List SiteState) (tick events : ℕ) where
  pub stops_in_rows : (a b c : Page) (stop : Stop) → Wrote a b (heading_text tick events) → Stopped b c (rows_text names l.rows l.cols (cells_of sites)) stop
      → Stopped a c (surface_text names l sites tick events) stop
  stops_in_rows a b c stop p q =
      subst (λ t. Stopped a c t stop) (in_parts names l sites tick events) (stopped_longer a c (heading_text tick events ++ rows_text names l.rows l.cols (cells_of sites)) (counts_text names sites) stop (stopped_after a b c (heading_text tick events) (rows_text names l.rows l.cols (cells_of sites)) stop p q))

  pub stops_in_heading : (a b : Page) (stop : Stop) → Stopped a b (heading_text tick events) stop → Stopped a b (surface_text names l sites tick events) stop
  stops_in_heading a b stop p =
      subst (λ t. Stopped a b t stop) (sym (append_assoc (heading_text tick events) (rows_text names l.rows l.cols (cells_of sites)) (counts_text names sites)) ∙ in_parts names l sites tick events)
      (stopped_longer a b (heading_text tick events) (rows_text names l.rows l.cols (cells_of sites) ++ counts_text names sites) stop p)

  pub ends_with_counts : {T : Type 0} (a b c d : Page) (r : Result T Stop) → Wrote a b (heading_text tick events) → Wrote b c (rows_text names l.rows l.cols (cells_of sites))
      → Puts c d (counts_text names sites) r → Puts a d (surface_text names l sites tick events) r
  ends_with_counts a b c d r p q e =
      subst (λ t. Puts a d t r) (in_parts names l sites tick events)
      (puts_after a c d (heading_text tick events ++ rows_text names l.rows l.cols (cells_of sites)) (counts_text names sites) r (wrote_more a b c (heading_text tick events) (rows_text names l.rows l.cols (cells_of sites)) p q) e)
