use Rattle.std.proofs.Common.{◌≡◌, ◌++◌, decimal, sym, ap, ◌∙◌, append_assoc}
use Rattle.surface_rows.specs.Rows.{lines_text}
use Rattle.surf_outside.proofs.LawLemmas.{wrote_by, puts_as, wrote_more, puts_after, fails_within, fails_behind}
use Rattle.manifest_write.specs.Canon.{duration_text, read_setting_lines}
use Rattle.manifest_read.specs.Settings.{kind_text, bool_text}
use Rattle.manifest_write.proofs.Spellings.Forms.{settings_front, settings_back, settings-text}
use Rattle.manifest_write.proofs.writing.write_read_settings.Goals as goal

pub returns-in_err-put_pieces : goal.returns-in_err-put_pieces
returns-in_err-put_pieces g c =
    let m = c.args.m.now in
    let front = settings_front (decimal m.seed) in
    let back = settings_back (kind_text m.lattice.kind) (bool_text m.lattice.wrap) in
    let duration = duration_text m.until in
    puts_as (lines_text (read_setting_lines m))
    (ap (λ t. settings_front t ++ (duration ++ back)) (c.bytes.ensures ∙ c.of-seed.ensures) ∙ (let e : front ++ (duration ++ back) ≡ lines_text (read_setting_lines m) = sym (append_assoc front duration back) ∙ settings-text m in e))
    (fails_within _ (duration ++ back) c.from_residual.result c.from_residual.ensures.1 c.in_err-put_pieces.ensures)

pub returns-in_err-put_duration : goal.returns-in_err-put_duration
returns-in_err-put_duration g c =
    let m = c.args.m.now in
    let back = settings_back (kind_text m.lattice.kind) (bool_text m.lattice.wrap) in
    puts_as (lines_text (read_setting_lines m))
    (ap (λ t. (settings_front t ++ duration_text m.until) ++ back) (c.bytes.ensures ∙ c.of-seed.ensures) ∙ settings-text m)
    (fails_behind _ back c.from_residual-in_err-put_duration.result c.from_residual-in_err-put_duration.ensures.1 (wrote_by c.in_ok-put_pieces.ensures) c.in_err-put_duration.ensures)

pub returns : goal.returns
returns g c =
    let m = c.args.m.now in
    let kind : c.as_bytes-kind.result.now ≡ kind_text m.lattice.kind = c.as_bytes-kind.ensures.value ∙ c.kind_name.ensures ∙ ap kind_text c.kind.ensures in
    let wrap : c.as_bytes-wrap.result.now ≡ bool_text m.lattice.wrap = c.as_bytes-wrap.ensures.value ∙ c.bool_name.ensures ∙ ap bool_text c.wrap.ensures in
    puts_as (lines_text (read_setting_lines m))
    (ap (λ t. (settings_front t ++ duration_text m.until) ++ settings_back c.as_bytes-kind.result.now c.as_bytes-wrap.result.now) (c.bytes.ensures ∙ c.of-seed.ensures)
    ∙ ap (λ t. (settings_front (decimal m.seed) ++ duration_text m.until) ++ settings_back t c.as_bytes-wrap.result.now) kind
    ∙ ap (λ t. (settings_front (decimal m.seed) ++ duration_text m.until) ++ settings_back (kind_text m.lattice.kind) t) wrap
    ∙ settings-text m)
    (puts_after c.put_pieces-2.result (wrote_more (wrote_by c.in_ok-put_pieces.ensures) (wrote_by c.in_ok-put_duration.ensures)) c.put_pieces-2.ensures)
