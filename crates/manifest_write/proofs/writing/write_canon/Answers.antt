use Rattle.std.proofs.Common.{◌≡◌, ℕ, List, [], ◌∷◌, ◌++◌, codes, map, append_assoc, ap, ◌∙◌}
use Rattle.surf_kinds.specs.declared.rule.Rule.{Rule}
use Rattle.surface_rows.specs.Rows.{lines_text}
use Rattle.surf_outside.proofs.LawLemmas.{wrote_by, puts_as, wrote_as, wrote_more, puts_after, fails_within, fails_behind}
use Rattle.manifest_write.specs.Canon.{read_setting_lines, setting_line, rule_line, colour_lines, canonical_text}
use Rattle.manifest_read.specs.declared.manifest.Manifest.{Manifest}
use Rattle.manifest_write.proofs.Spellings.Forms.{rules_text, surface_text, whole-text}
use Rattle.manifest_write.proofs.writing.write_canon.Goals as goal

pub returns-in_err-write_read_settings : goal.returns-in_err-write_read_settings
returns-in_err-write_read_settings g c =
    let m = c.args.m.now in
    puts_as (canonical_text m) (whole-text m)
    (fails_within _ (lines_text (map setting_line m.others) ++ (rules_text m ++ (surface_text m ++ lines_text (colour_lines m.colours)))) c.from_residual.result c.from_residual.ensures.1 c.in_err-write_read_settings.ensures)

regrouped : (k s r f c : List ℕ) → (((k ++ s) ++ r) ++ f) ++ c ≡ k ++ (s ++ (r ++ (f ++ c)))
regrouped k s r f c = simp append_assoc

four : (k s r f : List ℕ) → ((k ++ s) ++ r) ++ f ≡ k ++ (s ++ (r ++ f))
four k s r f = simp append_assoc

abbrev rules_by : Manifest → List Rule → List ℕ
rules_by m rules = lines_text (codes "!START_TRANSITION_RULES" ∷ map (rule_line m.names) rules ++ codes "!END_TRANSITION_RULES" ∷ [])

pub returns-in_err-write_settings : goal.returns-in_err-write_settings
returns-in_err-write_settings g c =
    let m = c.args.m.now in
    let after = rules_text m ++ (surface_text m ++ lines_text (colour_lines m.colours)) in
    puts_as (canonical_text m)
    (ap (λ x. (lines_text (read_setting_lines m) ++ lines_text (map setting_line x)) ++ after) c.as_slice.ensures
    ∙ append_assoc (lines_text (read_setting_lines m)) (lines_text (map setting_line m.others)) after ∙ whole-text m)
    (fails_behind _ after c.from_residual-in_err-write_settings.result c.from_residual-in_err-write_settings.ensures.1 (wrote_by c.in_ok-write_read_settings.ensures) c.in_err-write_settings.ensures)

pub returns-in_err-write_rules : goal.returns-in_err-write_rules
returns-in_err-write_rules g c =
    let m = c.args.m.now in
    let known = lines_text (read_setting_lines m) in
    let settings = lines_text (map setting_line m.others) in
    let after = surface_text m ++ lines_text (colour_lines m.colours) in
    puts_as (canonical_text m)
    (ap (λ x. ((known ++ settings) ++ rules_by m x) ++ after) c.as_slice-2.ensures
    ∙ four known settings (rules_text m) after ∙ whole-text m)
    (fails_behind _ after c.from_residual-in_err-write_rules.result c.from_residual-in_err-write_rules.ensures.1
    (wrote_more (wrote_by c.in_ok-write_read_settings.ensures) (wrote_as settings (ap (λ x. lines_text (map setting_line x)) c.as_slice.ensures) (wrote_by c.in_ok-write_settings.ensures)))
    c.in_err-write_rules.ensures)

pub returns-in_err-write_surface : goal.returns-in_err-write_surface
returns-in_err-write_surface g c =
    let m = c.args.m.now in
    let known = lines_text (read_setting_lines m) in
    let settings = lines_text (map setting_line m.others) in
    let colours = lines_text (colour_lines m.colours) in
    puts_as (canonical_text m)
    (regrouped known settings (rules_text m) (surface_text m) colours ∙ whole-text m)
    (fails_behind _ colours c.from_residual-in_err-write_surface.result c.from_residual-in_err-write_surface.ensures.1
    (wrote_more (wrote_more (wrote_by c.in_ok-write_read_settings.ensures) (wrote_as settings (ap (λ x. lines_text (map setting_line x)) c.as_slice.ensures) (wrote_by c.in_ok-write_settings.ensures)))
    (wrote_as (rules_text m) (ap (rules_by m) c.as_slice-2.ensures) (wrote_by c.in_ok-write_rules.ensures)))
    c.in_err-write_surface.ensures)

pub returns : goal.returns
returns g c =
    let m = c.args.m.now in
    let known = lines_text (read_setting_lines m) in
    let settings = lines_text (map setting_line m.others) in
    let colours = lines_text (colour_lines m.colours) in
    puts_as (canonical_text m)
    (regrouped known settings (rules_text m) (surface_text m) colours ∙ whole-text m)
    (puts_after c.write_colours.result
    (wrote_more (wrote_more (wrote_more (wrote_by c.in_ok-write_read_settings.ensures) (wrote_as settings (ap (λ x. lines_text (map setting_line x)) c.as_slice.ensures) (wrote_by c.in_ok-write_settings.ensures)))
    (wrote_as (rules_text m) (ap (rules_by m) c.as_slice-2.ensures) (wrote_by c.in_ok-write_rules.ensures)))
    (wrote_by c.in_ok-write_surface.ensures))
    c.write_colours.ensures)
