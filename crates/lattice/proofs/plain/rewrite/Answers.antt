use Rattle.std.proofs.Common.{◌≡◌, Some, length, sym, ap, ◌∙◌, inr, refl, arith}
use Rattle.std.specs.Prelude.{unwrap_or}
use Rattle.std.proofs.lemmas.Option.{slice_get_read}
use Rattle.surf_kinds.specs.Channels.{rule_of_channel}
use Rattle.lattice.specs.Channels.{products}
use Rattle.lattice.proofs.Sites.{first_below, second_below}
use Rattle.lattice.proofs.Writes.{rewrite_length, room_left, after_is}
use Rattle.lattice.proofs.plain.rewrite.Goals as goal

pub rewrite_site-requires-clause-within : goal.rewrite_site-requires-clause-within
rewrite_site-requires-clause-within c =
    omega (arith, c.requires.surface, first_below c.args.lattice.now c.args.event.place.0 c.in-Some.place (sym c.sites_of.ensures ∙ c.in-Some.is))

pub rewrite_site-requires-in-Some-second-clause-within : goal.rewrite_site-requires-in-Some-second-clause-within
rewrite_site-requires-in-Some-second-clause-within c =
    let below = second_below c.args.lattice.now c.args.event.place.0 c.in-Some.place c.in-Some-second.site (sym c.sites_of.ensures ∙ c.in-Some.is) c.in-Some-second.is in
    omega (arith, below, c.requires.surface, ap length c.rewrite_site.ensures ∙ rewrite_length _ c.args.event.time c.in-Some.place.first.0 _ c.args.sites.now)

pub rewrite_site-requires-in-Some-second-clause-room : goal.rewrite_site-requires-in-Some-second-clause-room
rewrite_site-requires-in-Some-second-clause-room c =
    let is = sym c.sites_of.ensures ∙ c.in-Some.is in
    let below = second_below c.args.lattice.now c.args.event.place.0 c.in-Some.place c.in-Some-second.site is c.in-Some-second.is in
    rw c.rewrite_site.ensures (room_left (unwrap_or (Some c.products-second.result.0)) c.args.event.time c.in-Some.place.first.0 c.in-Some-second.site.0 c.args.sites.now (omega (arith, below, c.requires.surface))
    (c.requires.room c.in-Some-second.site.0 (record { sites = c.in-Some.place; is = is; among = inr c.in-Some-second.is })))

pub returns-in-Some-second : goal.returns-in-Some-second
returns-in-Some-second c =
    let at : c.from.result ≡ rule_of_channel c.args.event.channel = c.from.ensures ∙ c.rule_of_channel.ensures in
    let rule = slice_get_read c.args.rules.now (length c.args.rules.now) (rule_of_channel c.args.event.channel) c.index-rules-from.result refl c.requires.channel (rw (← at) c.index-rules-from.is) in
    let new = c.products-second.ensures ∙ ap (λ way. products way c.index-rules-from.result) c.way_of_channel.ensures.way in
    let is = after_is c.args.lattice.now c.args.rules.now c.args.sites.now c.args.event c.in-Some.place c.index-rules-from.result c.products-second.result (sym c.sites_of.ensures ∙ c.in-Some.is) rule new in
    rw is (rw c.in-Some-second.is (rw (← c.rewrite_site.ensures) c.rewrite_site-in-Some-second.ensures))

pub returns-in_default-second : goal.returns-in_default-second
returns-in_default-second c =
    let at : c.from.result ≡ rule_of_channel c.args.event.channel = c.from.ensures ∙ c.rule_of_channel.ensures in
    let rule = slice_get_read c.args.rules.now (length c.args.rules.now) (rule_of_channel c.args.event.channel) c.index-rules-from.result refl c.requires.channel (rw (← at) c.index-rules-from.is) in
    let new = c.products-second.ensures ∙ ap (λ way. products way c.index-rules-from.result) c.way_of_channel.ensures.way in
    let is = after_is c.args.lattice.now c.args.rules.now c.args.sites.now c.args.event c.in-Some.place c.index-rules-from.result c.products-second.result (sym c.sites_of.ensures ∙ c.in-Some.is) rule new in
    rw is (rw c.in_default-second.is c.rewrite_site.ensures)
