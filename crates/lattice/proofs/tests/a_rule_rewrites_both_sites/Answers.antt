use Rattle.std.proofs.Common.{◌<◌, ◌^◌, [], ◌∷◌, refl, sym, subst, arith}
use Rattle.std.proofs.lemmas.List.Elements.{All-cons, All-nil}
use Rattle.surf_kinds.specs.declared.site.SiteState.{SiteState}
use Rattle.lattice.specs.Places.{IsPlace, sites_of}
use Rattle.lattice.proofs.Writes.{room_at}
use Rattle.lattice.proofs.tests.a_rule_rewrites_both_sites.Goals as goal

pub rewrite-requires-clause-place : goal.rewrite-requires-clause-place
unfolding sites_of
rewrite-requires-clause-place g c = subst (λ l. IsPlace l 1) (sym c.in_ok-lattice.ensures.ok) refl

pub rewrite-requires-clause-room : goal.rewrite-requires-clause-room
rewrite-requires-clause-room g c =
    room_at c.in_ok-lattice.lattice (c.fresh.result ∷ c.fresh-2.result ∷ []) 1
    (All-cons (λ (s : SiteState). s.version < 2 ^ 53) c.fresh.result (c.fresh-2.result ∷ []) (omega (arith, c.fresh.ensures)) (All-cons (λ (s : SiteState). s.version < 2 ^ 53) c.fresh-2.result [] (omega (arith, c.fresh-2.ensures)) (All-nil (λ (s : SiteState). s.version < 2 ^ 53))))
