-- Texts that are written one after the other: what other crates may cite.
use Rattle.std.proofs.Common.{◌≡◌, ℕ, List, [], ◌++◌, Option, Some, None, sym, append-nil, arith, subst}
use Rattle.std.specs.Prelude.{Result, Ok, Err}
use Rattle.std.specs.Result.{IsErrAnd}
use Rattle.std.specs.Io.KnownBytes.{Appends}
use Rattle.surf_outside.specs.Puts.{Puts, Wrote}
use Rattle.surf_outside.proofs.Gains.{appends_more, prefix_more, prefix_longer}
pub use Rattle.surf_outside.proofs.Gains.{appends_more, prefix_more, prefix_longer, prefix_whole}
pub use Rattle.surf_outside.proofs.PartTexts.{parts-more, parts-within}

appends_none : (a : Option (List ℕ)) → Appends a a []
appends_none None = tt
appends_none (Some xs) = sym (append-nil xs)

-- nothing was written
pub wrote_nothing : (a : Option (List ℕ)) (f : ℕ) → Wrote a a f f []
wrote_nothing a f = record { gained = appends_none a; later = omega arith }

-- one text and then another
pub wrote_more : {a b c : Option (List ℕ)} {f g h : ℕ} {x y : List ℕ} → Wrote a b f g x → Wrote b c g h y → Wrote a c f h (x ++ y)
wrote_more {a = a} {b = b} {c = c} {x = x} {y = y} p q = record { gained = appends_more a b c x y p.gained q.gained; later = omega (arith, p.later, q.later) }

-- the same with an equal text
pub wrote_as : {a b : Option (List ℕ)} {f g : ℕ} {x : List ℕ} (y : List ℕ) → x ≡ y → Wrote a b f g x → Wrote a b f g y
wrote_as {a = a} {b = b} {f = f} {g = g} y e p = subst (Wrote a b f g) e p

-- what a call wrote that went well
pub wrote_by : {T E : Type 0} {a b : Option (List ℕ)} {f g : ℕ} {x : List ℕ} {v : T} → Puts {E = E} a b f g x (Ok v) → Wrote a b f g x
wrote_by p = record { gained = p.ok; later = p.cause.later }

-- a call that is done once the text is written
pub puts_done : {T E : Type 0} {a b : Option (List ℕ)} {f g : ℕ} {x : List ℕ} {v : T} → Wrote a b f g x → Puts {E = E} a b f g x (Ok v)
puts_done p = record { ok = p.gained; err = tt; cause = record { later = p.later; failed = tt } }

-- a call after a text
pub puts_after : {T E : Type 0} {a b c : Option (List ℕ)} {f g h : ℕ} {x y : List ℕ} (r : Result T E) → Wrote a b f g x → Puts b c g h y r → Puts a c f h (x ++ y) r
puts_after {a = a} {b = b} {c = c} {x = x} {y = y} (Ok v) p q = puts_done (wrote_more p (wrote_by q))
puts_after {a = a} {b = b} {c = c} {x = x} {y = y} (Err e) p q = record {
  ok = tt;
  err = prefix_more a b c x y p.gained q.err;
  cause = record { later = omega (arith, p.later, q.cause.later); failed = omega (arith, p.later, q.cause.failed) };
}

-- the exit of a `?` within a text
pub fails_within : {T U E F : Type 0} (Q : F → Type 0) {a b : Option (List ℕ)} {f g : ℕ} {x : List ℕ} {e : E} (y : List ℕ) (r : Result U F)
    → IsErrAnd r Q → Puts {T = T} a b f g x (Err e) → Puts a b f g (x ++ y) r
fails_within Q y (Ok v) is p = absurd is
fails_within Q {a = a} {b = b} {x = x} y (Err d) is p = record {
  ok = tt;
  err = prefix_longer a b x y p.err;
  cause = record { later = p.cause.later; failed = p.cause.failed };
}

-- the exit of a `?` within a text that goes on, behind another
pub fails_behind : {T U E F : Type 0} (Q : F → Type 0) {a b c : Option (List ℕ)} {f g h : ℕ} {x y : List ℕ} {e : E} (z : List ℕ) (r : Result U F)
    → IsErrAnd r Q → Wrote a b f g x → Puts {T = T} b c g h y (Err e) → Puts a c f h ((x ++ y) ++ z) r
fails_behind {T = T} {E = E} Q {e = e} z r is p q =
    let r' : Result T E = Err e in
    fails_within {T = T} {E = E} Q z r is (puts_after r' p q)

-- the same with an equal text
pub puts_as : {T E : Type 0} {a b : Option (List ℕ)} {f g : ℕ} {x : List ℕ} {r : Result T E} (y : List ℕ) → x ≡ y → Puts a b f g x r → Puts a b f g y r
puts_as {a = a} {b = b} {f = f} {g = g} {r = r} y e p = subst (λ t. Puts a b f g t r) e p
