-- The column where the last track is opened.
use Rattle.std.proofs.Common.{◌≡◌, ℕ, ◌+◌, ◌*◌, ◌<◌, ◌≤◌, inl, inr, List, length, ap, ◌∙◌, subst, arith}
use Rattle.std.proofs.lemmas.Bool.{cases_lt}
use Rattle.circuit_text.specs.Values.{AreNets}
use Rattle.circuit_text.specs.Circuits.{NetList}
use Rattle.gate_layout.specs.Nets.{gate_count, net_of}
use Rattle.gate_layout.proofs.LawLemmas.{gate_facts, net_facts}
use Rattle.track_layout.specs.Spans.{first}
use Rattle.track_layout.specs.Tracks.{track_in, AreTracks}
use Rattle.track_layout.specs.Crowd.{crowd, AreShared, OpensLast}
use Rattle.track_layout.proofs.Crowds.{crowd_is, no_fewer}
use Rattle.track_layout.proofs.Unique.{last_has}

module _ (c : NetList) (tracks : List ℕ) (count : ℕ) where
  -- an input of the last track begins before all others
  pub input_opens : (n : ℕ) → n < length c.nets → track_in tracks n + 1 ≡ count → first c n ≡ 0 → OpensLast c tracks count 0
  input_opens n lt on at = (n, lt, on, at, λ m below other. omega arith)

  -- without one, the first gate does whose net has the last track
  pub gate_opens : (g : ℕ) → g < gate_count c.nets → track_in tracks (net_of c.nets g) + 1 ≡ count → ((h : ℕ) → h < g → track_in tracks (net_of c.nets h) + 1 ≡ count → ⊥)
      → ((n : ℕ) → n < length c.nets → track_in tracks n + 1 ≡ count → 0 < first c n) → OpensLast c tracks count (6 * g + 5)
  gate_opens g gin on before inputs =
      let f = gate_facts c.nets g gin in (
        net_of c.nets g,
        f.0,
        on,
        f.1,
        λ m below other. elim (net_facts c.nets m below) [
          | inl z ↦ absurd (let some = inputs m below other in omega (arith, some, z))
          | inr h ↦ elim (cases_lt h.0 g) [
            | inl less ↦ absurd (before h.0 less (ap (λ n. track_in tracks n + 1) h.2 ∙ other))
            | inr ge ↦ omega (arith, ge, h.3)
          ]
        ],
      )

  -- one of the two is there
  pub some_opens : AreTracks c tracks count → 0 < count → ((n : ℕ) → n < length c.nets → track_in tracks n + 1 ≡ count → 0 < first c n)
      → ((h : ℕ) → h < gate_count c.nets → track_in tracks (net_of c.nets h) + 1 ≡ count → ⊥) → ⊥
  some_opens are some inputs gates =
      let n = last_has c tracks count are some in
      elim (net_facts c.nets n.0 n.1) [
        | inl z ↦ let s = inputs n.0 n.1 n.2 in omega (arith, s, z)
        | inr h ↦ gates h.0 h.1 (ap (λ m. track_in tracks m + 1) h.2 ∙ n.2)
      ]

  -- as many spans have that column as there are tracks
  pub opened_crowd : (col : ℕ) → AreNets c.nets → AreTracks c tracks count → OpensLast c tracks count col → crowd c (length c.nets) col ≡ count
  opened_crowd col nets are opens = subst (λ z. crowd c (length c.nets) z ≡ count) opens.3 (crowd_is c tracks count opens.0 nets are opens.1 opens.2)

  pub opened_fewest : (col : ℕ) → AreNets c.nets → AreTracks c tracks count → OpensLast c tracks count col → (rows : ℕ) (row : ℕ → ℕ) → AreShared c rows row → count ≤ rows
  opened_fewest col nets are opens rows row shared = no_fewer c tracks count opens.0 nets are opens.1 opens.2 rows row shared
