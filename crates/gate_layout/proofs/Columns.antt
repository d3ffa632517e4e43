-- Of two columns that are beside each other, one has no net.
use Rattle.std.proofs.Common.{◌≡◌, ◌⊎◌, inl, inr, List, None, refl, rules}
use Rattle.circuit_text.specs.declared.kinds.Net.{Net}
use Rattle.gate_layout.specs.declared.parts.Part.TheVariants.{FirstPin, Body, SecondPin, Bend, Rise, Gap}
use Rattle.gate_layout.specs.declared.parts.Column.{Column}
use Rattle.gate_layout.specs.declared.parts.Column.TheVariants.{Outside, Of}
use Rattle.gate_layout.specs.Placed.{column_net}
use Rattle.gate_layout.proofs.Places.{AreNext}

pub one_net : (nets : List Net) (c d : Column) → AreNext c d → (column_net nets c ≡ None) ⊎ (column_net nets d ≡ None)
one_net nets Outside d next = inl refl
one_net nets (Of g Body) d next = inl refl
one_net nets (Of g Bend) d next = inl refl
one_net nets (Of g Gap) d next = inl refl
one_net nets (Of g FirstPin) (Of h Body) next = inr refl
one_net nets (Of g SecondPin) (Of h Bend) next = inr refl
one_net nets (Of g Rise) (Of h Gap) next = inr refl
one_net nets c d next = first_of (cc, search rules)

pub turn_one : (nets : List Net) (c d : Column) → (column_net nets c ≡ None) ⊎ (column_net nets d ≡ None) → (column_net nets d ≡ None) ⊎ (column_net nets c ≡ None)
turn_one nets c d one = elim one [ inl e ↦ inr e | inr e ↦ inl e ]
