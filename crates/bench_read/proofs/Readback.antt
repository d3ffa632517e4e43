-- The text of a circuit is read as that circuit.
use Rattle.std.proofs.Common.{◌≡◌, ℕ, zero, suc, ◌+◌, ◌<◌, ◌≤◌, ◌^◌, ◌==◌, Bool, true, false, cond, not, List, [], ◌∷◌, ◌++◌, length, map, get_or, Option, None, Some, Result, Ok, Err, refl, sym, ap, ◌∙◌, arith, subst, decimal, codes, append_assoc, append-nil, ne_eqb, nat_le, nat_lt, lt-ltb}
use Rattle.std.specs.List.{range_with_len, flat_map, position_or_len, AllByRecursion}
use Rattle.std.specs.Str.{bytes_eq}
use Rattle.std.specs.Str.Parse.{digits_value}
use Rattle.std.proofs.lemmas.Bool.{not-true, false≢true}
use Rattle.std.proofs.lemmas.Bool.Decides.{nat_tests}
use Rattle.std.proofs.lemmas.Slice.Eq.{bytes_eq-Decides}
use Rattle.std.proofs.lemmas.List.{length-append, length-map, map-append}
use Rattle.std.proofs.lemmas.List.Sums.{position_or_len_is}
use Rattle.std.proofs.lemmas.Grind.{flat_map-append}
use Rattle.std.proofs.lemmas.List.FromFn.{length-map-range_with_len, get_or-map-range_with_len, map-range_with_len_more}
use Rattle.surf_text.specs.Lines.{lines_of}
use Rattle.surf_text.specs.Passing.{Each, lacks}
use Rattle.surf_text.proofs.LawLemmas.{decimal-value, line-first}
use Rattle.species.specs.Texts.{is_in, index_of}
use Rattle.species.proofs.LawLemmas.{is_in-index}
use Rattle.circuit_text.specs.declared.kinds.GateOp.{GateOp}
use Rattle.circuit_text.specs.declared.kinds.Net.{Net}
use Rattle.circuit_text.specs.declared.kinds.Net.TheVariants as net
use Rattle.circuit_text.specs.declared.fault.CircuitKind.{CircuitKind}
use Rattle.circuit_text.specs.declared.fault.CircuitKind.TheVariants.{NetTwice, TooManyNets, NetLater, UnknownNet, NoOutput}
use Rattle.circuit_text.specs.declared.fault.CircuitFault.{CircuitFault}
use Rattle.circuit_text.specs.Names.{Name}
use Rattle.circuit_text.specs.Values.{has_two, input_count}
use Rattle.circuit_text.specs.Lines.{LineSort, Inputs, Outputs, OneGate, TwoGate, sort_of}
use Rattle.circuit_text.specs.Circuits.{NetList, defines, defined, puts_out, put_out, nets_in, nets_of, or_many, line_fault, fault_at, circuit_of, unless, at_end, outcome, circuit_in}
use Rattle.bench_read.specs.Chains.{net_name, net_line, output_line, net_lines, ended_lines, text_by}
use Rattle.bench_read.proofs.LinesAgain.{IsSmall, input-sort, output-sort, one-sort, two-sort, input-unended, output-unended, gate-unended}

-- Names

abbrev pub names : ℕ → List Name
names n = map net_name (range_with_len 0 n)

same-number : (m k : ℕ) → m < 2 ^ 64 → k < 2 ^ 64 → net_name m ≡ net_name k → m ≡ k
same-number m k h g e =
    let same : decimal m ≡ decimal k = cc in
    sym (decimal-value m h) ∙ ap (digits_value 10) same ∙ decimal-value k g

other-name : (m k : ℕ) → m < 2 ^ 64 → k < 2 ^ 64 → (m ≡ k → ⊥) → bytes_eq (net_name m) (net_name k) ≡ false
other-name m k h g ne = by (bytes_eq (net_name m) (net_name k)) refl
  where
    by : (b : Bool) → bytes_eq (net_name m) (net_name k) ≡ b → bytes_eq (net_name m) (net_name k) ≡ false
    by true e = absurd (ne (same-number m k h g ((bytes_eq-Decides (net_name m) (net_name k)).0 e)))
    by false e = e

-- the number of a name is its own; of one past them all it is their count
index-is : (n m : ℕ) → m ≤ n → n < 2 ^ 64 → index_of (names n) (net_name m) ≡ m
index-is n m most small =
    position_or_len_is (bytes_eq (net_name m)) (names n) m [] (omega (arith, most, length-map-range_with_len net_name 0 n))
    (λ k lt. ap (bytes_eq (net_name m)) (get_or-map-range_with_len net_name 0 n k k [] (omega (arith, lt, most)) (omega arith)) ∙ other-name m k (omega (arith, most, small)) (omega (arith, lt, most, small)) (λ e. omega (arith, e, lt)))
    (λ lt. ap (bytes_eq (net_name m)) (get_or-map-range_with_len net_name 0 n m m [] (omega (arith, lt, length-map-range_with_len net_name 0 n)) (omega arith)) ∙ (bytes_eq-Decides (net_name m) (net_name m)).1 refl)

in-names : (n m : ℕ) → m ≤ n → n < 2 ^ 64 → is_in (names n) (net_name m) ≡ nat_lt m n
in-names n m most small =
    is_in-index (names n) (net_name m) ∙ ap (λ i. nat_lt i (length (names n))) (index-is n m most small) ∙ ap (nat_lt m) (length-map-range_with_len net_name 0 n)

known-name : (n m : ℕ) → m < n → n < 2 ^ 64 → is_in (names n) (net_name m) ≡ true
known-name n m lt small = in-names n m (omega (arith, lt)) small ∙ lt-ltb m n lt

new-name : (n : ℕ) → n < 2 ^ 64 → is_in (names n) (net_name n) ≡ false
new-name n small = in-names n n (omega arith) small ∙ same n
  where
    same : (k : ℕ) → nat_lt k k ≡ false
    same k = grind (arith, nat_tests)

names-more : (n : ℕ) → names (n + 1) ≡ names n ++ net_name n ∷ []
names-more n = map-range_with_len_more net_name 0 n n (omega arith)

has-room : (n : ℕ) → n < 65536 → nat_le 65536 (length (names n)) ≡ false
has-room n lt = ap (nat_le 65536) (length-map-range_with_len net_name 0 n) ∙ by n lt
  where
    by : (k : ℕ) → k < 65536 → nat_le 65536 k ≡ false
    by k h = grind (arith, nat_tests)

-- Nets that follow their operands, with their inputs numbered in their order

abbrev pub IsNext : List Net → Net → Type 0
IsNext before (net.Input number) = number ≡ input_count before
IsNext before (net.Gate op a None) = (a < length before) × (has_two op ≡ false)
IsNext before (net.Gate op a (Some b)) = (a < length before) × (b < length before) × (has_two op ≡ true)

abbrev pub IsWritable : List Net → List Net → Type 0
IsWritable before [] = Unit {0}
IsWritable before (x ∷ nets) = IsNext before x × IsWritable (before ++ x ∷ []) nets

-- what the line of a net is
abbrev net_sort : ℕ → Net → LineSort
net_sort n (net.Input number) = Inputs (net_name n ∷ [])
net_sort n (net.Gate op a None) = OneGate (net_name n) op (net_name a)
net_sort n (net.Gate op a (Some b)) = TwoGate (net_name n) op (net_name a) (net_name b)

abbrev net_sorts : ℕ → List Net → List LineSort
net_sorts n [] = []
net_sorts n (x ∷ nets) = net_sort n x ∷ net_sorts (n + 1) nets

abbrev output_sorts : List ℕ → List LineSort
output_sorts outputs = map (λ o. Outputs (net_name o ∷ [])) outputs

net-sort : (n : ℕ) (before : List Net) (x : Net) → n ≡ length before → n < 2 ^ 64 → IsNext before x → (sort_of (net_line n x) ≡ net_sort n x) × Each (lacks 10) (net_line n x)
net-sort n before (net.Input number) e small h = (input-sort n small, input-unended n small)
net-sort n before (net.Gate op a None) e small h =
    let below : a < 2 ^ 64 = omega (arith, h.0, e, small) in
    (one-sort n a op small below h.1, gate-unended n a None op small below tt)
net-sort n before (net.Gate op a (Some b)) e small h =
    let below : a < 2 ^ 64 = omega (arith, h.0, e, small) in
    let under : b < 2 ^ 64 = omega (arith, h.1, e, small) in
    (two-sort n a b op small below under h.2, gate-unended n a (Some b) op small below under)

-- The lines

lines-first : (line : List ℕ) (lines : List (List ℕ)) → Each (lacks 10) line → lines_of (ended_lines (line ∷ lines)) ≡ line ∷ lines_of (ended_lines lines)
lines-first line lines h = ap lines_of (append_assoc line (10 ∷ []) (ended_lines lines)) ∙ line-first line (ended_lines lines) h

output-lines : (count : ℕ) (outputs : List ℕ) → count < 2 ^ 64 → AllByRecursion (λ o. o < count) outputs → map sort_of (lines_of (ended_lines (map output_line outputs))) ≡ output_sorts outputs
output-lines count [] small h = refl
output-lines count (o ∷ outputs) small h =
    let below : o < 2 ^ 64 = omega (arith, small, h.0) in
    ap (map sort_of) (lines-first (output_line o) (map output_line outputs) (output-unended o below))
    ∙ ap (λ s. s ∷ map sort_of (lines_of (ended_lines (map output_line outputs)))) (output-sort o below)
    ∙ ap (λ ss. Outputs (net_name o ∷ []) ∷ ss) (output-lines count outputs small h.1)

all-lines : (n : ℕ) (before nets : List Net) (rest : List (List ℕ)) (sorts : List LineSort) → n ≡ length before → n + length nets < 2 ^ 64 → IsWritable before nets → map sort_of (lines_of (ended_lines rest)) ≡ sorts
    → map sort_of (lines_of (ended_lines (net_lines n nets ++ rest))) ≡ net_sorts n nets ++ sorts
all-lines n before [] rest sorts e small h same = same
all-lines n before (x ∷ nets) rest sorts e small h same =
    let p = net-sort n before x e (omega (arith, small)) h.0 in
    ap (map sort_of) (lines-first (net_line n x) (net_lines (n + 1) nets ++ rest) p.1)
    ∙ ap (λ s. s ∷ map sort_of (lines_of (ended_lines (net_lines (n + 1) nets ++ rest)))) p.0
    ∙ ap (λ ss. net_sort n x ∷ ss) (all-lines (n + 1) (before ++ x ∷ []) nets rest sorts (omega (arith, e, length-append before (x ∷ []))) (omega (arith, small)) h.1 same)

abbrev circuit_by : List Name → List Net → List ℕ → NetList
circuit_by a c e = record { names = a; nets = c; outputs = e }

same_circuit : (a b : List Name) (c d : List Net) (e f : List ℕ) → a ≡ b → c ≡ d → e ≡ f → circuit_by a c e ≡ circuit_by b d f
same_circuit a b c d e f p q r = λ i. record { names = p i; nets = q i; outputs = r i }

numbers-read : (n : ℕ) (outputs : List ℕ) → n ≤ 65536 → AllByRecursion (λ o. o < n) outputs → map (index_of (names n)) (map net_name outputs) ≡ outputs
numbers-read n [] small h = refl
numbers-read n (o ∷ outputs) small h =
    let first : index_of (names n) (net_name o) ≡ o = index-is n o (omega (arith, h.0)) (omega (arith, small)) in
    let rest : map (index_of (names n)) (map net_name outputs) ≡ outputs = numbers-read n outputs small h.1 in
    ap (λ k. k ∷ map (index_of (names n)) (map net_name outputs)) first ∙ ap (λ ks. o ∷ ks) rest

middle : (P : ℕ → Type 0) (xs : List ℕ) (y : ℕ) (ys : List ℕ) → AllByRecursion P (xs ++ y ∷ ys) → P y
middle P [] y ys h = h.0
middle P (x ∷ xs) y ys h = middle P xs y ys h.1

-- The reader behind some lines
record IsBehind (lines : List LineSort) (before : List Net) (outputs : List ℕ) : Type 0 where
  pub names_are : defined lines ≡ names (length before)
  pub nets_are : nets_of lines ≡ before
  pub outputs_are : put_out lines ≡ map net_name outputs

no-fault : (known : Name → Bool) (before : List Net) (x : Net) → length before < 65536 → IsNext before x → line_fault known (names (length before)) (net_sort (length before) x) ≡ None
no-fault known before (net.Input number) lt h =
    let n = length before in
    ap (λ b. cond b (Some NetTwice) (cond (nat_le 65536 (length (names n))) (Some TooManyNets) None)) (new-name n (omega (arith, lt))) ∙ ap (λ b. cond b (Some TooManyNets) None) (has-room n lt)
no-fault known before (net.Gate op a None) lt h =
    let n = length before in
    ap (λ b. cond b (Some NetTwice) (or_many (names n) (cond (is_in (names n) (net_name a)) None (Some (cond (known (net_name a)) NetLater UnknownNet))))) (new-name n (omega (arith, lt)))
    ∙ ap (λ b. or_many (names n) (cond b None (Some (cond (known (net_name a)) NetLater UnknownNet)))) (known-name n a h.0 (omega (arith, lt)))
    ∙ ap (λ b. cond b (Some TooManyNets) None) (has-room n lt)
no-fault known before (net.Gate op a (Some b)) lt h =
    let n = length before in
    let second : Option CircuitKind = cond (is_in (names n) (net_name b)) None (Some (cond (known (net_name b)) NetLater UnknownNet)) in
    ap (λ t. cond t (Some NetTwice) (or_many (names n) (cond (is_in (names n) (net_name a)) second (Some (cond (known (net_name a)) NetLater UnknownNet))))) (new-name n (omega (arith, lt)))
    ∙ ap (λ t. or_many (names n) (cond t second (Some (cond (known (net_name a)) NetLater UnknownNet)))) (known-name n a h.0 (omega (arith, lt)))
    ∙ ap (λ t. or_many (names n) (cond t None (Some (cond (known (net_name b)) NetLater UnknownNet)))) (known-name n b h.1 (omega (arith, lt)))
    ∙ ap (λ t. cond t (Some TooManyNets) None) (has-room n lt)

-- the net of such a line
net-read : (before : List Net) (x : Net) → length before < 65536 → IsNext before x → nets_in (names (length before)) before (net_sort (length before) x) ≡ x ∷ []
net-read before (net.Input number) lt h = ap (λ k. net.Input k ∷ []) (sym h)
net-read before (net.Gate op a None) lt h = ap (λ k. net.Gate op k None ∷ []) (index-is (length before) a (omega (arith, h.0)) (omega (arith, lt)))
net-read before (net.Gate op a (Some b)) lt h =
    ap (λ k. net.Gate op k (Some (index_of (names (length before)) (net_name b))) ∷ []) (index-is (length before) a (omega (arith, h.0)) (omega (arith, lt)))
    ∙ ap (λ k. net.Gate op a (Some k) ∷ []) (index-is (length before) b (omega (arith, h.1)) (omega (arith, lt)))

net-defines : (n : ℕ) (x : Net) → defines (net_sort n x) ≡ net_name n ∷ []
net-defines n (net.Input number) = refl
net-defines n (net.Gate op a None) = refl
net-defines n (net.Gate op a (Some b)) = refl

net-puts : (n : ℕ) (x : Net) → puts_out (net_sort n x) ≡ []
net-puts n (net.Input number) = refl
net-puts n (net.Gate op a None) = refl
net-puts n (net.Gate op a (Some b)) = refl

behind-net : (lines : List LineSort) (before : List Net) (x : Net) → length before < 65536 → IsNext before x → IsBehind lines before [] → IsBehind (net_sort (length before) x ∷ lines) (before ++ x ∷ []) []
behind-net lines before x lt h is = record {
  names_are =
      ap (λ ns. ns ++ defines (net_sort (length before) x)) is.names_are ∙ ap (λ ns. names (length before) ++ ns) (net-defines (length before) x)
      ∙ sym (names-more (length before)) ∙ ap names (sym (length-append before (x ∷ [])));
  nets_are =
      ap (λ ns. ns ++ nets_in (defined lines) (nets_of lines) (net_sort (length before) x)) is.nets_are
      ∙ ap (λ ns. before ++ nets_in ns (nets_of lines) (net_sort (length before) x)) is.names_are
      ∙ ap (λ ns. before ++ nets_in (names (length before)) ns (net_sort (length before) x)) is.nets_are
      ∙ ap (λ ns. before ++ ns) (net-read before x lt h);
  outputs_are = ap (λ ns. ns ++ puts_out (net_sort (length before) x)) is.outputs_are ∙ net-puts (length before) x;
}

abbrev Outcome : Type 0
Outcome = Result NetList CircuitFault

module _ (known : Name → Bool) where
  -- the lines of the nets
  nets-outcome : (n : ℕ) (before nets : List Net) (lines rest : List LineSort) (total : Outcome) → n ≡ length before → n + length nets ≤ 65536 → IsWritable before nets → IsBehind lines before []
      → ((lines : List LineSort) → IsBehind lines (before ++ nets) [] → outcome known rest lines ≡ total) → outcome known (net_sorts n nets ++ rest) lines ≡ total
  nets-outcome n before [] lines rest total e small h is next = next lines (subst (λ b. IsBehind lines b []) (sym (append-nil before)) is)
  nets-outcome n before (x ∷ nets) lines rest total e small h is next =
      let sort = net_sort n x in
      let lt : length before < 65536 = omega (arith, e, small) in
      let none : line_fault known (defined lines) sort ≡ None = ap (λ ns. line_fault known ns sort) is.names_are ∙ ap (λ m. line_fault known (names (length before)) (net_sort m x)) e ∙ no-fault known before x lt h.0 in
      let later : IsBehind (sort ∷ lines) (before ++ x ∷ []) [] = subst (λ m. IsBehind (net_sort m x ∷ lines) (before ++ x ∷ []) []) (sym e) (behind-net lines before x lt h.0 is) in
      ap (λ f. unless (length lines + 1) f (outcome known (net_sorts (n + 1) nets ++ rest) (sort ∷ lines))) none
      ∙ nets-outcome (n + 1) (before ++ x ∷ []) nets (sort ∷ lines) rest total (omega (arith, e, length-append before (x ∷ []))) (omega (arith, small)) h.1 later
      (λ ls b. next ls (subst (λ ns. IsBehind ls ns []) (append_assoc before (x ∷ []) nets) b))

  -- the lines of the outputs
  outputs-outcome : (nets : List Net) (lines : List LineSort) (done outputs : List ℕ) → length nets ≤ 65536 → ((o : ℕ) → o < length nets → known (net_name o) ≡ true) → AllByRecursion (λ o. o < length nets) (done ++ outputs)
      → 1 ≤ length (done ++ outputs) → IsBehind lines nets done → outcome known (output_sorts outputs) lines ≡ Ok (record { names = names (length nets); nets = nets; outputs = done ++ outputs })
  outputs-outcome nets lines done [] small knows within some is =
      let count : length (put_out lines) ≡ length done = ap length is.outputs_are ∙ length-map done net_name in
      let long : length (done ++ []) ≡ length done = ap length (append-nil done) in
      let full : (length (put_out lines) == 0) ≡ false = ne_eqb (length (put_out lines)) 0 (λ e. omega (arith, e, count, long, some)) in
      ap (λ b. cond b (Err (fault_at (length lines + 1) NoOutput)) (Ok (circuit_of lines))) full
      ∙ ap Ok (same_circuit (defined lines) (names (length nets)) (nets_of lines) nets (map (index_of (defined lines)) (put_out lines)) (done ++ []) is.names_are is.nets_are
      (ap (λ ns. map (index_of ns) (put_out lines)) is.names_are ∙ ap (map (index_of (names (length nets)))) is.outputs_are ∙ numbers-read (length nets) done small (subst (AllByRecursion (λ o. o < length nets)) (append-nil done) within) ∙ sym (append-nil done)))
  outputs-outcome nets lines done (o ∷ outputs) small knows within some is =
      let line = Outputs (net_name o ∷ []) in
      let here : o < length nets = middle (λ k. k < length nets) done o outputs within in
      let none : line_fault known (defined lines) line ≡ None = ap (λ b. cond b None (Some UnknownNet)) (knows o here) in
      let later : IsBehind (line ∷ lines) nets (done ++ o ∷ [])
      = record {
        names_are = append-nil (defined lines) ∙ is.names_are;
        nets_are = append-nil (nets_of lines) ∙ is.nets_are;
        outputs_are = ap (λ ns. ns ++ net_name o ∷ []) is.outputs_are ∙ sym (map-append net_name done (o ∷ []));
      } in
      let again : (done ++ o ∷ []) ++ outputs ≡ done ++ o ∷ outputs = append_assoc done (o ∷ []) outputs in
      ap (λ f. unless (length lines + 1) f (outcome known (output_sorts outputs) (line ∷ lines))) none
      ∙ outputs-outcome nets (line ∷ lines) (done ++ o ∷ []) outputs small knows (subst (AllByRecursion (λ k. k < length nets)) (sym again) within) (subst (λ os. 1 ≤ length os) (sym again) some) later
      ∙ ap (λ os. Ok (record { names = names (length nets); nets = nets; outputs = os })) again

-- the names that the lines define
net-names : (n : ℕ) (nets : List Net) → flat_map defines (net_sorts n nets) ≡ map net_name (range_with_len n (length nets))
net-names n [] = refl
net-names n (x ∷ nets) = ap (λ ns. ns ++ flat_map defines (net_sorts (n + 1) nets)) (net-defines n x) ∙ ap (λ ns. net_name n ∷ ns) (net-names (n + 1) nets)

output-names : (outputs : List ℕ) → flat_map defines (output_sorts outputs) ≡ []
output-names [] = refl
output-names (o ∷ outputs) = output-names outputs

all-names : (nets : List Net) (outputs : List ℕ) → flat_map defines (net_sorts 0 nets ++ output_sorts outputs) ≡ names (length nets)
all-names nets outputs =
    flat_map-append defines (net_sorts 0 nets) (output_sorts outputs) ∙ ap (λ ns. flat_map defines (net_sorts 0 nets) ++ ns) (output-names outputs) ∙ append-nil (flat_map defines (net_sorts 0 nets)) ∙ net-names 0 nets

-- the text of nets and outputs is read as them
pub text-read : (nets : List Net) (outputs : List ℕ) → IsWritable [] nets → length nets ≤ 65536 → AllByRecursion (λ o. o < length nets) outputs → 1 ≤ length outputs
    → circuit_in (text_by nets outputs) ≡ Ok (record { names = names (length nets); nets = nets; outputs = outputs })
unfolding text_by
text-read nets outputs h small within some =
    let sorts : map sort_of (lines_of (text_by nets outputs)) ≡ net_sorts 0 nets ++ output_sorts outputs =
    all-lines 0 [] nets (map output_line outputs) (output_sorts outputs) refl (omega (arith, small)) h (output-lines (length nets) outputs (omega (arith, small)) within) in
    ap (λ lines. outcome (is_in (flat_map defines lines)) lines []) sorts
    ∙ ap (λ ns. outcome (is_in ns) (net_sorts 0 nets ++ output_sorts outputs) []) (all-names nets outputs)
    ∙ nets-outcome (is_in (names (length nets))) 0 [] nets [] (output_sorts outputs) (Ok (record { names = names (length nets); nets = nets; outputs = outputs })) refl (omega (arith, small)) h
    (record { names_are = refl; nets_are = refl; outputs_are = refl })
    (λ lines is. outputs-outcome (is_in (names (length nets))) nets lines [] outputs small (λ o lt. known-name (length nets) o lt (omega (arith, small))) within some is)
