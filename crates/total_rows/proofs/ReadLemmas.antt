-- What a seat knows once it has read a row.
use Rattle.std.proofs.Common.{◌≡◌, ◌≢◌, ℕ, ◌≤◌, List, [], ◌∷◌, ◌++◌, Bool, true, false, ◌&&◌, nat_eq, append_assoc, refl, sym, ap, ◌∙◌, subst, arith, eq-eqb, ne_eqb}
use Rattle.std.specs.Prelude.{max}
use Rattle.acct_base.specs.declared.amount.Amount.{Amount}
use Rattle.total_rows.specs.declared.plan.Note.{Note}
use Rattle.total_rows.specs.declared.plan.Note.TheVariants.{Number}
use Rattle.total_rows.specs.declared.plan.View.{View}
use Rattle.total_rows.specs.declared.plan.Stage.{Stage}
use Rattle.total_rows.specs.declared.plan.Stage.TheVariants.{Idle}
use Rattle.total_rows.specs.Sums.{if_is, added, noted, most, knows}
use Rattle.total_rows.specs.Rule.{calls}
use Rattle.total_rows.specs.Plays.{Noted}
use Rattle.total_rows.specs.ReadSteps.{row_notes, ReadsNumbers, ReadsRow, ReadsKey}
use Rattle.total_rows.proofs.ShownLemmas.{amount_with}

max_step : (a b c d : ℕ) → b ≡ max c d → max a b ≡ max (max a c) d
max_step a b c d e = omega (arith, e)

pub most-append : (key c : ℕ) (xs ys : List Note) → most key c (xs ++ ys) ≡ max (most key c xs) (most key c ys)
most-append key c [] ys = omega arith
most-append key c (x ∷ xs) ys = max_step (noted key c x) (most key c (xs ++ ys)) (most key c xs) (most key c ys) (most-append key c xs ys)

none_of_four : (b c d e : Bool) (p q r t : ℕ) → max (if_is (false && b) p) (max (if_is (false && c) q) (max (if_is (false && d) r) (max (if_is (false && e) t) 0))) ≡ 0
none_of_four b c d e p q r t = omega arith

-- a row's notes tell nothing of another key
pub row_other : (key other c : ℕ) (a : Amount) → other ≢ key → most other c (row_notes key a) ≡ 0
row_other key other c a ne = subst (λ (x : Bool). max (if_is (x && nat_eq 0 c) a.rx_packets) (max (if_is (x && nat_eq 1 c) a.rx_bytes) (max (if_is (x && nat_eq 2 c) a.tx_packets) (max (if_is (x && nat_eq 3 c) a.tx_bytes) 0))) ≡ 0)
    (sym (ne_eqb key other (λ (e : key ≡ other). ne (sym e)))) (none_of_four (nat_eq 0 c) (nat_eq 1 c) (nat_eq 2 c) (nat_eq 3 c) a.rx_packets a.rx_bytes a.tx_packets a.tx_bytes)

-- and of its own key just its numbers
own_notes : (key c : ℕ) (a : Amount) (n : ℕ) → max (if_is (true && nat_eq 0 c) a.rx_packets) (max (if_is (true && nat_eq 1 c) a.rx_bytes) (max (if_is (true && nat_eq 2 c) a.tx_packets) (max (if_is (true && nat_eq 3 c) a.tx_bytes) 0))) ≡ n
    → most key c (row_notes key a) ≡ n
own_notes key c a n h = subst (λ (x : Bool). max (if_is (x && nat_eq 0 c) a.rx_packets) (max (if_is (x && nat_eq 1 c) a.rx_bytes) (max (if_is (x && nat_eq 2 c) a.tx_packets) (max (if_is (x && nat_eq 3 c) a.tx_bytes) 0))) ≡ n)
    (sym (eq-eqb key key refl)) h

pub row_rx_packets : (key : ℕ) (a : Amount) → most key 0 (row_notes key a) ≡ a.rx_packets
row_rx_packets key a = own_notes key 0 a a.rx_packets (omega arith)

pub row_rx_bytes : (key : ℕ) (a : Amount) → most key 1 (row_notes key a) ≡ a.rx_bytes
row_rx_bytes key a = own_notes key 1 a a.rx_bytes (omega arith)

pub row_tx_packets : (key : ℕ) (a : Amount) → most key 2 (row_notes key a) ≡ a.tx_packets
row_tx_packets key a = own_notes key 2 a a.tx_packets (omega arith)

pub row_tx_bytes : (key : ℕ) (a : Amount) → most key 3 (row_notes key a) ≡ a.tx_bytes
row_tx_bytes key a = own_notes key 3 a a.tx_bytes (omega arith)

-- what is known when a greater number is noted
now_known : (old new own both n : ℕ) → both ≡ max old new → new ≡ n → max old own ≤ n → max both own ≡ n
now_known old new own both n e f h = omega (arith, e, f, h)

known_row : (key c : ℕ) (m : View) (a : Amount) (n : ℕ) → most key c (row_notes key a) ≡ n → knows key c m ≤ n → max (most key c (m.notes ++ row_notes key a)) (added key c m.adds) ≡ n
known_row key c m a n e h = now_known (most key c m.notes) (most key c (row_notes key a)) (added key c m.adds) (most key c (m.notes ++ row_notes key a)) n (most-append key c m.notes (row_notes key a)) e h

none_more : (old new both : ℕ) → both ≡ max old new → new ≡ 0 → both ≡ old
none_more old new both e f = omega (arith, e, f)

-- notes never take away
more_known : (old new own both : ℕ) → both ≡ max old new → max old own ≤ max both own
more_known old new own both e = omega (arith, e)

known_grows : (key c : ℕ) (m : View) (more : List Note) (stage : Stage) → knows key c m ≤ knows key c (record m { notes = m.notes ++ more; stage = stage })
known_grows key c m more stage = more_known (most key c m.notes) (most key c more) (added key c m.adds) (most key c (m.notes ++ more)) (most-append key c m.notes more)

then_known : (k l n : ℕ) → k ≤ l → l ≤ n → k ≤ n
then_known k l n h i = omega (arith, h, i)

-- one number after another
module _ (all key : ℕ) (m m' : View) (c n : ℕ) (next : Stage) (r : Noted all key c next m n m') where
  grows : (d : ℕ) → knows key d m ≤ knows key d m'
  grows d = subst (λ (x : View). knows key d m ≤ knows key d x) (sym r.view) (known_grows key d m (Number key c n ∷ []) next)

  same_calls : calls m' ≡ calls m
  same_calls = ap calls r.view

  same_adds : (d : ℕ) → added key d m'.adds ≡ added key d m.adds
  same_adds d = ap (λ (x : View). added key d x.adds) r.view

pub reads_row : (all key : ℕ) (m m1 m2 m3 m4 : View) (a b c d : ℕ) (s1 s2 s3 : Stage) → Noted all key 0 s1 m a m1 → Noted all key 1 s2 m1 b m2 → Noted all key 2 s3 m2 c m3 → Noted all key 3 Idle m3 d m4
    → ReadsRow all key m (amount_with a b c d) m4
reads_row all key m m1 m2 m3 m4 a b c d s1 s2 s3 r1 r2 r3 r4 =
    let e1 = r1.view in
    let e2 : m2 ≡ record m { notes = (m.notes ++ Number key 0 a ∷ []) ++ Number key 1 b ∷ []; stage = s2 } = r2.view ∙ ap (λ (v : View). record v { notes = v.notes ++ Number key 1 b ∷ []; stage = s2 }) e1 in
    let e3 : m3 ≡ record m { notes = ((m.notes ++ Number key 0 a ∷ []) ++ Number key 1 b ∷ []) ++ Number key 2 c ∷ []; stage = s3 } = r3.view ∙ ap (λ (v : View). record v { notes = v.notes ++ Number key 2 c ∷ []; stage = s3 }) e2 in
    let e4 : m4 ≡ record m { notes = (((m.notes ++ Number key 0 a ∷ []) ++ Number key 1 b ∷ []) ++ Number key 2 c ∷ []) ++ Number key 3 d ∷ []; stage = Idle } = r4.view ∙ ap (λ (v : View). record v { notes = v.notes ++ Number key 3 d ∷ []; stage = Idle }) e3 in
    let whole : (((m.notes ++ Number key 0 a ∷ []) ++ Number key 1 b ∷ []) ++ Number key 2 c ∷ []) ++ Number key 3 d ∷ [] ≡ m.notes ++ row_notes key (amount_with a b c d) =
    append_assoc ((m.notes ++ Number key 0 a ∷ []) ++ Number key 1 b ∷ []) (Number key 2 c ∷ []) (Number key 3 d ∷ [])
    ∙ append_assoc (m.notes ++ Number key 0 a ∷ []) (Number key 1 b ∷ []) (Number key 2 c ∷ Number key 3 d ∷ [])
    ∙ append_assoc m.notes (Number key 0 a ∷ []) (Number key 1 b ∷ Number key 2 c ∷ Number key 3 d ∷ []) in
    let g1 = grows all key m m1 0 a s1 r1 in let g2 = grows all key m1 m2 1 b s2 r2 in let g3 = grows all key m2 m3 2 c s3 r3 in
    let c1 = same_calls all key m m1 0 a s1 r1 in let c2 = same_calls all key m1 m2 1 b s2 r2 in let c3 = same_calls all key m2 m3 2 c s3 r3 in
    let a1 = same_adds all key m m1 0 a s1 r1 in let a2 = same_adds all key m1 m2 1 b s2 r2 in let a3 = same_adds all key m2 m3 2 c s3 r3 in
    record {
      view = e4 ∙ ap (λ (l : List Note). record m { notes = l; stage = Idle }) whole;
      numbers = record {
        rx_packets = r1.known;
        rx_bytes = then_known (knows key 1 m) (knows key 1 m1) b (g1 1) r2.known;
        tx_packets = then_known (knows key 2 m) (knows key 2 m2) c (then_known (knows key 2 m) (knows key 2 m1) (knows key 2 m2) (g1 2) (g2 2)) r3.known;
        tx_bytes = then_known (knows key 3 m) (knows key 3 m3) d (then_known (knows key 3 m) (knows key 3 m2) (knows key 3 m3) (then_known (knows key 3 m) (knows key 3 m1) (knows key 3 m2) (g1 3) (g2 3)) (g3 3)) r4.known;
        sole_rx_packets = r1.sole;
        sole_rx_bytes = λ (sole : calls m ≡ all). r2.sole (c1 ∙ sole) ∙ a1 1;
        sole_tx_packets = λ (sole : calls m ≡ all). r3.sole (c2 ∙ c1 ∙ sole) ∙ a2 2 ∙ a1 2;
        sole_tx_bytes = λ (sole : calls m ≡ all). r4.sole (c3 ∙ c2 ∙ c1 ∙ sole) ∙ a3 3 ∙ a2 3 ∙ a1 3;
      };
    }

-- the answer where the row was read
pub key_of_row : (all key : ℕ) (m n m' : View) (a : Amount) (stage : Stage) → m.stage ≡ Idle → n ≡ record m { stage = stage } → ReadsRow all key n a m' → ReadsKey all key m a m'
key_of_row all key m n m' a stage rests e r =
    let back : record m { stage = Idle } ≡ m = ap (λ (x : Stage). record m { stage = x }) (sym rests) in
    let v : m' ≡ record m { notes = m.notes ++ row_notes key a } = r.view ∙ ap (λ (x : View). record x { notes = x.notes ++ row_notes key a; stage = Idle }) e ∙ ap (λ (x : View). record x { notes = x.notes ++ row_notes key a }) back in
    let b : ReadsNumbers all key m a = subst (λ (x : View). ReadsNumbers all key x a) back (record {
      rx_packets = subst (λ (x : View). knows key 0 x ≤ a.rx_packets) e (r.numbers).rx_packets;
      rx_bytes = subst (λ (x : View). knows key 1 x ≤ a.rx_bytes) e (r.numbers).rx_bytes;
      tx_packets = subst (λ (x : View). knows key 2 x ≤ a.tx_packets) e (r.numbers).tx_packets;
      tx_bytes = subst (λ (x : View). knows key 3 x ≤ a.tx_bytes) e (r.numbers).tx_bytes;
      sole_rx_packets = subst (λ (x : View). calls x ≡ all → a.rx_packets ≡ added key 0 x.adds) e (r.numbers).sole_rx_packets;
      sole_rx_bytes = subst (λ (x : View). calls x ≡ all → a.rx_bytes ≡ added key 1 x.adds) e (r.numbers).sole_rx_bytes;
      sole_tx_packets = subst (λ (x : View). calls x ≡ all → a.tx_packets ≡ added key 2 x.adds) e (r.numbers).sole_tx_packets;
      sole_tx_bytes = subst (λ (x : View). calls x ≡ all → a.tx_bytes ≡ added key 3 x.adds) e (r.numbers).sole_tx_bytes;
    }) in
    record {
      view = v ∙ ap (λ (l : List Note). record m { notes = l }) (sym (ap (λ (x : View). x.notes) v));
      rx_packets = ap (knows key 0) v ∙ known_row key 0 m a a.rx_packets (row_rx_packets key a) b.rx_packets;
      rx_bytes = ap (knows key 1) v ∙ known_row key 1 m a a.rx_bytes (row_rx_bytes key a) b.rx_bytes;
      tx_packets = ap (knows key 2) v ∙ known_row key 2 m a a.tx_packets (row_tx_packets key a) b.tx_packets;
      tx_bytes = ap (knows key 3) v ∙ known_row key 3 m a a.tx_bytes (row_tx_bytes key a) b.tx_bytes;
      others = λ other c ne. ap (λ (x : View). most other c x.notes) v ∙ none_more (most other c m.notes) (most other c (row_notes key a)) (most other c (m.notes ++ row_notes key a)) (most-append other c m.notes (row_notes key a)) (row_other key other c a ne);
      numbers = b;
    }

no_own : (a b : ℕ) → max a b ≡ 0 → 0 ≡ b
no_own a b e = omega (arith, e)

at_most_none : (a : ℕ) → a ≡ 0 → a ≤ 0
at_most_none a e = omega (arith, e)

-- the answer where nothing was ever added
pub key_of_none : (all key : ℕ) (m m' : View) (a : Amount) → a ≡ amount_with 0 0 0 0 → m' ≡ m → ((c : ℕ) → knows key c m ≡ 0) → ReadsKey all key m a m'
key_of_none all key m m' a zero_ v none = subst (λ (x : Amount). ReadsKey all key m x m') (sym zero_) record {
  view = v ∙ ap (λ (l : List Note). record m { notes = l }) (sym (ap (λ (x : View). x.notes) v));
  rx_packets = ap (knows key 0) v ∙ none 0;
  rx_bytes = ap (knows key 1) v ∙ none 1;
  tx_packets = ap (knows key 2) v ∙ none 2;
  tx_bytes = ap (knows key 3) v ∙ none 3;
  others = λ other c ne. ap (λ (x : View). most other c x.notes) v;
  numbers = record {
    rx_packets = at_most_none (knows key 0 m) (none 0);
    rx_bytes = at_most_none (knows key 1 m) (none 1);
    tx_packets = at_most_none (knows key 2 m) (none 2);
    tx_bytes = at_most_none (knows key 3 m) (none 3);
    sole_rx_packets = λ _. no_own (most key 0 m.notes) (added key 0 m.adds) (none 0);
    sole_rx_bytes = λ _. no_own (most key 1 m.notes) (added key 1 m.adds) (none 1);
    sole_tx_packets = λ _. no_own (most key 2 m.notes) (added key 2 m.adds) (none 2);
    sole_tx_bytes = λ _. no_own (most key 3 m.notes) (added key 3 m.adds) (none 3);
  };
}
