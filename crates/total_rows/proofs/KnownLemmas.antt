-- What a seat knows, as an amount.
use Rattle.std.proofs.Common.{◌≡◌, ℕ, ◌+◌, ◌-◌, ◌≤◌, List, [], ◌∷◌, ◌++◌, length, map, refl, sym, ap, subst, ◌∙◌, arith}
use Rattle.std.specs.Prelude.{max}
use mathlib.Core.Logic.{dite}
use native.Mathlib.Decide.{ℕ_discrete}
use Rattle.acct_base.specs.declared.amount.Amount.{Amount}
use Rattle.acct_base.specs.Amounts.{IsAtMost}
use Rattle.acct_base.specs.Sums.{added as total_of}
use Rattle.total_rows.specs.declared.plan.View.{View}
use Rattle.total_rows.specs.Sums.{added, most, knows}
use Rattle.total_rows.specs.Rule.{calls}
use Rattle.total_rows.specs.declared.plan.Note.TheVariants.{Adds}
use Rattle.total_rows.specs.declared.plan.Addition.{Addition}
use Rattle.total_rows.specs.declared.plan.Stage.TheVariants.{Idle}
use Rattle.total_rows.specs.Plays.{begun, split_right, joined, Settled}
use Rattle.total_rows.specs.Shown.{shown}
use Rattle.total_rows.specs.Seats.{noted_of, greater}
use Rattle.total_rows.specs.ReadSteps.{ReadsNumbers, ReadsKey}
use Rattle.total_rows.proofs.Keeps.{added_snoc}
use Rattle.total_rows.proofs.ReadLemmas.{most-append}
use Rattle.total_rows.proofs.SeatLemmas.{added-append}
use Rattle.total_rows.proofs.ShownLemmas.{total_rx_packets, total_rx_bytes, total_tx_packets, total_tx_bytes, amount_is}

-- what a view knows of a key
abbrev pub view_known : View → ℕ → Amount
view_known m key = greater (noted_of m.notes key) (total_of (map shown m.adds) key)

number_is : (n k a t : ℕ) → max n a ≡ k → t ≡ a → k ≡ max n t
number_is n k a t e f = omega (arith, e, f)

pub knows_answer : (all key : ℕ) (m m' : View) (a : Amount) → ReadsKey all key m a m' → a ≡ view_known m' key
knows_answer all key m m' a r = amount_is a.rx_packets a.rx_bytes a.tx_packets a.tx_bytes (view_known m' key)
    (number_is (most key 0 m'.notes) a.rx_packets (added key 0 m'.adds) (total_of (map shown m'.adds) key).rx_packets r.rx_packets (total_rx_packets key m'.adds))
    (number_is (most key 1 m'.notes) a.rx_bytes (added key 1 m'.adds) (total_of (map shown m'.adds) key).rx_bytes r.rx_bytes (total_rx_bytes key m'.adds))
    (number_is (most key 2 m'.notes) a.tx_packets (added key 2 m'.adds) (total_of (map shown m'.adds) key).tx_packets r.tx_packets (total_tx_packets key m'.adds))
    (number_is (most key 3 m'.notes) a.tx_bytes (added key 3 m'.adds) (total_of (map shown m'.adds) key).tx_bytes r.tx_bytes (total_tx_bytes key m'.adds))

number_below : (n k a t : ℕ) → max n a ≤ k → t ≡ a → max n t ≤ k
number_below n k a t h f = omega (arith, h, f)

pub knew_less : (all key : ℕ) (m : View) (a : Amount) → ReadsNumbers all key m a → IsAtMost (view_known m key) a
knew_less all key m a r = record {
  rx_packets = number_below (most key 0 m.notes) a.rx_packets (added key 0 m.adds) (total_of (map shown m.adds) key).rx_packets r.rx_packets (total_rx_packets key m.adds);
  rx_bytes = number_below (most key 1 m.notes) a.rx_bytes (added key 1 m.adds) (total_of (map shown m.adds) key).rx_bytes r.rx_bytes (total_rx_bytes key m.adds);
  tx_packets = number_below (most key 2 m.notes) a.tx_packets (added key 2 m.adds) (total_of (map shown m.adds) key).tx_packets r.tx_packets (total_tx_packets key m.adds);
  tx_bytes = number_below (most key 3 m.notes) a.tx_bytes (added key 3 m.adds) (total_of (map shown m.adds) key).tx_bytes r.tx_bytes (total_tx_bytes key m.adds);
}

pub sole_reads_own : (all key : ℕ) (m : View) (a : Amount) → ReadsNumbers all key m a → calls m ≡ all → a ≡ total_of (map shown m.adds) key
sole_reads_own all key m a r sole = amount_is a.rx_packets a.rx_bytes a.tx_packets a.tx_bytes (total_of (map shown m.adds) key)
    (r.sole_rx_packets sole ∙ sym (total_rx_packets key m.adds)) (r.sole_rx_bytes sole ∙ sym (total_rx_bytes key m.adds))
    (r.sole_tx_packets sole ∙ sym (total_tx_packets key m.adds)) (r.sole_tx_bytes sole ∙ sym (total_tx_bytes key m.adds))

-- ---- what a split-off seat and a joined one know

split_number : (m mv me tv : ℕ) → m ≡ max mv (max me 0) → tv ≡ me → max m 0 ≡ max mv tv
split_number m mv me tv e f = omega (arith, e, f)

pub split_known : (n key : ℕ) (v : View) → view_known (split_right n v) key ≡ view_known v key
split_known n key v = amount_is (max (most key 0 (v.notes ++ Adds v.adds ∷ [])) 0) (max (most key 1 (v.notes ++ Adds v.adds ∷ [])) 0) (max (most key 2 (v.notes ++ Adds v.adds ∷ [])) 0) (max (most key 3 (v.notes ++ Adds v.adds ∷ [])) 0) (view_known v key)
    (split_number (most key 0 (v.notes ++ Adds v.adds ∷ [])) (most key 0 v.notes) (added key 0 v.adds) (total_of (map shown v.adds) key).rx_packets (most-append key 0 v.notes (Adds v.adds ∷ [])) (total_rx_packets key v.adds))
    (split_number (most key 1 (v.notes ++ Adds v.adds ∷ [])) (most key 1 v.notes) (added key 1 v.adds) (total_of (map shown v.adds) key).rx_bytes (most-append key 1 v.notes (Adds v.adds ∷ [])) (total_rx_bytes key v.adds))
    (split_number (most key 2 (v.notes ++ Adds v.adds ∷ [])) (most key 2 v.notes) (added key 2 v.adds) (total_of (map shown v.adds) key).tx_packets (most-append key 2 v.notes (Adds v.adds ∷ [])) (total_tx_packets key v.adds))
    (split_number (most key 3 (v.notes ++ Adds v.adds ∷ [])) (most key 3 v.notes) (added key 3 v.adds) (total_of (map shown v.adds) key).tx_bytes (most-append key 3 v.notes (Adds v.adds ∷ [])) (total_tx_bytes key v.adds))

join_number : (m mv mw t tv tw a b c : ℕ) → m ≡ max mv mw → t ≡ a → a ≡ b + c → tv ≡ b → tw ≡ c → max m t ≡ max (max (max mv tv) (max mw tw)) t
join_number m mv mw t tv tw a b c e f g h i = omega (arith, e, f, g, h, i)

pub join_known : (key : ℕ) (v w : View) → view_known (joined v w) key ≡ greater (greater (view_known v key) (view_known w key)) (total_of (map shown (v.adds ++ w.adds)) key)
join_known key v w = let whole = total_of (map shown (v.adds ++ w.adds)) key in
    amount_is (max (most key 0 (v.notes ++ w.notes)) whole.rx_packets) (max (most key 1 (v.notes ++ w.notes)) whole.rx_bytes) (max (most key 2 (v.notes ++ w.notes)) whole.tx_packets) (max (most key 3 (v.notes ++ w.notes)) whole.tx_bytes)
    (greater (greater (view_known v key) (view_known w key)) whole)
    (join_number _ _ _ _ (total_of (map shown v.adds) key).rx_packets (total_of (map shown w.adds) key).rx_packets _ _ _ (most-append key 0 v.notes w.notes) (total_rx_packets key (v.adds ++ w.adds)) (added-append key 0 v.adds w.adds) (total_rx_packets key v.adds) (total_rx_packets key w.adds))
    (join_number _ _ _ _ (total_of (map shown v.adds) key).rx_bytes (total_of (map shown w.adds) key).rx_bytes _ _ _ (most-append key 1 v.notes w.notes) (total_rx_bytes key (v.adds ++ w.adds)) (added-append key 1 v.adds w.adds) (total_rx_bytes key v.adds) (total_rx_bytes key w.adds))
    (join_number _ _ _ _ (total_of (map shown v.adds) key).tx_packets (total_of (map shown w.adds) key).tx_packets _ _ _ (most-append key 2 v.notes w.notes) (total_tx_packets key (v.adds ++ w.adds)) (added-append key 2 v.adds w.adds) (total_tx_packets key v.adds) (total_tx_packets key w.adds))
    (join_number _ _ _ _ (total_of (map shown v.adds) key).tx_bytes (total_of (map shown w.adds) key).tx_bytes _ _ _ (most-append key 3 v.notes w.notes) (total_tx_bytes key (v.adds ++ w.adds)) (added-append key 3 v.adds w.adds) (total_tx_bytes key v.adds) (total_tx_bytes key w.adds))

own_number : (n a t : ℕ) → max n a ≡ a → t ≡ a → max n t ≡ t
own_number n a t e f = omega (arith, e, f)

pub known_own : (key : ℕ) (m : View) → ((c : ℕ) → knows key c m ≡ added key c m.adds) → view_known m key ≡ total_of (map shown m.adds) key
known_own key m h = let own = total_of (map shown m.adds) key in
    amount_is (max (most key 0 m.notes) own.rx_packets) (max (most key 1 m.notes) own.rx_bytes) (max (most key 2 m.notes) own.tx_packets) (max (most key 3 m.notes) own.tx_bytes) own
    (own_number (most key 0 m.notes) (added key 0 m.adds) own.rx_packets (h 0) (total_rx_packets key m.adds))
    (own_number (most key 1 m.notes) (added key 1 m.adds) own.rx_bytes (h 1) (total_rx_bytes key m.adds))
    (own_number (most key 2 m.notes) (added key 2 m.adds) own.tx_packets (h 2) (total_tx_packets key m.adds))
    (own_number (most key 3 m.notes) (added key 3 m.adds) own.tx_bytes (h 3) (total_tx_bytes key m.adds))

pub sole_join : (l m l' m' a b a' b' n : ℕ) → l ≡ a → m ≡ b → l' ≡ a' → m' ≡ b' → (l + l') + (m + m') ≡ n → (a + a') + (b + b') ≡ n
sole_join l m l' m' a b a' b' n e f g h i = omega (arith, e, f, g, h, i)

-- ---- what a seat that has all calls knows

pub settled_own : (all : ℕ) (m : View) → Settled all m → calls m ≡ all → (key : ℕ) → view_known m key ≡ total_of (map shown m.adds) key
settled_own all m s sole key = known_own key m (s.sole sole key)

-- after a read
pub read_own : (all key : ℕ) (m m' : View) (a : Amount) → ReadsKey all key m a m' → Settled all m → calls m ≡ all → (k : ℕ) → view_known m' k ≡ total_of (map shown m'.adds) k
read_own all key m m' a r s sole k = dite (ℕ_discrete k key)
    (λ (e : k ≡ key). subst (λ (x : ℕ). view_known m' x ≡ total_of (map shown m'.adds) x) (sym e)
    (sym (knows_answer all key m m' a r) ∙ (sole_reads_own all key m a r.numbers sole ∙ ap (λ (x : View). total_of (map shown x.adds) key) (sym r.view))))
    (λ ne. known_own k m' (λ c. (λ i. max (r.others k c ne i) (added k c (r.view i).adds)) ∙ (s.sole sole k c ∙ ap (λ (x : View). added k c x.adds) (sym r.view))))

-- after all calls were given away: none was made before, and nothing was added
all_given : (all n left made : ℕ) → left + made ≤ all → n ≤ left → n + 0 ≡ all → (left + made ≡ all) × (made ≡ 0)
all_given all n left made h i e = (omega (arith, h, i, e), omega (arith, h, i, e))

nothing_in : (made : ℕ) (l : List Addition) → length l ≤ made → made ≡ 0 → l ≡ []
nothing_in made [] h e = refl
nothing_in made (x ∷ xs) h e = absurd (omega (arith, h, e))

pub given_own : (all n : ℕ) (m : View) → Settled all m → n ≤ m.left → n + 0 ≡ all → (key : ℕ) → view_known m key ≡ total_of [] key
given_own all n m s within sole key = let t = all_given all n m.left m.made s.within within sole in
    settled_own all m s t.0 key ∙ ap (λ (l : List Addition). total_of (map shown l) key) (nothing_in m.made m.adds s.counted t.1)

-- after an add
grown : (a b k : ℕ) → b ≡ a + k → a ≤ b
grown a b k e = omega (arith, e)

own_grown : (n a b k : ℕ) → max n a ≡ a → b ≡ a + k → max n b ≡ b
own_grown n a b k e f = omega (arith, e, f)

pub add_own : (all : ℕ) (m : View) (x : Addition) → Settled all (begun m Idle) → calls (begun m Idle) ≡ all → (key : ℕ) → view_known (record (begun m Idle) { adds = m.adds ++ x ∷ [] }) key ≡ total_of (map shown (m.adds ++ x ∷ [])) key
add_own all m x s sole key = known_own key (record (begun m Idle) { adds = m.adds ++ x ∷ [] }) (λ c. own_grown (most key c m.notes) (added key c m.adds) (added key c (m.adds ++ x ∷ [])) _ (s.sole sole key c) (added_snoc key c m.adds x))

-- ---- what is known never falls

grown_number : (n a b k t u : ℕ) → t ≡ a → u ≡ b → b ≡ a + k → max n t ≤ max n u
grown_number n a b k t u e f g = omega (arith, e, f, g)

pub add_grows : (m : View) (x : Addition) (key : ℕ) → IsAtMost (view_known m key) (view_known (record (begun m Idle) { adds = m.adds ++ x ∷ [] }) key)
add_grows m x key = record {
  rx_packets = grown_number (most key 0 m.notes) _ _ _ _ _ (total_rx_packets key m.adds) (total_rx_packets key (m.adds ++ x ∷ [])) (added_snoc key 0 m.adds x);
  rx_bytes = grown_number (most key 1 m.notes) _ _ _ _ _ (total_rx_bytes key m.adds) (total_rx_bytes key (m.adds ++ x ∷ [])) (added_snoc key 1 m.adds x);
  tx_packets = grown_number (most key 2 m.notes) _ _ _ _ _ (total_tx_packets key m.adds) (total_tx_packets key (m.adds ++ x ∷ [])) (added_snoc key 2 m.adds x);
  tx_bytes = grown_number (most key 3 m.notes) _ _ _ _ _ (total_tx_bytes key m.adds) (total_tx_bytes key (m.adds ++ x ∷ [])) (added_snoc key 3 m.adds x);
}

same_number : (a b : ℕ) → a ≡ b → a ≤ b
same_number a b e = omega (arith, e)

pub read_grows : (all key : ℕ) (m m' : View) (a : Amount) → ReadsKey all key m a m' → (k : ℕ) → IsAtMost (view_known m k) (view_known m' k)
read_grows all key m m' a r k = dite (ℕ_discrete k key)
    (λ (e : k ≡ key). subst (λ (x : ℕ). IsAtMost (view_known m x) (view_known m' x)) (sym e) (subst (IsAtMost (view_known m key)) (knows_answer all key m m' a r) (knew_less all key m a r.numbers)))
    (λ ne. let adds : m.adds ≡ m'.adds = ap (λ (x : View). x.adds) (sym r.view) in record {
      rx_packets = same_number _ _ (λ i. max (sym (r.others k 0 ne) i) (total_of (map shown (adds i)) k).rx_packets);
      rx_bytes = same_number _ _ (λ i. max (sym (r.others k 1 ne) i) (total_of (map shown (adds i)) k).rx_bytes);
      tx_packets = same_number _ _ (λ i. max (sym (r.others k 2 ne) i) (total_of (map shown (adds i)) k).tx_packets);
      tx_bytes = same_number _ _ (λ i. max (sym (r.others k 3 ne) i) (total_of (map shown (adds i)) k).tx_bytes);
    })

first_of_three : (a b c : ℕ) → a ≤ max (max a b) c
first_of_three a b c = omega arith

second_of_three : (a b c : ℕ) → b ≤ max (max a b) c
second_of_three a b c = omega arith

pub greater_first : (a b c d : Amount) → d ≡ greater (greater a b) c → IsAtMost a d
greater_first a b c d e = subst (IsAtMost a) (sym e) record {
  rx_packets = first_of_three a.rx_packets b.rx_packets c.rx_packets;
  rx_bytes = first_of_three a.rx_bytes b.rx_bytes c.rx_bytes;
  tx_packets = first_of_three a.tx_packets b.tx_packets c.tx_packets;
  tx_bytes = first_of_three a.tx_bytes b.tx_bytes c.tx_bytes;
}

pub greater_second : (a b c d : Amount) → d ≡ greater (greater a b) c → IsAtMost b d
greater_second a b c d e = subst (IsAtMost b) (sym e) record {
  rx_packets = second_of_three a.rx_packets b.rx_packets c.rx_packets;
  rx_bytes = second_of_three a.rx_bytes b.rx_bytes c.rx_bytes;
  tx_packets = second_of_three a.tx_packets b.tx_packets c.tx_packets;
  tx_bytes = second_of_three a.tx_bytes b.tx_bytes c.tx_bytes;
}

-- ---- a seat has as many calls as its view

pub calls_here : (l m l' m' n : ℕ) → l ≡ l' → m ≡ m' → l + m ≡ n → l' + m' ≡ n
calls_here l m l' m' n e f g = omega (arith, e, f, g)

pub calls_begun : (l m l' m' n : ℕ) → l ≡ l' → m ≡ m' → (l - 1) + (m + 1) ≡ n → (l' - 1) + (m' + 1) ≡ n
calls_begun l m l' m' n e f g = omega (arith, e, f, g)

pub left_here : (n l l' l'' : ℕ) → n ≤ l'' → l ≡ l' → l ≡ l'' → n ≤ l'
left_here n l l' l'' h e f = omega (arith, h, e, f)
