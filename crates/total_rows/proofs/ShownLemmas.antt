-- Adds as the table keeps them, and as contracts see them.
use Rattle.std.proofs.Common.{◌≡◌, ℕ, ◌+◌, ◌*◌, List, [], ◌∷◌, Bool, true, false, ◌&&◌, nat_eq, map, refl, arith}
use Rattle.acct_base.specs.declared.amount.Amount.{Amount}
use Rattle.acct_base.specs.declared.packet.Dir.{Dir}
use Rattle.acct_base.specs.declared.packet.Dir.TheVariants.{Ingress, Egress}
use Rattle.acct_base.specs.Amounts.{amount_in, amount_if}
use Rattle.acct_base.specs.Sums.{added as total_of}
use Rattle.total_rows.specs.declared.plan.Addition.{Addition}
use Rattle.total_rows.specs.Sums.{side, if_is, added}
use Rattle.total_rows.specs.Shown.{shown}
use Rattle.acct_base.specs.Landings.{is_row}

pub sole_calls : (l m l' m' l'' m'' n : ℕ) → l ≡ l' → m ≡ m' → l ≡ l'' → m ≡ m'' → l'' + m'' ≡ n → l' + m' ≡ n
sole_calls l m l' m' l'' m'' n e f g h i = omega (arith, e, f, g, h, i)

-- ---- the four numbers of what landed

first_number : (b : Bool) (d : Dir) (p n : ℕ) → (amount_if b (amount_in d p n)).rx_packets ≡ if_is b (if_is (nat_eq 0 (2 * side d)) p + if_is (nat_eq 0 (2 * side d + 1)) n)
first_number true Ingress p n = omega arith
first_number true Egress p n = omega arith
first_number false d p n = refl

second_number : (b : Bool) (d : Dir) (p n : ℕ) → (amount_if b (amount_in d p n)).rx_bytes ≡ if_is b (if_is (nat_eq 1 (2 * side d)) p + if_is (nat_eq 1 (2 * side d + 1)) n)
second_number true Ingress p n = omega arith
second_number true Egress p n = omega arith
second_number false d p n = refl

third_number : (b : Bool) (d : Dir) (p n : ℕ) → (amount_if b (amount_in d p n)).tx_packets ≡ if_is b (if_is (nat_eq 2 (2 * side d)) p + if_is (nat_eq 2 (2 * side d + 1)) n)
third_number true Ingress p n = omega arith
third_number true Egress p n = omega arith
third_number false d p n = refl

fourth_number : (b : Bool) (d : Dir) (p n : ℕ) → (amount_if b (amount_in d p n)).tx_bytes ≡ if_is b (if_is (nat_eq 3 (2 * side d)) p + if_is (nat_eq 3 (2 * side d + 1)) n)
fourth_number true Ingress p n = omega arith
fourth_number true Egress p n = omega arith
fourth_number false d p n = refl

pub total_rx_packets : (key : ℕ) (l : List Addition) → (total_of (map shown l) key).rx_packets ≡ added key 0 l
total_rx_packets key [] = refl
total_rx_packets key (a ∷ l) = λ i. first_number (is_row a.landed && nat_eq a.job.key key) a.job.dir a.job.packets a.job.bytes i + total_rx_packets key l i

pub total_rx_bytes : (key : ℕ) (l : List Addition) → (total_of (map shown l) key).rx_bytes ≡ added key 1 l
total_rx_bytes key [] = refl
total_rx_bytes key (a ∷ l) = λ i. second_number (is_row a.landed && nat_eq a.job.key key) a.job.dir a.job.packets a.job.bytes i + total_rx_bytes key l i

pub total_tx_packets : (key : ℕ) (l : List Addition) → (total_of (map shown l) key).tx_packets ≡ added key 2 l
total_tx_packets key [] = refl
total_tx_packets key (a ∷ l) = λ i. third_number (is_row a.landed && nat_eq a.job.key key) a.job.dir a.job.packets a.job.bytes i + total_tx_packets key l i

pub total_tx_bytes : (key : ℕ) (l : List Addition) → (total_of (map shown l) key).tx_bytes ≡ added key 3 l
total_tx_bytes key [] = refl
total_tx_bytes key (a ∷ l) = λ i. fourth_number (is_row a.landed && nat_eq a.job.key key) a.job.dir a.job.packets a.job.bytes i + total_tx_bytes key l i

abbrev pub amount_with : ℕ → ℕ → ℕ → ℕ → Amount
amount_with a b c d = record { rx_packets = a; rx_bytes = b; tx_packets = c; tx_bytes = d }

-- an amount is its four numbers
pub amount_is : (a b c d : ℕ) (x : Amount) → a ≡ x.rx_packets → b ≡ x.rx_bytes → c ≡ x.tx_packets → d ≡ x.tx_bytes → amount_with a b c d ≡ x
amount_is a b c d x p q r t = λ i. record { rx_packets = p i; rx_bytes = q i; tx_packets = r i; tx_bytes = t i }
