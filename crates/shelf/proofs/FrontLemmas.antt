-- Sums over the front of a list, which a loop has seen.
use Rattle.std.proofs.Common.{Bool, true, false, ◌≡◌, ℕ, ◌+◌, ◌<◌, List, [], ◌∷◌, length, get_or, take, drop, refl, sym, ap, subst, ◌∙◌, arith, take-append-drop}
use Rattle.std.specs.List.{flat_map}
use Rattle.std.proofs.lemmas.List.{take_more}
use Rattle.std.proofs.lemmas.List.Concat.{flat_map-cons}
use Rattle.acct_base.specs.declared.amount.Amount.{Amount}
use Rattle.std.specs.Prelude.{Option}
use Rattle.acct_base.specs.declared.amount.Row.{Row}
use Rattle.acct_base.specs.declared.amount.Snapshot.{Snapshot}
use Rattle.acct_base.specs.declared.label.Label.{Label}
use Rattle.acct_base.specs.Amounts.{plus, zero_amount, total_by, amount_at, amount_if, same_label, HasRoom}
use Rattle.acct_base.proofs.SumLemmas.{total_by-append, plus_assoc, zero_plus}
use Rattle.acct_base.proofs.Keys.{plus_zero}
use Rattle.shelf.specs.declared.shelf.Deletion.{Deletion}
use Rattle.shelf.specs.Shelved.{Phases}
use Rattle.shelf.specs.Phases.{snapshot_rows}

-- a part of what has room has room
pub room_of_front : (a b c : Amount) → c ≡ plus a b → HasRoom c → HasRoom a
room_of_front a b c e room = record {
  rx_packets = omega (arith, room.rx_packets, ap (λ (x : Amount). x.rx_packets) e);
  rx_bytes = omega (arith, room.rx_bytes, ap (λ (x : Amount). x.rx_bytes) e);
  tx_packets = omega (arith, room.tx_packets, ap (λ (x : Amount). x.tx_packets) e);
  tx_bytes = omega (arith, room.tx_bytes, ap (λ (x : Amount). x.tx_bytes) e);
}

-- one item more
pub total_more : {X : Type 0} (f : X → Amount) (xs : List X) (i : ℕ) (d : X) → i < length xs → total_by f (take (i + 1) xs) ≡ plus (total_by f (take i xs)) (f (get_or xs i d))
total_more f xs i d lt =
    ap (total_by f) (take_more xs i d lt) ∙ total_by-append f (take i xs) (get_or xs i d ∷ []) ∙ ap (plus (total_by f (take i xs))) (plus_zero (f (get_or xs i d)))

-- the front and the rest
pub total_front : {X : Type 0} (f : X → Amount) (xs : List X) (i : ℕ) → total_by f xs ≡ plus (total_by f (take i xs)) (total_by f (drop i xs))
total_front f xs i = ap (total_by f) (sym (take-append-drop i xs)) ∙ total_by-append f (take i xs) (drop i xs)

-- a sum that was begun with some amount
pub sum_more : {X : Type 0} (f : X → Amount) (before : Amount) (xs : List X) (i : ℕ) (d : X) → i < length xs →
    plus (plus before (total_by f (take i xs))) (f (get_or xs i d)) ≡ plus before (total_by f (take (i + 1) xs))
sum_more f before xs i d lt = plus_assoc before (total_by f (take i xs)) (f (get_or xs i d)) ∙ ap (plus before) (sym (total_more f xs i d lt))

pub sum_has_room : {X : Type 0} (f : X → Amount) (before : Amount) (xs : List X) (i : ℕ) (d : X) → i < length xs →
    HasRoom (plus before (total_by f xs)) → HasRoom (plus (plus before (total_by f (take i xs))) (f (get_or xs i d)))
sum_has_room f before xs i d lt room =
    subst (λ (a : Amount). HasRoom a) (sym (sum_more f before xs i d lt))
    (room_of_front (plus before (total_by f (take (i + 1) xs))) (total_by f (drop (i + 1) xs)) (plus before (total_by f xs))
    (ap (plus before) (total_front f xs (i + 1)) ∙ sym (plus_assoc before (total_by f (take (i + 1) xs)) (total_by f (drop (i + 1) xs)))) room)

-- the sum over lists that are put together
pub total_by-flat_map : {X Y : Type 0} (g : Y → Amount) (h : X → List Y) (xs : List X) → total_by g (flat_map h xs) ≡ total_by (λ x. total_by g (h x)) xs
total_by-flat_map g h [] = refl
total_by-flat_map g h (x ∷ xs) = ap (total_by g) (flat_map-cons h x xs) ∙ total_by-append g (h x) (flat_map h xs) ∙ ap (plus (total_by g (h x))) (total_by-flat_map g h xs)

-- the sum of a label over the snapshots
pub snapshot_sum : (phases : Phases) (label : Label) → amount_at (snapshot_rows phases) label ≡ plus zero_amount (total_by (λ (p : Snapshot × Option Deletion). amount_at p.0.rows label) phases)
snapshot_sum phases label = total_by-flat_map (λ (row : Row). amount_if (same_label row.label label) row.amount) (λ (p : Snapshot × Option Deletion). p.0.rows) phases ∙ sym (zero_plus _)

pub nothing_has_room : HasRoom zero_amount
nothing_has_room = record { rx_packets = omega arith; rx_bytes = omega arith; tx_packets = omega arith; tx_bytes = omega arith }

-- one packet of 60 bytes
pub small_row_has_room : (b : Bool) → HasRoom (plus (amount_if b (record { rx_packets = 1; rx_bytes = 60; tx_packets = 0; tx_bytes = 0 })) zero_amount)
small_row_has_room true = record { rx_packets = omega arith; rx_bytes = omega arith; tx_packets = omega arith; tx_bytes = omega arith }
small_row_has_room false = record { rx_packets = omega arith; rx_bytes = omega arith; tx_packets = omega arith; tx_bytes = omega arith }
