-- The table of the digits' values.
use Rattle.std.proofs.Common.{◌≡◌, ◌≢◌, ℕ, zero, suc, ◌+◌, ◌*◌, ◌/◌, ◌%◌, ◌<◌, ◌≤◌, Bool, true, eqb, List, [], ◌∷◌, ◌++◌, length, take, drop, slice_index, slice_set, refl, sym, ap, subst, ◌∙◌, arith}
use Rattle.std.specs.Prelude.{◌&&◌, ◌||◌, nat_le}
use Rattle.std.proofs.lemmas.List.{append_assoc, append-nil, drop_all, take_all, take_more_set}
use Rattle.hex.specs.Hex.{lower_digits, encode_with, encode_lower}
use Rattle.hex.proofs.HexLemmas.{length-encode_with}
use Rattle.hex.proofs.Pairs.{drop-pair}
use Rattle.script_text.specs.Lines.{AreBytes}
use Rattle.script_text.proofs.Lines.{both_true}

-- the entries: the digits' values, and 16 at all other bytes
abbrev pub values : List ℕ
values = 16 ∷ 16 ∷ 16 ∷ 16 ∷ 16 ∷ 16 ∷ 16 ∷ 16 ∷ 16 ∷ 16 ∷ 16 ∷ 16 ∷ 16 ∷ 16 ∷ 16 ∷ 16 ∷ 16 ∷ 16 ∷ 16 ∷ 16 ∷ 16 ∷ 16 ∷ 16 ∷ 16 ∷ 16 ∷ 16 ∷ 16 ∷ 16 ∷ 16 ∷ 16 ∷ 16 ∷ 16 ∷ 16 ∷ 16 ∷ 16 ∷ 16 ∷ 16 ∷ 16 ∷ 16 ∷ 16 ∷ 16 ∷ 16 ∷ 16 ∷ 16 ∷ 16 ∷ 16 ∷ 16 ∷ 16 ∷ 0 ∷ 1 ∷ 2 ∷ 3 ∷ 4 ∷ 5 ∷ 6 ∷ 7 ∷ 8 ∷ 9 ∷ 16 ∷ 16 ∷ 16 ∷ 16 ∷ 16 ∷ 16 ∷ 16 ∷ 16 ∷ 16 ∷ 16 ∷ 16 ∷ 16 ∷ 16 ∷ 16 ∷ 16 ∷ 16 ∷ 16 ∷ 16 ∷ 16 ∷ 16 ∷ 16 ∷ 16 ∷ 16 ∷ 16 ∷ 16 ∷ 16 ∷ 16 ∷ 16 ∷ 16 ∷ 16 ∷ 16 ∷ 16 ∷ 16 ∷ 16 ∷ 16 ∷ 16 ∷ 16 ∷ 16 ∷ 16 ∷ 10 ∷ 11 ∷ 12 ∷ 13 ∷ 14 ∷ 15 ∷ 16 ∷ 16 ∷ 16 ∷ 16 ∷ 16 ∷ 16 ∷ 16 ∷ 16 ∷ 16 ∷ 16 ∷ 16 ∷ 16 ∷ 16 ∷ 16 ∷ 16 ∷ 16 ∷ 16 ∷ 16 ∷ 16 ∷ 16 ∷ 16 ∷ 16 ∷ 16 ∷ 16 ∷ 16 ∷ 16 ∷ 16 ∷ 16 ∷ 16 ∷ 16 ∷ 16 ∷ 16 ∷ 16 ∷ 16 ∷ 16 ∷ 16 ∷ 16 ∷ 16 ∷ 16 ∷ 16 ∷ 16 ∷ 16 ∷ 16 ∷ 16 ∷ 16 ∷ 16 ∷ 16 ∷ 16 ∷ 16 ∷ 16 ∷ 16 ∷ 16 ∷ 16 ∷ 16 ∷ 16 ∷ 16 ∷ 16 ∷ 16 ∷ 16 ∷ 16 ∷ 16 ∷ 16 ∷ 16 ∷ 16 ∷ 16 ∷ 16 ∷ 16 ∷ 16 ∷ 16 ∷ 16 ∷ 16 ∷ 16 ∷ 16 ∷ 16 ∷ 16 ∷ 16 ∷ 16 ∷ 16 ∷ 16 ∷ 16 ∷ 16 ∷ 16 ∷ 16 ∷ 16 ∷ 16 ∷ 16 ∷ 16 ∷ 16 ∷ 16 ∷ 16 ∷ 16 ∷ 16 ∷ 16 ∷ 16 ∷ 16 ∷ 16 ∷ 16 ∷ 16 ∷ 16 ∷ 16 ∷ 16 ∷ 16 ∷ 16 ∷ 16 ∷ 16 ∷ 16 ∷ 16 ∷ 16 ∷ 16 ∷ 16 ∷ 16 ∷ 16 ∷ 16 ∷ 16 ∷ 16 ∷ 16 ∷ 16 ∷ 16 ∷ 16 ∷ 16 ∷ 16 ∷ 16 ∷ 16 ∷ 16 ∷ 16 ∷ 16 ∷ 16 ∷ 16 ∷ 16 ∷ 16 ∷ 16 ∷ 16 ∷ 16 ∷ 16 ∷ 16 ∷ 16 ∷ 16 ∷ 16 ∷ 16 ∷ 16 ∷ 16 ∷ 16 ∷ 16 ∷ 16 ∷ 16 ∷ 16 ∷ 16 ∷ 16 ∷ 16 ∷ 16 ∷ 16 ∷ 16 ∷ 16 ∷ []

-- each entry below 16, from place n on, is the value of the digit there
abbrev are_values : ℕ → List ℕ → Bool
are_values n [] = true
are_values n (v ∷ vs) = (nat_le 16 v || eqb (slice_index lower_digits v) n) && are_values (suc n) vs

-- the digits, from the one of value n on, have their values as entries
abbrev have_values : ℕ → List ℕ → Bool
have_values n [] = true
have_values n (d ∷ ds) = eqb (slice_index values d) n && have_values (suc n) ds

value_here : (v n : ℕ) → (nat_le 16 v || eqb (slice_index lower_digits v) n) ≡ true → v < 16 → slice_index lower_digits v ≡ n
value_here v n e lt = grind arith

value_at : (n : ℕ) (vs : List ℕ) (i : ℕ) → are_values n vs ≡ true → i < length vs → slice_index vs i < 16 → slice_index lower_digits (slice_index vs i) ≡ n + i
value_at n [] i e lt small = absurd (omega arith)
value_at n (v ∷ vs) zero e lt small = value_here v n (both_true (nat_le 16 v || eqb (slice_index lower_digits v) n) (are_values (suc n) vs) e).0 small ∙ omega arith
value_at n (v ∷ vs) (suc i) e lt small = value_at (suc n) vs i (both_true (nat_le 16 v || eqb (slice_index lower_digits v) n) (are_values (suc n) vs) e).1 (omega arith) small ∙ omega arith

entry_here : (a n : ℕ) → eqb a n ≡ true → a ≡ n
entry_here a n e = grind arith

entry_at : (n : ℕ) (ds : List ℕ) (i : ℕ) → have_values n ds ≡ true → i < length ds → slice_index values (slice_index ds i) ≡ n + i
entry_at n [] i e lt = absurd (omega arith)
entry_at n (d ∷ ds) zero e lt = entry_here (slice_index values d) n (both_true (eqb (slice_index values d) n) (have_values (suc n) ds) e).0 ∙ omega arith
entry_at n (d ∷ ds) (suc i) e lt = entry_at (suc n) ds i (both_true (eqb (slice_index values d) n) (have_values (suc n) ds) e).1 (omega arith) ∙ omega arith

pub digit_of_value : (byte : ℕ) → byte < 256 → slice_index values byte < 16 → slice_index lower_digits (slice_index values byte) ≡ byte
digit_of_value byte lt small = value_at 0 values byte refl lt small ∙ omega arith

pub value_of_digit : (value : ℕ) → value < 16 → slice_index values (slice_index lower_digits value) ≡ value
value_of_digit value lt = entry_at 0 lower_digits value refl lt ∙ omega arith

-- ---- bytes that are read one after another

encode_more : (t xs ys : List ℕ) → encode_with t (xs ++ ys) ≡ encode_with t xs ++ encode_with t ys
unfolding encode_with
encode_more t [] ys = refl
encode_more t (x ∷ xs) ys = ap (λ (r : List ℕ). slice_index t (x / 16) ∷ slice_index t (x % 16) ∷ r) (encode_more t xs ys)

encode_one : (high low : ℕ) → low < 16 → encode_with lower_digits ((high * 16 + low) ∷ []) ≡ slice_index lower_digits high ∷ slice_index lower_digits low ∷ []
unfolding encode_with
encode_one high low lt =
    let above : (high * 16 + low) / 16 ≡ high = omega arith in
    let below : (high * 16 + low) % 16 ≡ low = omega arith in
    rw (above, below) refl

pub bytes_more : (xs : List ℕ) (x : ℕ) → AreBytes xs → x < 256 → AreBytes (xs ++ x ∷ [])
bytes_more [] x h lt = (lt, tt)
bytes_more (y ∷ ys) x h lt = (h.0, bytes_more ys x h.1 lt)

-- one byte more was read
pub read_more : (field bytes : List ℕ) (i high low : ℕ) → 2 * i + 1 < length field → i < length bytes → low < 16
    → slice_index lower_digits high ≡ slice_index field (2 * i) → slice_index lower_digits low ≡ slice_index field (2 * i + 1)
    → encode_lower (take i bytes) ++ drop (2 * i) field ≡ field
    → encode_lower (take (i + 1) (slice_set bytes i (high * 16 + low))) ++ drop (2 * (i + 1)) field ≡ field
read_more field bytes i high low fits room lt is_high is_low read =
    let rest : List ℕ = drop (2 * (i + 1)) field in
    let front = ap encode_lower (take_more_set bytes i (high * 16 + low) room) ∙ encode_more lower_digits (take i bytes) ((high * 16 + low) ∷ [])
    ∙ ap (λ (d : List ℕ). encode_lower (take i bytes) ++ d) (encode_one high low lt ∙ rw (is_high, is_low) refl) in
    ap (λ (f : List ℕ). f ++ rest) front
    ∙ append_assoc (encode_lower (take i bytes)) (slice_index field (2 * i) ∷ slice_index field (2 * i + 1) ∷ []) rest
    ∙ ap (λ (r : List ℕ). encode_lower (take i bytes) ++ r) (sym (drop-pair field i fits)) ∙ read

-- all bytes were read
pub read_all : (field bytes : List ℕ) (i : ℕ) → length bytes ≤ i → length field ≤ 2 * i → encode_lower (take i bytes) ++ drop (2 * i) field ≡ field → field ≡ encode_lower bytes
read_all field bytes i all end read =
    sym read ∙ ap (λ (r : List ℕ). encode_lower (take i bytes) ++ r) (drop_all (2 * i) field end) ∙ append-nil (encode_lower (take i bytes)) ∙ ap encode_lower (take_all i bytes all)

pub all_bytes : (bytes : List ℕ) (i : ℕ) → length bytes ≤ i → AreBytes (take i bytes) → AreBytes bytes
all_bytes bytes i all h = subst AreBytes (take_all i bytes all) h

-- the two digits of a byte
digits_at : (bs : List ℕ) (i : ℕ) → i < length bs
    → (slice_index (encode_lower bs) (2 * i) ≡ slice_index lower_digits (slice_index bs i / 16)) × (slice_index (encode_lower bs) (2 * i + 1) ≡ slice_index lower_digits (slice_index bs i % 16))
unfolding encode_with
digits_at [] i lt = absurd (omega arith)
digits_at (b ∷ bs) zero lt = (refl, refl)
digits_at (b ∷ bs) (suc i) lt =
    let h = digits_at bs i (omega arith) in
    let high : 2 * suc i ≡ suc (suc (2 * i)) = omega arith in
    let low : 2 * suc i + 1 ≡ suc (suc (2 * i + 1)) = omega arith in
    (rw high h.0, rw low h.1)

byte_at : (bs : List ℕ) (i : ℕ) → AreBytes bs → i < length bs → slice_index bs i < 256
byte_at [] i h lt = absurd (omega arith)
byte_at (b ∷ bs) zero h lt = h.0
byte_at (b ∷ bs) (suc i) h lt = byte_at bs i h.1 (omega arith)

-- where a byte is no digit, the field writes no bytes
pub no_high : (field others : List ℕ) (i : ℕ) → 2 * i + 1 < length field → ((value : ℕ) → value < 16 → slice_index lower_digits value ≢ slice_index field (2 * i)) → AreBytes others → field ≡ encode_lower others → ⊥
no_high field others i fits none h e =
    let size = ap length e ∙ length-encode_with lower_digits others in
    let lt : i < length others = omega (arith, size) in
    let byte = byte_at others i h lt in
    none (slice_index others i / 16) (omega arith) (sym (ap (λ (f : List ℕ). slice_index f (2 * i)) e ∙ (digits_at others i lt).0))

pub no_low : (field others : List ℕ) (i : ℕ) → 2 * i + 1 < length field → ((value : ℕ) → value < 16 → slice_index lower_digits value ≢ slice_index field (2 * i + 1)) → AreBytes others → field ≡ encode_lower others → ⊥
no_low field others i fits none h e =
    let size = ap length e ∙ length-encode_with lower_digits others in
    let lt : i < length others = omega (arith, size) in
    none (slice_index others i % 16) (omega arith) (sym (ap (λ (f : List ℕ). slice_index f (2 * i + 1)) e ∙ (digits_at others i lt).1))

pub nothing_read : (field : List ℕ) → encode_lower [] ++ field ≡ field
unfolding encode_with
nothing_read field = refl
