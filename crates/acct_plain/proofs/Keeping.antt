-- What the replay keeps, after one charge or one add more.
use Rattle.std.proofs.Common.{◌≡◌, ℕ, suc, ◌≤◌, ◌&&◌, Bool, true, false, List, [], ◌∷◌, ◌++◌, length, refl, sym, ap, subst, ◌∙◌, arith, length-append, append-nil}
use Rattle.std.specs.Prelude.{◌==◌, IfOk, Result, Ok, Err, Option, Some, None, is_some, not}
use Rattle.std.specs.Ordering.{is_eq, nat_cmp, ordering_then}
use Rattle.std.specs.declared.cmp.Ordering.{Ordering}
use Rattle.std.specs.declared.cmp.Ordering.TheVariants.{Less, Equal, Greater}
use Rattle.std.proofs.lemmas.Bool.Decides.{nat_tests}
use Rattle.acct_base.specs.declared.amount.Amount.{Amount}
use Rattle.acct_base.specs.declared.charge.Charge.{Charge}
use Rattle.acct_base.specs.declared.label.Label.{Label}
use Rattle.acct_base.specs.declared.packet.Dir.{Dir}
use Rattle.acct_base.specs.declared.packet.Dir.TheVariants.{Ingress, Egress}
use Rattle.acct_base.specs.declared.receipt.Mark.{Mark}
use Rattle.acct_base.specs.declared.receipt.Mark.TheVariants as mark
use Rattle.acct_base.specs.Amounts.{label_cmp, same_label, amount_in, HasRoom, plus, IsAtMost}
use Rattle.acct_base.specs.Length.{IsChargeable}
use Rattle.acct_base.specs.Receipts.{Add, charge_amount, add_amount, is_landed, untagged}
use Rattle.acct_plain.specs.declared.charging.RowMarks.{RowMarks}
use Rattle.acct_base.specs.Sums.{folded, added, lands_at, lands_on}
use Rattle.acct_base.proofs.SumLemmas.{total_by-append}
use Rattle.shelf.specs.Phases.{deleted_app}
use Rattle.captures.specs.Runs.{Past}
use Rattle.captures.proofs.Lists.{all_append}
use Rattle.acct_plain.specs.Serial.{row_mark, key_mark, mark_of, value_if}
use Rattle.acct_base.specs.Landings.{landed_labels, landed_keys, same_number}
use Rattle.acct_plain.specs.Ledgers.{Adds, amount_of}
use Rattle.acct_plain.specs.Charging.{AddsIf, AddsPacket, HasRoomTwice}
use Rattle.acct_plain.specs.Kept.{Tables, IsSmall, Keeps, HasRoomFor}
use Rattle.acct_base.proofs.Keys.{label_agree, nat_agree, eqb_self}
use Rattle.acct_plain.proofs.Turns.{in_phase, NotLanded}
use Rattle.acct_plain.proofs.Holding.{sum_below, has_room, room_once, mark_is, holds_more}

-- ---- what happened, and one charge or add more

abbrev pub with_charge : Past → Label → Dir → ℕ → ℕ → Mark → Past
with_charge past label dir packets bytes mark = record past {
  charges = past.charges ++ record { phase = length past.phases; job = record { label = label; dir = dir; packets = packets; bytes = bytes }; landed = is_landed mark } ∷ [];
}

abbrev pub with_app : Past → ℕ → Dir → ℕ → ℕ → Mark → Past
with_app past uid dir packets bytes mark = record past { apps = past.apps ++ record { key = uid; dir = dir; packets = packets; bytes = bytes; landed = is_landed mark } ∷ [] }

abbrev pub with_iface : Past → ℕ → Dir → ℕ → ℕ → Mark → Past
with_iface past iface dir packets bytes mark = record past { ifaces = past.ifaces ++ record { key = iface; dir = dir; packets = packets; bytes = bytes; landed = is_landed mark } ∷ [] }

-- The charge to a label that may not have been made.
abbrev pub charges_by : ℕ → Label → Dir → ℕ → ℕ → Option Mark → List Charge
charges_by phase label dir packets bytes None = []
charges_by phase label dir packets bytes (Some mark) =
    record { phase = phase; job = record { label = label; dir = dir; packets = packets; bytes = bytes }; landed = is_landed mark } ∷ []

abbrev pub with_charges : Past → Label → Dir → ℕ → ℕ → Option Mark → Past
with_charges past label dir packets bytes mark = record past { charges = past.charges ++ charges_by (length past.phases) label dir packets bytes mark }

-- ---- the tests are those of the orders

pub same_numbers : (a b : ℕ) → same_number a b ≡ is_eq (nat_cmp b a)
same_numbers a b = grind (arith, nat_tests)

then_both : (o p : Ordering) → is_eq (ordering_then o p) ≡ (is_eq o && is_eq p)
then_both Less p = refl
then_both Equal p = refl
then_both Greater p = refl

and_regroup : (a b c d : Bool) → (a && b && c && d) ≡ (a && (b && (c && d)))
and_regroup true true true d = refl
and_regroup true true false d = refl
and_regroup true false c d = refl
and_regroup false b c d = refl

and_same : (a b c d : Bool) → a ≡ c → b ≡ d → (a && b) ≡ (c && d)
and_same a b c d p q = rw (p, q) refl

pub same_labels : (a b : Label) → same_label a b ≡ is_eq (label_cmp b a)
same_labels a b =
    let set = and_same _ _ _ _ (same_numbers a.set b.set) (same_numbers a.iface b.iface) ∙ sym (then_both (nat_cmp b.set a.set) (nat_cmp b.iface a.iface)) in
    let tag = and_same _ _ _ _ (same_numbers a.tag b.tag) set ∙ sym (then_both (nat_cmp b.tag a.tag) (ordering_then (nat_cmp b.set a.set) (nat_cmp b.iface a.iface))) in
    and_regroup (a.uid == b.uid) (a.tag == b.tag) (a.set == b.set) (a.iface == b.iface)
    ∙ and_same _ _ _ _ (same_numbers a.uid b.uid) tag
    ∙ sym (then_both (nat_cmp b.uid a.uid) (ordering_then (nat_cmp b.tag a.tag) (ordering_then (nat_cmp b.set a.set) (nat_cmp b.iface a.iface))))

-- ---- small amounts

pub small_in : (dir : Dir) (packets bytes : ℕ) → IsChargeable packets bytes → IsSmall (amount_in dir packets bytes)
small_in Ingress packets bytes h = record { rx_packets = h.few_packets; rx_bytes = h.few_bytes; tx_packets = omega arith; tx_bytes = omega arith }
small_in Egress packets bytes h = record { rx_packets = omega arith; rx_bytes = omega arith; tx_packets = h.few_packets; tx_bytes = h.few_bytes }

pub mark_from : (m : Mark) (b : Bool) → is_landed m ≡ b → m ≡ mark_of b
mark_from mark.Landed true e = refl
mark_from mark.Landed false e = absurd (cc)
mark_from mark.Full true e = absurd (cc)
mark_from mark.Full false e = refl

at_most_more : (a b c : Amount) → IsAtMost a b → IsAtMost a (plus b c)
at_most_more a b c h = record {
  rx_packets = omega (arith, h.rx_packets);
  rx_bytes = omega (arith, h.rx_bytes);
  tx_packets = omega (arith, h.tx_packets);
  tx_bytes = omega (arith, h.tx_bytes);
}

-- ---- what is kept

-- it keeps the same of more
pub keeps_more : (p : Tables) (past : Past) (n m : ℕ) → n ≤ m → Keeps p past n → Keeps p past m
keeps_more p past n m le k =
    let a = k.few.charges in
    let b = k.few.apps in
    let c = k.few.ifaces in record {
      limits = k.limits;
      journal = k.journal;
      phases = k.phases;
      rows = k.rows;
      apps = k.apps;
      ifaces = k.ifaces;
      recorded = k.recorded;
      within = k.within;
      sound = k.sound;
      few = record {
        charges = omega (arith, a, le);
        apps = omega (arith, b, le);
        ifaces = omega (arith, c, le);
        small_charges = k.few.small_charges;
        small_apps = k.few.small_apps;
        small_ifaces = k.few.small_ifaces;
      };
      bounded = k.bounded;
      few_phases = k.few_phases;
    }

-- ---- labels

abbrev pub charge_of : Past → Label → Dir → ℕ → ℕ → Mark → Charge
charge_of past label dir packets bytes m = record { phase = length past.phases; job = record { label = label; dir = dir; packets = packets; bytes = bytes }; landed = is_landed m }

now_landed : (b : Bool) (n : ℕ) → (b && n == n) ≡ b
now_landed true n = eqb_self n
now_landed false n = refl

pub label_room : (t : Tables) (more : Amount) → HasRoomFor t 3 → IsSmall more → HasRoomTwice t.rows more
label_room t more (past, n, le, k) small = λ label.
    let now = length past.phases in
    has_room label_cmp same_label t.rows (landed_labels past.charges now) (folded past.charges now) label more (length past.charges) n k.rows
    (sum_below (lands_at now label) charge_amount past.charges k.few.small_charges) k.few.charges (omega (arith, le)) small

-- all of a replay but one table
abbrev pub with_rows : Tables → List (Label × Amount) → Tables
with_rows t rows = record t { rows = rows }

abbrev pub with_apps : Tables → List (ℕ × Amount) → Tables
with_apps t apps = record t { apps = apps }

abbrev pub with_ifaces : Tables → List (ℕ × Amount) → Tables
with_ifaces t ifaces = record t { ifaces = ifaces }

pub label_kept : (p : Tables) (rows : List (Label × Amount)) (past : Past) (n : ℕ) (label : Label) (dir : Dir) (packets bytes : ℕ) (m : Mark) → Keeps p past n →
    Adds label_cmp p.rows rows p.sizes.rows label (amount_in dir packets bytes) (is_landed m) → IsChargeable packets bytes →
    (m ≡ row_mark p.sizes.rows past.charges (length past.phases) label) × Keeps (with_rows p rows) (with_charge past label dir packets bytes m) (suc n)
label_kept p rows past n label dir packets bytes m k adds small =
    let now = length past.phases in
    let c = charge_of past label dir packets bytes m in
    let key = λ (c : Charge). c.job.label in
    let few = k.few in
    let less = few.charges in
    let apps = few.apps in
    let ifaces = few.ifaces in (
      mark_from m _ (mark_is label_cmp same_label label_agree same_labels key (in_phase now) (NotLanded now) charge_amount p.rows rows past.charges c p.sizes.rows (is_landed m) k.rows adds),
      record {
        limits = k.limits;
        journal = k.journal;
        phases = k.phases;
        rows = holds_more label_cmp same_label label_agree same_labels key (in_phase now) (NotLanded now) charge_amount p.rows rows past.charges c p.sizes.rows (is_landed m) k.rows adds (now_landed (is_landed m) now);
        apps = k.apps;
        ifaces = k.ifaces;
        recorded = k.recorded;
        within = k.within;
        sound = k.sound;
        few = record {
          charges = omega (arith, less, length-append past.charges (c ∷ []));
          apps = omega (arith, apps);
          ifaces = omega (arith, ifaces);
          small_charges = all_append (λ (c : Charge). IsSmall (charge_amount c)) past.charges (c ∷ []) few.small_charges (small_in dir packets bytes small, tt);
          small_apps = few.small_apps;
          small_ifaces = few.small_ifaces;
        };
        bounded = all_append (λ (c : Charge). c.phase ≤ length past.phases) past.charges (c ∷ []) k.bounded (omega arith, tt);
        few_phases = k.few_phases;
      },
    )

-- ---- apps and interfaces

abbrev pub add_of : ℕ → Dir → ℕ → ℕ → Mark → Add
add_of key dir packets bytes m = record { key = key; dir = dir; packets = packets; bytes = bytes; landed = is_landed m }

pub app_room : (p : Tables) (uid : ℕ) (more : Amount) → HasRoomFor p 3 → IsSmall more → HasRoom (plus (amount_of nat_cmp p.apps uid) more)
app_room p uid more (past, n, le, k) small =
    room_once (amount_of nat_cmp p.apps uid) more (has_room nat_cmp same_number p.apps (landed_keys past.apps) (added past.apps) uid more (length past.apps) n k.apps
    (sum_below (lands_on uid) add_amount past.apps k.few.small_apps) k.few.apps (omega (arith, le)) small)

pub app_kept : (p : Tables) (table : List (ℕ × Amount)) (past : Past) (n uid : ℕ) (dir : Dir) (packets bytes : ℕ) (m : Mark) → Keeps p past n →
    Adds nat_cmp p.apps table p.sizes.apps uid (amount_in dir packets bytes) (is_landed m) → IsChargeable packets bytes →
    (m ≡ key_mark p.sizes.apps past.apps uid) × Keeps (with_apps p table) (with_app past uid dir packets bytes m) (suc n)
app_kept p table past n uid dir packets bytes m k adds small =
    let a = add_of uid dir packets bytes m in
    let few = k.few in
    let charges = few.charges in
    let less = few.apps in
    let ifaces = few.ifaces in (
      mark_from m _ (mark_is nat_cmp same_number nat_agree same_numbers (λ (a : Add). a.key) (λ (a : Add). a.landed) (λ (a : Add). a.landed ≡ false) add_amount p.apps table past.apps a p.sizes.apps (is_landed m) k.apps adds),
      record {
        limits = k.limits;
        journal = k.journal;
        phases = k.phases;
        rows = k.rows;
        apps = holds_more nat_cmp same_number nat_agree same_numbers (λ (a : Add). a.key) (λ (a : Add). a.landed) (λ (a : Add). a.landed ≡ false) add_amount p.apps table past.apps a p.sizes.apps (is_landed m) k.apps adds refl;
        ifaces = k.ifaces;
        recorded = k.recorded;
        within = λ other. subst (λ (x : Amount). IsAtMost (deleted_app past.phases other) x) (sym (total_by-append _ past.apps (a ∷ [])))
            (at_most_more (deleted_app past.phases other) (added past.apps other) (added (a ∷ []) other) (k.within other));
        sound = k.sound;
        few = record {
          charges = omega (arith, charges);
          apps = omega (arith, less, length-append past.apps (a ∷ []));
          ifaces = omega (arith, ifaces);
          small_charges = few.small_charges;
          small_apps = all_append (λ (a : Add). IsSmall (add_amount a)) past.apps (a ∷ []) few.small_apps (small_in dir packets bytes small, tt);
          small_ifaces = few.small_ifaces;
        };
        bounded = k.bounded;
        few_phases = k.few_phases;
      },
    )

pub iface_room : (p : Tables) (iface : ℕ) (more : Amount) → HasRoomFor p 3 → IsSmall more → HasRoom (plus (amount_of nat_cmp p.ifaces iface) more)
iface_room p iface more (past, n, le, k) small =
    room_once (amount_of nat_cmp p.ifaces iface) more (has_room nat_cmp same_number p.ifaces (landed_keys past.ifaces) (added past.ifaces) iface more (length past.ifaces) n k.ifaces
    (sum_below (lands_on iface) add_amount past.ifaces k.few.small_ifaces) k.few.ifaces (omega (arith, le)) small)

pub iface_kept : (p : Tables) (table : List (ℕ × Amount)) (past : Past) (n iface : ℕ) (dir : Dir) (packets bytes : ℕ) (m : Mark) → Keeps p past n →
    Adds nat_cmp p.ifaces table p.sizes.ifaces iface (amount_in dir packets bytes) (is_landed m) → IsChargeable packets bytes →
    (m ≡ key_mark p.sizes.ifaces past.ifaces iface) × Keeps (with_ifaces p table) (with_iface past iface dir packets bytes m) (suc n)
iface_kept p table past n iface dir packets bytes m k adds small =
    let a = add_of iface dir packets bytes m in
    let few = k.few in
    let charges = few.charges in
    let apps = few.apps in
    let less = few.ifaces in (
      mark_from m _ (mark_is nat_cmp same_number nat_agree same_numbers (λ (a : Add). a.key) (λ (a : Add). a.landed) (λ (a : Add). a.landed ≡ false) add_amount p.ifaces table past.ifaces a p.sizes.ifaces (is_landed m) k.ifaces adds),
      record {
        limits = k.limits;
        journal = k.journal;
        phases = k.phases;
        rows = k.rows;
        apps = k.apps;
        ifaces = holds_more nat_cmp same_number nat_agree same_numbers (λ (a : Add). a.key) (λ (a : Add). a.landed) (λ (a : Add). a.landed ≡ false) add_amount p.ifaces table past.ifaces a p.sizes.ifaces (is_landed m) k.ifaces adds refl;
        recorded = k.recorded;
        within = k.within;
        sound = k.sound;
        few = record {
          charges = omega (arith, charges);
          apps = omega (arith, apps);
          ifaces = omega (arith, less, length-append past.ifaces (a ∷ []));
          small_charges = few.small_charges;
          small_apps = few.small_apps;
          small_ifaces = all_append (λ (a : Add). IsSmall (add_amount a)) past.ifaces (a ∷ []) few.small_ifaces (small_in dir packets bytes small, tt);
        };
        bounded = k.bounded;
        few_phases = k.few_phases;
      },
    )

-- ---- a packet

of_none : {A : Type 0} (b : Bool) (x : A) → false ≡ b → None ≡ value_if b x
of_none b x e = ap (λ c. value_if c x) e

of_some : {A : Type 0} (b : Bool) (x y : A) → true ≡ b → x ≡ y → Some x ≡ value_if b y
of_some b x y e f = (λ i. Some (f i)) ∙ ap (λ c. value_if c y) e

-- the charge to a label that has a tag
tag_kept : (t : Tables) (rows : List (Label × Amount)) (past : Past) (n : ℕ) (label : Label) (dir : Dir) (packets bytes : ℕ) (o : Option Mark) → Keeps t past n →
    AddsIf label_cmp t.rows rows t.sizes.rows label (amount_in dir packets bytes) o → is_some o ≡ not (label.tag == 0) → IsChargeable packets bytes →
    (o ≡ value_if (not (label.tag == 0)) (row_mark t.sizes.rows past.charges (length past.phases) label)) × Keeps (with_rows t rows) (with_charges past label dir packets bytes o) (suc n)
tag_kept t rows past n label dir packets bytes None k same made small = (
  of_none (not (label.tag == 0)) (row_mark t.sizes.rows past.charges (length past.phases) label) made,
  subst (λ (x : List (Label × Amount) × List Charge). Keeps (with_rows t x.0) (record past { charges = x.1 }) (suc n)) (λ i. (sym same i, sym (append-nil past.charges) i))
      (keeps_more t past n (suc n) (omega arith) k),
)
tag_kept t rows past n label dir packets bytes (Some m) k adds made small =
    let fact = label_kept t rows past n label dir packets bytes m k adds small in
    (of_some (not (label.tag == 0)) m (row_mark t.sizes.rows past.charges (length past.phases) label) made fact.0, fact.1)

-- the marks of a packet's charges, and what is kept after them
pub record PacketKept (t : Tables) (past : Past) (n : ℕ) (label : Label) (dir : Dir) (packets bytes : ℕ) (tag : Option Mark) (plain app : Mark) (rows : List (Label × Amount)) (apps : List (ℕ × Amount)) : Type 0 where
  pub tag_is : tag ≡ value_if (not (label.tag == 0)) (row_mark t.sizes.rows past.charges (length past.phases) label)
  pub plain_is : plain ≡ row_mark t.sizes.rows (with_charges past label dir packets bytes tag).charges (length past.phases) (untagged label)
  pub app_is : app ≡ key_mark t.sizes.apps past.apps label.uid
  pub keeps : Keeps (record t { rows = rows; apps = apps }) (with_charge (with_charges (with_app past label.uid dir packets bytes app) label dir packets bytes tag) (untagged label) dir packets bytes plain) (suc (suc (suc n)))

pub packet_kept : (t : Tables) (past : Past) (n : ℕ) (label : Label) (dir : Dir) (packets bytes : ℕ) (marks : RowMarks) (app : Mark) (rows : List (Label × Amount)) (apps : List (ℕ × Amount)) → Keeps t past n →
    AddsPacket t.rows rows t.sizes.rows label (amount_in dir packets bytes) marks → Adds nat_cmp t.apps apps t.sizes.apps label.uid (amount_in dir packets bytes) (is_landed app) → IsChargeable packets bytes →
    PacketKept t past n label dir packets bytes marks.tag marks.plain app rows apps
packet_kept t past n label dir packets bytes marks app rows apps k adds adds_app small =
    let first = app_kept t apps past n label.uid dir packets bytes app k adds_app small in
    let then = with_app past label.uid dir packets bytes app in
    let second = tag_kept (with_apps t apps) adds.between then (suc n) label dir packets bytes marks.tag first.1 adds.tag adds.is_made small in
    let last = with_charges then label dir packets bytes marks.tag in
    let third = label_kept (with_rows (with_apps t apps) adds.between) rows last (suc (suc n)) (untagged label) dir packets bytes marks.plain second.1 adds.plain small in
    record { tag_is = second.0; plain_is = third.0; app_is = first.0; keeps = third.1 }

-- a fact of an Ok follows from another
pub if_ok : {A E : Type 0} (P Q : A → Type 0) (r : Result A E) → ((x : A) → P x → Q x) → IfOk r P → IfOk r Q
if_ok P Q (Ok x) f h = f x h
if_ok P Q (Err e) f h = tt
