-- A packet's charges, one after another, are those of the walk.
use Rattle.std.proofs.Common.{◌≡◌, ℕ, suc, ◌+◌, ◌&&◌, not, Bool, true, false, List, [], ◌∷◌, ◌++◌, length, Option, Some, None, refl, sym, ap, subst, ◌∙◌, arith, append_assoc, append-nil}
use Rattle.std.specs.Prelude.{◌==◌}
use Rattle.acct_base.specs.declared.charge.Charge.{Charge}
use Rattle.acct_base.specs.declared.label.Label.{Label}
use Rattle.acct_base.specs.declared.packet.Dir.{Dir}
use Rattle.acct_base.specs.declared.packet.IfaceIn.{IfaceIn}
use Rattle.acct_base.specs.declared.receipt.Mark.{Mark}
use Rattle.acct_base.specs.declared.receipt.Receipt.{Receipt}
use Rattle.acct_base.specs.declared.receipt.LineReceipt.TheVariants as line
use Rattle.acct_base.specs.declared.sizes.Sizes.{Sizes}
use Rattle.acct_base.specs.Length.{scaled}
use Rattle.acct_base.specs.Receipts.{HookCall, Add, is_tagged, charge_to, add_to, untagged, is_landed, settled, counted, label, charges, app_adds, iface_matches}
use Rattle.acct_base.specs.Receipts.Call.{Hook, Iface}
use Rattle.captures.specs.Runs.{Past}
use Rattle.acct_plain.specs.Serial.{value_if, row_mark, key_mark, serial_receipt, serial_iface, after_call}
use Rattle.acct_plain.specs.Kept.{Tables, Keeps, unmarked}
use Rattle.acct_plain.proofs.Keeping.{keeps_more, charges_by, with_charges, with_charge, with_app, with_iface}

-- the label was there, or it was not
value_there : {A : Type 0} (b : Bool) (x y : A) → value_if b x ≡ Some y → (b ≡ true) × (x ≡ y)
value_there true x y e = (refl, cc)
value_there false x y e = absurd (cc)

value_none : {A : Type 0} (b : Bool) (x : A) → value_if b x ≡ None → b ≡ false
value_none true x e = absurd (cc)
value_none false x e = refl

abbrev with_lists : Past → List Charge → List Add → List Add → Past
with_lists past cs apps ifaces = record past { charges = cs; apps = apps; ifaces = ifaces }

-- ---- a packet that is not counted

pub uncounted : (sizes : Sizes) (past : Past) (call : HookCall) (r : Receipt) → r ≡ unmarked past.journal (length past.phases) call → r.label ≡ None → (p : Tables) (n : ℕ) → Keeps p past n →
    (r ≡ serial_receipt sizes past call) × Keeps p (after_call past (Hook call) (line.Hook r)) (n + 3)
uncounted sizes past call r e none p n k =
    let s = serial_receipt sizes past call in
    let off : counted call s ≡ false = value_none (counted call s) (label call s) (sym (ap (λ (x : Receipt). x.label) e) ∙ none) in
    let is : unmarked past.journal (length past.phases) call ≡ s = λ i. record (unmarked past.journal (length past.phases) call) {
      landed_tag = value_if (sym off i && is_tagged call s.tag_read) (row_mark sizes.rows past.charges (length past.phases) (label call s));
      landed_plain = value_if (sym off i) (row_mark sizes.rows (past.charges ++ charge_to call (label call s) s.phase s.landed_tag) (length past.phases) (untagged (label call s)));
      landed_app = value_if (sym off i) (key_mark sizes.apps past.apps (settled call s).uid);
    } in
    let r_is : r ≡ s = e ∙ is in
    let nothing : charges (Hook call, line.Hook s) ≡ [] = λ i. charge_to call (label call s) (value_if (off i) (length past.phases)) s.landed_tag ++ charge_to call (untagged (label call s)) (value_if (off i) (length past.phases)) s.landed_plain in
    let no_add : app_adds (Hook call, line.Hook s) ≡ [] = λ i. add_to call (settled call s).uid (value_if (off i) (key_mark sizes.apps past.apps (settled call s).uid)) in
    let same : past ≡ after_call past (Hook call) (line.Hook s) = λ i. with_lists past
    ((sym (append-nil past.charges) ∙ ap (λ (cs : List Charge). past.charges ++ cs) (sym nothing)) i)
    ((sym (append-nil past.apps) ∙ ap (λ (adds : List Add). past.apps ++ adds) (sym no_add)) i) (sym (append-nil past.ifaces) i) in (
      r_is,
      subst (λ (x : Receipt). Keeps p (after_call past (Hook call) (line.Hook x)) (n + 3)) (sym r_is)
          (subst (λ (x : Past). Keeps p x (n + 3)) same (keeps_more p past n (n + 3) (omega arith) k)),
    )

-- ---- a packet that is counted

to_is : (call : HookCall) (l : Label) (n : ℕ) (o : Option Mark) → charge_to call l (Some n) o ≡ charges_by n l call.dir (scaled call.len call.family).0 (scaled call.len call.family).1 o
to_is call l n None = refl
to_is call l n (Some m) = refl

abbrev marked : Receipt → Option Mark → Mark → Mark → Receipt
marked r o m a = record {
  front = r.front;
  tag_read = r.tag_read;
  rules_read = r.rules_read;
  owner_read = r.owner_read;
  set_read = r.set_read;
  phase = r.phase;
  label = r.label;
  verdict = r.verdict;
  landed_tag = o;
  landed_plain = Some m;
  landed_app = Some a;
}

-- the three charges in a row
abbrev pub charged : Past → Label → Dir → ℕ → ℕ → Option Mark → Mark → Mark → Past
charged past l dir packets bytes o m a = with_app (with_charge (with_charges past l dir packets bytes o) (untagged l) dir packets bytes m) l.uid dir packets bytes a

pub counted_is : (sizes : Sizes) (past : Past) (call : HookCall) (r : Receipt) (l : Label) (packets bytes : ℕ) (o : Option Mark) (m a : Mark) (p : Tables) (n : ℕ) →
    r ≡ unmarked past.journal (length past.phases) call → r.label ≡ Some l → (packets ≡ (scaled call.len call.family).0) × (bytes ≡ (scaled call.len call.family).1) →
    o ≡ value_if (not (l.tag == 0)) (row_mark sizes.rows past.charges (length past.phases) l) →
    m ≡ row_mark sizes.rows (with_charges past l call.dir packets bytes o).charges (length past.phases) (untagged l) →
    a ≡ key_mark sizes.apps past.apps l.uid → Keeps p (charged past l call.dir packets bytes o m a) (suc (suc (suc n))) →
    (marked r o m a ≡ serial_receipt sizes past call) × Keeps p (after_call past (Hook call) (line.Hook (marked r o m a))) (n + 3)
counted_is sizes past call r l packets bytes o m a p n e there counts o_is m_is a_is k =
    let now = length past.phases in
    let s = serial_receipt sizes past call in
    let u = unmarked past.journal now call in
    let on = value_there (counted call s) (label call s) l (sym (ap (λ (x : Receipt). x.label) e) ∙ there) in
    let yes : true ≡ counted call s = sym on.0 in
    let lp : l ≡ label call s = sym on.1 in
    let tag : o ≡ s.landed_tag = o_is ∙ (λ i. value_if (yes i && not ((lp i).tag == 0)) (row_mark sizes.rows past.charges now (lp i))) in
    let pk = (scaled call.len call.family).0 in
    let by = (scaled call.len call.family).1 in
    let first : charges_by now l call.dir packets bytes o ≡ charge_to call (label call s) s.phase s.landed_tag =
    (λ i. charges_by now l call.dir (counts.0 i) (counts.1 i) o) ∙ sym (to_is call l now o) ∙ (λ i. charge_to call (lp i) (value_if (yes i) now) (tag i)) in
    let plain : Some m ≡ s.landed_plain = ap (λ (x : Mark). Some x) m_is ∙ (λ i. value_if (yes i) (row_mark sizes.rows (past.charges ++ first i) now (untagged (lp i)))) in
    let app : Some a ≡ s.landed_app = ap (λ (x : Mark). Some x) a_is ∙ (λ i. value_if (yes i) (key_mark sizes.apps past.apps (lp i).uid)) in
    let second : charges_by now (untagged l) call.dir packets bytes (Some m) ≡ charge_to call (untagged (label call s)) s.phase s.landed_plain =
    (λ i. charges_by now (untagged l) call.dir (counts.0 i) (counts.1 i) (Some m)) ∙ (λ i. charge_to call (untagged (lp i)) (value_if (yes i) now) (plain i)) in
    let added : (record { key = l.uid; dir = call.dir; packets = packets; bytes = bytes; landed = is_landed a } ∷ []) ≡ add_to call (settled call s).uid s.landed_app =
    (λ i. record { key = l.uid; dir = call.dir; packets = counts.0 i; bytes = counts.1 i; landed = is_landed a } ∷ []) ∙ (λ i. add_to call (lp i).uid (app i)) in
    let r_is : marked r o m a ≡ s = λ i. let x = e i in record {
      front = x.front;
      tag_read = x.tag_read;
      rules_read = x.rules_read;
      owner_read = x.owner_read;
      set_read = x.set_read;
      phase = x.phase;
      label = x.label;
      verdict = x.verdict;
      landed_tag = tag i;
      landed_plain = plain i;
      landed_app = app i;
    } in
    let cs : ((past.charges ++ charges_by now l call.dir packets bytes o) ++ charges_by now (untagged l) call.dir packets bytes (Some m)) ≡ past.charges ++ charges (Hook call, line.Hook s) =
    append_assoc past.charges (charges_by now l call.dir packets bytes o) (charges_by now (untagged l) call.dir packets bytes (Some m)) ∙ (λ i. past.charges ++ (first i ++ second i)) in
    let same : charged past l call.dir packets bytes o m a ≡ after_call past (Hook call) (line.Hook s) = λ i. with_lists past (cs i) (past.apps ++ added i) (sym (append-nil past.ifaces) i) in (
      r_is,
      subst (λ (x : Receipt). Keeps p (after_call past (Hook call) (line.Hook x)) (n + 3)) (sym r_is)
          (subst (λ (x : Past). Keeps p x (n + 3)) same (keeps_more p (charged past l call.dir packets bytes o m a) (suc (suc (suc n))) (n + 3) (omega arith) k)),
    )

-- a tag that is not 0
pub not_zero : (n : ℕ) → (n ≡ 0 → ⊥) → (n == 0) ≡ false
not_zero n h = grind (arith, h)

-- ---- an interface

pub iface_is : (sizes : Sizes) (past : Past) (call : IfaceIn) (packets bytes : ℕ) (m : Mark) (p : Tables) (n : ℕ) → true ≡ iface_matches call →
    (packets ≡ (scaled call.len call.family).0) × (bytes ≡ (scaled call.len call.family).1) → m ≡ key_mark sizes.ifaces past.ifaces call.iface →
    Keeps p (with_iface past call.iface call.dir packets bytes m) (suc n) →
    (record { matched = true; landed = Some m } ≡ serial_iface sizes past call) × Keeps p (after_call past (Iface call) (line.Iface (record { matched = true; landed = Some m }))) (n + 3)
iface_is sizes past call packets bytes m p n on counts m_is k =
    let r_is : record { matched = true; landed = Some m } ≡ serial_iface sizes past call = λ i. record { matched = on i; landed = (ap (λ (x : Mark). Some x) m_is ∙ (λ j. value_if (on j) (key_mark sizes.ifaces past.ifaces call.iface))) i } in
    let same : with_iface past call.iface call.dir packets bytes m ≡ after_call past (Iface call) (line.Iface (record { matched = true; landed = Some m })) = λ i. with_lists past
    (sym (append-nil past.charges) i) (sym (append-nil past.apps) i)
    (past.ifaces ++ record { key = call.iface; dir = call.dir; packets = counts.0 i; bytes = counts.1 i; landed = is_landed m } ∷ []) in
    (r_is, subst (λ (x : Past). Keeps p x (n + 3)) same (keeps_more p (with_iface past call.iface call.dir packets bytes m) (suc n) (n + 3) (omega arith) k))

pub no_iface : (sizes : Sizes) (past : Past) (call : IfaceIn) (p : Tables) (n : ℕ) → false ≡ iface_matches call → Keeps p past n →
    (record { matched = false; landed = None } ≡ serial_iface sizes past call) × Keeps p (after_call past (Iface call) (line.Iface (record { matched = false; landed = None }))) (n + 3)
no_iface sizes past call p n off k =
    let r_is : record { matched = false; landed = None } ≡ serial_iface sizes past call = λ i. record { matched = off i; landed = value_if (off i) (key_mark sizes.ifaces past.ifaces call.iface) } in
    let same : past ≡ after_call past (Iface call) (line.Iface (record { matched = false; landed = None })) = λ i. with_lists past
    (sym (append-nil past.charges) i) (sym (append-nil past.apps) i) (sym (append-nil past.ifaces) i) in
    (r_is, subst (λ (x : Past). Keeps p x (n + 3)) same (keeps_more p past n (n + 3) (omega arith) k))
