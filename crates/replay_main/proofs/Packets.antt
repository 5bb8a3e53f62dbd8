-- Each charge has a packet; so what landed has a row by the sums alone.
use Rattle.std.proofs.Common.{◌≡◌, ℕ, ◌+◌, ◌≤◌, ◌<◌, ◌-◌, ◌*◌, List, [], ◌∷◌, refl, sym, ap, subst, ◌∙◌, arith, Option, Some, None, Bool, true, false}
use Rattle.std.specs.Prelude.{◌==◌, ◌&&◌, ◌||◌, nat_le, if◌then◌else◌, flat_map}
use Rattle.std.specs.List.{AllByRecursion, list_any}
use Rattle.acct_base.specs.declared.amount.Amount.{Amount}
use Rattle.acct_base.specs.declared.label.Label.{Label}
use Rattle.acct_base.specs.declared.packet.Dir.{Dir}
use Rattle.acct_base.specs.declared.packet.Dir.TheVariants.{Ingress, Egress}
use Rattle.acct_base.specs.declared.packet.Family.{Family}
use Rattle.acct_base.specs.declared.packet.Family.TheVariants.{V4, V6, Other}
use Rattle.acct_base.specs.declared.amount.Row.{Row}
use Rattle.acct_base.specs.declared.charge.Charge.{Charge}
use Rattle.acct_base.specs.Amounts.{same_label, plus, amount_if, amount_at, amount_in}
use Rattle.std.specs.Int.{div_ceil}
use Rattle.acct_base.specs.Length.{scaled}
use Rattle.std.specs.Prelude.{option_map, option_to_list}
use Rattle.acct_base.specs.declared.receipt.Mark.{Mark}
use Rattle.acct_base.specs.declared.packet.IfaceIn.{IfaceIn}
use Rattle.acct_base.specs.declared.receipt.LineReceipt.{LineReceipt}
use Rattle.acct_base.specs.declared.receipt.LineReceipt.TheVariants as line
use Rattle.acct_base.specs.Receipts.{charge_amount, add_amount, Add, Call, HookCall, charges, app_adds, iface_adds, charge_to, add_to, iface_add, settled, label, untagged}
use Rattle.acct_base.specs.Receipts.Call.{Hook, Iface}
use Rattle.acct_base.specs.Sums.{lands_at, lands_on, folded, added, has_label, has_key, total_at, HoldsCharges, AreTotals}
use Rattle.captures.specs.Honest.{all_pairs}
use Rattle.acct_base.specs.declared.sizes.RegSizes.{RegSizes}
use Rattle.shelf.specs.declared.report.SectionOut.{SectionOut}
use Rattle.captures.specs.Calls.{SectionCalls}
use Rattle.captures.specs.Runs.{Past, Ran, nothing_yet}
use Rattle.captures.proofs.Lists.{all_append, all_more}
use Rattle.captures.proofs.Along.{run_list}
use Rattle.acct_base.proofs.Keys.{eqb_self, label_self}

large : (len : ℕ) → nat_le len 1500 ≡ false → 1500 < len
large len e = grind (arith, e)

abbrev pub counts : Bool → ℕ → ℕ → ℕ → ℕ × ℕ
counts b len packets bytes = if b then (1, len) else (packets, bytes)

by_test : (len head : ℕ) → head ≤ 72 → 1 ≤ 1500 - head → (1500 < len → 1 ≤ div_ceil (len - head) (1500 - head)) →
    (b : Bool) → nat_le len 1500 ≡ b → 1 ≤ (counts b len (div_ceil (len - head) (1500 - head)) (head * div_ceil (len - head) (1500 - head) + (len - head))).0
by_test len head h k f true e = omega arith
by_test len head h k f false e = f (large len e)

pub has_packet : (len : ℕ) (f : Family) → 1 ≤ (scaled len f).0
has_packet len V4 = by_test len 52 (omega arith) (omega arith) (λ l. omega (arith, l)) (nat_le len 1500) refl
has_packet len V6 = by_test len 72 (omega arith) (omega arith) (λ l. omega (arith, l)) (nat_le len 1500) refl
has_packet len Other = by_test len 52 (omega arith) (omega arith) (λ l. omega (arith, l)) (nat_le len 1500) refl

-- how many packets an amount has
abbrev pub packets_in : Amount → ℕ
packets_in a = a.rx_packets + a.tx_packets

landed_packets : (n : ℕ) (l : Label) (cs : List Charge) → AllByRecursion (λ (c : Charge). 1 ≤ c.job.packets) cs → list_any (lands_at n l) cs ≡ true → 1 ≤ packets_in (folded cs n l)
landed_packets n l [] a e = absurd (cc)
landed_packets n l (c ∷ cs) a e =
    let rest = landed_packets n l cs a.1 in
    let here : (d : Dir) → 1 ≤ packets_in (amount_in d c.job.packets c.job.bytes) = λ d. elim d as (λ d. 1 ≤ packets_in (amount_in d c.job.packets c.job.bytes)) [ Ingress ↦ omega (arith, a.0) | Egress ↦ omega (arith, a.0) ] in
    let now : 1 ≤ packets_in (charge_amount c) = here c.job.dir in
    let step : (b : Bool) → (b || list_any (lands_at n l) cs) ≡ true → 1 ≤ packets_in (plus (amount_if b (charge_amount c)) (folded cs n l)) =
    λ b. elim b as (λ b. (b || list_any (lands_at n l) cs) ≡ true → 1 ≤ packets_in (plus (amount_if b (charge_amount c)) (folded cs n l))) [
      | true ↦ λ e. omega (arith, now)
      | false ↦ λ e. let more = rest e in omega (arith, more)
    ] in
    step (lands_at n l c) e

-- rows with packets at a label have the label
row_there : (rows : List Row) (l : Label) → 1 ≤ packets_in (amount_at rows l) → has_label rows l ≡ true
row_there [] l h = absurd (omega (arith, h))
row_there (r ∷ rs) l h =
    let step : (b : Bool) → 1 ≤ packets_in (plus (amount_if b r.amount) (amount_at rs l)) → (b || has_label rs l) ≡ true =
    λ b. elim b as (λ b. 1 ≤ packets_in (plus (amount_if b r.amount) (amount_at rs l)) → (b || has_label rs l) ≡ true) [
      | true ↦ λ h. refl
      | false ↦ λ h. row_there rs l (omega (arith, h))
    ] in
    step (same_label r.label l) h

-- so a row for each landed label follows from the sums, where each charge has a packet
pub shown_by_sums : (cs : List Charge) (n : ℕ) (rows : List Row) → AllByRecursion (λ (c : Charge). 1 ≤ c.job.packets) cs → HoldsCharges cs n rows → (l : Label) →
    list_any (lands_at n l) cs ≡ true → has_label rows l ≡ true
shown_by_sums cs n rows a h l e = row_there rows l (subst (λ (x : Amount). 1 ≤ packets_in x) (sym (h.amounts l)) (landed_packets n l cs a e))

-- ---- the same of adds

landed_adds : (k : ℕ) (adds : List Add) → AllByRecursion (λ (a : Add). 1 ≤ a.packets) adds → list_any (lands_on k) adds ≡ true → 1 ≤ packets_in (added adds k)
landed_adds k [] a e = absurd (cc)
landed_adds k (c ∷ cs) a e =
    let rest = landed_adds k cs a.1 in
    let here : (d : Dir) → 1 ≤ packets_in (amount_in d c.packets c.bytes) = λ d. elim d as (λ d. 1 ≤ packets_in (amount_in d c.packets c.bytes)) [ Ingress ↦ omega (arith, a.0) | Egress ↦ omega (arith, a.0) ] in
    let now : 1 ≤ packets_in (add_amount c) = here c.dir in
    let step : (b : Bool) → (b || list_any (lands_on k) cs) ≡ true → 1 ≤ packets_in (plus (amount_if b (add_amount c)) (added cs k)) =
    λ b. elim b as (λ b. (b || list_any (lands_on k) cs) ≡ true → 1 ≤ packets_in (plus (amount_if b (add_amount c)) (added cs k))) [
      | true ↦ λ e. omega (arith, now)
      | false ↦ λ e. let more = rest e in omega (arith, more)
    ] in
    step (lands_on k c) e

total_there : (totals : List (ℕ × Amount)) (k : ℕ) → 1 ≤ packets_in (total_at totals k) → has_key totals k ≡ true
total_there [] k h = absurd (omega (arith, h))
total_there (t ∷ ts) k h =
    let step : (b : Bool) → 1 ≤ packets_in (plus (amount_if b t.1) (total_at ts k)) → (b || has_key ts k) ≡ true =
    λ b. elim b as (λ b. 1 ≤ packets_in (plus (amount_if b t.1) (total_at ts k)) → (b || has_key ts k) ≡ true) [
      | true ↦ λ h. refl
      | false ↦ λ h. total_there ts k (omega (arith, h))
    ] in
    step (t.0 == k) h

-- ---- each charge and add of a receipt has a packet

to_packets : (call : HookCall) (l : Label) (phase : Option ℕ) (m : Option Mark) → AllByRecursion (λ (c : Charge). 1 ≤ c.job.packets) (charge_to call l phase m)
to_packets call l (Some n) (Some m) = (has_packet call.len call.family, tt)
to_packets call l None m = tt
to_packets call l (Some n) None = tt

pair_packets : (c : Call) (r : LineReceipt) → AllByRecursion (λ (c : Charge). 1 ≤ c.job.packets) (charges (c, r))
pair_packets (Hook call) (line.Hook r) =
    all_append (λ (c : Charge). 1 ≤ c.job.packets) (charge_to call (label call r) r.phase r.landed_tag) (charge_to call (untagged (label call r)) r.phase r.landed_plain)
    (to_packets call (label call r) r.phase r.landed_tag) (to_packets call (untagged (label call r)) r.phase r.landed_plain)
pair_packets _ _ = tt

add_packets : (call : HookCall) (key : ℕ) (m : Option Mark) → AllByRecursion (λ (a : Add). 1 ≤ a.packets) (add_to call key m)
add_packets call key None = tt
add_packets call key (Some m) = (has_packet call.len call.family, tt)

pair_apps : (c : Call) (r : LineReceipt) → AllByRecursion (λ (a : Add). 1 ≤ a.packets) (app_adds (c, r))
pair_apps (Hook call) (line.Hook r) = add_packets call (settled call r).uid r.landed_app
pair_apps _ _ = tt

iface_packets : (call : IfaceIn) (m : Option Mark) → AllByRecursion (λ (a : Add). 1 ≤ a.packets) (option_to_list (option_map (iface_add call) m))
iface_packets call None = tt
iface_packets call (Some m) = (has_packet call.len call.family, tt)

pair_ifaces : (c : Call) (r : LineReceipt) → AllByRecursion (λ (a : Add). 1 ≤ a.packets) (iface_adds (c, r))
pair_ifaces (Iface call) (line.Iface r) = iface_packets call r.landed
pair_ifaces _ _ = tt

all_flat : {A : Type 0} (P : A → Type 0) (f : Call × LineReceipt → List A) (each : (c : Call) (r : LineReceipt) → AllByRecursion P (f (c, r))) (ps : List (Call × LineReceipt)) → AllByRecursion P (flat_map f ps)
all_flat P f each [] = tt
all_flat P f each (p ∷ ps) = all_append P (f p) (flat_map f ps) (each p.0 p.1) (all_flat P f each ps)

-- ---- what landed is found

or_right : (a b : Bool) → b ≡ true → (a || b) ≡ true
or_right true b e = refl
or_right false b e = e

each_found : (n : ℕ) (cs : List Charge) → AllByRecursion (λ (c : Charge). c.landed ≡ true → c.phase ≡ n → list_any (lands_at n c.job.label) cs ≡ true) cs
each_found n [] = tt
each_found n (c ∷ cs) = (
  λ landed at.
      let here : lands_at n c.job.label c ≡ true = ap (λ b. (b && c.phase == n) && same_label c.job.label c.job.label) landed ∙ ap (λ b. b && same_label c.job.label c.job.label) (ap (λ m. m == n) at ∙ eqb_self n) ∙ label_self c.job.label in
      ap (λ b. b || list_any (lands_at n c.job.label) cs) here,
  all_more (λ (x : Charge). x.landed ≡ true → x.phase ≡ n → list_any (lands_at n x.job.label) cs ≡ true)
      (λ (x : Charge). x.landed ≡ true → x.phase ≡ n → list_any (lands_at n x.job.label) (c ∷ cs) ≡ true)
      (λ x f landed at. or_right (lands_at n x.job.label c) _ (f landed at)) cs (each_found n cs),
)

each_key_found : (adds : List Add) → AllByRecursion (λ (a : Add). a.landed ≡ true → list_any (lands_on a.key) adds ≡ true) adds
each_key_found [] = tt
each_key_found (a ∷ adds) = (
  λ landed.
      let here : lands_on a.key a ≡ true = ap (λ b. b && a.key == a.key) landed ∙ eqb_self a.key in
      ap (λ b. b || list_any (lands_on a.key) adds) here,
  all_more (λ (x : Add). x.landed ≡ true → list_any (lands_on x.key) adds ≡ true)
      (λ (x : Add). x.landed ≡ true → list_any (lands_on x.key) (a ∷ adds) ≡ true)
      (λ x f landed. or_right (lands_on x.key a) _ (f landed)) adds (each_key_found adds),
)

pub keys_shown : (size : ℕ) (adds : List Add) (totals : List (ℕ × Amount)) → AllByRecursion (λ (a : Add). 1 ≤ a.packets) adds → AreTotals size adds totals →
    AllByRecursion (λ (a : Add). a.landed ≡ true → has_key totals a.key ≡ true) adds
keys_shown size adds totals a h =
    all_more (λ (x : Add). x.landed ≡ true → list_any (lands_on x.key) adds ≡ true) (λ (x : Add). x.landed ≡ true → has_key totals x.key ≡ true)
    (λ x f landed. total_there totals x.key (subst (λ (y : Amount). 1 ≤ packets_in y) (sym (h.amounts x.key)) (landed_adds x.key adds a (f landed)))) adds (each_key_found adds)

pub labels_shown : (cs : List Charge) (n : ℕ) (rows : List Row) → AllByRecursion (λ (c : Charge). 1 ≤ c.job.packets) cs → HoldsCharges cs n rows →
    AllByRecursion (λ (c : Charge). c.landed ≡ true → c.phase ≡ n → has_label rows c.job.label ≡ true) cs
labels_shown cs n rows a h =
    all_more (λ (c : Charge). c.landed ≡ true → c.phase ≡ n → list_any (lands_at n c.job.label) cs ≡ true) (λ (c : Charge). c.landed ≡ true → c.phase ≡ n → has_label rows c.job.label ≡ true)
    (λ c f landed at. shown_by_sums cs n rows a h c.job.label (f landed at)) cs (each_found n cs)

-- all that sections charged and added
pub record HavePackets (past : Past) : Type 0 where
  pub charges : AllByRecursion (λ (c : Charge). 1 ≤ c.job.packets) past.charges
  pub apps : AllByRecursion (λ (a : Add). 1 ≤ a.packets) past.apps
  pub ifaces : AllByRecursion (λ (a : Add). 1 ≤ a.packets) past.ifaces

pub have_packets : (privileged : List ℕ) (sizes : RegSizes) (cs : List SectionCalls) (past : Past) (outs : List SectionOut) → Ran privileged sizes nothing_yet cs past outs → HavePackets past
have_packets privileged sizes cs past outs ran =
    let ps = all_pairs cs outs in
    let charged : past.charges ≡ flat_map charges ps = run_list privileged sizes (λ (x : Past). x.charges) charges (λ b c n o s. s.charges) nothing_yet cs past outs ran in
    let on_apps : past.apps ≡ flat_map app_adds ps = run_list privileged sizes (λ (x : Past). x.apps) app_adds (λ b c n o s. s.apps) nothing_yet cs past outs ran in
    let on_ifaces : past.ifaces ≡ flat_map iface_adds ps = run_list privileged sizes (λ (x : Past). x.ifaces) iface_adds (λ b c n o s. s.ifaces) nothing_yet cs past outs ran in
    record {
      charges = subst (λ (xs : List Charge). AllByRecursion (λ (c : Charge). 1 ≤ c.job.packets) xs) (sym charged) (all_flat (λ (c : Charge). 1 ≤ c.job.packets) charges pair_packets ps);
      apps = subst (λ (adds : List Add). AllByRecursion (λ (a : Add). 1 ≤ a.packets) adds) (sym on_apps) (all_flat (λ (a : Add). 1 ≤ a.packets) app_adds pair_apps ps);
      ifaces = subst (λ (adds : List Add). AllByRecursion (λ (a : Add). 1 ≤ a.packets) adds) (sym on_ifaces) (all_flat (λ (a : Add). 1 ≤ a.packets) iface_adds pair_ifaces ps);
    }
