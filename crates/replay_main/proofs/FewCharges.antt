-- A call charges and adds little: two labels at most, an app and an interface, with few packets and bytes each.
use Rattle.std.proofs.Common.{◌≡◌, ℕ, ◌+◌, ◌*◌, ◌≤◌, List, [], ◌∷◌, ◌++◌, length, arith, Option, Some, None, length-append}
use Rattle.std.specs.Prelude.{flat_map, option_map, option_to_list}
use Rattle.std.specs.List.{AllByRecursion}
use Rattle.acct_base.specs.declared.charge.Charge.{Charge}
use Rattle.acct_base.specs.declared.label.Label.{Label}
use Rattle.acct_base.specs.declared.packet.Family.{Family}
use Rattle.acct_base.specs.declared.receipt.LineReceipt.{LineReceipt}
use Rattle.acct_base.specs.declared.receipt.LineReceipt.TheVariants as line
use Rattle.acct_base.specs.declared.packet.IfaceIn.{IfaceIn}
use Rattle.acct_base.specs.declared.receipt.Mark.{Mark}
use Rattle.acct_base.specs.Length.{scaled, IsChargeable}
use Rattle.acct_base.specs.Ranges.{IsCallInRange, IsHookInRange, IsIfaceInRange}
use Rattle.acct_base.specs.Receipts.{HookCall, Call, Add, charge_to, charge_amount, charges, add_to, add_amount, app_adds, iface_add, iface_adds, untagged, label, settled}
use Rattle.acct_base.specs.Receipts.Call.{Hook, Iface, Allow, Deny}
use Rattle.captures.specs.Calls.{SectionCalls, IsSectionInRange}
use Rattle.captures.specs.Honest.{lane_pairs, lanes_pairs, all_pairs}
use Rattle.captures.proofs.Lists.{all_append}
use Rattle.shelf.specs.declared.report.SectionOut.{SectionOut}
use Rattle.acct_plain.specs.Kept.{IsSmall}
use Rattle.acct_plain.specs.Walks.{calls_made, calls_of_sections}
use Rattle.acct_plain.proofs.Keeping.{small_in}

-- Each recorded length counts for packets and bytes that a charge may add.
abbrev pub LengthsAreCharged : Type 0
LengthsAreCharged = (len : ℕ) (family : Family) → 1 ≤ len → len ≤ 262144 → IsChargeable (scaled len family).0 (scaled len family).1

-- The numbers that each charge adds are small.
abbrev pub ChargesAreSmall : List Charge → Type 0
ChargesAreSmall cs = AllByRecursion (λ (c : Charge). IsSmall (charge_amount c)) cs

-- Those of each add are.
abbrev pub AddsAreSmall : List Add → Type 0
AddsAreSmall adds = AllByRecursion (λ (a : Add). IsSmall (add_amount a)) adds

-- The calls of these pairs are in their ranges.
abbrev pub PairsAreInRange : List (Call × LineReceipt) → Type 0
PairsAreInRange ps = AllByRecursion (λ (p : Call × LineReceipt). IsCallInRange p.0) ps

-- ---- one call

few_to : (call : HookCall) (l : Label) (phase : Option ℕ) (m : Option Mark) → length (charge_to call l phase m) ≤ 1
few_to call l (Some n) (Some m) = omega arith
few_to call l None m = omega arith
few_to call l (Some n) None = omega arith

charges_few : (p : Call × LineReceipt) → length (charges p) ≤ 2
charges_few (Hook call, line.Hook r) =
    let tagged = charge_to call (label call r) r.phase r.landed_tag in
    let plain = charge_to call (untagged (label call r)) r.phase r.landed_plain in
    let first = few_to call (label call r) r.phase r.landed_tag in
    let second = few_to call (untagged (label call r)) r.phase r.landed_plain in
    let both : length (tagged ++ plain) ≡ length tagged + length plain = length-append tagged plain in
    omega (arith, first, second, both)
charges_few (Hook call, line.Iface r) = omega arith
charges_few (Hook call, line.List r) = omega arith
charges_few (Iface call, r) = omega arith
charges_few (Allow sock_uid cookie received, r) = omega arith
charges_few (Deny sock_uid, r) = omega arith

added_few : (call : HookCall) (uid : ℕ) (m : Option Mark) → length (add_to call uid m) ≤ 2
added_few call uid (Some m) = omega arith
added_few call uid None = omega arith

app_adds_few : (p : Call × LineReceipt) → length (app_adds p) ≤ 2
app_adds_few (Hook call, line.Hook r) = added_few call (settled call r).uid r.landed_app
app_adds_few (Hook call, line.Iface r) = omega arith
app_adds_few (Hook call, line.List r) = omega arith
app_adds_few (Iface call, r) = omega arith
app_adds_few (Allow sock_uid cookie received, r) = omega arith
app_adds_few (Deny sock_uid, r) = omega arith

iface_added_few : (call : IfaceIn) (m : Option Mark) → length (option_to_list (option_map (iface_add call) m)) ≤ 2
iface_added_few call (Some m) = omega arith
iface_added_few call None = omega arith

iface_adds_few : (p : Call × LineReceipt) → length (iface_adds p) ≤ 2
iface_adds_few (Iface call, line.Iface r) = iface_added_few call r.landed
iface_adds_few (Iface call, line.Hook r) = omega arith
iface_adds_few (Iface call, line.List r) = omega arith
iface_adds_few (Hook call, r) = omega arith
iface_adds_few (Allow sock_uid cookie received, r) = omega arith
iface_adds_few (Deny sock_uid, r) = omega arith

module _ (charged : LengthsAreCharged) where
  small_to : (call : HookCall) (l : Label) (phase : Option ℕ) (m : Option Mark) → IsHookInRange call → ChargesAreSmall (charge_to call l phase m)
  small_to call l (Some n) (Some m) range = (small_in call.dir (scaled call.len call.family).0 (scaled call.len call.family).1 (charged call.len call.family range.some_len range.len), tt)
  small_to call l None m range = tt
  small_to call l (Some n) None range = tt

  charges_small : (p : Call × LineReceipt) → IsCallInRange p.0 → ChargesAreSmall (charges p)
  charges_small (Hook call, line.Hook r) range =
      all_append (λ (c : Charge). IsSmall (charge_amount c)) (charge_to call (label call r) r.phase r.landed_tag) (charge_to call (untagged (label call r)) r.phase r.landed_plain)
      (small_to call (label call r) r.phase r.landed_tag range) (small_to call (untagged (label call r)) r.phase r.landed_plain range)
  charges_small (Hook call, line.Iface r) range = tt
  charges_small (Hook call, line.List r) range = tt
  charges_small (Iface call, r) range = tt
  charges_small (Allow sock_uid cookie received, r) range = tt
  charges_small (Deny sock_uid, r) range = tt

  added_small : (call : HookCall) (uid : ℕ) (m : Option Mark) → IsHookInRange call → AddsAreSmall (add_to call uid m)
  added_small call uid (Some m) range = (small_in call.dir (scaled call.len call.family).0 (scaled call.len call.family).1 (charged call.len call.family range.some_len range.len), tt)
  added_small call uid None range = tt

  app_adds_small : (p : Call × LineReceipt) → IsCallInRange p.0 → AddsAreSmall (app_adds p)
  app_adds_small (Hook call, line.Hook r) range = added_small call (settled call r).uid r.landed_app range
  app_adds_small (Hook call, line.Iface r) range = tt
  app_adds_small (Hook call, line.List r) range = tt
  app_adds_small (Iface call, r) range = tt
  app_adds_small (Allow sock_uid cookie received, r) range = tt
  app_adds_small (Deny sock_uid, r) range = tt

  iface_added_small : (call : IfaceIn) (m : Option Mark) → IsIfaceInRange call → AddsAreSmall (option_to_list (option_map (iface_add call) m))
  iface_added_small call (Some m) range = (small_in call.dir (scaled call.len call.family).0 (scaled call.len call.family).1 (charged call.len call.family range.some_len range.len), tt)
  iface_added_small call None range = tt

  iface_adds_small : (p : Call × LineReceipt) → IsCallInRange p.0 → AddsAreSmall (iface_adds p)
  iface_adds_small (Iface call, line.Iface r) range = iface_added_small call r.landed range
  iface_adds_small (Iface call, line.Hook r) range = tt
  iface_adds_small (Iface call, line.List r) range = tt
  iface_adds_small (Hook call, r) range = tt
  iface_adds_small (Allow sock_uid cookie received, r) range = tt
  iface_adds_small (Deny sock_uid, r) range = tt

-- ---- all calls

few_of : {X : Type 0} (of : Call × LineReceipt → List X) → ((p : Call × LineReceipt) → length (of p) ≤ 2) → (ps : List (Call × LineReceipt)) → length (flat_map of ps) ≤ 2 * length ps
few_of of few [] = omega arith
few_of of few (p ∷ ps) =
    let here = few p in
    let rest = few_of of few ps in
    let both : length (of p ++ flat_map of ps) ≡ length (of p) + length (flat_map of ps) = length-append (of p) (flat_map of ps) in
    omega (arith, here, rest, both)

small_of : {X : Type 0} (P : X → Type 0) (of : Call × LineReceipt → List X) → ((p : Call × LineReceipt) → IsCallInRange p.0 → AllByRecursion P (of p)) → (ps : List (Call × LineReceipt)) → PairsAreInRange ps
    → AllByRecursion P (flat_map of ps)
small_of P of small [] range = tt
small_of P of small (p ∷ ps) range = all_append P (of p) (flat_map of ps) (small p range.0) (small_of P of small ps range.1)

lane_long : (calls : List (ℕ × Call)) (rs : List (ℕ × LineReceipt)) → length (lane_pairs calls rs) ≤ length calls
lane_long [] rs = omega arith
lane_long (c ∷ cs) [] = omega arith
lane_long (c ∷ cs) (r ∷ rs) = let rest = lane_long cs rs in omega (arith, rest)

lanes_long : (ls : List (List (ℕ × Call))) (rs : List (List (ℕ × LineReceipt))) → length (lanes_pairs ls rs) ≤ calls_made ls
lanes_long [] rs = omega arith
lanes_long (l ∷ ls) [] = omega arith
lanes_long (l ∷ ls) (r ∷ rs) =
    let here = lane_long l r in
    let rest = lanes_long ls rs in
    let both : length (lane_pairs l r ++ lanes_pairs ls rs) ≡ length (lane_pairs l r) + length (lanes_pairs ls rs) = length-append (lane_pairs l r) (lanes_pairs ls rs) in
    omega (arith, here, rest, both)

pairs_few : (ss : List SectionCalls) (os : List SectionOut) → length (all_pairs ss os) ≤ calls_of_sections ss
pairs_few [] os = omega arith
pairs_few (s ∷ ss) [] = omega arith
pairs_few (s ∷ ss) (o ∷ os) =
    let here = lanes_long s.lanes o.lanes in
    let rest = pairs_few ss os in
    let both : length (lanes_pairs s.lanes o.lanes ++ all_pairs ss os) ≡ length (lanes_pairs s.lanes o.lanes) + length (all_pairs ss os) = length-append (lanes_pairs s.lanes o.lanes) (all_pairs ss os) in
    omega (arith, here, rest, both)

lane_in_range : (calls : List (ℕ × Call)) (rs : List (ℕ × LineReceipt)) → AllByRecursion (λ (c : ℕ × Call). IsCallInRange c.1) calls → PairsAreInRange (lane_pairs calls rs)
lane_in_range [] rs h = tt
lane_in_range (c ∷ cs) [] h = tt
lane_in_range (c ∷ cs) (r ∷ rs) h = (h.0, lane_in_range cs rs h.1)

lanes_in_range : (ls : List (List (ℕ × Call))) (rs : List (List (ℕ × LineReceipt))) → AllByRecursion (AllByRecursion (λ (c : ℕ × Call). IsCallInRange c.1)) ls → PairsAreInRange (lanes_pairs ls rs)
lanes_in_range [] rs h = tt
lanes_in_range (l ∷ ls) [] h = tt
lanes_in_range (l ∷ ls) (r ∷ rs) h = all_append (λ (p : Call × LineReceipt). IsCallInRange p.0) (lane_pairs l r) (lanes_pairs ls rs) (lane_in_range l r h.0) (lanes_in_range ls rs h.1)

pairs_in_range : (ss : List SectionCalls) (os : List SectionOut) → AllByRecursion IsSectionInRange ss → PairsAreInRange (all_pairs ss os)
pairs_in_range [] os h = tt
pairs_in_range (s ∷ ss) [] h = tt
pairs_in_range (s ∷ ss) (o ∷ os) h = all_append (λ (p : Call × LineReceipt). IsCallInRange p.0) (lanes_pairs s.lanes o.lanes) (all_pairs ss os) (lanes_in_range s.lanes o.lanes h.0.lanes) (pairs_in_range ss os h.1)

-- What calls charge is at most twice as much in number as the calls, and each charge is small; so are the adds.
module _ (ss : List SectionCalls) (os : List SectionOut) where
  few_in_all : {X : Type 0} (of : Call × LineReceipt → List X) → ((p : Call × LineReceipt) → length (of p) ≤ 2) → length (flat_map of (all_pairs ss os)) ≤ 2 * calls_of_sections ss
  few_in_all of few =
      let all = few_of of few (all_pairs ss os) in
      let pairs = pairs_few ss os in
      omega (arith, all, pairs)

  pub all_charges_few : length (flat_map charges (all_pairs ss os)) ≤ 2 * calls_of_sections ss
  all_charges_few = few_in_all charges charges_few

  pub all_app_adds_few : length (flat_map app_adds (all_pairs ss os)) ≤ 2 * calls_of_sections ss
  all_app_adds_few = few_in_all app_adds app_adds_few

  pub all_iface_adds_few : length (flat_map iface_adds (all_pairs ss os)) ≤ 2 * calls_of_sections ss
  all_iface_adds_few = few_in_all iface_adds iface_adds_few

module _ (charged : LengthsAreCharged) (ss : List SectionCalls) (os : List SectionOut) (range : AllByRecursion IsSectionInRange ss) where
  pub all_charges_small : ChargesAreSmall (flat_map charges (all_pairs ss os))
  all_charges_small = small_of (λ (c : Charge). IsSmall (charge_amount c)) charges (charges_small charged) (all_pairs ss os) (pairs_in_range ss os range)

  pub all_app_adds_small : AddsAreSmall (flat_map app_adds (all_pairs ss os))
  all_app_adds_small = small_of (λ (a : Add). IsSmall (add_amount a)) app_adds (app_adds_small charged) (all_pairs ss os) (pairs_in_range ss os range)

  pub all_iface_adds_small : AddsAreSmall (flat_map iface_adds (all_pairs ss os))
  all_iface_adds_small = small_of (λ (a : Add). IsSmall (add_amount a)) iface_adds (iface_adds_small charged) (all_pairs ss os) (pairs_in_range ss os range)
