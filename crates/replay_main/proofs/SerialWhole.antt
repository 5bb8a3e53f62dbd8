-- A serial script's report is that of the walk.
use Rattle.std.proofs.Common.{◌≡◌, ℕ, zero, suc, ◌+◌, ◌≤◌, ◌<◌, List, [], ◌∷◌, ◌++◌, length, take, map, refl, sym, ap, subst, ◌∙◌, arith, Option, Some, None, Bool, true, false}
use mathlib.Core.Logic.{◌⊎◌, inl, inr}
use Rattle.std.specs.Prelude.{if◌then◌else◌, cond, ◌==◌, ◌&&◌, ◌-◌, not, slice_get, flat_map, filter, is_some, unwrap_or}
use Rattle.std.specs.List.{AllByRecursion, AllZip}
use Rattle.std.proofs.lemmas.List.{append-nil}
use Rattle.std.proofs.lemmas.List.Elements.{filter-append}
use Rattle.std.proofs.lemmas.Grind.{flat_map-append}
use Rattle.acct_base.specs.declared.amount.Amount.{Amount}
use Rattle.acct_base.specs.declared.label.Label.{Label}
use Rattle.acct_base.specs.declared.receipt.Mark.{Mark}
use Rattle.acct_base.specs.declared.charge.Charge.{Charge}
use Rattle.acct_base.specs.declared.register.Write.{Write}
use Rattle.acct_base.specs.declared.sizes.Sizes.{Sizes}
use Rattle.acct_base.specs.declared.amount.Snapshot.{Snapshot}
use Rattle.acct_base.specs.declared.receipt.LineReceipt.{LineReceipt}
use Rattle.acct_base.specs.declared.receipt.LineReceipt.TheVariants as line
use Rattle.acct_base.specs.Amounts.{plus, zero_amount, amount_if, same_label, label_cmp, IsAtMost}
use Rattle.acct_base.specs.Ordered.{ascending}
use Rattle.acct_base.specs.Receipts.{Call, HookCall, charges, app_adds, iface_adds, charge_to, phase_of, PhaseIsFrom, charge_amount, untagged, label}
use Rattle.acct_base.specs.Receipts.Call.{Hook}
use Rattle.acct_base.specs.Sums.{folded, added, lands_at}
use Rattle.acct_base.proofs.SumLemmas.{folded-append, total_by-append, zero_plus}
use Rattle.desk_core.specs.declared.command.Command.{Command}
use Rattle.desk_core.specs.declared.command.Command.TheVariants as command
use Rattle.shelf.specs.declared.shelf.Deletion.{Deletion}
use Rattle.shelf.specs.declared.report.SectionOut.{SectionOut}
use Rattle.shelf.specs.Phases.{is_deleted, deleted_app, recorded_app}
use Rattle.captures.specs.Calls.{SectionCalls}
use Rattle.captures.specs.Honest.{KnowledgeGrows, PhasesRise, IsHonestLane, IsDivided, Divides, section_pairs, all_pairs, lanes_pairs, lane_pairs}
use Rattle.shelf.specs.Shelved.{Phases}
use Rattle.acct_base.specs.declared.sizes.RegSizes.{RegSizes}
use Rattle.captures.specs.Runs.{Past, Ran}
use Rattle.shelf.specs.Phases.{IsShelved, IsDividedBy}
use Rattle.acct_plain.specs.Serial.{rows_from, ended_phase, less, walk_lane, walk_lanes}
use Rattle.acct_base.specs.Landings.{LandInTurn, AddInTurn}
use Rattle.acct_base.proofs.Keys.{plus_zero, eqb_self}
use Rattle.captures.proofs.Lists.{all_append}
use Rattle.replay_main.proofs.SerialLane.{lane_is, after_pairs, after_none, phase_from}

and_false : (a b : Bool) → b ≡ false → (a && b) ≡ false
and_false true b e = e
and_false false b e = refl

-- ---- later charges are of later phases

lower : (low from : ℕ) (o : Option ℕ) → low ≤ from → PhaseIsFrom from o → PhaseIsFrom low o
lower low from None le h = tt
lower low from (Some n) le h = omega (arith, le, h)

to_later : (from : ℕ) (call : HookCall) (l : Label) (phase : Option ℕ) (m : Option Mark) → PhaseIsFrom from phase → AllByRecursion (λ (c : Charge). from ≤ c.phase) (charge_to call l phase m)
to_later from call l None m h = tt
to_later from call l (Some n) None h = tt
to_later from call l (Some n) (Some m) h = (h, tt)

pair_later : (from : ℕ) (c : Call) (r : LineReceipt) → PhaseIsFrom from (phase_of r) → AllByRecursion (λ (c : Charge). from ≤ c.phase) (charges (c, r))
pair_later from (Hook call) (line.Hook r) h =
    all_append (λ (c : Charge). from ≤ c.phase) (charge_to call (label call r) r.phase r.landed_tag) (charge_to call (untagged (label call r)) r.phase r.landed_plain)
    (to_later from call (label call r) r.phase r.landed_tag h) (to_later from call (untagged (label call r)) r.phase r.landed_plain h)
pair_later from _ _ h = tt

pairs_later : (low from to : ℕ) (ps : List (Call × LineReceipt)) → low ≤ from → PhasesRise from to ps → AllByRecursion (λ (c : Charge). low ≤ c.phase) (flat_map charges ps)
pairs_later low from to [] le h = tt
pairs_later low from to (p ∷ ps) le h =
    all_append (λ (c : Charge). low ≤ c.phase) (charges p) (flat_map charges ps)
    (pair_later low p.0 p.1 (lower low from (phase_of p.1) le h.0))
    (pairs_later low (unwrap_or (phase_of p.1) from) to ps (let up = phase_from from (phase_of p.1) h.0 in omega (arith, up, le)) h.1)

lanes_later : (known : ℕ) (journal : List Write) (from to : ℕ) (cs : List (List (ℕ × Call))) (rs : List (List (ℕ × LineReceipt))) → AllZip (IsHonestLane known journal from to) cs rs →
    AllByRecursion (λ (c : Charge). from ≤ c.phase) (flat_map charges (lanes_pairs cs rs))
lanes_later known journal from to [] [] h = tt
lanes_later known journal from to [] (r ∷ rs) h = absurd h
lanes_later known journal from to (c ∷ cs) [] h = absurd h
lanes_later known journal from to (c ∷ cs) (r ∷ rs) h =
    rw (flat_map-append charges (lane_pairs c r) (lanes_pairs cs rs))
    (all_append (λ (c : Charge). from ≤ c.phase) (flat_map charges (lane_pairs c r)) (flat_map charges (lanes_pairs cs rs))
    (pairs_later from from to (lane_pairs c r) (omega arith) h.0.phases_rise) (lanes_later known journal from to cs rs h.1))

all_weaker : (low from : ℕ) (cs : List Charge) → low ≤ from → AllByRecursion (λ (c : Charge). from ≤ c.phase) cs → AllByRecursion (λ (c : Charge). low ≤ c.phase) cs
all_weaker low from [] le h = tt
all_weaker low from (c ∷ cs) le h = (omega (arith, le, h.0), all_weaker low from cs le h.1)

module _ (privileged : List ℕ) (sizes : RegSizes) where
  pub run_later : (before : Past) (cs : List SectionCalls) (after : Past) (os : List SectionOut) → Ran privileged sizes before cs after os →
      AllByRecursion (λ (c : Charge). length before.phases ≤ c.phase) (flat_map charges (all_pairs cs os))
  run_later before [] after [] h = tt
  run_later before [] after (o ∷ os) h = absurd h
  run_later before (c ∷ cs) after [] h = absurd h
  run_later before (c ∷ cs) after (o ∷ os) h =
      let grown = h.1.grown in
      rw (flat_map-append charges (section_pairs c o) (all_pairs cs os))
      (all_append (λ (c : Charge). length before.phases ≤ c.phase) (flat_map charges (section_pairs c o)) (flat_map charges (all_pairs cs os))
      (lanes_later _ _ (length before.phases) _ c.lanes o.lanes h.1.honest.lanes)
      (all_weaker (length before.phases) (length h.0.phases) (flat_map charges (all_pairs cs os)) (omega (arith, grown)) (run_later h.0 cs after os h.2)))

-- what later charges leave alone
beyond : (n low m : ℕ) → n < low → low ≤ m → (m == n) ≡ false
beyond n low m lt le = grind (arith, lt, le)

no_landed : (n low : ℕ) (cs : List Charge) → n < low → AllByRecursion (λ (c : Charge). low ≤ c.phase) cs → filter (λ (c : Charge). c.landed && c.phase == n) cs ≡ []
no_landed n low [] lt h = refl
no_landed n low (c ∷ cs) lt h =
    let test : (c.landed && c.phase == n) ≡ false = and_false c.landed (c.phase == n) (beyond n low c.phase lt h.0) in
    ap (λ b. cond b (c ∷ filter (λ (c : Charge). c.landed && c.phase == n) cs) (filter (λ (c : Charge). c.landed && c.phase == n) cs)) test ∙ no_landed n low cs lt h.1

none_folded : (n low : ℕ) (l : Label) (cs : List Charge) → n < low → AllByRecursion (λ (c : Charge). low ≤ c.phase) cs → folded cs n l ≡ zero_amount
none_folded n low l [] lt h = refl
none_folded n low l (c ∷ cs) lt h =
    let test : (c.landed && c.phase == n) ≡ false = and_false c.landed (c.phase == n) (beyond n low c.phase lt h.0) in
    let whole : lands_at n l c ≡ false = ap (λ b. b && same_label c.job.label l) test in
    ap (λ b. plus (amount_if b (charge_amount c)) (folded cs n l)) whole ∙ zero_plus (folded cs n l) ∙ none_folded n low l cs lt h.1

pub rows_kept : (cs later : List Charge) (n low : ℕ) → n < low → AllByRecursion (λ (c : Charge). low ≤ c.phase) later → rows_from (cs ++ later) n ≡ rows_from cs n
rows_kept cs later n low lt h =
    let kept : filter (λ (c : Charge). c.landed && c.phase == n) (cs ++ later) ≡ filter (λ (c : Charge). c.landed && c.phase == n) cs =
    filter-append (λ (c : Charge). c.landed && c.phase == n) cs later ∙ ap (λ (xs : List Charge). filter (λ (c : Charge). c.landed && c.phase == n) cs ++ xs) (no_landed n low later lt h) ∙ append-nil _ in
    let sums : (l : Label) → folded (cs ++ later) n l ≡ folded cs n l =
    λ l. folded-append cs later n l ∙ ap (plus (folded cs n l)) (none_folded n low l later lt h) ∙ plus_zero (folded cs n l) in
    λ i. map (λ (l : Label). record { label = l; amount = sums l i }) (ascending label_cmp (map (λ (c : Charge). c.job.label) (kept i)))

-- ---- a collection

less_is : (a b s : Amount) → plus a b ≡ s → b ≡ less s a
less_is a b s e =
    let rx : a.rx_packets + b.rx_packets ≡ s.rx_packets = ap (λ (x : Amount). x.rx_packets) e in
    let rxb : a.rx_bytes + b.rx_bytes ≡ s.rx_bytes = ap (λ (x : Amount). x.rx_bytes) e in
    let tx : a.tx_packets + b.tx_packets ≡ s.tx_packets = ap (λ (x : Amount). x.tx_packets) e in
    let txb : a.tx_bytes + b.tx_bytes ≡ s.tx_bytes = ap (λ (x : Amount). x.tx_bytes) e in
    let p : b.rx_packets ≡ s.rx_packets - a.rx_packets = omega (arith, rx) in
    let q : b.rx_bytes ≡ s.rx_bytes - a.rx_bytes = omega (arith, rxb) in
    let r : b.tx_packets ≡ s.tx_packets - a.tx_packets = omega (arith, tx) in
    let t : b.tx_bytes ≡ s.tx_bytes - a.tx_bytes = omega (arith, txb) in
    λ i. record { rx_packets = p i; rx_bytes = q i; tx_packets = r i; tx_bytes = t i }

pub at_most_both : (a b : Amount) → IsAtMost a b → IsAtMost b a → a ≡ b
at_most_both a b h k =
    let p : a.rx_packets ≡ b.rx_packets = omega (arith, h.rx_packets, k.rx_packets) in
    let q : a.rx_bytes ≡ b.rx_bytes = omega (arith, h.rx_bytes, k.rx_bytes) in
    let r : a.tx_packets ≡ b.tx_packets = omega (arith, h.tx_packets, k.tx_packets) in
    let t : a.tx_bytes ≡ b.tx_bytes = omega (arith, h.tx_bytes, k.tx_bytes) in
    λ i. record { rx_packets = p i; rx_bytes = q i; tx_packets = r i; tx_bytes = t i }

app_is : (b : Bool) (want : Amount) (o : Option Amount) → is_some o ≡ b → ((a : Amount) → o ≡ Some a → a ≡ want) → o ≡ (if b then Some want else None)
app_is true want None e f = absurd (cc)
app_is false want None e f = refl
app_is true want (Some a) e f = ap (λ (x : Amount). Some x) (f a refl)
app_is false want (Some a) e f = absurd (cc)

-- what a deletion adds to what was recorded
recorded_more : (phases : Phases) (s : Snapshot) (d : Deletion) (a : Amount) → d.app ≡ Some a → deleted_app (phases ++ (s, Some d) ∷ []) d.uid ≡ plus (deleted_app phases d.uid) a
recorded_more phases s d a e =
    total_by-append (recorded_app d.uid) phases ((s, Some d) ∷ [])
    ∙ ap (plus (deleted_app phases d.uid)) (plus_zero (recorded_app d.uid (s, Some d)) ∙ ap (λ b. amount_if b (unwrap_or d.app zero_amount)) (eqb_self d.uid) ∙ ap (λ (o : Option Amount). unwrap_or o zero_amount) e)

divided_is : (past : Past) (n uid tag : ℕ) (s : Snapshot) (d : Deletion) (given : Snapshot) → n ≡ length past.phases → IsDividedBy given s d → given.phase ≡ n → given.rows ≡ rows_from past.charges n →
    Divides n uid tag s d → ((a : Amount) → d.app ≡ Some a → deleted_app (past.phases ++ (s, Some d) ∷ []) d.uid ≡ added past.apps d.uid) → (caller : ℕ) →
    (s, Some d) ≡ ended_phase past (command.Delete caller uid tag)
divided_is past n uid tag s d given at h ph rows div app caller =
    let now = length past.phases in
    let rowsp : given.rows ≡ rows_from past.charges now = rows ∙ ap (rows_from past.charges) at in
    let sp : s.phase ≡ now = h.phase ∙ ph ∙ at in
    let srows : s.rows ≡ filter (λ row. not (is_deleted uid tag row)) (rows_from past.charges now) = h.left ∙ (λ i. filter (λ row. not (is_deleted (div.uid_is i) (div.tag_is i) row)) (rowsp i)) in
    let drows : d.rows ≡ filter (is_deleted uid tag) (rows_from past.charges now) = h.taken ∙ (λ i. filter (is_deleted (div.uid_is i) (div.tag_is i)) (rowsp i)) in
    let dp : d.phase ≡ now = div.phase ∙ at in
    let appp : d.app ≡ (if tag == 0 then Some (less (added past.apps uid) (deleted_app past.phases uid)) else None) =
    app_is (tag == 0) (less (added past.apps uid) (deleted_app past.phases uid)) d.app div.app
    (λ a e. less_is (deleted_app past.phases d.uid) a (added past.apps d.uid) (sym (recorded_more past.phases s d a e) ∙ app a e)
    ∙ (λ i. less (added past.apps (div.uid_is i)) (deleted_app past.phases (div.uid_is i)))) in
    λ i. (record { phase = sp i; rows = srows i }, Some (record { phase = dp i; uid = div.uid_is i; tag = div.tag_is i; rows = drows i; app = appp i }))

whole_is : (past : Past) (n : ℕ) (s : Snapshot) (given : Snapshot) → n ≡ length past.phases → s ≡ given → given.phase ≡ n → given.rows ≡ rows_from past.charges n →
    s ≡ record { phase = length past.phases; rows = rows_from past.charges (length past.phases) }
whole_is past n s given at e ph rows =
    let p : s.phase ≡ length past.phases = ap (λ (x : Snapshot). x.phase) e ∙ ph ∙ at in
    let r : s.rows ≡ rows_from past.charges (length past.phases) = ap (λ (x : Snapshot). x.rows) e ∙ rows ∙ ap (rows_from past.charges) at in
    λ i. record { phase = p i; rows = r i }

pub ended_is : (past : Past) (n : ℕ) (c : Command) (p : Snapshot × Option Deletion) (given : Snapshot) → n ≡ length past.phases → IsShelved given p → given.phase ≡ n →
    given.rows ≡ rows_from past.charges n → IsDivided n c p →
    ((d : Deletion) → p.1 ≡ Some d → is_some d.app ≡ true → deleted_app (past.phases ++ p ∷ []) d.uid ≡ added past.apps d.uid) → p ≡ ended_phase past c
ended_is past n (command.Delete caller uid tag) (s, Some d) given at h ph rows div app =
    divided_is past n uid tag s d given at h ph rows div (λ a e. app d refl (ap (λ (o : Option Amount). is_some o) e)) caller
ended_is past n (command.Delete caller uid tag) (s, None) given at h ph rows div app = absurd div
ended_is past n _ (s, None) given at h ph rows div app = λ i. (whole_is past n s given at h ph rows i, None)
ended_is past n _ (s, Some d) given at h ph rows div app = absurd div

pub take_next : (xs more : Phases) (i j : ℕ) (p : Snapshot × Option Deletion) → j ≡ suc (length xs + i) → slice_get more i ≡ Some p → take j (xs ++ more) ≡ (xs ++ take i more) ++ p ∷ []
take_next [] [] i j p e k = absurd (cc)
take_next [] (q ∷ more) i zero p e k = absurd (omega (arith, e))
take_next [] (q ∷ more) zero (suc j) p e k =
    let same : q ≡ p = cc in let none : j ≡ 0 = omega (arith, e) in
    λ m. same m ∷ take (none m) more
take_next [] (q ∷ more) (suc i) (suc j) p e k = ap (λ (ys : Phases). q ∷ ys) (take_next [] more i j p (omega (arith, e)) k)
take_next (x ∷ xs) more i zero p e k = absurd (omega (arith, e))
take_next (x ∷ xs) more i (suc j) p e k = ap (λ (ys : Phases). x ∷ ys) (take_next xs more i j p (omega (arith, e)) k)

-- ---- lanes

lane_none : (sizes : Sizes) (past : Past) (l : List (ℕ × Call)) (r : List (ℕ × LineReceipt)) → l ≡ [] → map (λ (x : ℕ × LineReceipt). x.0) r ≡ map (λ (c : ℕ × Call). c.0) l →
    walk_lane sizes past l ≡ (after_pairs past (lane_pairs l r), r)
lane_none sizes past [] [] e lines = λ i. (sym (after_none past) i, [])
lane_none sizes past [] (x ∷ xs) e lines = absurd (cc)
lane_none sizes past (x ∷ xs) r e lines = absurd (cc)

abbrev pub lane_out : Past → List (List (ℕ × LineReceipt)) → Past × List (List (ℕ × LineReceipt))
lane_out past rs = (past, rs)

pub lanes_are : (sizes : Sizes) (past : Past) (journal : List Write) (from to : ℕ) (ls : List (List (ℕ × Call))) (rs : List (List (ℕ × LineReceipt))) → length ls ≤ 1 →
    AllZip (IsHonestLane (length past.journal) journal from to) ls rs → from ≡ length past.phases →
    ((journal ≡ past.journal) × (to ≡ from)) ⊎ (flat_map (λ lane. lane) ls ≡ []) →
    LandInTurn sizes.rows past.charges (flat_map charges (lanes_pairs ls rs)) →
    AddInTurn sizes.apps past.apps (flat_map app_adds (lanes_pairs ls rs)) →
    AddInTurn sizes.ifaces past.ifaces (flat_map iface_adds (lanes_pairs ls rs)) →
    walk_lanes sizes past ls ≡ lane_out (after_pairs past (lanes_pairs ls rs)) rs
lanes_are sizes past journal from to [] [] le h f apart lands adds ifs = λ i. lane_out (sym (after_none past) i) []
lanes_are sizes past journal from to [] (r ∷ rs) le h f apart lands adds ifs = absurd h
lanes_are sizes past journal from to (l ∷ ls) [] le h f apart lands adds ifs = absurd h
lanes_are sizes past journal from to (l ∷ m ∷ ls) (r ∷ rs) le h f apart lands adds ifs = absurd (omega (arith, le))
lanes_are sizes past journal from to (l ∷ []) (r ∷ s ∷ rs) le h f apart lands adds ifs = absurd h.1
lanes_are sizes past journal from to (l ∷ []) (r ∷ []) le h f apart lands adds ifs =
    let whole : lane_pairs l r ++ [] ≡ lane_pairs l r = append-nil (lane_pairs l r) in
    let w : walk_lane sizes past l ≡ (after_pairs past (lane_pairs l r), r) = elim apart [
      | inl same ↦ lane_is sizes past (length past.journal) from to l r h.0.lines h.0.obey refl
          (subst (λ (j : List Write). KnowledgeGrows j (length past.journal) (lane_pairs l r)) same.0 h.0.knowledge_grows) f (same.1 ∙ f) h.0.phases_rise
          (subst (λ (ps : List (Call × LineReceipt)). LandInTurn sizes.rows past.charges (flat_map charges ps)) whole lands)
          (subst (λ (ps : List (Call × LineReceipt)). AddInTurn sizes.apps past.apps (flat_map app_adds ps)) whole adds)
          (subst (λ (ps : List (Call × LineReceipt)). AddInTurn sizes.ifaces past.ifaces (flat_map iface_adds ps)) whole ifs)
      | inr none ↦ lane_none sizes past l r (sym (append-nil l) ∙ none) h.0.lines
    ] in
    (λ i. lane_out (w i).0 ((w i).1 ∷ [])) ∙ (λ i. lane_out (after_pairs past (sym whole i)) (r ∷ []))
