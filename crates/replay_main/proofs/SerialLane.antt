-- One lane alone: its receipts are those of the walk.
use Rattle.std.proofs.Common.{◌≡◌, ℕ, ◌≤◌, List, [], ◌∷◌, ◌++◌, length, map, refl, sym, ap, subst, ◌∙◌, arith, Option, Some, None, Bool, true, false}
use Rattle.std.specs.Prelude.{is_some, unwrap_or, option_map, option_to_list, max, ◌&&◌, not, flat_map}
use Rattle.std.specs.List.{AllByRecursion, AllZip}
use Rattle.std.proofs.lemmas.List.{append_assoc, append-nil}
use Rattle.acct_base.specs.declared.register.Key.{Key}
use Rattle.acct_base.specs.declared.register.Key.TheVariants.{Cookie, Set, Owner, Enabled}
use Rattle.acct_base.specs.declared.register.Write.{Write}
use Rattle.acct_base.specs.declared.register.Seen.{Seen}
use Rattle.acct_base.specs.declared.receipt.Mark.{Mark}
use Rattle.acct_base.specs.declared.receipt.Mark.TheVariants as mark
use Rattle.acct_base.specs.declared.sizes.Sizes.{Sizes}
use Rattle.acct_base.specs.declared.label.Label.{Label}
use Rattle.acct_base.specs.declared.charge.Charge.{Charge}
use Rattle.acct_base.specs.declared.verdict.Settled.{Settled}
use Rattle.acct_base.specs.declared.receipt.Receipt.{Receipt}
use Rattle.acct_base.specs.declared.packet.IfaceIn.{IfaceIn}
use Rattle.acct_base.specs.declared.receipt.LineReceipt.{LineReceipt}
use Rattle.acct_base.specs.declared.receipt.LineReceipt.TheVariants as line
use Rattle.acct_base.specs.Amounts.{same_label}
use Rattle.acct_base.specs.Rules.{allow, allowed_unseen, deny}
use Rattle.acct_base.specs.Journal.{IsTrueRead, AreTrueReads, known_after, last_write, current, value_after}
use Rattle.acct_base.specs.Receipts.{HookCall, Call, Add, Obeys, ObeysCall, reads_of, keyed_read, is_looked_up, is_tagged, settled_of, is_counted, label_of, settled, counted, label, charges_of, app_adds_of, charge_to, add_to, untagged, is_landed, charges, app_adds, iface_adds, reads, front_of, phase_of, PhaseIsFrom, iface_matches, iface_add, rule_read}
use Rattle.acct_base.specs.Receipts.Call.{Hook, Iface, Allow, Deny}
use Rattle.captures.specs.Honest.{KnowledgeGrows, PhasesRise, lane_pairs}
use Rattle.acct_base.specs.Journal.{FrontIsFrom, known_at_front}
use Rattle.desk_core.specs.Registers.{seen_now}
use Rattle.captures.specs.Runs.{Past}
use Rattle.acct_plain.specs.Serial.{serial_receipt, serial_line, value_if, read_if, row_mark, key_mark, mark_of, after_call, walk_lane}
use Rattle.acct_base.specs.Landings.{LandInTurn, AddInTurn, finds_room, landed_labels}

-- ---- knowledge

known_rises : (known : ℕ) (rs : List (Key × Seen)) → known ≤ known_after known rs
known_rises known [] = omega arith
known_rises known (r ∷ rs) = let rest = known_rises (max known r.1.version) rs in omega (arith, rest)

front_rises : (known : ℕ) (front : Option ℕ) → FrontIsFrom known front → known ≤ known_at_front known front
front_rises known None h = omega arith
front_rises known (Some f) h = h

reads_bound : (journal : List Write) (known : ℕ) (ps : List (Call × LineReceipt)) → KnowledgeGrows journal known ps → known ≤ length journal
reads_bound journal known [] h = h
reads_bound journal known (p ∷ ps) h =
    let known_then = known_at_front known (front_of p.1) in
    let a = front_rises known (front_of p.1) h.0 in
    let b = known_rises known_then (reads p) in
    let c = reads_bound journal (known_after known_then (reads p)) ps h.2 in
    omega (arith, a, b, c)

abbrev pub AreNow : List Write → List (Key × Seen) → Type 0
AreNow journal rs = AllByRecursion (λ (r : Key × Seen). r.1 ≡ seen_now journal r.0) rs

true_is_now : (journal : List Write) (key : Key) (seen : Seen) → max (length journal) seen.version ≤ length journal → IsTrueRead journal (length journal) key seen → seen ≡ seen_now journal key
true_is_now journal key seen le h =
    let whole : max (length journal) seen.version ≡ length journal = omega (arith, le) in
    let version : seen.version ≡ last_write journal (length journal) key = h.last ∙ ap (λ n. last_write journal n key) whole in
    let value : seen.value ≡ current journal key = h.value ∙ ap (λ n. value_after journal n key) whole in
    λ i. record { version = version i; value = value i }

all_now : (journal : List Write) (known : ℕ) (rs : List (Key × Seen)) → known ≡ length journal → known_after known rs ≤ length journal → AreTrueReads journal known rs → AreNow journal rs
all_now journal known [] same le h = tt
all_now journal known (r ∷ rs) same le h =
    let after = known_rises (max known r.1.version) rs in
    let here : max (length journal) r.1.version ≤ length journal = omega (arith, after, le, same) in
    let step : max known r.1.version ≡ length journal = omega (arith, here, same) in
    (true_is_now journal r.0 r.1 here (subst (λ (n : ℕ). IsTrueRead journal n r.0 r.1) same h.0), all_now journal (max known r.1.version) rs step le h.1)

split_left : {X : Type 0} (P : X → Type 0) (xs ys : List X) → AllByRecursion P (xs ++ ys) → AllByRecursion P xs
split_left P [] ys h = tt
split_left P (x ∷ xs) ys h = (h.0, split_left P xs ys h.1)

split_right : {X : Type 0} (P : X → Type 0) (xs ys : List X) → AllByRecursion P (xs ++ ys) → AllByRecursion P ys
split_right P [] ys h = h
split_right P (x ∷ xs) ys h = split_right P xs ys h.1

value_none : {A : Type 0} (b : Bool) (x : A) → false ≡ b → value_if b x ≡ None
value_none true x e = absurd (cc)
value_none false x e = refl

value_some : {A : Type 0} (b : Bool) (x y : A) → true ≡ b → y ≡ x → value_if b x ≡ Some y
value_some {A} true x y e p = ap (λ (z : A). Some z) (sym p)
value_some false x y e p = absurd (cc)

-- a read that was made where it had to be
opt_now : (b : Bool) (journal : List Write) (key : Key) (o : Option Seen) → is_some o ≡ b → AreNow journal (keyed_read key o) → o ≡ read_if b journal key
opt_now b journal key None e h = sym (value_none b (seen_now journal key) e)
opt_now b journal key (Some seen) e h = sym (value_some b (seen_now journal key) seen e h.0)

-- ---- marks

mark_is : (m : Mark) (b : Bool) → is_landed m ≡ b → m ≡ mark_of b
mark_is mark.Landed b e = subst (λ (x : Bool). mark.Landed ≡ mark_of x) e refl
mark_is mark.Full b e = subst (λ (x : Bool). mark.Full ≡ mark_of x) e refl

pub record Charged (size : ℕ) (before : List Charge) (now : ℕ) (call : HookCall) (label : Label) (phase : Option ℕ) (b : Bool) (o : Option Mark) (more : List Charge) : Type 0 where
  pub is : o ≡ value_if b (row_mark size before now label)
  pub rest : LandInTurn size (before ++ charge_to call label phase o) more

charge_in_turn : (size : ℕ) (before : List Charge) (now : ℕ) (call : HookCall) (label : Label) (phase : Option ℕ) (b : Bool) (o : Option Mark) (more : List Charge) →
    ((n : ℕ) → phase ≡ Some n → n ≡ now) → (is_some o ≡ true → is_some phase ≡ true) → is_some o ≡ b → LandInTurn size before (charge_to call label phase o ++ more) →
    Charged size before now call label phase b o more
charge_in_turn size before now call label None b None more at where_counted e h = record {
  is = sym (value_none b (row_mark size before now label) e);
  rest = subst (λ (cs : List Charge). LandInTurn size cs more) (sym (append-nil before)) h;
}
charge_in_turn size before now call label None b (Some m) more at where_counted e h = absurd (let no = where_counted refl in cc)
charge_in_turn size before now call label (Some n) b None more at where_counted e h = record {
  is = sym (value_none b (row_mark size before now label) e);
  rest = subst (λ (cs : List Charge). LandInTurn size cs more) (sym (append-nil before)) h;
}
charge_in_turn size before now call label (Some n) b (Some m) more at where_counted e h = record {
  is =
      let here : is_landed m ≡ finds_room same_label size (landed_labels before now) label = subst (λ (k : ℕ). is_landed m ≡ finds_room same_label size (landed_labels before k) label) (at n refl) h.0 in
      sym (value_some b (row_mark size before now label) m e (mark_is m _ here));
  rest = h.1;
}

add_in_turn : (size : ℕ) (before : List Add) (call : HookCall) (key : ℕ) (b : Bool) (o : Option Mark) → is_some o ≡ b → AddInTurn size before (add_to call key o) →
    o ≡ value_if b (key_mark size before key)
add_in_turn size before call key b None e h = sym (value_none b (key_mark size before key) e)
add_in_turn size before call key b (Some m) e h = sym (value_some b (key_mark size before key) m e (mark_is m _ h.0))

-- ---- receipts

phase_value : (b : Bool) (now : ℕ) (o : Option ℕ) → is_some o ≡ b → ((n : ℕ) → o ≡ Some n → n ≡ now) → o ≡ value_if b now
phase_value b now None e at = sym (value_none b now e)
phase_value b now (Some n) e at = sym (value_some b now n e (at n refl))

and_left : (a b : Bool) → (a && b) ≡ true → a ≡ true
and_left true b e = refl
and_left false b e = e

hook_is : (sizes : Sizes) (past : Past) (call : HookCall) (r : Receipt) → Obeys call r → r.front ≡ length past.journal → AreNow past.journal (reads_of call r) →
    ((n : ℕ) → r.phase ≡ Some n → n ≡ length past.phases) → LandInTurn sizes.rows past.charges (charges_of call r) → AddInTurn sizes.apps past.apps (app_adds_of call r) →
    r ≡ serial_receipt sizes past call
hook_is sizes past call r o front now at lands adds =
    let j = past.journal in
    let P = λ (x : Key × Seen). x.1 ≡ seen_now j x.0 in
    let r1 = keyed_read Enabled r.rules_read in
    let r2 = keyed_read (Owner call.sock_uid) r.owner_read in
    let r3 = keyed_read (Set (settled call r).uid) r.set_read in
    let first : List (Key × Seen) = (Cookie call.cookie, r.tag_read) ∷ r1 in
    let front_two = split_left P (first ++ r2) r3 now in
    let tagp : r.tag_read ≡ seen_now j (Cookie call.cookie) = (split_left P first r2 front_two).0 in
    let looked = is_looked_up call (seen_now j (Cookie call.cookie)) in
    let rulesp : r.rules_read ≡ read_if looked j Enabled =
    opt_now (is_looked_up call r.tag_read) j Enabled r.rules_read o.rules_read (split_left P first r2 front_two).1 ∙ ap (λ (t : Seen). read_if (is_looked_up call t) j Enabled) tagp in
    let ownerp : r.owner_read ≡ read_if looked j (Owner call.sock_uid) =
    opt_now (is_looked_up call r.tag_read) j (Owner call.sock_uid) r.owner_read o.owner_read (split_right P first r2 front_two) ∙ ap (λ (t : Seen). read_if (is_looked_up call t) j (Owner call.sock_uid)) tagp in
    let want = serial_receipt sizes past call in
    let setlp : settled call r ≡ settled call want = λ i. settled_of call (tagp i) (rulesp i) (ownerp i) in
    let cntp : counted call r ≡ counted call want = λ i. is_counted call (tagp i) (setlp i) in
    let setp : r.set_read ≡ want.set_read =
    opt_now (counted call r) j (Set (settled call r).uid) r.set_read o.set_read (split_right P (first ++ r2) r3 now) ∙ (λ i. read_if (cntp i) j (Set (setlp i).uid)) in
    let labelp : label call r ≡ label call want = λ i. label_of call (tagp i) (setlp i) (setp i) in
    let n = length past.phases in
    let phasep : r.phase ≡ want.phase = phase_value (counted call r) n r.phase o.phase at ∙ ap (λ (b : Bool). value_if b n) cntp in
    let second = charge_to call (untagged (label call r)) r.phase r.landed_plain in
    let one = charge_in_turn sizes.rows past.charges n call (label call r) r.phase (counted call r && is_tagged call r.tag_read) r.landed_tag second at
    (λ e. o.phase ∙ and_left _ _ (sym o.landed_tag ∙ e)) o.landed_tag lands in
    let tag_mark : r.landed_tag ≡ want.landed_tag = one.is ∙ (λ i. value_if (cntp i && is_tagged call (tagp i)) (row_mark sizes.rows past.charges n (labelp i))) in
    let charged = λ (phase : Option ℕ) (m : Option Mark) (l : Label). past.charges ++ charge_to call l phase m in
    let two = charge_in_turn sizes.rows (past.charges ++ charge_to call (label call r) r.phase r.landed_tag) n call (untagged (label call r)) r.phase (counted call r) r.landed_plain [] at
    (λ e. o.phase ∙ sym o.landed_plain ∙ e) o.landed_plain (subst (λ (cs : List Charge). LandInTurn sizes.rows (past.charges ++ charge_to call (label call r) r.phase r.landed_tag) cs) (sym (append-nil second)) one.rest) in
    let plain_mark : r.landed_plain ≡ want.landed_plain =
    two.is ∙ (λ i. value_if (cntp i) (row_mark sizes.rows (past.charges ++ charge_to call (labelp i) (phasep i) (tag_mark i)) n (untagged (labelp i)))) in
    let app_mark : r.landed_app ≡ want.landed_app =
    add_in_turn sizes.apps past.apps call (settled call r).uid (counted call r) r.landed_app o.landed_app adds ∙ (λ i. value_if (cntp i) (key_mark sizes.apps past.apps (setlp i).uid)) in
    let labelf : r.label ≡ want.label = o.label_is ∙ (λ i. value_if (cntp i) (labelp i)) in
    let verdictp : r.verdict ≡ want.verdict = o.verdict ∙ ap (λ (s : Settled). s.verdict) setlp in
    λ i. record {
      front = front i;
      tag_read = tagp i;
      rules_read = rulesp i;
      owner_read = ownerp i;
      set_read = setp i;
      phase = phasep i;
      label = labelf i;
      verdict = verdictp i;
      landed_tag = tag_mark i;
      landed_plain = plain_mark i;
      landed_app = app_mark i;
    }

iface_in_turn : (size : ℕ) (before : List Add) (call : IfaceIn) (b : Bool) (o : Option Mark) → is_some o ≡ b → AddInTurn size before (option_to_list (option_map (iface_add call) o)) →
    o ≡ value_if b (key_mark size before call.iface)
iface_in_turn size before call b None e h = sym (value_none b (key_mark size before call.iface) e)
iface_in_turn size before call b (Some m) e h = sym (value_some b (key_mark size before call.iface) m e (mark_is m _ h.0))

pub line_is : (sizes : Sizes) (past : Past) (call : Call) (r : LineReceipt) → ObeysCall call r → ((f : ℕ) → front_of r ≡ Some f → f ≡ length past.journal) →
    AreNow past.journal (reads (call, r)) → ((n : ℕ) → phase_of r ≡ Some n → n ≡ length past.phases) → LandInTurn sizes.rows past.charges (charges (call, r)) →
    AddInTurn sizes.apps past.apps (app_adds (call, r)) → AddInTurn sizes.ifaces past.ifaces (iface_adds (call, r)) → r ≡ serial_line sizes past call
line_is sizes past (Hook call) (line.Hook r) o front now at lands adds ifs = ap (λ (x : Receipt). line.Hook x) (hook_is sizes past call r o (front r.front refl) now at lands adds)
line_is sizes past (Iface call) (line.Iface r) o front now at lands adds ifs =
    let mark = iface_in_turn sizes.ifaces past.ifaces call (iface_matches call) r.landed o.landed ifs in
    λ i. line.Iface (record { matched = o.matched i; landed = mark i })
line_is sizes past (Allow sock_uid cookie received) (line.List r) o front now at lands adds ifs =
    let seen = opt_now (not (allowed_unseen sock_uid cookie received)) past.journal (Owner sock_uid) r.owner_read o.owner_read now in
    let matched : r.matched ≡ allow sock_uid cookie received (rule_read (read_if (not (allowed_unseen sock_uid cookie received)) past.journal (Owner sock_uid))) =
    o.matched ∙ ap (λ (s : Option Seen). allow sock_uid cookie received (rule_read s)) seen in
    λ i. line.List (record { front = front r.front refl i; owner_read = seen i; matched = matched i })
line_is sizes past (Deny sock_uid) (line.List r) o front now at lands adds ifs =
    let seen : r.owner_read ≡ Some (seen_now past.journal (Owner sock_uid)) = opt_now true past.journal (Owner sock_uid) r.owner_read o.owner_read now in
    let matched : r.matched ≡ deny (rule_read (Some (seen_now past.journal (Owner sock_uid)))) = o.matched ∙ ap (λ (s : Option Seen). deny (rule_read s)) seen in
    λ i. line.List (record { front = front r.front refl i; owner_read = seen i; matched = matched i })
line_is sizes past _ _ o front now at lands adds ifs = absurd o

-- ---- a lane

land_split : (size : ℕ) (before xs ys : List Charge) → LandInTurn size before (xs ++ ys) → LandInTurn size before xs × LandInTurn size (before ++ xs) ys
land_split size before [] ys h = (tt, subst (λ (cs : List Charge). LandInTurn size cs ys) (sym (append-nil before)) h)
land_split size before (x ∷ xs) ys h =
    let rest = land_split size (before ++ x ∷ []) xs ys h.1 in
    ((h.0, rest.0), subst (λ (cs : List Charge). LandInTurn size cs ys) (append_assoc before (x ∷ []) xs) rest.1)

add_split : (size : ℕ) (before xs ys : List Add) → AddInTurn size before (xs ++ ys) → AddInTurn size before xs × AddInTurn size (before ++ xs) ys
add_split size before [] ys h = (tt, subst (λ (cs : List Add). AddInTurn size cs ys) (sym (append-nil before)) h)
add_split size before (x ∷ xs) ys h =
    let rest = add_split size (before ++ x ∷ []) xs ys h.1 in
    ((h.0, rest.0), subst (λ (cs : List Add). AddInTurn size cs ys) (append_assoc before (x ∷ []) xs) rest.1)

pub phase_from : (from : ℕ) (o : Option ℕ) → PhaseIsFrom from o → from ≤ unwrap_or o from
phase_from from None h = omega arith
phase_from from (Some n) h = h

pub phases_bound : (from to : ℕ) (ps : List (Call × LineReceipt)) → PhasesRise from to ps → from ≤ to
phases_bound from to [] h = h
phases_bound from to (p ∷ ps) h =
    let a = phase_from from (phase_of p.1) h.0 in
    let b = phases_bound (unwrap_or (phase_of p.1) from) to ps h.1 in
    omega (arith, a, b)

abbrev pub after_pairs : Past → List (Call × LineReceipt) → Past
after_pairs past ps = record past {
  charges = past.charges ++ flat_map charges ps;
  apps = past.apps ++ flat_map app_adds ps;
  ifaces = past.ifaces ++ flat_map iface_adds ps;
}

after_more : (past : Past) (c : Call) (r : LineReceipt) (ps : List (Call × LineReceipt)) → after_pairs (after_call past c r) ps ≡ after_pairs past ((c, r) ∷ ps)
after_more past c r ps = λ i. record past {
  charges = append_assoc past.charges (charges (c, r)) (flat_map charges ps) i;
  apps = append_assoc past.apps (app_adds (c, r)) (flat_map app_adds ps) i;
  ifaces = append_assoc past.ifaces (iface_adds (c, r)) (flat_map iface_adds ps) i;
}

pub after_none : (past : Past) → after_pairs past [] ≡ past
after_none past = λ i. record past { charges = append-nil past.charges i; apps = append-nil past.apps i; ifaces = append-nil past.ifaces i }

no_front : (o : Option ℕ) (known all : ℕ) → known ≡ all → FrontIsFrom known o → known_at_front known o ≤ all → (f : ℕ) → o ≡ Some f → f ≡ all
no_front None known all e h le f p = absurd (cc)
no_front (Some g) known all e h le f p = let same : g ≡ f = cc in omega (arith, same, e, h, le)

known_same : (o : Option ℕ) (known all : ℕ) → known ≡ all → FrontIsFrom known o → known_at_front known o ≤ all → known_at_front known o ≡ all
known_same None known all e h le = e
known_same (Some g) known all e h le = omega (arith, e, h, le)

no_phase : (o : Option ℕ) (from to now : ℕ) → from ≡ now → to ≡ now → PhaseIsFrom from o → unwrap_or o from ≤ to → (n : ℕ) → o ≡ Some n → n ≡ now
no_phase None from to now e k h le n p = absurd (cc)
no_phase (Some m) from to now e k h le n p = let same : m ≡ n = cc in omega (arith, same, e, k, h, le)

pub lane_is : (sizes : Sizes) (past : Past) (known from to : ℕ) (calls : List (ℕ × Call)) (receipts : List (ℕ × LineReceipt)) →
    map (λ (r : ℕ × LineReceipt). r.0) receipts ≡ map (λ (c : ℕ × Call). c.0) calls →
    AllZip (λ (c : ℕ × Call) (r : ℕ × LineReceipt). ObeysCall c.1 r.1) calls receipts →
    known ≡ length past.journal → KnowledgeGrows past.journal known (lane_pairs calls receipts) →
    from ≡ length past.phases → to ≡ length past.phases → PhasesRise from to (lane_pairs calls receipts) →
    LandInTurn sizes.rows past.charges (flat_map charges (lane_pairs calls receipts)) →
    AddInTurn sizes.apps past.apps (flat_map app_adds (lane_pairs calls receipts)) →
    AddInTurn sizes.ifaces past.ifaces (flat_map iface_adds (lane_pairs calls receipts)) →
    walk_lane sizes past calls ≡ (after_pairs past (lane_pairs calls receipts), receipts)
lane_is sizes past known from to [] [] lines obey e reads f t phases lands adds ifs = λ i. (sym (after_none past) i, [])
lane_is sizes past known from to [] (r ∷ rs) lines obey e reads f t phases lands adds ifs = absurd obey
lane_is sizes past known from to (c ∷ cs) [] lines obey e reads f t phases lands adds ifs = absurd obey
lane_is sizes past known from to (c ∷ cs) (r ∷ rs) lines obey e reads_true f t phases lands adds ifs =
    let p : Call × LineReceipt = (c.1, r.1) in
    let ps = lane_pairs cs rs in
    let known_then = known_at_front known (front_of r.1) in
    let rises = known_rises known_then (reads p) in
    let bound = reads_bound past.journal (known_after known_then (reads p)) ps reads_true.2 in
    let then_le : known_then ≤ length past.journal = omega (arith, rises, bound) in
    let then_same = known_same (front_of r.1) known (length past.journal) e reads_true.0 then_le in
    let now = all_now past.journal known_then (reads p) then_same bound reads_true.1 in
    let later = phases_bound (unwrap_or (phase_of r.1) from) to ps phases.1 in
    let land = land_split sizes.rows past.charges (charges p) (flat_map charges ps) lands in
    let app = add_split sizes.apps past.apps (app_adds p) (flat_map app_adds ps) adds in
    let iface = add_split sizes.ifaces past.ifaces (iface_adds p) (flat_map iface_adds ps) ifs in
    let here : r.1 ≡ serial_line sizes past c.1 =
    line_is sizes past c.1 r.1 obey.0 (no_front (front_of r.1) known (length past.journal) e reads_true.0 then_le) now
    (no_phase (phase_of r.1) from to (length past.phases) f t phases.0 later) land.0 app.0 iface.0 in
    let from_rises = phase_from from (phase_of r.1) phases.0 in
    let rest : walk_lane sizes (after_call past c.1 r.1) cs ≡ (after_pairs (after_call past c.1 r.1) ps, rs) =
    lane_is sizes (after_call past c.1 r.1) (known_after known_then (reads p)) (unwrap_or (phase_of r.1) from) to cs rs (cc) obey.1
    (omega (arith, bound, rises, then_same)) reads_true.2 (omega (arith, from_rises, later, f, t)) t phases.1 land.1 app.1 iface.1 in
    let line : r.0 ≡ c.0 = cc in
    (λ i. let w = walk_lane sizes (after_call past c.1 (sym here i)) cs in (w.0, (sym line i, sym here i) ∷ w.1))
    ∙ (λ i. ((rest i).0, r ∷ (rest i).1))
    ∙ (λ i. (after_more past c.1 r.1 ps i, r ∷ rs))
