-- The lanes of a section, one after another: honest, and what they leave is what their receipts say.
use Rattle.std.proofs.Common.{◌≡◌, ℕ, ◌≤◌, List, [], ◌∷◌, ◌++◌, length, map, refl, sym, ap, subst, ◌∙◌, arith, Bool, true, false, append_assoc, append-nil, length-append}
use Rattle.std.specs.Prelude.{flat_map, unwrap_or}
use Rattle.std.specs.List.{AllZip}
use Rattle.std.proofs.lemmas.Grind.{flat_map-append}
use Rattle.acct_base.specs.declared.register.Write.{Write}
use Rattle.acct_base.specs.declared.sizes.Sizes.{Sizes}
use Rattle.acct_base.specs.declared.receipt.LineReceipt.{LineReceipt}
use Rattle.acct_base.specs.Journal.{AreTrueReads, known_after, known_at_front, FrontIsFrom}
use Rattle.acct_base.specs.Receipts.{Call, ObeysCall, charges, app_adds, iface_adds, front_of, phase_of, reads, counted, PhaseIsFrom}
use Rattle.acct_base.specs.Receipts.Call.{Hook, Iface, Allow, Deny}
use Rattle.captures.specs.Honest.{lane_pairs, lanes_pairs, KnowledgeGrows, PhasesRise, IsHonestLane}
use Rattle.captures.specs.Runs.{Past}
use Rattle.acct_plain.specs.Serial.{serial_line, serial_receipt, value_if, after_call, walk_lane, walk_lanes}
use Rattle.acct_plain.proofs.Lines.{line_obeys, line_now, now_true_later, known_same}

-- ---- what calls leave

abbrev pub after_pairs : Past → List (Call × LineReceipt) → Past
after_pairs past ps = record past {
  charges = past.charges ++ flat_map charges ps;
  apps = past.apps ++ flat_map app_adds ps;
  ifaces = past.ifaces ++ flat_map iface_adds ps;
}

after_more : (past : Past) (c : Call) (r : LineReceipt) (ps : List (Call × LineReceipt)) → after_pairs (after_call past c r) ps ≡ after_pairs past ((c, r) ∷ ps)
after_more past c r ps = λ i. record past {
  charges = append_assoc past.charges (charges (c, r)) (flat_map charges ps) i;
  apps = append_assoc past.apps (app_adds (c, r)) (flat_map app_adds ps) i;
  ifaces = append_assoc past.ifaces (iface_adds (c, r)) (flat_map iface_adds ps) i;
}

after_none : (past : Past) → after_pairs past [] ≡ past
after_none past = λ i. record past { charges = append-nil past.charges i; apps = append-nil past.apps i; ifaces = append-nil past.ifaces i }

joined : {A : Type 0} (f : Call × LineReceipt → List A) (xs : List A) (ps qs : List (Call × LineReceipt)) → (xs ++ flat_map f ps) ++ flat_map f qs ≡ xs ++ flat_map f (ps ++ qs)
joined {A} f xs ps qs = append_assoc xs (flat_map f ps) (flat_map f qs) ∙ ap (λ (ys : List A). xs ++ ys) (sym (flat_map-append f ps qs))

after_twice : (past : Past) (ps qs : List (Call × LineReceipt)) → after_pairs (after_pairs past ps) qs ≡ after_pairs past (ps ++ qs)
after_twice past ps qs = λ i. record past { charges = joined charges past.charges ps qs i; apps = joined app_adds past.apps ps qs i; ifaces = joined iface_adds past.ifaces ps qs i }

module _ (sizes : Sizes) where
  lane_past : (past : Past) (calls : List (ℕ × Call)) → (walk_lane sizes past calls).0 ≡ after_pairs past (lane_pairs calls (walk_lane sizes past calls).1)
  lane_past past [] = sym (after_none past)
  lane_past past (c ∷ cs) =
      let r = serial_line sizes past c.1 in
      lane_past (after_call past c.1 r) cs ∙ after_more past c.1 r (lane_pairs cs (walk_lane sizes (after_call past c.1 r) cs).1)

  pub lanes_past : (past : Past) (lanes : List (List (ℕ × Call))) → (walk_lanes sizes past lanes).0 ≡ after_pairs past (lanes_pairs lanes (walk_lanes sizes past lanes).1)
  lanes_past past [] = sym (after_none past)
  lanes_past past (l ∷ ls) =
      let first = walk_lane sizes past l in
      let rest = lanes_pairs ls (walk_lanes sizes first.0 ls).1 in
      lanes_past first.0 ls ∙ ap (λ (x : Past). after_pairs x rest) (lane_past past l) ∙ after_twice past (lane_pairs l first.1) rest

  -- ---- a lane is honest

  lane_lines : (past : Past) (calls : List (ℕ × Call)) → map (λ (r : ℕ × LineReceipt). r.0) (walk_lane sizes past calls).1 ≡ map (λ (c : ℕ × Call). c.0) calls
  lane_lines past [] = refl
  lane_lines past (c ∷ cs) = ap (λ (ns : List ℕ). c.0 ∷ ns) (lane_lines (after_call past c.1 (serial_line sizes past c.1)) cs)

  lane_obeys : (past : Past) (calls : List (ℕ × Call)) → AllZip (λ (c : ℕ × Call) (r : ℕ × LineReceipt). ObeysCall c.1 r.1) calls (walk_lane sizes past calls).1
  lane_obeys past [] = tt
  lane_obeys past (c ∷ cs) = (line_obeys sizes past c.1, lane_obeys (after_call past c.1 (serial_line sizes past c.1)) cs)

  front_from : (past : Past) (call : Call) → FrontIsFrom (length past.journal) (front_of (serial_line sizes past call))
  front_from past (Hook call) = omega arith
  front_from past (Iface call) = tt
  front_from past (Allow sock_uid cookie received) = omega arith
  front_from past (Deny sock_uid) = omega arith

  front_same : (past : Past) (call : Call) → known_at_front (length past.journal) (front_of (serial_line sizes past call)) ≡ length past.journal
  front_same past (Hook call) = refl
  front_same past (Iface call) = refl
  front_same past (Allow sock_uid cookie received) = refl
  front_same past (Deny sock_uid) = refl

  lane_reads : (past : Past) (more : List Write) (calls : List (ℕ × Call)) →
      KnowledgeGrows (past.journal ++ more) (length past.journal) (lane_pairs calls (walk_lane sizes past calls).1)
  lane_reads past more [] = omega (arith, length-append past.journal more)
  lane_reads past more (c ∷ cs) =
      let journal = past.journal in
      let r = serial_line sizes past c.1 in
      let now = line_now sizes past c.1 in
      let same = front_same past c.1 in
      let pairs = lane_pairs cs (walk_lane sizes (after_call past c.1 r) cs).1 in (
        front_from past c.1,
        subst (λ (k : ℕ). AreTrueReads (journal ++ more) k (reads (c.1, r))) (sym same) (now_true_later journal more (reads (c.1, r)) now),
        subst (λ (k : ℕ). KnowledgeGrows (journal ++ more) k pairs) (sym (ap (λ k. known_after k (reads (c.1, r))) same ∙ known_same journal (reads (c.1, r)) now))
            (lane_reads (after_call past c.1 r) more cs),
      )

  value_from : (b : Bool) (n : ℕ) → PhaseIsFrom n (value_if b n)
  value_from true n = omega arith
  value_from false n = tt

  value_same : (b : Bool) (n : ℕ) → unwrap_or (value_if b n) n ≡ n
  value_same true n = refl
  value_same false n = refl

  phase_from : (past : Past) (call : Call) → PhaseIsFrom (length past.phases) (phase_of (serial_line sizes past call))
  phase_from past (Hook call) = value_from (counted call (serial_receipt sizes past call)) (length past.phases)
  phase_from past (Iface call) = tt
  phase_from past (Allow sock_uid cookie received) = tt
  phase_from past (Deny sock_uid) = tt

  phase_same : (past : Past) (call : Call) → unwrap_or (phase_of (serial_line sizes past call)) (length past.phases) ≡ length past.phases
  phase_same past (Hook call) = value_same (counted call (serial_receipt sizes past call)) (length past.phases)
  phase_same past (Iface call) = refl
  phase_same past (Allow sock_uid cookie received) = refl
  phase_same past (Deny sock_uid) = refl

  lane_phases : (past : Past) (to : ℕ) (calls : List (ℕ × Call)) → length past.phases ≤ to → PhasesRise (length past.phases) to (lane_pairs calls (walk_lane sizes past calls).1)
  lane_phases past to [] le = le
  lane_phases past to (c ∷ cs) le =
      let r = serial_line sizes past c.1 in
      let pairs = lane_pairs cs (walk_lane sizes (after_call past c.1 r) cs).1 in
      (phase_from past c.1, subst (λ (k : ℕ). PhasesRise k to pairs) (sym (phase_same past c.1)) (lane_phases (after_call past c.1 r) to cs le))

  lane_is_honest : (past : Past) (more : List Write) (to : ℕ) (calls : List (ℕ × Call)) → length past.phases ≤ to →
      IsHonestLane (length past.journal) (past.journal ++ more) (length past.phases) to calls (walk_lane sizes past calls).1
  lane_is_honest past more to calls le = record {
    lines = lane_lines past calls;
    obey = lane_obeys past calls;
    knowledge_grows = lane_reads past more calls;
    phases_rise = lane_phases past to calls le;
  }

  pub lanes_are_honest : (past : Past) (more : List Write) (to : ℕ) (lanes : List (List (ℕ × Call))) → length past.phases ≤ to →
      AllZip (IsHonestLane (length past.journal) (past.journal ++ more) (length past.phases) to) lanes (walk_lanes sizes past lanes).1
  lanes_are_honest past more to [] le = tt
  lanes_are_honest past more to (l ∷ ls) le =
      let first = walk_lane sizes past l in
      let same = lane_past past l in (
        lane_is_honest past more to l le,
        subst (λ (x : Past). AllZip (IsHonestLane (length x.journal) (x.journal ++ more) (length x.phases) to) ls (walk_lanes sizes first.0 ls).1) same
            (lanes_are_honest first.0 more to ls (subst (λ (x : Past). length x.phases ≤ to) (sym same) le)),
      )
