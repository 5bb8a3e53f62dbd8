-- A lane whose calls say what a pass's calls say is honest, and its pass's lists grow by its receipts.
use Rattle.std.proofs.Common.{◌≡◌, ℕ, zero, suc, ◌+◌, ◌≤◌, List, [], ◌∷◌, ◌++◌, length, map, refl, sym, ap, subst, ◌∙◌, arith, Option, length-append, append_assoc, append-nil}
use Rattle.std.specs.Prelude.{option_and_then, max, flat_map}
use Rattle.std.specs.List.{AllZip}
use Rattle.std.proofs.lemmas.List.{take-append-le}
use Rattle.acct_base.specs.declared.charge.Charge.{Charge}
use Rattle.acct_base.specs.declared.register.Write.{Write}
use Rattle.acct_base.specs.declared.register.Key.{Key}
use Rattle.acct_base.specs.declared.register.Seen.{Seen}
use Rattle.acct_base.specs.declared.sizes.Sizes.{Sizes}
use Rattle.acct_base.specs.declared.receipt.LineReceipt.{LineReceipt}
use Rattle.acct_base.specs.Journal.{IsTrueRead, AreTrueReads, last_write, last_from, value_of_write, known_at_front}
use Rattle.acct_base.specs.Landings.{LandInTurn, AddInTurn}
use Rattle.acct_base.specs.Receipts.{Call, Add, ObeysCall, charges, app_adds, iface_adds, reads, front_of}
use Rattle.captures.specs.Honest.{KnowledgeGrows, PhasesRise, IsHonestLane, lane_pairs, line_number}
use Rattle.captures.proofs.Lists.{place_left}
use Rattle.acct_base.proofs.TurnLemmas.{land_append, add_append}
use Rattle.hook_engine.specs.Passes.{Pass, Begins, IsSole, Called, seen}
use Rattle.lanes.specs.Lanes.{LaneCalled, spent_in}

-- ---- what is true of writes stays true of more

pub begins_all : {A : Type 0} (xs : List A) → Begins xs xs
begins_all xs = ([], sym (append-nil xs))

pub begins_trans : {A : Type 0} (xs ys zs : List A) → Begins xs ys → Begins ys zs → Begins xs zs
begins_trans {A} xs ys zs h k = (h.0 ++ k.0, k.1 ∙ ap (λ (ws : List A). ws ++ k.0) h.1 ∙ append_assoc xs h.0 k.0)

-- a write that is there stays when the journal grows
write_kept : (ws more : List Write) (v : ℕ) → v ≤ length ws → value_of_write (ws ++ more) v ≡ value_of_write ws v
write_kept ws more zero le = refl
write_kept ws more (suc i) le = ap (λ (o : Option Write). option_and_then (λ (w : Write). w.value) o) (place_left ws more i (omega arith))

true_kept : (ws more : List Write) (known : ℕ) (key : Key) (seen : Seen) → IsTrueRead ws known key seen → IsTrueRead (ws ++ more) known key seen
true_kept ws more known key seen h =
    let m = max known seen.version in
    let inside : m ≤ length ws = h.in_journal in
    let long : length (ws ++ more) ≡ length ws + length more = length-append ws more in
    let same : last_write (ws ++ more) m key ≡ last_write ws m key = ap (last_from 0 1 key) (take-append-le m ws more inside) in
    let version : seen.version ≤ length ws = omega (arith, inside) in
    let last_in : last_write ws m key ≤ length ws = subst (λ (v : ℕ). v ≤ length ws) h.last version in
    record {
      in_journal = omega (arith, inside, long);
      last = h.last ∙ sym same;
      value = h.value ∙ sym (ap (value_of_write (ws ++ more)) same ∙ write_kept ws more (last_write ws m key) last_in);
    }

reads_kept : (ws more : List Write) (known : ℕ) (rs : List (Key × Seen)) → AreTrueReads ws known rs → AreTrueReads (ws ++ more) known rs
reads_kept ws more known [] h = tt
reads_kept ws more known (r ∷ rs) h = (true_kept ws more known r.0 r.1 h.0, reads_kept ws more (max known r.1.version) rs h.1)

begins_long : {A : Type 0} (xs ys : List A) → Begins xs ys → length xs ≤ length ys
begins_long {A} xs ys h = let long : length ys ≡ length xs + length h.0 = ap (λ (ws : List A). length ws) h.1 ∙ length-append xs h.0 in omega (arith, long)

module _ (budget : ℕ) (sizes : Sizes) where
  -- ---- honest

  lane_learns : (start end : Pass) (cs : List (ℕ × Call)) (rs : List (ℕ × LineReceipt)) → LaneCalled budget sizes start cs rs end → Begins start.writes end.writes
  lane_learns start end [] [] h = subst (λ (x : Pass). Begins start.writes x.writes) h (begins_all start.writes)
  lane_learns start end [] (r ∷ rs) h = absurd h
  lane_learns start end (c ∷ cs) [] h = absurd h
  lane_learns start end (c ∷ cs) (r ∷ rs) h = begins_trans start.writes h.0.writes end.writes h.1.knew (lane_learns h.0 end cs rs h.3)

  lane_reads : (journal : List Write) (start end : Pass) (cs : List (ℕ × Call)) (rs : List (ℕ × LineReceipt)) → LaneCalled budget sizes start cs rs end → Begins end.writes journal →
      KnowledgeGrows journal (seen start) (lane_pairs cs rs)
  lane_reads journal start end [] [] h b =
      let same : seen start ≡ seen end = ap (λ (x : Pass). seen x) h in
      let long = begins_long end.writes journal b in
      omega (arith, same, long)
  lane_reads journal start end [] (r ∷ rs) h b = absurd h
  lane_reads journal start end (c ∷ cs) [] h b = absurd h
  lane_reads journal start end (c ∷ cs) (r ∷ rs) h b =
      let whole = begins_trans h.0.writes end.writes journal (lane_learns h.0 end cs rs h.3) b in
      let known = known_at_front (seen start) (front_of r.1) in (
        h.1.front,
        subst (λ (j : List Write). AreTrueReads j known (reads (c.1, r.1))) (sym whole.1) (reads_kept h.0.writes whole.0 known (reads (c.1, r.1)) h.1.reads_are_true),
        subst (λ (k : ℕ). KnowledgeGrows journal k (lane_pairs cs rs)) h.1.seen_is (lane_reads journal h.0 end cs rs h.3 b),
      )

  lane_phases : (start end : Pass) (to : ℕ) (cs : List (ℕ × Call)) (rs : List (ℕ × LineReceipt)) → LaneCalled budget sizes start cs rs end → end.phase ≤ to → PhasesRise start.phase to (lane_pairs cs rs)
  lane_phases start end to [] [] h le = let same : start.phase ≡ end.phase = ap (λ (x : Pass). x.phase) h in omega (arith, same, le)
  lane_phases start end to [] (r ∷ rs) h le = absurd h
  lane_phases start end to (c ∷ cs) [] h le = absurd h
  lane_phases start end to (c ∷ cs) (r ∷ rs) h le = (h.1.phase_from, subst (λ (p : ℕ). PhasesRise p to (lane_pairs cs rs)) h.1.phase (lane_phases h.0 end to cs rs h.3 le))

  lane_lines : (start end : Pass) (cs : List (ℕ × Call)) (rs : List (ℕ × LineReceipt)) → LaneCalled budget sizes start cs rs end → map line_number rs ≡ map line_number cs
  lane_lines start end [] [] h = refl
  lane_lines start end [] (r ∷ rs) h = absurd h
  lane_lines start end (c ∷ cs) [] h = absurd h
  lane_lines start end (c ∷ cs) (r ∷ rs) h = λ i. h.2 i ∷ lane_lines h.0 end cs rs h.3 i

  lane_obeys : (start end : Pass) (cs : List (ℕ × Call)) (rs : List (ℕ × LineReceipt)) → LaneCalled budget sizes start cs rs end → AllZip (λ (c : ℕ × Call) (r : ℕ × LineReceipt). ObeysCall c.1 r.1) cs rs
  lane_obeys start end [] [] h = tt
  lane_obeys start end [] (r ∷ rs) h = absurd h
  lane_obeys start end (c ∷ cs) [] h = absurd h
  lane_obeys start end (c ∷ cs) (r ∷ rs) h = (h.1.obeys, lane_obeys h.0 end cs rs h.3)

  pub lane_honest : (start end : Pass) (calls : List (ℕ × Call)) (receipts : List (ℕ × LineReceipt)) (journal : List Write) (to : ℕ) → LaneCalled budget sizes start calls receipts end →
      Begins end.writes journal → end.phase ≤ to → IsHonestLane (seen start) journal start.phase to calls receipts
  lane_honest start end calls receipts journal to h b up = record {
    lines = lane_lines start end calls receipts h;
    obey = lane_obeys start end calls receipts h;
    knowledge_grows = lane_reads journal start end calls receipts h b;
    phases_rise = lane_phases start end to calls receipts h up;
  }

  -- ---- any list of the pass

  pub lane_list : {A : Type 0} (of : Pass → List A) (f : Call × LineReceipt → List A) (step : (b : Pass) (c : Call) (r : LineReceipt) (n : Pass) → Called budget sizes b c r n → of n ≡ of b ++ f (c, r))
      (start end : Pass) (cs : List (ℕ × Call)) (rs : List (ℕ × LineReceipt)) → LaneCalled budget sizes start cs rs end → of end ≡ of start ++ flat_map f (lane_pairs cs rs)
  lane_list of f step start end [] [] h = sym (ap of h) ∙ sym (append-nil (of start))
  lane_list of f step start end [] (r ∷ rs) h = absurd h
  lane_list of f step start end (c ∷ cs) [] h = absurd h
  lane_list {A} of f step start end (c ∷ cs) (r ∷ rs) h =
      lane_list of f step h.0 end cs rs h.3
      ∙ ap (λ (xs : List A). xs ++ flat_map f (lane_pairs cs rs)) (step start c.1 r.1 h.0 h.1)
      ∙ append_assoc (of start) (f (c.1, r.1)) (flat_map f (lane_pairs cs rs))

  -- ---- the budget

  pub lane_left : (start end : Pass) (cs : List (ℕ × Call)) (rs : List (ℕ × LineReceipt)) → LaneCalled budget sizes start cs rs end → start.left ≡ end.left + spent_in cs
  lane_left start end [] [] h = let same : start.left ≡ end.left = ap (λ (x : Pass). x.left) h in omega (arith, same)
  lane_left start end [] (r ∷ rs) h = absurd h
  lane_left start end (c ∷ cs) [] h = absurd h
  lane_left start end (c ∷ cs) (r ∷ rs) h =
      let first = h.1.left in
      let rest = lane_left h.0 end cs rs h.3 in
      omega (arith, first, rest)

  pub lane_whole : (start end : Pass) (cs : List (ℕ × Call)) (rs : List (ℕ × LineReceipt)) → LaneCalled budget sizes start cs rs end → end.left + end.made ≡ start.left + start.made
  lane_whole start end [] [] h = sym (ap (λ (x : Pass). x.left + x.made) h)
  lane_whole start end [] (r ∷ rs) h = absurd h
  lane_whole start end (c ∷ cs) [] h = absurd h
  lane_whole start end (c ∷ cs) (r ∷ rs) h =
      let left = h.1.left in
      let made = h.1.made in
      let rest = lane_whole h.0 end cs rs h.3 in
      omega (arith, left, made, rest)

  -- ---- a sole pass marks in turn

  pub record LaneInTurn (start : Pass) (ps : List (Call × LineReceipt)) : Type 0 where
    pub land : LandInTurn sizes.rows start.charges (flat_map charges ps)
    pub on_apps : AddInTurn sizes.apps start.apps (flat_map app_adds ps)
    pub on_ifaces : AddInTurn sizes.ifaces start.ifaces (flat_map iface_adds ps)

  pub lane_in_turn : (start end : Pass) (cs : List (ℕ × Call)) (rs : List (ℕ × LineReceipt)) → LaneCalled budget sizes start cs rs end → IsSole budget start → LaneInTurn start (lane_pairs cs rs)
  lane_in_turn start end [] [] h sole = record { land = tt; on_apps = tt; on_ifaces = tt }
  lane_in_turn start end [] (r ∷ rs) h sole = absurd h
  lane_in_turn start end (c ∷ cs) [] h sole = absurd h
  lane_in_turn start end (c ∷ cs) (r ∷ rs) h sole =
      let p : Call × LineReceipt = (c.1, r.1) in
      let ps = lane_pairs cs rs in
      let here = h.1.in_turn sole in
      let left = h.1.left in
      let made = h.1.made in
      let rest = lane_in_turn h.0 end cs rs h.3 (omega (arith, left, made, sole)) in
      record {
        land = land_append sizes.rows start.charges (charges p) (flat_map charges ps) here.land (subst (λ (xs : List Charge). LandInTurn sizes.rows xs (flat_map charges ps)) h.1.charges rest.land);
        on_apps = add_append sizes.apps start.apps (app_adds p) (flat_map app_adds ps) here.on_apps (subst (λ (xs : List Add). AddInTurn sizes.apps xs (flat_map app_adds ps)) h.1.apps rest.on_apps);
        on_ifaces = add_append sizes.ifaces start.ifaces (iface_adds p) (flat_map iface_adds ps) here.on_ifaces (subst (λ (xs : List Add). AddInTurn sizes.ifaces xs (flat_map iface_adds ps)) h.1.ifaces rest.on_ifaces);
      }
