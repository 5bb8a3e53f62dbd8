-- A pass is split among the lanes, and theirs are joined in lane order: what comes of it is the sum of what the lanes did.
use Rattle.std.proofs.Common.{◌≡◌, ℕ, ◌+◌, ◌≤◌, List, [], ◌∷◌, ◌++◌, length, refl, sym, ap, subst, ◌∙◌, arith, append_assoc, append-nil}
use Rattle.std.specs.Prelude.{flat_map}
use Rattle.std.specs.List.{AllByRecursion, AllZip}
use Rattle.std.proofs.lemmas.Grind.{flat_map-append}
use Rattle.acct_base.specs.declared.register.Write.{Write}
use Rattle.acct_base.specs.declared.sizes.Sizes.{Sizes}
use Rattle.acct_base.specs.declared.receipt.LineReceipt.{LineReceipt}
use Rattle.acct_base.specs.Receipts.{Call, charges, app_adds, iface_adds}
use Rattle.captures.specs.Honest.{IsHonestLane, lane_pairs, lanes_pairs}
use Rattle.hook_engine.specs.Passes.{Pass, Begins, Called, Joined, seen, recorded_reads}
use Rattle.lanes.specs.Lanes.{LaneCalled, AllSplit, AllJoined, AllCalled, Divided, LanesRan, spent_by}
use Rattle.lanes.proofs.LaneLemmas.{begins_all, begins_trans, lane_honest, lane_list, lane_left, lane_whole}

-- What the lanes of a section did to a pass.
pub record LanesDid (start : Pass) (lanes : List (List (ℕ × Call))) (outs : List (List (ℕ × LineReceipt))) (end : Pass) : Type 0 where
  pub honest : (journal : List Write) (to : ℕ) → Begins end.writes journal → end.phase ≤ to → AllZip (IsHonestLane (seen start) journal start.phase to) lanes outs
  pub charges : end.charges ≡ start.charges ++ flat_map charges (lanes_pairs lanes outs)
  pub apps : end.apps ≡ start.apps ++ flat_map app_adds (lanes_pairs lanes outs)
  pub ifaces : end.ifaces ≡ start.ifaces ++ flat_map iface_adds (lanes_pairs lanes outs)
  pub reads : end.reads ≡ start.reads ++ flat_map recorded_reads (lanes_pairs lanes outs)
  pub left : start.left ≡ end.left + spent_by lanes
  pub whole : end.left + end.made ≡ start.left + start.made

-- ---- splits

abbrev lefts : List Pass → ℕ
lefts [] = 0
lefts (p ∷ ps) = p.left + lefts ps

abbrev mades : List Pass → ℕ
mades [] = 0
mades (p ∷ ps) = p.made + mades ps

record IsFresh (from p : Pass) : Type 0 where
  pub made : p.made ≡ 0
  pub phase : p.phase ≡ from.phase
  pub writes : p.writes ≡ from.writes
  pub charges : p.charges ≡ []
  pub apps : p.apps ≡ []
  pub ifaces : p.ifaces ≡ []
  pub reads : p.reads ≡ []

split_fresh : (from before after : Pass) (ps : List Pass) → before.phase ≡ from.phase → before.writes ≡ from.writes → AllSplit before ps after → AllByRecursion (IsFresh from) ps
split_fresh from before after [] at known h = tt
split_fresh from before after (p ∷ ps) at known h = (
  record {
    made = ap (λ (x : Pass). x.made) h.2.other_is;
    phase = ap (λ (x : Pass). x.phase) h.2.other_is ∙ at;
    writes = ap (λ (x : Pass). x.writes) h.2.other_is ∙ known;
    charges = ap (λ (x : Pass). x.charges) h.2.other_is;
    apps = ap (λ (x : Pass). x.apps) h.2.other_is;
    ifaces = ap (λ (x : Pass). x.ifaces) h.2.other_is;
    reads = ap (λ (x : Pass). x.reads) h.2.other_is;
  },
  split_fresh from h.1 after ps (ap (λ (x : Pass). x.phase) h.2.after_is ∙ at) (ap (λ (x : Pass). x.writes) h.2.after_is ∙ known) h.3,
)

split_rest : (before after : Pass) (ps : List Pass) → AllSplit before ps after → after ≡ record before { left = after.left }
split_rest before after [] h = λ i. record (sym h i) { left = after.left }
split_rest before after (p ∷ ps) h = split_rest h.1 after ps h.3 ∙ (λ i. record (h.2.after_is i) { left = after.left })

split_left : (before after : Pass) (ps : List Pass) → AllSplit before ps after → before.left ≡ after.left + lefts ps
split_left before after [] h = let same : before.left ≡ after.left = ap (λ (x : Pass). x.left) h in omega (arith, same)
split_left before after (p ∷ ps) h =
    let given : p.left ≡ h.0 = ap (λ (x : Pass). x.left) h.2.other_is in
    let first = h.2.left in
    let rest = split_left h.1 after ps h.3 in
    omega (arith, given, first, rest)

-- ---- joins

join_list : {A : Type 0} (of : Pass → List A) (step : (b o n : Pass) → Joined b o n → of n ≡ of b ++ of o) (before after : Pass) (ps : List Pass) → AllJoined before ps after →
    of after ≡ of before ++ flat_map of ps
join_list of step before after [] h = sym (ap of h) ∙ sym (append-nil (of before))
join_list {A} of step before after (p ∷ ps) h =
    join_list of step h.0 after ps h.2 ∙ ap (λ (xs : List A). xs ++ flat_map of ps) (step before p h.0 h.1) ∙ append_assoc (of before) (of p) (flat_map of ps)

record Within (after p : Pass) : Type 0 where
  pub knew : Begins p.writes after.writes
  pub rose : p.phase ≤ after.phase

join_first : (before after : Pass) (ps : List Pass) → AllJoined before ps after → Within after before
join_first before after [] h = subst (λ (x : Pass). Within x before) h (record { knew = begins_all before.writes; rose = omega arith })
join_first before after (p ∷ ps) h =
    let rest = join_first h.0 after ps h.2 in
    let up = rest.rose in
    let here = h.1.phase in
    record { knew = begins_trans before.writes h.0.writes after.writes h.1.knew rest.knew; rose = omega (arith, up, here) }

join_each : (before after : Pass) (ps : List Pass) → AllJoined before ps after → AllByRecursion (Within after) ps
join_each before after [] h = tt
join_each before after (p ∷ ps) h =
    let rest = join_first h.0 after ps h.2 in
    let up = rest.rose in
    let here = h.1.phase in
    (record { knew = begins_trans p.writes h.0.writes after.writes h.1.learnt rest.knew; rose = omega (arith, up, here) }, join_each h.0 after ps h.2)

join_left : (before after : Pass) (ps : List Pass) → AllJoined before ps after → after.left ≡ before.left + lefts ps
join_left before after [] h = let same : before.left ≡ after.left = ap (λ (x : Pass). x.left) h in omega (arith, same)
join_left before after (p ∷ ps) h =
    let first = h.1.left in
    let rest = join_left h.0 after ps h.2 in
    omega (arith, first, rest)

join_made : (before after : Pass) (ps : List Pass) → AllJoined before ps after → after.made ≡ before.made + mades ps
join_made before after [] h = let same : before.made ≡ after.made = ap (λ (x : Pass). x.made) h in omega (arith, same)
join_made before after (p ∷ ps) h =
    let first = h.1.made in
    let rest = join_made h.0 after ps h.2 in
    omega (arith, first, rest)

-- ---- the lanes between

module _ (budget : ℕ) (sizes : Sizes) where
  ends_list : {A : Type 0} (of : Pass → List A) (f : Call × LineReceipt → List A) (step : (b : Pass) (c : Call) (r : LineReceipt) (n : Pass) → Called budget sizes b c r n → of n ≡ of b ++ f (c, r))
      (from : Pass) (none : (p : Pass) → IsFresh from p → of p ≡ []) (ss : List Pass) (lanes : List (List (ℕ × Call))) (outs : List (List (ℕ × LineReceipt))) (es : List Pass) →
      AllByRecursion (IsFresh from) ss → AllCalled budget sizes ss lanes outs es → flat_map of es ≡ flat_map f (lanes_pairs lanes outs)
  ends_list of f step from none [] [] [] [] fresh h = refl
  ends_list {A} of f step from none (s ∷ ss) (lane ∷ lanes) (out ∷ outs) (e ∷ es) fresh h =
      let pairs = lane_pairs lane out in
      let here : of e ≡ flat_map f pairs = lane_list budget sizes of f step s e lane out h.0 ∙ ap (λ (xs : List A). xs ++ flat_map f pairs) (none s fresh.0) in
      let rest = ends_list of f step from none ss lanes outs es fresh.1 h.1 in
      (λ i. here i ++ rest i) ∙ sym (flat_map-append f pairs (lanes_pairs lanes outs))
  ends_list of f step from none _ _ _ _ fresh h = absurd h

  ends_honest : (journal : List Write) (to : ℕ) (from : Pass) (ss : List Pass) (lanes : List (List (ℕ × Call))) (outs : List (List (ℕ × LineReceipt))) (es : List Pass) →
      AllByRecursion (IsFresh from) ss → AllCalled budget sizes ss lanes outs es → (end : Pass) → AllByRecursion (Within end) es → Begins end.writes journal → end.phase ≤ to →
      AllZip (IsHonestLane (seen from) journal from.phase to) lanes outs
  ends_honest journal to from [] [] [] [] fresh h end within b up = tt
  ends_honest journal to from (s ∷ ss) (lane ∷ lanes) (out ∷ outs) (e ∷ es) fresh h end within b up =
      let rose = within.0.rose in (
        subst (λ (x : ℕ × ℕ). IsHonestLane x.0 journal x.1 to lane out) (λ i. (length (fresh.0.writes i), fresh.0.phase i))
            (lane_honest budget sizes s e lane out journal to h.0 (begins_trans e.writes end.writes journal within.0.knew b) (omega (arith, rose, up))),
        ends_honest journal to from ss lanes outs es fresh.1 h.1 end within.1 b up,
      )
  ends_honest journal to from _ _ _ _ fresh h end within b up = absurd h

  ends_left : (ss : List Pass) (lanes : List (List (ℕ × Call))) (outs : List (List (ℕ × LineReceipt))) (es : List Pass) → AllCalled budget sizes ss lanes outs es → lefts ss ≡ lefts es + spent_by lanes
  ends_left [] [] [] [] h = refl
  ends_left (s ∷ ss) (lane ∷ lanes) (out ∷ outs) (e ∷ es) h =
      let here = lane_left budget sizes s e lane out h.0 in
      let rest = ends_left ss lanes outs es h.1 in
      omega (arith, here, rest)
  ends_left _ _ _ _ h = absurd h

  ends_whole : (from : Pass) (ss : List Pass) (lanes : List (List (ℕ × Call))) (outs : List (List (ℕ × LineReceipt))) (es : List Pass) → AllByRecursion (IsFresh from) ss →
      AllCalled budget sizes ss lanes outs es → lefts es + mades es ≡ lefts ss
  ends_whole from [] [] [] [] fresh h = refl
  ends_whole from (s ∷ ss) (lane ∷ lanes) (out ∷ outs) (e ∷ es) fresh h =
      let here = lane_whole budget sizes s e lane out h.0 in
      let none = fresh.0.made in
      let rest = ends_whole from ss lanes outs es fresh.1 h.1 in
      omega (arith, here, none, rest)
  ends_whole from _ _ _ _ fresh h = absurd h

  divided : (start end : Pass) (lanes : List (List (ℕ × Call))) (outs : List (List (ℕ × LineReceipt))) → Divided budget sizes start lanes outs end → LanesDid start lanes outs end
  divided start end lanes outs d =
      let fresh = split_fresh start start d.rest d.starts refl refl d.split in
      let rest = split_rest start d.rest d.starts d.split in
      let first_left = split_left start d.rest d.starts d.split in
      let first_made : d.rest.made ≡ start.made = ap (λ (x : Pass). x.made) rest in
      let lane_lefts = ends_left d.starts lanes outs d.ends d.called in
      let lane_sums = ends_whole start d.starts lanes outs d.ends fresh d.called in
      let end_left = join_left d.rest end d.ends d.joined in
      let end_made = join_made d.rest end d.ends d.joined in
      record {
        honest = λ journal to b up. ends_honest journal to start d.starts lanes outs d.ends fresh d.called end (join_each d.rest end d.ends d.joined) b up;
        charges = join_list (λ (x : Pass). x.charges) (λ b o n j. j.charges) d.rest end d.ends d.joined
            ∙ (λ i. (rest i).charges ++ ends_list (λ (x : Pass). x.charges) charges (λ b c r n k. k.charges) start (λ p f. f.charges) d.starts lanes outs d.ends fresh d.called i);
        apps = join_list (λ (x : Pass). x.apps) (λ b o n j. j.apps) d.rest end d.ends d.joined
            ∙ (λ i. (rest i).apps ++ ends_list (λ (x : Pass). x.apps) app_adds (λ b c r n k. k.apps) start (λ p f. f.apps) d.starts lanes outs d.ends fresh d.called i);
        ifaces = join_list (λ (x : Pass). x.ifaces) (λ b o n j. j.ifaces) d.rest end d.ends d.joined
            ∙ (λ i. (rest i).ifaces ++ ends_list (λ (x : Pass). x.ifaces) iface_adds (λ b c r n k. k.ifaces) start (λ p f. f.ifaces) d.starts lanes outs d.ends fresh d.called i);
        reads = join_list (λ (x : Pass). x.reads) (λ b o n j. j.reads) d.rest end d.ends d.joined
            ∙ (λ i. (rest i).reads ++ ends_list (λ (x : Pass). x.reads) recorded_reads (λ b c r n k. k.reads) start (λ p f. f.reads) d.starts lanes outs d.ends fresh d.called i);
        left = omega (arith, first_left, lane_lefts, end_left);
        whole = omega (arith, first_left, first_made, lane_sums, end_left, end_made);
      }

  alone : (start end : Pass) (lane : List (ℕ × Call)) (out : List (ℕ × LineReceipt)) → LaneCalled budget sizes start lane out end → LanesDid start (lane ∷ []) (out ∷ []) end
  alone start end lane out h =
      let pairs : lane_pairs lane out ++ [] ≡ lane_pairs lane out = append-nil (lane_pairs lane out) in
      let left = lane_left budget sizes start end lane out h in
      record {
        honest = λ journal to b up. (lane_honest budget sizes start end lane out journal to h b up, tt);
        charges = lane_list budget sizes (λ (x : Pass). x.charges) charges (λ b c r n k. k.charges) start end lane out h ∙ (λ i. start.charges ++ flat_map charges (sym pairs i));
        apps = lane_list budget sizes (λ (x : Pass). x.apps) app_adds (λ b c r n k. k.apps) start end lane out h ∙ (λ i. start.apps ++ flat_map app_adds (sym pairs i));
        ifaces = lane_list budget sizes (λ (x : Pass). x.ifaces) iface_adds (λ b c r n k. k.ifaces) start end lane out h ∙ (λ i. start.ifaces ++ flat_map iface_adds (sym pairs i));
        reads = lane_list budget sizes (λ (x : Pass). x.reads) recorded_reads (λ b c r n k. k.reads) start end lane out h ∙ (λ i. start.reads ++ flat_map recorded_reads (sym pairs i));
        left = omega (arith, left);
        whole = lane_whole budget sizes start end lane out h;
      }

  pub gathered : (start end : Pass) (lanes : List (List (ℕ × Call))) (outs : List (List (ℕ × LineReceipt))) → LanesRan budget sizes start lanes outs end → LanesDid start lanes outs end
  gathered start end [] outs h = divided start end [] outs h
  gathered start end (lane ∷ []) [] h = absurd h
  gathered start end (lane ∷ []) (out ∷ []) h = alone start end lane out h
  gathered start end (lane ∷ []) (out ∷ o ∷ outs) h = absurd h
  gathered start end (lane ∷ l ∷ lanes) outs h = divided start end (lane ∷ l ∷ lanes) outs h
