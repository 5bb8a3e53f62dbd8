-- What was so of some items of a loop is so of one more.
use Rattle.std.proofs.Common.{◌≡◌, ℕ, ◌+◌, List, [], ◌∷◌, ◌++◌, take, map, refl, sym, ap, ◌∙◌, subst, suc, length, arith, Some}
use Rattle.std.specs.Prelude.{slice_get}
use Rattle.std.specs.List.{AllByRecursion}
use Rattle.acct_base.specs.declared.register.Write.{Write}
use Rattle.acct_base.specs.declared.receipt.LineReceipt.{LineReceipt}
use Rattle.acct_base.specs.declared.sizes.Sizes.{Sizes}
use Rattle.acct_base.specs.declared.sizes.RegSizes.{RegSizes}
use Rattle.acct_base.specs.Receipts.{Call}
use Rattle.desk_core.specs.declared.command.Command.{Command}
use Rattle.desk_core.specs.declared.command.Reply.{Reply}
use Rattle.hook_engine.specs.Passes.{Pass, Called, Split, Joined}
use Rattle.collector.specs.Collectors.{Gathered, gathered_by}
use Rattle.lanes.specs.Lanes.{LaneCalled, AllSplit, AllCalled, AllJoined}
use Rattle.desk_regs.specs.Desks.{with_journal}
use Rattle.hook_engine.specs.Tables.{EngineState}
use Rattle.total_rows.specs.Seats.{SeatState}
use Rattle.lanes.specs.declared.desk.Control.{Control}
use Rattle.lanes.specs.declared.lane.Seated.{Seated}
use Rattle.lanes.specs.Controls.{Keeps, Obeyed, ObeyedAll}
use Rattle.lanes.specs.Desks.{CarriedOut, DeskRan}
use Rattle.lanes.specs.Seats.{AllRan, IsOf, pass_of, receipts_of}
use Rattle.lanes.proofs.ListLemmas.{taken_more}

pub lane_more : (budget : ℕ) (sizes : Sizes) (start : Pass) (cs : List (ℕ × Call)) (rs : List (ℕ × LineReceipt)) (mid : Pass) (c : ℕ × Call) (r : ℕ × LineReceipt) (end : Pass) →
    LaneCalled budget sizes start cs rs mid → Called budget sizes mid c.1 r.1 end → r.0 ≡ c.0 → LaneCalled budget sizes start (cs ++ c ∷ []) (rs ++ r ∷ []) end
lane_more budget sizes start [] [] mid c r end h k e = (end, subst (λ (x : Pass). Called budget sizes x c.1 r.1 end) (sym h) k, e, refl)
lane_more budget sizes start [] (q ∷ rs) mid c r end h k e = absurd h
lane_more budget sizes start (d ∷ cs) [] mid c r end h k e = absurd h
lane_more budget sizes start (d ∷ cs) (q ∷ rs) mid c r end h k e = (h.0, h.1, h.2, lane_more budget sizes h.0 cs rs mid c r end h.3 k e)

pub desk_more : (privileged : List ℕ) (sizes : RegSizes) (journal : List Write) (start : Gathered) (cs : List (ℕ × Command)) (rs : List (ℕ × Reply)) (journal_mid : List Write) (mid : Gathered)
    (c : ℕ × Command) (r : ℕ × Reply) (journal_after : List Write) (end : Gathered) → DeskRan privileged sizes journal start cs rs journal_mid mid →
    CarriedOut privileged sizes journal_mid mid c.1 r.1 journal_after end → r.0 ≡ c.0 → DeskRan privileged sizes journal start (cs ++ c ∷ []) (rs ++ r ∷ []) journal_after end
desk_more privileged sizes journal start [] [] journal_mid mid c r journal_after end h k e =
    (journal_after, end, subst (λ (x : List Write × Gathered). CarriedOut privileged sizes x.0 x.1 c.1 r.1 journal_after end) (λ i. (sym h.0 i, sym h.1 i)) k, e, (refl, refl))
desk_more privileged sizes journal start [] (q ∷ rs) journal_mid mid c r journal_after end h k e = absurd h
desk_more privileged sizes journal start (d ∷ cs) [] journal_mid mid c r journal_after end h k e = absurd h
desk_more privileged sizes journal start (d ∷ cs) (q ∷ rs) journal_mid mid c r journal_after end h k e =
    (h.0, h.1, h.2, h.3, desk_more privileged sizes h.0 h.1 cs rs journal_mid mid c r journal_after end h.4 k e)

pub split_more : (start : Pass) (ps : List Pass) (mid : Pass) (n : ℕ) (p end : Pass) → AllSplit start ps mid → Split n mid end p → AllSplit start (ps ++ p ∷ []) end
split_more start [] mid n p end h k = (n, end, subst (λ (x : Pass). Split n x end p) (sym h) k, refl)
split_more start (q ∷ ps) mid n p end h k = (h.0, h.1, h.2, split_more h.1 ps mid n p end h.3 k)

pub joined_more : (start : Pass) (ps : List Pass) (mid p end : Pass) → AllJoined start ps mid → Joined mid p end → AllJoined start (ps ++ p ∷ []) end
joined_more start [] mid p end h k = (end, subst (λ (x : Pass). Joined x p end) (sym h) k, refl)
joined_more start (q ∷ ps) mid p end h k = (h.0, h.1, joined_more h.0 ps mid p end h.2 k)

-- one turn of a lane's loop
pub lane_step : (budget : ℕ) (sizes : Sizes) (start : Pass) (cs : List (ℕ × Call)) (k : ℕ) (rs rs' : List (ℕ × LineReceipt)) (mid : Pass) (c : ℕ × Call) (r : ℕ × LineReceipt) (end : Pass) →
    slice_get cs k ≡ Some c → rs' ≡ rs ++ r ∷ [] → r.0 ≡ c.0 → Called budget sizes mid c.1 r.1 end → LaneCalled budget sizes start (take k cs) rs mid →
    LaneCalled budget sizes start (take (k + 1) cs) rs' end
lane_step budget sizes start cs k rs rs' mid c r end at put line called before =
    subst (λ (x : List (ℕ × Call) × List (ℕ × LineReceipt)). LaneCalled budget sizes start x.0 x.1 end) (λ i. (sym (taken_more cs k c at) i, sym put i))
    (lane_more budget sizes start (take k cs) rs mid c r end before called line)

pub keeps_trans : (a b c : Control) → Keeps a b → Keeps b c → Keeps a c
keeps_trans a b c h k = record {
  desk = k.desk ∙ ap (with_journal c.desk.book.journal) h.desk;
  seats = record {
    maps = k.seats.maps ∙ h.seats.maps;
    apps = k.seats.apps ∙ ap (λ (x : SeatState). record x { notes = c.collector.apps.notes }) h.seats.apps;
  };
}

-- one turn of a desk's loop
pub desk_step : (start mid end : Control) (cs : List (ℕ × Command)) (k : ℕ) (rs rs' : List (ℕ × Reply)) (c : ℕ × Command) (r : ℕ × Reply) → Keeps start mid → slice_get cs k ≡ Some c → rs' ≡ rs ++ r ∷ [] → r.0 ≡ c.0 →
    Obeyed mid c.1 r.1 end → ObeyedAll start (take k cs) rs mid → ObeyedAll start (take (k + 1) cs) rs' end
desk_step start mid end cs k rs rs' c r kept at put line obeyed before =
    let p = start.desk.book.privileged in
    let z = start.desk.book.limits in
    let j = start.desk.book.journal in
    let g = gathered_by start.collector in
    let step : CarriedOut p z mid.desk.book.journal (gathered_by mid.collector) c.1 r.1 end.desk.book.journal (gathered_by end.collector) =
    subst (λ (x : List ℕ × RegSizes). CarriedOut x.0 x.1 mid.desk.book.journal (gathered_by mid.collector) c.1 r.1 end.desk.book.journal (gathered_by end.collector))
    (λ i. ((kept.desk i).book.privileged, (kept.desk i).book.limits)) obeyed in
    subst (λ (x : List (ℕ × Command) × List (ℕ × Reply)). DeskRan p z j g x.0 x.1 end.desk.book.journal (gathered_by end.collector)) (λ i. (sym (taken_more cs k c at) i, sym put i))
    (desk_more p z j g (take k cs) rs mid.desk.book.journal (gathered_by mid.collector) c r end.desk.book.journal (gathered_by end.collector) before step line)

-- what is known of each lane by its place is known of all lanes
pub all_called : (engine : EngineState) (lanes : List (List (ℕ × Call))) (before after : List Seated) → length lanes ≡ length before → AllRan engine lanes before after →
    AllCalled engine.sizes.calls engine.sizes (map pass_of before) lanes (map receipts_of after) (map pass_of after) × AllByRecursion (IsOf engine) after
all_called engine [] [] [] a h = (tt, tt)
all_called engine (l ∷ ls) (s ∷ ss) (e ∷ es) a h =
    let here = h.1 0 l s e refl refl refl in
    let rest = all_called engine ls ss es (omega (arith, a)) (omega (arith, h.0), λ i. h.1 (suc i)) in
    ((here.called, rest.0), (here.of, rest.1))
all_called engine [] [] (e ∷ es) a h = absurd (omega (arith, h.0))
all_called engine [] (s ∷ ss) es a h = absurd (omega (arith, a))
all_called engine (l ∷ ls) [] es a h = absurd (omega (arith, a))
all_called engine (l ∷ ls) (s ∷ ss) [] a h = absurd (omega (arith, h.0))
