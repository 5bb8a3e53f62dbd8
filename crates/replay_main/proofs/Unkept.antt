-- A section that is counted, and has nothing to do with a capture.
use Rattle.std.proofs.Common.{◌≡◌, ℕ, false, List, [], ◌∷◌, refl, sym, subst, Option}
use Rattle.std.specs.Prelude.{unwrap_or}
use Rattle.std.specs.List.{AllByRecursion, AllZip}
use Rattle.acct_base.specs.Receipts.{Call}
use Rattle.acct_base.specs.Receipts.Call.{Hook, Iface, Allow, Deny}
use Rattle.script_text.specs.declared.hook_line.HookLine.TheVariants as hooks
use Rattle.script_text.specs.declared.section.Section.{Section}
use Rattle.script_text.specs.Lines.{LaneLine}
use Rattle.script_text.specs.Counted.{TakesPacket, TakeNoPackets, HasNoCapture}
use Rattle.script_text.specs.Laws.{SectionIsWhole}
use Rattle.captures.specs.Calls.{SectionCalls}
use Rattle.captures.specs.Sections.{AreCalls, ArePacketsOf, IsCallOf}
use Rattle.replay_main.specs.declared.incoming.Incoming.{Incoming}
use Rattle.replay_main.specs.declared.incoming.Counted.{Counted}
use Rattle.replay_main.specs.declared.incoming.Counted.TheVariants as counted
use Rattle.replay_main.specs.Incoming.{IsCountedSection, IsCountedPart, HasCounted, TakesPart, TakesSection}

-- ---- its calls

line_call : (n : ℕ) (h : LaneLine) → (TakesPacket h → ⊥) → (c : ℕ × Call) × IsCallOf [] (n, h) c
line_call n (hooks.Hook dir family uid iface len cookie head) none = ((n, Hook (record { dir = dir; sock_uid = uid; cookie = cookie; iface = iface; family = family; len = len; head = head })), refl)
line_call n (hooks.Packet dir uid iface index cookie) none = absurd (none tt)
line_call n (hooks.Iface call) none = ((n, Iface call), refl)
line_call n (hooks.Allow received uid cookie) none = ((n, Allow uid cookie received), refl)
line_call n (hooks.Deny uid) none = ((n, Deny uid), refl)

lane_calls : (lane : List (ℕ × LaneLine)) → TakeNoPackets lane → (cs : List (ℕ × Call)) × AllZip (IsCallOf []) lane cs
lane_calls [] free = ([], tt)
lane_calls (l ∷ ls) free =
    let one = line_call l.0 l.1 free.0 in
    let rest = lane_calls ls free.1 in
    (one.0 ∷ rest.0, (one.1, rest.1))

lanes_calls : (lanes : List (List (ℕ × LaneLine))) → AllByRecursion TakeNoPackets lanes → (cs : List (List (ℕ × Call))) × AllZip (AllZip (IsCallOf [])) lanes cs
lanes_calls [] free = ([], tt)
lanes_calls (l ∷ ls) free =
    let one = lane_calls l free.0 in
    let rest = lanes_calls ls free.1 in
    (one.0 ∷ rest.0, (one.1, rest.1))

-- Such a section has its calls.
pub has_calls : (s : Section) → HasNoCapture s → (calls : SectionCalls) × AreCalls s calls
has_calls s free =
    let lanes = lanes_calls s.lanes free.no_packets in (
      record { lanes = lanes.0; desk = unwrap_or s.desk [] },
      record {
        packets = [];
        packets_are = subst (λ (caps : List ℕ). ArePacketsOf caps s.capture []) (sym free.no_caps) refl;
        lanes = lanes.1;
        desk = refl;
      },
    )

-- ---- as it comes in

takes_section : SectionIsWhole → (was now : Option (List ℕ)) (old new : Incoming) (part : List ℕ) (s : Section) → IsCountedSection old.counts part s new.counts → TakesPart was now old.parts new.parts part new.is_over → old.is_over ≡ false
    → TakesSection was now old new s
takes_section whole was now old new part s is takes goes = record {
  next = is.next;
  counts_are = is.counts_are;
  within = is.within;
  takes = subst (λ (p : List ℕ). TakesPart was now old.parts new.parts p new.is_over) (whole s part takes.uncut is.spelled) takes;
  open_before = goes;
}

pub counts_part : SectionIsWhole → (was now : Option (List ℕ)) (old new : Incoming) (part : List ℕ) (c : Counted) → IsCountedPart old.counts part c new.counts → TakesPart was now old.parts new.parts part new.is_over → old.is_over ≡ false
    → HasCounted was now old new c
counts_part whole was now old new part counted.Alone is takes goes = (is.0, takes_section whole was now old new part is.0 is.1 takes goes, is.2)
counts_part whole was now old new part (counted.Kept s) is takes goes = takes_section whole was now old new part s is takes goes

pub counted_kept : (was now : Option (List ℕ)) (old new : Incoming) (c : Counted) (s : Section) → c ≡ counted.Kept s → HasCounted was now old new c → TakesSection was now old new s
counted_kept was now old new c s is has = subst (HasCounted was now old new) is has

pub counted_alone : (was now : Option (List ℕ)) (old new : Incoming) (c : Counted) → c ≡ counted.Alone → HasCounted was now old new c → (s : Section) × TakesSection was now old new s × HasNoCapture s
counted_alone was now old new c is has = subst (HasCounted was now old new) is has
