-- A section out of its lines, where none of them has to do with a capture.
use Rattle.std.proofs.Common.{◌≡◌, ℕ, ◌+◌, true, List, [], ◌∷◌, ◌++◌, length, refl, sym, ap, subst, ◌∙◌, append_assoc}
use Rattle.std.specs.Prelude.{Option, Some, None, option_to_list}
use Rattle.std.specs.List.{AllByRecursion, flat_map}
use Rattle.std.proofs.lemmas.List.{append-nil}
use Rattle.desk_core.specs.declared.command.Command.{Command}
use Rattle.script_text.specs.declared.line.Line.{Line}
use Rattle.script_text.specs.declared.line.Line.TheVariants as lines
use Rattle.script_text.specs.declared.place.Place.{Place}
use Rattle.script_text.specs.declared.place.Place.TheVariants as places
use Rattle.script_text.specs.declared.section.Section.{Section}
use Rattle.script_text.specs.Lines.{LaneLine}
use Rattle.script_text.specs.Order.{place_of, place_behind, follows, is_start, is_next, is_lane, is_open, is_desk, takes_map, takes_priv, takes_if, InOrder}
use Rattle.script_text.specs.Parts.{lane_lines, desk_lines, desk_numbers, line_numbers, section_lines, given_numbers}
use Rattle.script_text.specs.Counted.{TakesPacket, TakeNoPackets, NeedsCapture, HasNoCapture}
use Rattle.script_text.specs.Drafts.{numbers_of, lane_part, lane_numbers}
use Rattle.script_text.proofs.NextLines.{true_false}
use Rattle.script_text.proofs.Orders.{place_push}
use Rattle.script_text.proofs.PartLines.{flat_push, numbers_more, hook_lines, hook_numbers, command_lines, command_numbers, desk_begun_lines, desk_begun_numbers, lane_begun_lines, lane_begun_numbers, first_lane_lines, first_lane_numbers}
use Rattle.script_text.proofs.Takings.{IsSectionPlace, neither, first_is_section}

abbrev Lane : Type 0
Lane = List (ℕ × LaneLine)

abbrev IsThere : {A : Type 0} → Option A → Type 0
IsThere None = ⊥
IsThere (Some x) = Unit {0}

-- The lanes before the one under way, this one, and the desk.
record Passage : Type 0 where
  lanes : List Lane
  lane : Option Lane
  desk : Option (List (ℕ × Command))

abbrev passage_lines : Passage → List Line
passage_lines p = lines.Section ∷ ([] ++ (flat_map lane_lines p.lanes ++ (lane_part p.lane ++ desk_lines p.desk)))

abbrev passage_numbers : Passage → List ℕ
passage_numbers p = flat_map numbers_of p.lanes ++ (lane_numbers p.lane ++ desk_numbers p.desk)

-- What the place behind the lines tells of them.
record TellsOf (place : Place) (p : Passage) : Type 0 where
  is : IsSectionPlace place
  in_lane : is_lane place ≡ true → (p.desk ≡ None) × IsThere p.lane
  before_desk : is_open place ≡ true → p.desk ≡ None
  in_desk : is_desk place ≡ true → IsThere p.desk

-- The first lines of a section are these, and leave this place.
record IsPassage (first : ℕ) (front : List Line) (place : Place) (p : Passage) : Type 0 where
  lines : passage_lines p ≡ front
  numbered : passage_numbers p ≡ line_numbers first front
  told : TellsOf place p
  lanes_free : AllByRecursion TakeNoPackets p.lanes
  lane_free : AllByRecursion TakeNoPackets (option_to_list p.lane)

abbrev Grows : ℕ → List Line → Line → Type 0
Grows first front l = (q : Passage) × IsPassage first (front ++ l ∷ []) (place_of l) q

pub all_push : {A : Type 0} (P : A → Type 0) (xs : List A) (x : A) → AllByRecursion P xs → P x → AllByRecursion P (xs ++ x ∷ [])
all_push P [] x all one = (one, tt)
all_push P (y ∷ ys) x all one = (all.0, all_push P ys x all.1 one)

in_a_lane : (p : Passage) → p.desk ≡ None → IsThere p.lane → TellsOf places.Lane p
in_a_lane p desk lane = record {
  is = record { no_start = refl; no_next = refl; no_map = λ _. refl; no_priv = λ _. refl; no_if = λ _. refl };
  in_lane = λ e. (desk, lane);
  before_desk = λ e. desk;
  in_desk = λ e. absurd (true_false (sym e));
}

in_the_desk : (p : Passage) → IsThere p.desk → TellsOf places.Desk p
in_the_desk p desk = record {
  is = record { no_start = refl; no_next = refl; no_map = λ _. refl; no_priv = λ _. refl; no_if = λ _. refl };
  in_lane = λ e. absurd (true_false (sym e));
  before_desk = λ e. absurd (true_false (sym e));
  in_desk = λ e. desk;
}

hook_grows : (first : ℕ) (front : List Line) (place : Place) (lanes : List Lane) (lane : Option Lane) (desk : Option (List (ℕ × Command))) (h : LaneLine)
    → IsPassage first front place (record { lanes = lanes; lane = lane; desk = desk }) → desk ≡ None → IsThere lane → (TakesPacket h → ⊥) → Grows first front (lines.Hook h)
hook_grows first front place lanes None desk h at no_desk some none = absurd some
hook_grows first front place lanes (Some hooks) desk h at no_desk some none =
    let number = first + length front in
    let all = hooks ++ (number, h) ∷ [] in
    let q : Passage = record { lanes = lanes; lane = Some all; desk = desk } in (
      q,
      record {
        lines = hook_lines [] lanes (Some hooks) desk hooks all number h refl refl no_desk ∙ ap (λ (t : List Line). t ++ lines.Hook h ∷ []) at.lines;
        numbered = numbers_more first number front (front ++ lines.Hook h ∷ []) (lines.Hook h) _ (passage_numbers q) refl refl at.numbered (hook_numbers lanes (Some hooks) desk hooks all number h refl refl no_desk);
        told = in_a_lane q no_desk tt;
        lanes_free = at.lanes_free;
        lane_free = (all_push (λ (k : ℕ × LaneLine). TakesPacket k.1 → ⊥) hooks (number, h) at.lane_free.0 none, tt);
      },
    )

command_grows : (first : ℕ) (front : List Line) (place : Place) (lanes : List Lane) (lane : Option Lane) (desk : Option (List (ℕ × Command))) (c : Command)
    → IsPassage first front place (record { lanes = lanes; lane = lane; desk = desk }) → IsThere desk → Grows first front (lines.Command c)
command_grows first front place lanes lane None c at some = absurd some
command_grows first front place lanes lane (Some commands) c at some =
    let number = first + length front in
    let all = commands ++ (number, c) ∷ [] in
    let q : Passage = record { lanes = lanes; lane = lane; desk = Some all } in (
      q,
      record {
        lines = command_lines [] lanes lane (Some commands) commands all number c refl refl ∙ ap (λ (t : List Line). t ++ lines.Command c ∷ []) at.lines;
        numbered = numbers_more first number front (front ++ lines.Command c ∷ []) (lines.Command c) _ (passage_numbers q) refl refl at.numbered (command_numbers lanes lane (Some commands) commands all number c refl refl);
        told = in_the_desk q tt;
        lanes_free = at.lanes_free;
        lane_free = at.lane_free;
      },
    )

desk_grows : (first : ℕ) (front : List Line) (place : Place) (lanes : List Lane) (lane : Option Lane) (desk : Option (List (ℕ × Command)))
    → IsPassage first front place (record { lanes = lanes; lane = lane; desk = desk }) → desk ≡ None → Grows first front lines.Desk
desk_grows first front place lanes lane desk at no_desk =
    let q : Passage = record { lanes = lanes; lane = lane; desk = Some [] } in (
      q,
      record {
        lines = desk_begun_lines [] lanes lane desk [] no_desk refl ∙ ap (λ (t : List Line). t ++ lines.Desk ∷ []) at.lines;
        numbered = numbers_more first (first + length front) front (front ++ lines.Desk ∷ []) lines.Desk _ (passage_numbers q) refl refl at.numbered (desk_begun_numbers lanes lane desk [] no_desk refl);
        told = in_the_desk q tt;
        lanes_free = at.lanes_free;
        lane_free = at.lane_free;
      },
    )

lane_grows : (first : ℕ) (front : List Line) (place : Place) (lanes : List Lane) (lane : Option Lane) (desk : Option (List (ℕ × Command)))
    → IsPassage first front place (record { lanes = lanes; lane = lane; desk = desk }) → desk ≡ None → Grows first front lines.Lane
lane_grows first front place lanes None desk at no_desk =
    let q : Passage = record { lanes = lanes; lane = Some []; desk = desk } in (
      q,
      record {
        lines = first_lane_lines [] lanes None (Some []) desk refl refl no_desk ∙ ap (λ (t : List Line). t ++ lines.Lane ∷ []) at.lines;
        numbered = numbers_more first (first + length front) front (front ++ lines.Lane ∷ []) lines.Lane _ (passage_numbers q) refl refl at.numbered (first_lane_numbers lanes None (Some []) desk refl refl no_desk);
        told = in_a_lane q no_desk tt;
        lanes_free = at.lanes_free;
        lane_free = (tt, tt);
      },
    )
lane_grows first front place lanes (Some hooks) desk at no_desk =
    let all = lanes ++ hooks ∷ [] in
    let q : Passage = record { lanes = all; lane = Some []; desk = desk } in (
      q,
      record {
        lines = lane_begun_lines [] lanes all (Some hooks) (Some []) desk hooks refl refl no_desk refl ∙ ap (λ (t : List Line). t ++ lines.Lane ∷ []) at.lines;
        numbered = numbers_more first (first + length front) front (front ++ lines.Lane ∷ []) lines.Lane _ (passage_numbers q) refl refl at.numbered (lane_begun_numbers lanes all (Some hooks) (Some []) desk hooks refl refl no_desk refl);
        told = in_a_lane q no_desk tt;
        lanes_free = all_push TakeNoPackets lanes hooks at.lanes_free at.lane_free.0;
        lane_free = (tt, tt);
      },
    )

-- The next line makes the section longer.
grows : (first : ℕ) (front : List Line) (place : Place) (p : Passage) (l : Line) → IsPassage first front place p → follows place l ≡ true → (NeedsCapture l → ⊥) → Grows first front l
grows first front place p lines.Version at e none = absurd (neither (is_start place) e at.told.is.no_start)
grows first front place p (lines.Map name n) at e none = absurd (neither (takes_map place name) e (at.told.is.no_map name))
grows first front place p (lines.Priv app) at e none = absurd (neither (takes_priv place app) e (at.told.is.no_priv app))
grows first front place p (lines.If iface name) at e none = absurd (neither (takes_if place iface) e (at.told.is.no_if iface))
grows first front place p lines.Section at e none = absurd (neither (is_next place) e at.told.is.no_next)
grows first front place p (lines.Cap bytes) at e none = absurd (none tt)
grows first front place p lines.Lane at e none = lane_grows first front place p.lanes p.lane p.desk at (at.told.before_desk e)
grows first front place p (lines.Hook h) at e none = let l = at.told.in_lane e in hook_grows first front place p.lanes p.lane p.desk h at l.0 l.1 none
grows first front place p lines.Desk at e none = desk_grows first front place p.lanes p.lane p.desk at (at.told.before_desk e)
grows first front place p (lines.Command c) at e none = command_grows first front place p.lanes p.lane p.desk c at (at.told.in_desk e)

-- All the lines that follow in order make it longer.
all_grow : (first : ℕ) (front ls : List Line) (p : Passage) → IsPassage first front (place_behind places.Next front) p → InOrder places.Next front ls → AllByRecursion (λ (l : Line). NeedsCapture l → ⊥) ls
    → (q : Passage) × (place : Place) × IsPassage first (front ++ ls) place q
all_grow first front [] p at order free = (p, place_behind places.Next front, subst (λ (f : List Line). IsPassage first f (place_behind places.Next front) p) (sym (append-nil front)) at)
all_grow first front (l ∷ ls) p at order free =
    let grown = grows first front (place_behind places.Next front) p l at order.0.follows_is free.0 in
    let placed = subst (λ (s : Place). IsPassage first (front ++ l ∷ []) s grown.0) (sym (place_push places.Next front l)) grown.1 in
    let rest = all_grow first (front ++ l ∷ []) ls grown.0 placed order.1 free.1 in (
      rest.0,
      rest.1,
      subst (λ (f : List Line). IsPassage first f rest.1 rest.0) (append_assoc front (l ∷ []) ls) rest.2,
    )

-- ---- the whole section

lane_tail : (lanes : List Lane) (lane : Option Lane) (desk : List Line) → flat_map lane_lines (lanes ++ option_to_list lane) ++ desk ≡ flat_map lane_lines lanes ++ (lane_part lane ++ desk)
lane_tail lanes None desk = ap (λ (ls : List Lane). flat_map lane_lines ls ++ desk) (append-nil lanes)
lane_tail lanes (Some hooks) desk = ap (λ (t : List Line). t ++ desk) (flat_push lane_lines lanes hooks) ∙ append_assoc (flat_map lane_lines lanes) (lane_lines hooks) desk

number_tail : (lanes : List Lane) (lane : Option Lane) (desk : List ℕ) → flat_map numbers_of (lanes ++ option_to_list lane) ++ desk ≡ flat_map numbers_of lanes ++ (lane_numbers lane ++ desk)
number_tail lanes None desk = ap (λ (ls : List Lane). flat_map numbers_of ls ++ desk) (append-nil lanes)
number_tail lanes (Some hooks) desk = ap (λ (t : List ℕ). t ++ desk) (flat_push numbers_of lanes hooks) ∙ append_assoc (flat_map numbers_of lanes) (numbers_of hooks) desk

packets_tail : (lanes : List Lane) (lane : Option Lane) → AllByRecursion TakeNoPackets lanes → AllByRecursion TakeNoPackets (option_to_list lane) → AllByRecursion TakeNoPackets (lanes ++ option_to_list lane)
packets_tail lanes None all one = subst (AllByRecursion TakeNoPackets) (sym (append-nil lanes)) all
packets_tail lanes (Some hooks) all one = all_push TakeNoPackets lanes hooks all one.0

-- A section of these lines, which has no capture.
pub record IsMadeOf (first : ℕ) (ls : List Line) (s : Section) : Type 0 where
  pub first_is : s.first ≡ first
  pub lines : section_lines s ≡ ls
  pub numbered : given_numbers s ≡ line_numbers first ls
  pub no_capture : HasNoCapture s

made_of : (first : ℕ) (ls : List Line) (place : Place) (p : Passage) → IsPassage first ls place p → (s : Section) × IsMadeOf first ls s
made_of first ls place p at =
    let s : Section = record { first = first; capture = []; caps = []; lanes = p.lanes ++ option_to_list p.lane; desk = p.desk } in (
      s,
      record {
        first_is = refl;
        lines = ap (λ (t : List Line). lines.Section ∷ t) (lane_tail p.lanes p.lane (desk_lines p.desk)) ∙ at.lines;
        numbered = number_tail p.lanes p.lane (desk_numbers p.desk) ∙ at.numbered;
        no_capture = record { no_caps = refl; no_bytes = refl; no_packets = packets_tail p.lanes p.lane at.lanes_free at.lane_free };
      },
    )

-- Lines in order that have nothing to do with a capture are a section.
pub section_of : (first : ℕ) (l : Line) (ls : List Line) → InOrder places.Next [] (l ∷ ls) → AllByRecursion (λ (k : Line). NeedsCapture k → ⊥) (l ∷ ls) → (s : Section) × IsMadeOf first (l ∷ ls) s
section_of first l ls order free =
    let is = first_is_section l order.0.follows_is in
    let begun : Passage = record { lanes = []; lane = None; desk = None } in
    let at : IsPassage first (lines.Section ∷ []) places.Section begun = record {
      lines = refl;
      numbered = refl;
      told = record {
        is = record { no_start = refl; no_next = refl; no_map = λ _. refl; no_priv = λ _. refl; no_if = λ _. refl };
        in_lane = λ e. absurd (true_false (sym e));
        before_desk = λ e. refl;
        in_desk = λ e. absurd (true_false (sym e));
      };
      lanes_free = tt;
      lane_free = tt;
    } in
    let all = all_grow first (lines.Section ∷ []) ls begun at (subst (λ (k : Line). InOrder places.Next (k ∷ []) ls) is order.1) free.1 in
    made_of first (l ∷ ls) all.1 all.0 (subst (λ (k : Line). IsPassage first (k ∷ ls) all.1 all.0) (sym is) all.2)
