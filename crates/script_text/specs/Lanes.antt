-- The lines of a lane as a list holds and lends them.
use Rattle.std.specs.Prelude.{◌≡◌, ℕ, ◌+◌, ◌-◌, ◌≤◌, List, [], ◌∷◌, length, take, drop}
use Rattle.std.specs.Borrow.{Bor}
use Rattle.script_text.specs.declared.hook_line.HookLine.{HookLine}
use Rattle.script_text.specs.declared.hook_line.HookLine.TheVariants as hooks
use Rattle.script_text.specs.declared.lane.HeadPlace.{HeadPlace}
use Rattle.script_text.specs.Lines.{LaneLine}

-- The line that a list lends.
abbrev pub lane_line : HookLine (Bor (List ℕ)) → LaneLine
lane_line (hooks.Hook dir family uid iface len cookie head) = hooks.Hook dir family uid iface len cookie head.now
lane_line (hooks.Packet dir uid iface index cookie) = hooks.Packet dir uid iface index cookie
lane_line (hooks.Iface call) = hooks.Iface call
lane_line (hooks.Allow received uid cookie) = hooks.Allow received uid cookie
lane_line (hooks.Deny uid) = hooks.Deny uid

-- A line that a list lends, with its number.
abbrev pub numbered_line : ℕ × HookLine (Bor (List ℕ)) → ℕ × LaneLine
numbered_line l = (l.0, lane_line l.1)

-- The lines of a lane follow one another: the next one has the number behind the last.
abbrev pub ComesNext : List (ℕ × LaneLine) → ℕ → Type 0
ComesNext [] number = Unit {0}
ComesNext (l ∷ ls) number = number ≡ l.0 + length (l ∷ ls)

-- ---- how a lane holds its lines

-- Lines with the numbers from n on.
abbrev pub numbered : ℕ → List LaneLine → List (ℕ × LaneLine)
numbered n [] = []
numbered n (l ∷ ls) = (n, l) ∷ numbered (n + 1) ls

-- The bytes of a packet, which stand among those of the lane.
abbrev pub head_at : List ℕ → HeadPlace → List ℕ
head_at heads p = take (p.end - p.start) (drop p.start heads)

-- A line whose packet's bytes stand among those of the lane.
abbrev pub with_head : List ℕ → HookLine HeadPlace → LaneLine
with_head heads (hooks.Hook dir family uid iface len cookie head) = hooks.Hook dir family uid iface len cookie (head_at heads head)
with_head heads (hooks.Packet dir uid iface index cookie) = hooks.Packet dir uid iface index cookie
with_head heads (hooks.Iface call) = hooks.Iface call
with_head heads (hooks.Allow received uid cookie) = hooks.Allow received uid cookie
with_head heads (hooks.Deny uid) = hooks.Deny uid

pub record IsPlaceIn (size : ℕ) (p : HeadPlace) : Type 0 where
  pub in_order : p.start ≤ p.end
  pub in_range : p.end ≤ size

-- The bytes of the line's packet stand among so many of the lane.
abbrev pub HeadStands : ℕ → HookLine HeadPlace → Type 0
HeadStands size (hooks.Hook dir family uid iface len cookie head) = IsPlaceIn size head
HeadStands size _ = Unit {0}
