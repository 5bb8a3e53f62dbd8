-- The generated script: as much input as is wanted, and always the same. A round of it is a section with four
-- commands and a section with four lanes of 64 packets each.
use Rattle.std.specs.Prelude.{ℕ, ◌+◌, ◌-◌, ◌*◌, ◌%◌, ◌==◌, if◌then◌else◌, List, [], ◌∷◌, ◌++◌, codes, decimal}
use Rattle.std.specs.List.{range_with_len, flat_map}

-- A line of these words, with a space between two words and a line feed at the end.
abbrev pub line : List (List ℕ) → List ℕ
line [] = 10 ∷ []
line (word ∷ []) = word ++ 10 ∷ []
line (word ∷ next ∷ words) = word ++ 32 ∷ line (next ∷ words)

-- The texts of the numbers from the first one on and below the end, one after the other.
unfoldable pub for_each : ℕ → ℕ → (ℕ → List ℕ) → List ℕ
for_each first end text = flat_map text (range_with_len first (end - first))

-- A tag of one of 16 cookies: one of eight uids sets one of four tags.
abbrev pub tag_line : ℕ → List ℕ
tag_line round = line (codes "tag" ∷ codes "1000" ∷ decimal (1 + round % 16) ∷ decimal (10000 + round % 8) ∷ decimal (1 + round % 4) ∷ [])

-- A rule that allows that uid.
abbrev pub firewall_line : ℕ → List ℕ
firewall_line round = line (codes "fw" ∷ codes "dozable" ∷ decimal (10000 + round % 8) ∷ codes "allow" ∷ [])

-- The chain is turned on in even rounds, and off in odd ones.
abbrev pub chain_line : ℕ → List ℕ
chain_line round = line (codes "chain" ∷ codes "dozable" ∷ (if round % 2 == 0 then codes "on" else codes "off") ∷ [])

-- The section with the commands, of which the last one is a collection.
abbrev pub desk_section : ℕ → List ℕ
desk_section round = line (codes "section" ∷ []) ++ line (codes "desk" ∷ [])
    ++ tag_line round ++ firewall_line round ++ chain_line round ++ line (codes "collect" ∷ [])

-- A packet without a head: even ones come in, odd ones go out. Lanes differ by interface and length.
abbrev pub packet_line : ℕ → ℕ → List ℕ
packet_line lane packet = line ((if packet % 2 == 0 then codes "in" else codes "out")
    ∷ decimal (10000 + packet % 8) ∷ decimal (1 + packet % 16) ∷ decimal (1 + lane)
    ∷ codes "4" ∷ decimal (100 + 500 * lane) ∷ codes "-" ∷ [])

-- A lane of 64 packets.
abbrev pub lane_text : ℕ → List ℕ
lane_text lane = line (codes "lane" ∷ []) ++ for_each 0 64 (packet_line lane)

-- The section with the packets, in four lanes.
abbrev pub lanes_section : List ℕ
lanes_section = line (codes "section" ∷ []) ++ for_each 0 4 lane_text

-- A round.
abbrev pub round_text : ℕ → List ℕ
round_text round = desk_section round ++ lanes_section

-- The script of so many rounds.
abbrev pub generated : ℕ → List ℕ
generated rounds = line (codes "netacct" ∷ codes "1" ∷ []) ++ for_each 0 rounds round_text
