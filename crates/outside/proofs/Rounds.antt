-- The texts of a generated script, one after the other.
use Rattle.std.proofs.Common.{◌≡◌, ℕ, suc, ◌+◌, ◌-◌, ◌<◌, ◌≤◌, List, [], ◌∷◌, ◌++◌, codes, refl, sym, ap, ◌∙◌, append_assoc, arith}
use Rattle.std.specs.List.{range_with_len, flat_map}
use Rattle.outside.specs.Generated.{line, for_each, desk_section, packet_line, lane_text, round_text}

-- no number is left
for_each-none : (at end : ℕ) (text : ℕ → List ℕ) → end ≤ at → for_each at end text ≡ []
unfolding for_each
for_each-none at end text over =
    let none : end - at ≡ 0 = omega arith in ap (λ (n : ℕ). flat_map text (range_with_len at n)) none

-- the first number's text, and then those of the others
for_each-more : (at end : ℕ) (text : ℕ → List ℕ) → at < end → for_each at end text ≡ text at ++ for_each (at + 1) end text
unfolding for_each
for_each-more at end text under =
    let some : end - at ≡ suc (end - (at + 1)) = omega arith in
    ap (λ (n : ℕ). flat_map text (range_with_len at n)) some

-- the packets, lanes and rounds that are left, behind a lane that has begun
abbrev pub ahead : ℕ → ℕ → ℕ → ℕ → List ℕ
ahead packets lanes begun rounds = for_each packets 64 (packet_line (lanes - 1)) ++ for_each lanes 4 lane_text ++ for_each begun rounds round_text

-- the next text is a packet's line
pub ahead-packet : (packets lanes begun rounds : ℕ) → packets < 64 → ahead packets lanes begun rounds ≡ packet_line (lanes - 1) packets ++ ahead (packets + 1) lanes begun rounds
ahead-packet packets lanes begun rounds under =
    let lane = packet_line (lanes - 1) in
    ap (λ (x : List ℕ). x ++ for_each lanes 4 lane_text ++ for_each begun rounds round_text) (for_each-more packets 64 lane under)
    ∙ ap (λ (x : List ℕ). x ++ for_each begun rounds round_text) (append_assoc (lane packets) (for_each (packets + 1) 64 lane) (for_each lanes 4 lane_text))
    ∙ append_assoc (lane packets) (for_each (packets + 1) 64 lane ++ for_each lanes 4 lane_text) (for_each begun rounds round_text)

-- behind the last packet of a lane, the next lane begins
pub ahead-lane : (packets lanes begun rounds : ℕ) → 64 ≤ packets → lanes < 4 → ahead packets lanes begun rounds ≡ codes "lane\n" ++ ahead 0 (lanes + 1) begun rounds
ahead-lane packets lanes begun rounds over under =
    let same : lanes ≡ lanes + 1 - 1 = omega arith in
    ap (λ (x : List ℕ). x ++ for_each lanes 4 lane_text ++ for_each begun rounds round_text) (for_each-none packets 64 (packet_line (lanes - 1)) over)
    ∙ ap (λ (x : List ℕ). x ++ for_each begun rounds round_text) (for_each-more lanes 4 lane_text under)
    ∙ ap (λ (n : ℕ). codes "lane\n" ++ (for_each 0 64 (packet_line n) ++ for_each (lanes + 1) 4 lane_text ++ for_each begun rounds round_text)) same

-- behind the last lane of a round, the next round begins
pub ahead-round : (packets lanes begun rounds : ℕ) → 64 ≤ packets → 4 ≤ lanes → begun < rounds → ahead packets lanes begun rounds ≡ desk_section begun ++ codes "section\n" ++ ahead packets 0 (begun + 1) rounds
ahead-round packets lanes begun rounds over last under =
    let none = λ (lane : ℕ). for_each-none packets 64 (packet_line lane) over in
    let front = desk_section begun in
    let lanes_text = for_each 0 4 lane_text in
    let rest = for_each (begun + 1) rounds round_text in
    ap (λ (x : List ℕ). x ++ for_each lanes 4 lane_text ++ for_each begun rounds round_text) (none (lanes - 1))
    ∙ ap (λ (x : List ℕ). x ++ for_each begun rounds round_text) (for_each-none lanes 4 lane_text last)
    ∙ for_each-more begun rounds round_text under
    ∙ ap (λ (x : List ℕ). x ++ rest) (sym (append_assoc front (codes "section\n") lanes_text))
    ∙ append_assoc (front ++ codes "section\n") lanes_text rest
    ∙ ap (λ (x : List ℕ). front ++ codes "section\n" ++ (x ++ lanes_text ++ rest)) (sym (none (0 - 1)))

-- behind the last round nothing is left
pub ahead-none : (packets lanes begun rounds : ℕ) → 64 ≤ packets → 4 ≤ lanes → rounds ≤ begun → ahead packets lanes begun rounds ≡ []
ahead-none packets lanes begun rounds over last end =
    ap (λ (x : List ℕ). x ++ for_each lanes 4 lane_text ++ for_each begun rounds round_text) (for_each-none packets 64 (packet_line (lanes - 1)) over)
    ∙ ap (λ (x : List ℕ). x ++ for_each begun rounds round_text) (for_each-none lanes 4 lane_text last)
    ∙ for_each-none begun rounds round_text end

-- before the first round
pub ahead-first : (rounds : ℕ) → ahead 64 4 0 rounds ≡ for_each 0 rounds round_text
ahead-first rounds =
    ap (λ (x : List ℕ). x ++ for_each 4 4 lane_text ++ for_each 0 rounds round_text) (for_each-none 64 64 (packet_line 3) (omega arith))
    ∙ ap (λ (x : List ℕ). x ++ for_each 0 rounds round_text) (for_each-none 4 4 lane_text (omega arith))

-- the words of a packet's line, put one after the other
pub packet-words : (word uid cookie iface size : List ℕ) →
    (((((word ++ 32 ∷ uid) ++ 32 ∷ cookie) ++ 32 ∷ iface) ++ codes " 4") ++ 32 ∷ size) ++ codes " -\n" ≡ line (word ∷ uid ∷ cookie ∷ iface ∷ codes "4" ∷ size ∷ codes "-" ∷ [])
packet-words word uid cookie iface size =
    append_assoc ((((word ++ 32 ∷ uid) ++ 32 ∷ cookie) ++ 32 ∷ iface) ++ codes " 4") (32 ∷ size) (codes " -\n")
    ∙ append_assoc (((word ++ 32 ∷ uid) ++ 32 ∷ cookie) ++ 32 ∷ iface) (codes " 4") (32 ∷ (size ++ codes " -\n"))
    ∙ append_assoc ((word ++ 32 ∷ uid) ++ 32 ∷ cookie) (32 ∷ iface) (codes " 4 " ++ (size ++ codes " -\n"))
    ∙ append_assoc (word ++ 32 ∷ uid) (32 ∷ cookie) (32 ∷ (iface ++ (codes " 4 " ++ (size ++ codes " -\n"))))
    ∙ append_assoc word (32 ∷ uid) (32 ∷ (cookie ++ 32 ∷ (iface ++ (codes " 4 " ++ (size ++ codes " -\n")))))
