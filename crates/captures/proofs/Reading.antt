-- Bytes have one reading as a capture.
use Rattle.std.proofs.Common.{◌≡◌, ◌⊎◌, inl, inr, ℕ, zero, suc, ◌+◌, ◌-◌, ◌<◌, ◌≤◌, List, [], ◌∷◌, ◌++◌, length, map, Option, Result, Ok, Err, refl, sym, ap, ◌∙◌, subst, arith}
use Rattle.std.proofs.lemmas.Bool.{cases_lt}
use Rattle.std.proofs.lemmas.Bool.Decides.{nat_tests}
use Rattle.captures.specs.declared.file.Endian.{Endian}
use Rattle.captures.specs.declared.file.FileHead.{FileHead}
use Rattle.captures.specs.Pcap.{Held, GoesOn, StandFrom, IsBadAt, ArePackets, behind, head_at, file_head, packet_at}
use Rattle.captures.specs.Laws.{OneReading}
use Rattle.captures.proofs.Standing.{stand_push}

-- where packets stand they reach no further than the bytes
stand_forward : (order : Endian) (bytes : List ℕ) (from : ℕ) (places : List ℕ) (to : ℕ) → StandFrom order bytes from places to → from ≤ to
stand_forward order bytes from [] to stand = omega (arith, stand)
stand_forward order bytes from (p ∷ ps) to stand =
    let rest = stand_forward order bytes (behind order bytes p) ps to stand.2 in
    omega (arith, rest, stand.0)

-- a packet goes on at a place, or none does
goes_on_or_not : (order : Endian) (bytes : List ℕ) (place : ℕ) → GoesOn order bytes place ⊎ (GoesOn order bytes place → ⊥)
goes_on_or_not order bytes place =
    elim (cases_lt (length bytes) (place + 16)) [
      | inl short ↦ inr (λ goes. let h = goes.head in absurd (omega (arith, short, h)))
      | inr head ↦ elim (cases_lt (head_at order bytes place).original (head_at order bytes place).captured) [
        | inl over ↦ inr (λ goes. let h = goes.captured in absurd (omega (arith, over, h)))
        | inr captured ↦ elim (cases_lt (length bytes) (place + 16 + (head_at order bytes place).captured)) [
          | inl cut ↦ inr (λ goes. let h = goes.there in absurd (omega (arith, cut, h)))
          | inr there ↦ inl (record { head = head; captured = captured; there = there })
        ]
      ]
    ]

-- how a file goes on behind some packets, up to the end or to where it breaks off
abbrev Ends : Endian → List ℕ → Type 0
Ends order bytes =
    ((places : List ℕ) × StandFrom order bytes 24 places (length bytes))
    ⊎ ((places : List ℕ) × (place : ℕ) × StandFrom order bytes 24 places place × (place < length bytes) × (GoesOn order bytes place → ⊥))

ends : (order : Endian) (bytes : List ℕ) (steps : ℕ) (places : List ℕ) (place : ℕ) → length bytes - place ≤ steps → place ≤ length bytes →
    StandFrom order bytes 24 places place → Ends order bytes
ends order bytes zero places place enough within stand =
    let here : place ≡ length bytes = omega arith in
    inl (places, subst (λ to. StandFrom order bytes 24 places to) here stand)
ends order bytes (suc steps) places place enough within stand =
    elim (cases_lt place (length bytes)) [
      | inr over ↦
          let here : place ≡ length bytes = omega arith in
          inl (places, subst (λ to. StandFrom order bytes 24 places to) here stand)
      | inl more ↦ elim (goes_on_or_not order bytes place) [
        | inr broken ↦ inr (places, place, stand, more, broken)
        | inl goes ↦
            let there = goes.there in
            ends order bytes steps (places ++ place ∷ []) (behind order bytes place) (omega arith) there
            (stand_push order bytes 24 places place stand goes)
      ]
    ]

-- a file has a whole head
long_enough : (bytes : List ℕ) (head : FileHead) → file_head bytes ≡ Ok head → 24 ≤ length bytes
long_enough bytes head e = grind (arith, nat_tests)

-- bytes are a capture, or they are bad at a place
Read : List ℕ → Type 0
Read bytes = ((packets : List (Option Held)) × ArePackets bytes packets) ⊎ ((place : ℕ) × IsBadAt bytes place)

behind_head : (bytes : List ℕ) (head : FileHead) → file_head bytes ≡ Ok head → Ends head.order bytes → Read bytes
unfolding Read
behind_head bytes head e (inl (places, stand)) =
    inl (map (packet_at head bytes) places, record { head = head; places = places; file = record { head_is = e; packets = stand }; packets_are = refl })
behind_head bytes head e (inr (places, place, stand, more, broken)) =
    inr (place, inr (head, places, record { head_is = e; packets = stand; more = more; broken = broken }))

by_head : (bytes : List ℕ) (result : Result FileHead ℕ) → file_head bytes ≡ result → Read bytes
unfolding Read
by_head bytes (Ok head) e =
    behind_head bytes head e (ends head.order bytes (length bytes) [] 24 (omega arith) (long_enough bytes head e) refl)
by_head bytes (Err place) e = inr (place, inl e)

-- packets that stand up to where none goes on are these alone
stand_same : (order : Endian) (bytes : List ℕ) (from : ℕ) (ps : List ℕ) (to : ℕ) (qs : List ℕ) (end : ℕ) →
    StandFrom order bytes from ps to → StandFrom order bytes from qs end →
    (GoesOn order bytes to → ⊥) → (GoesOn order bytes end → ⊥) → (ps ≡ qs) × (to ≡ end)
stand_same order bytes from [] to [] end s t stop halt = (refl, sym s ∙ t)
stand_same order bytes from [] to (q ∷ qs) end s t stop halt =
    absurd (stop (subst (GoesOn order bytes) (t.0 ∙ s) t.1))
stand_same order bytes from (p ∷ ps) to [] end s t stop halt =
    absurd (halt (subst (GoesOn order bytes) (s.0 ∙ t) s.1))
stand_same order bytes from (p ∷ ps) to (q ∷ qs) end s t stop halt =
    let same : q ≡ p = t.0 ∙ sym s.0 in
    let t_rest = subst (λ x. StandFrom order bytes (behind order bytes x) qs end) same t.2 in
    let rest = stand_same order bytes (behind order bytes p) ps to qs end s.2 t_rest stop halt in
    (cc, rest.1)

-- behind the last byte no packet goes on
over : (order : Endian) (bytes : List ℕ) → GoesOn order bytes (length bytes) → ⊥
over order bytes goes = let h = goes.head in absurd (omega (arith, h))

same_head : (bytes : List ℕ) (one other : FileHead) → file_head bytes ≡ Ok one → file_head bytes ≡ Ok other → other ≡ one
same_head bytes one other e f = cc

-- two ends of a file are one
same_end : (bytes : List ℕ) (one : FileHead) (ps : List ℕ) (to : ℕ) (other : FileHead) (qs : List ℕ) (end : ℕ) →
    file_head bytes ≡ Ok one → StandFrom one.order bytes 24 ps to → (GoesOn one.order bytes to → ⊥) →
    file_head bytes ≡ Ok other → StandFrom other.order bytes 24 qs end → (GoesOn other.order bytes end → ⊥) →
    (other ≡ one) × (ps ≡ qs) × (to ≡ end)
same_end bytes one ps to other qs end e stand stop f rest halt =
    let same = same_head bytes one other e f in
    let r = subst (λ (head : FileHead). StandFrom head.order bytes 24 qs end) same rest in
    let h = subst (λ (head : FileHead). GoesOn head.order bytes end → ⊥) same halt in
    let both = stand_same one.order bytes 24 ps to qs end stand r stop h in
    (same, both.0, both.1)

apart : (bytes : List ℕ) (packets : List (Option Held)) (place : ℕ) → ArePackets bytes packets → IsBadAt bytes place → ⊥
apart bytes packets place are (inl e) = let f = are.file.head_is in cc
apart bytes packets place are (inr (head, places, breaks)) =
    let same = same_end bytes are.head are.places (length bytes) head places place are.file.head_is are.file.packets
    (over are.head.order bytes) breaks.head_is breaks.packets breaks.broken in
    let more = breaks.more in
    absurd (omega (arith, same.2, more))

one_list : (bytes : List ℕ) (one other : List (Option Held)) → ArePackets bytes one → ArePackets bytes other → one ≡ other
one_list bytes one other a b =
    let same = same_end bytes a.head a.places (length bytes) b.head b.places (length bytes) a.file.head_is a.file.packets
    (over a.head.order bytes) b.file.head_is b.file.packets (over b.head.order bytes) in
    a.packets_are ∙ ap (λ (h : FileHead). map (packet_at h bytes) a.places) (sym same.0)
    ∙ ap (map (packet_at b.head bytes)) same.1 ∙ sym b.packets_are

one_place : (bytes : List ℕ) (one other : ℕ) → IsBadAt bytes one → IsBadAt bytes other → one ≡ other
one_place bytes one other (inl e) (inl f) = cc
one_place bytes one other (inl e) (inr (head, places, breaks)) = let f = breaks.head_is in cc
one_place bytes one other (inr (head, places, breaks)) (inl f) = let e = breaks.head_is in cc
one_place bytes one other (inr (head, ps, a)) (inr (head', qs, b)) =
    (same_end bytes head ps one head' qs other a.head_is a.packets a.broken b.head_is b.packets b.broken).2

pub one_reading : OneReading
unfolding Read
one_reading = record {
  reading = λ bytes. by_head bytes (file_head bytes) refl;
  apart = apart;
  packets = one_list;
  place = one_place;
}
