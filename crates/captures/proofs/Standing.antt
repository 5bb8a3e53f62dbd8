-- Packets that stand one after another.
use Rattle.std.proofs.Common.{◌≡◌, ℕ, zero, suc, ◌+◌, ◌*◌, ◌≤◌, List, [], ◌∷◌, ◌++◌, length, Option, Some, None, refl, sym, ap, ◌∙◌, subst, map, option_map, arith}
use Rattle.std.proofs.lemmas.Option.{slice_get-map}
use Rattle.std.specs.List.{slice_get}
use Rattle.captures.specs.declared.file.Endian.{Endian}
use Rattle.captures.specs.Pcap.{Held, GoesOn, StandFrom, behind, packet_number, usable}

-- a packet goes on at each place
pub goes_on_at : (order : Endian) (bytes : List ℕ) (from : ℕ) (places : List ℕ) (to : ℕ) → StandFrom order bytes from places to →
    (k place : ℕ) → slice_get places k ≡ Some place → GoesOn order bytes place
goes_on_at order bytes from [] to stand k place e = cc
goes_on_at order bytes from (p ∷ ps) to stand zero place e =
    let same : p ≡ place = cc in
    subst (GoesOn order bytes) same stand.1
goes_on_at order bytes from (p ∷ ps) to stand (suc k) place e =
    goes_on_at order bytes (behind order bytes p) ps to stand.2 k place e

-- one packet more
pub stand_push : (order : Endian) (bytes : List ℕ) (from : ℕ) (places : List ℕ) (to : ℕ) → StandFrom order bytes from places to →
    GoesOn order bytes to → StandFrom order bytes from (places ++ to ∷ []) (behind order bytes to)
stand_push order bytes from [] to stand goes = (sym stand, goes, refl)
stand_push order bytes from (p ∷ ps) to stand goes =
    (stand.0, stand.1, stand_push order bytes (behind order bytes p) ps to stand.2 goes)

-- each packet takes 16 bytes or more
pub stand_few : (order : Endian) (bytes : List ℕ) (from : ℕ) (places : List ℕ) (to : ℕ) → StandFrom order bytes from places to →
    from + 16 * length places ≤ to
stand_few order bytes from [] to stand = omega (arith, stand)
stand_few order bytes from (p ∷ ps) to stand =
    let rest = stand_few order bytes (behind order bytes p) ps to stand.2 in
    omega (arith, rest, stand.0)

-- packet k of packets that stand at these places
pub number_some : (f : ℕ → Option Held) (places : List ℕ) (k place : ℕ) → slice_get places k ≡ Some place → packet_number (map f places) k ≡ f place
number_some f places k place e = ap usable (slice_get-map f places k ∙ ap (option_map f) e)

pub number_none : (f : ℕ → Option Held) (places : List ℕ) (k : ℕ) → slice_get places k ≡ None → packet_number (map f places) k ≡ None
number_none f places k e = ap usable (slice_get-map f places k ∙ ap (option_map f) e)
