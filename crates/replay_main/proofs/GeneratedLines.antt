-- The lines of the generated script.
use Rattle.std.proofs.Common.{◌≡◌, ℕ, ◌+◌, ◌*◌, ◌%◌, ◌<◌, ◌≤◌, List, [], ◌∷◌, length, length-append, refl, arith, true, false}
use Rattle.std.specs.Prelude.{◌==◌, if◌then◌else◌, codes, decimal}
use Rattle.std.specs.List.{AllByRecursion}
use Rattle.std.specs.Fmt.{digits}
use Rattle.std.proofs.lemmas.Fmt.{length-decimal-le}
use Rattle.std.proofs.lemmas.Nat.{mod_below}
use Rattle.acct_base.specs.declared.packet.Dir.TheVariants.{Ingress, Egress}
use Rattle.acct_base.specs.declared.packet.Family.TheVariants.{V4}
use Rattle.acct_base.specs.Text.{line_text}
use Rattle.desk_core.specs.declared.command.Chain.TheVariants as chain
use Rattle.desk_core.specs.declared.command.Command.{Command}
use Rattle.desk_core.specs.declared.command.Command.TheVariants as command
use Rattle.script_text.specs.declared.line.Line.{Line}
use Rattle.script_text.specs.declared.line.Line.TheVariants as lines
use Rattle.script_text.specs.declared.hook_line.HookLine.TheVariants as hooks
use Rattle.script_text.specs.Lines.{LaneLine, IsLine, spelled, line_fields, hook_word}
use Rattle.script_text.specs.Limits.{uids_in}
use Rattle.outside.specs.Generated.{line, tag_line, firewall_line, chain_line, packet_line}

-- ---- what the lines say

abbrev pub packet_of : ℕ → ℕ → LaneLine
packet_of lane packet = hooks.Hook (if packet % 2 == 0 then Ingress else Egress) V4 (10000 + packet % 8) (1 + lane) (100 + 500 * lane) (1 + packet % 16) []

abbrev pub tag_of : ℕ → Command
tag_of round = command.Tag 1000 (1 + round % 16) (10000 + round % 8) (1 + round % 4)

abbrev pub firewall_of : ℕ → Command
firewall_of round = command.Firewall chain.Dozable (10000 + round % 8) true

abbrev pub chain_of : ℕ → Command
chain_of round = command.Toggle chain.Dozable (round % 2 == 0)

-- ---- how they are spelled

pub packet_text : (lane packet : ℕ) → spelled (lines.Hook (packet_of lane packet)) ≡ packet_line lane packet
packet_text lane packet =
    let rest : List (List ℕ) = decimal (10000 + packet % 8) ∷ decimal (1 + packet % 16) ∷ decimal (1 + lane) ∷ codes "4" ∷ decimal (100 + 500 * lane) ∷ codes "-" ∷ [] in
    elim (packet % 2 == 0) as (λ b. line_text (hook_word (if b then Ingress else Egress) ∷ rest) ≡ line ((if b then codes "in" else codes "out") ∷ rest)) [ true ↦ refl | false ↦ refl ]

-- the caller of each tag
caller_text : decimal 1000 ≡ codes "1000"
unfolding digits
caller_text = refl

pub tag_text : (round : ℕ) → spelled (lines.Command (tag_of round)) ≡ tag_line round
tag_text round = λ i. line_text (codes "tag" ∷ caller_text i ∷ decimal (1 + round % 16) ∷ decimal (10000 + round % 8) ∷ decimal (1 + round % 4) ∷ [])

pub firewall_text : (round : ℕ) → spelled (lines.Command (firewall_of round)) ≡ firewall_line round
firewall_text round = refl

pub chain_text : (round : ℕ) → spelled (lines.Command (chain_of round)) ≡ chain_line round
chain_text round = refl

-- ---- their values are in range

pub packet_fits : (lane packet : ℕ) → lane < 4 → IsLine (lines.Hook (packet_of lane packet))
packet_fits lane packet lt =
    let uid = mod_below packet 8 (omega arith) in
    let cookie = mod_below packet 16 (omega arith) in (
      tt,
      (
        record { least_is = omega arith; most_is = omega (arith, uid) },
        (
          record { least_is = omega arith; most_is = omega (arith, cookie) },
          (
            record { least_is = omega arith; most_is = omega (arith, lt) },
            (
              tt,
              (
                record { least_is = omega arith; most_is = omega (arith, lt) },
                (record { few = omega arith; within = omega arith; are_bytes = tt }, tt),
              ),
            ),
          ),
        ),
      ),
    )

pub tag_fits : (round : ℕ) → IsLine (lines.Command (tag_of round))
tag_fits round =
    let cookie = mod_below round 16 (omega arith) in
    let uid = mod_below round 8 (omega arith) in
    let tag = mod_below round 4 (omega arith) in (
      tt,
      (
        record { least_is = omega arith; most_is = omega arith },
        (
          record { least_is = omega arith; most_is = omega (arith, cookie) },
          (
            record { least_is = omega arith; most_is = omega (arith, uid) },
            (record { least_is = omega arith; most_is = omega (arith, tag) }, tt),
          ),
        ),
      ),
    )

pub firewall_fits : (round : ℕ) → IsLine (lines.Command (firewall_of round))
firewall_fits round = let uid = mod_below round 8 (omega arith) in (tt, (tt, (record { least_is = omega arith; most_is = omega (arith, uid) }, (tt, tt))))

pub chain_fits : (round : ℕ) → IsLine (lines.Command (chain_of round))
chain_fits round = (tt, (tt, (tt, tt)))

-- ---- they are short

-- A line is short where it has at most 100 bytes, and at most 2,000 uids.
pub record IsShort (l : Line) : Type 0 where
  pub bytes : length (spelled l) ≤ 100
  pub uids : uids_in l ≤ 2000

words_short : (words : List (List ℕ)) → AllByRecursion (λ (word : List ℕ). length word ≤ 9) words → length (line_text words) ≤ 1 + 10 * length words
words_short [] h = omega arith
words_short (w ∷ []) h = omega (arith, length-append w (10 ∷ []), h.0)
words_short (w ∷ v ∷ ws) h = omega (arith, length-append w (32 ∷ line_text (v ∷ ws)), h.0, words_short (v ∷ ws) h.1)

number_short : (n : ℕ) → n < 100000 → length (decimal n) ≤ 9
number_short n lt = omega (arith, length-decimal-le 5 n (omega arith) (omega (arith, lt)) (omega (arith, lt)))

pub packet_short : (lane packet : ℕ) → lane < 4 → IsShort (lines.Hook (packet_of lane packet))
packet_short lane packet lt =
    let uid = mod_below packet 8 (omega arith) in
    let cookie = mod_below packet 16 (omega arith) in
    let word : length (hook_word (if packet % 2 == 0 then Ingress else Egress)) ≤ 9 =
    elim (packet % 2 == 0) as (λ b. length (hook_word (if b then Ingress else Egress)) ≤ 9) [ true ↦ omega arith | false ↦ omega arith ] in
    let all = words_short (line_fields (lines.Hook (packet_of lane packet))) (
      word,
      (
        number_short (10000 + packet % 8) (omega (arith, uid)),
        (
          number_short (1 + packet % 16) (omega (arith, cookie)),
          (
            number_short (1 + lane) (omega (arith, lt)),
            (omega arith, (number_short (100 + 500 * lane) (omega (arith, lt)), (omega arith, tt))),
          ),
        ),
      ),
    ) in
    record { bytes = omega (arith, all); uids = omega arith }

pub tag_short : (round : ℕ) → IsShort (lines.Command (tag_of round))
tag_short round =
    let cookie = mod_below round 16 (omega arith) in
    let uid = mod_below round 8 (omega arith) in
    let tag = mod_below round 4 (omega arith) in
    let all = words_short (line_fields (lines.Command (tag_of round)))
    (omega arith, (number_short 1000 (omega arith), (number_short (1 + round % 16) (omega (arith, cookie)), (number_short (10000 + round % 8) (omega (arith, uid)), (number_short (1 + round % 4) (omega (arith, tag)), tt))))) in
    record { bytes = omega (arith, all); uids = omega arith }

pub firewall_short : (round : ℕ) → IsShort (lines.Command (firewall_of round))
firewall_short round =
    let uid = mod_below round 8 (omega arith) in
    let all = words_short (line_fields (lines.Command (firewall_of round))) (omega arith, (omega arith, (number_short (10000 + round % 8) (omega (arith, uid)), (omega arith, tt)))) in
    record { bytes = omega (arith, all); uids = omega arith }

pub chain_short : (round : ℕ) → IsShort (lines.Command (chain_of round))
chain_short round =
    let word : length (if round % 2 == 0 then codes "on" else codes "off") ≤ 9 =
    elim (round % 2 == 0) as (λ b. length (if b then codes "on" else codes "off") ≤ 9) [ true ↦ omega arith | false ↦ omega arith ] in
    let all = words_short (line_fields (lines.Command (chain_of round))) (omega arith, (omega arith, (word, tt))) in
    record { bytes = omega (arith, all); uids = omega arith }
