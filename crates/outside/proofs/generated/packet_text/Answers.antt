use Rattle.std.proofs.Common.{ℕ, ◌+◌, ◌*◌, ◌%◌, List, [], ◌∷◌, codes, decimal, ap, ◌∙◌}
use Rattle.outside.specs.Generated.{line}
use Rattle.outside.proofs.Rounds.{packet-words}
use Rattle.outside.proofs.generated.packet_text.Goals as goal

pub returns : goal.returns
returns c =
    let uid = decimal (10000 + c.args.packet % 8) in
    let cookie = decimal (1 + c.args.packet % 16) in
    let iface = decimal (1 + c.args.lane) in
    let size = decimal (100 + 500 * c.args.lane) in
    rw (
      c.push_str-2.ensures.bytes,
      c.put_number-4.ensures.bytes,
      c.push_str.ensures.bytes,
      c.put_number-3.ensures.bytes,
      c.put_number-2.ensures.bytes,
      c.put_number.ensures.bytes,
      c.text_of-text.ensures,
    )
    (packet-words c.direction.result.now uid cookie iface size
    ∙ ap (λ (word : List ℕ). line (word ∷ uid ∷ cookie ∷ iface ∷ codes "4" ∷ size ∷ codes "-" ∷ [])) c.direction.ensures.word)
