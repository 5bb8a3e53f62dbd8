use Rattle.std.proofs.Common.{◌++◌, ◌+◌, List, ℕ, ap, sym, ◌∙◌}
use Rattle.outside.proofs.Rounds.{ahead, ahead-packet, ahead-lane, ahead-round, ahead-none}
use Rattle.outside.proofs.generated.Pieces.next.Goals as goal

pub returns-then-self-lt-PACKETS-clause-text : goal.returns-then-self-lt-PACKETS-clause-text
returns-then-self-lt-PACKETS-clause-text c =
    let p = c.self.inside in
    sym c.self.view_is ∙ ahead-packet p.packets p.lanes p.begun p.rounds c.if-self-lt-PACKETS.true
    ∙ ap (λ (x : List ℕ). x ++ ahead (p.packets + 1) p.lanes p.begun p.rounds) (sym c.packet_text.ensures)

pub returns-then-self-lt-LANES-clause-text : goal.returns-then-self-lt-LANES-clause-text
returns-then-self-lt-LANES-clause-text c =
    let p = c.self.inside in
    sym c.self.view_is ∙ ahead-lane p.packets p.lanes p.begun p.rounds c.if-self-lt-PACKETS.false c.if-self-lt-LANES.true
    ∙ ap (λ (x : List ℕ). x ++ ahead 0 (p.lanes + 1) p.begun p.rounds) (sym c.text_of.ensures)

pub returns-then-self-clause-text : goal.returns-then-self-clause-text
returns-then-self-clause-text c =
    let p = c.self.inside in
    sym c.self.view_is ∙ ahead-round p.packets p.lanes p.begun p.rounds c.if-self-lt-PACKETS.false c.if-self-lt-LANES.false c.if-self.true
    ∙ ap (λ (x : List ℕ). x ++ ahead p.packets 0 (p.begun + 1) p.rounds) (sym c.round_front.ensures)

pub returns-clause-end : goal.returns-clause-end
returns-clause-end c =
    let p = c.self.inside in
    let none = sym c.self.view_is ∙ ahead-none p.packets p.lanes p.begun p.rounds c.if-self-lt-PACKETS.false c.if-self-lt-LANES.false c.if-self.false in
    (none, none)
