use Rattle.std.proofs.Common.{ap, ◌∙◌, length}
use Rattle.acct_base.specs.Receipts.{hook_call}
use Rattle.shelf.specs.Shelved.{Phases}
use Rattle.acct_plain.specs.Kept.{Tables, unmarked}
use Rattle.acct_plain.proofs.Hooks.{uncounted}
use Rattle.acct_plain.proofs.plain.Plain.hook.Goals as goal

pub returns-in-None-clause-keeps : goal.returns-in-None-clause-keeps
returns-in-None-clause-keeps c = λ past n k.
    let journal = ap (λ (t : Tables). t.book.journal) c.self.view_is ∙ k.journal in
    let phase = c.len-phase.ensures ∙ ap (λ (t : Tables). length t.phases) c.self.view_is ∙ ap (λ (ps : Phases). length ps) k.phases in
    let is = c.look-receipt.ensures ∙ (λ i. unmarked (journal i) (phase i) (hook_call c.args.call.now)) in
    uncounted c.args.self.now.sizes past (hook_call c.args.call.now) c.look-receipt.result is c.in-None.is c.args.self.now n k

pub returns-in-Some-clause-keeps : goal.returns-in-Some-clause-keeps
returns-in-Some-clause-keeps c = λ past n k.
    let journal = ap (λ (t : Tables). t.book.journal) c.self.view_is ∙ k.journal in
    let phase = c.len-phase.ensures ∙ ap (λ (t : Tables). length t.phases) c.self.view_is ∙ ap (λ (ps : Phases). length ps) k.phases in
    let is = c.look-receipt.ensures ∙ (λ i. unmarked (journal i) (phase i) (hook_call c.args.call.now)) in
    c.charge_packet.ensures.keeps past n k is c.in-Some.is
