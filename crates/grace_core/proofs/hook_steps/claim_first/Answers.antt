use Rattle.std.proofs.Common.{◌∙◌, sym, set, ap, ℕ}
use Rattle.row_probe.specs.Places.{place}
use Rattle.grace_core.specs.Machine.{claimed}
use Rattle.grace_core.proofs.InCode.{there, turn_label, claims_first}
use Rattle.grace_core.proofs.hook_steps.claim_first.Goals as goal

pub pack1-key-requires : goal.pack1-key-requires
pack1-key-requires c = turn_label c.args.state.now c.requires c.args.hook c.in-Some.view.now (sym c.in-Some.ensures) c.args.job.now c.in-Some-first_turn.at (sym c.in-Some-first_turn.ensures)

pub pack2-requires : goal.pack2-requires
pack2-requires c = turn_label c.args.state.now c.requires c.args.hook c.in-Some.view.now (sym c.in-Some.ensures) c.args.job.now c.in-Some-first_turn.at (sym c.in-Some-first_turn.ensures)

pub find_first-requires-clause-there : goal.find_first-requires-clause-there
find_first-requires-clause-there c = there c.args.state.now c.requires c.args.hook c.in-Some.view.now (sym c.in-Some.ensures)

pub returns-clause-ok : goal.returns-clause-ok
returns-clause-ok c = let at = c.in-Some-first_turn.at in claims_first c.args.state.now c.requires c.args.hook c.in-Some.view.now (sym c.in-Some.ensures) c.args.job.now at (sym c.in-Some-first_turn.ensures)
    c.place-row.result c.word_of-word.result c.get-found.result c.set.new.self c.find_first.new.self
    (c.place-row.ensures.value ∙ (λ i. place (c.pack1-key.ensures.value i) (c.pack2.ensures.value i) at.turn c.args.state.now.rows)) c.word_of-word.ensures.value c.get-found.ensures
    (c.set.ensures ∙ ap (set c.args.state.now.words c.word_of-word.result) (c.claimed.ensures ∙ ap (λ (key : ℕ). claimed key c.get-found.result) c.pack1-key.ensures.value)) c.in_ok-find_first.ensures.ok
