use Rattle.std.proofs.Common.{◌≡◌, ap, subst, ◌∙◌, ◌+◌, ◌≤◌, ◌++◌, ◌&&◌, length, true, false}
use Rattle.std.specs.Prelude.{ℕ, Option}
use Rattle.desk_core.specs.declared.command.Reply.{Reply}
use Rattle.desk_core.specs.Commands.{reply, writes, collects, is_done}
use Rattle.shelf.specs.Shelved.{Phases}
use Rattle.captures.specs.Runs.{Past}
use Rattle.acct_plain.specs.Kept.{Tables, Keeps}
use Rattle.acct_plain.specs.Ending.{ended_by, deletion_of, IsEnded}
use Rattle.acct_plain.proofs.Ending.{written_kept, ended_kept, after_done, after_plain, ended_is, and_first}
use Rattle.acct_plain.proofs.plain.Plain.command.Goals as goal

pub returns-then-ends_phase-clause-keeps : goal.returns-then-ends_phase-clause-keeps
returns-then-ends_phase-clause-keeps c = λ past n k.
    let p = c.args.self.now in
    let q = c.end_phase.new.self in
    let command = c.args.command.now in
    let ws = c.in_ok-decision.decision.writes in
    let seen = c.self.view_is in
    let replied = c.in_ok-decision.ensures.reply ∙ (λ i. reply (seen i).book.journal (seen i).book.privileged (seen i).book.limits command)
    ∙ (λ i. reply (k.journal i) p.book.privileged (k.limits i) command) in
    let wrote = c.in_ok-decision.ensures.writes ∙ (λ i. writes (seen i).book.journal (seen i).book.privileged (seen i).book.limits command) in
    let on : true ≡ (collects command && is_done (reply past.journal p.book.privileged p.sizes.regs command)) =
    c.if-ends_phase.ensures ∙ ap (λ (r : Reply). collects command && is_done r) replied in
    let few : length past.phases + 1 ≤ 1024 = subst (λ (ps : Phases). length ps + 1 ≤ 1024) k.phases (c.requires.phases (and_first _ _ on)) in
    let ended = subst (λ (drop : Option (ℕ × ℕ)). IsEnded p q drop ws) c.deletion_of.ensures c.in_ok-end_phase.ensures.ok in
    let kept = ended_kept p q past n command ws k c.requires.range few wrote ended in (
      replied,
      subst (λ (x : Past). Keeps q x n) (after_done p.book.privileged p.sizes past command (ended_by past (deletion_of command)) on (ended_is past command)) kept,
    )

pub returns-clause-keeps : goal.returns-clause-keeps
returns-clause-keeps c = λ past n k.
    let p = c.args.self.now in
    let f = c.self.inside in
    let command = c.args.command.now in
    let ws = c.in_ok-decision.decision.writes in
    let seen = c.self.view_is in
    let replied = c.in_ok-decision.ensures.reply ∙ (λ i. reply (seen i).book.journal (seen i).book.privileged (seen i).book.limits command)
    ∙ (λ i. reply (k.journal i) p.book.privileged (k.limits i) command) in
    let wrote = c.in_ok-decision.ensures.writes ∙ (λ i. writes (seen i).book.journal (seen i).book.privileged (seen i).book.limits command) in
    let off : false ≡ (collects command && is_done (reply past.journal p.book.privileged p.sizes.regs command)) =
    c.if-ends_phase.ensures ∙ ap (λ (r : Reply). collects command && is_done r) replied in
    let q : Tables = record { sizes = f.sizes; book = c.take.new.self; phases = f.shelf.phases; rows = f.rows; apps = f.apps; ifaces = f.ifaces; recorded = f.recorded } in
    let same : q ≡ record p { book = record p.book { journal = p.book.journal ++ ws } } =
    (λ i. record q { book = c.in_ok-take.ensures.ok i }) ∙ ap (λ (t : Tables). record t { book = record t.book { journal = t.book.journal ++ ws } }) seen in
    let kept = written_kept p q past n command ws k c.requires.range wrote same in
    (replied, subst (λ (x : Past). Keeps q x n) (after_plain p.book.privileged p.sizes past command off) kept)
