use Rattle.std.proofs.Common.{◌≡◌, ℕ, ◌+◌, ◌≤◌, ◌++◌, ◌∷◌, [], take, length, List, ap, sym, subst, ◌∙◌, arith}
use Rattle.std.proofs.lemmas.List.{take_all, take_more}
use Rattle.desk_core.specs.declared.command.Command.{Command}
use Rattle.desk_core.specs.declared.command.Reply.{Reply}
use Rattle.shelf.specs.Shelved.{Phases}
use Rattle.acct_plain.specs.Serial.{walk_desk}
use Rattle.acct_plain.specs.Walks.{IsDeskWalked, collecting}
use Rattle.acct_plain.proofs.Walking.{desk_walked_more, collecting_here, collecting_next, one_collecting, phases_after}
use Rattle.acct_plain.proofs.plain.Plain.desk.Goals as goal

pub command-requires-clause-room : goal.command-requires-clause-room
command-requires-clause-room c =
    let (past, n, le, k) = c.requires.room in
    let p = c.args.self.now in
    let fact = c.loop-number.invariant.0 past n k in
    ((walk_desk p.book.privileged p.sizes past (take c.loop-number.number-index c.args.lines.now)).0, n, le, fact.1)

pub command-requires-clause-phases : goal.command-requires-clause-phases
command-requires-clause-phases c = λ e.
    let item = c.loop-number-item.result in
    let one = one_collecting item e in
    let here = collecting_here c.args.lines.now c.loop-number.number-index item c.loop-number-test.true c.loop-number-item.is in
    omega (arith, c.requires.phases, c.loop-number.invariant.3, one, here)

pub loop-number-preserved : goal.loop-number-preserved
loop-number-preserved c =
    let p = c.args.self.now in
    let lines = c.args.lines.now in
    let i = c.loop-number.number-index in
    let item = c.loop-number-item.result in
    let inv = c.loop-number.invariant in
    let taken : take (i + 1) lines ≡ take i lines ++ item ∷ [] = take_more lines i item c.loop-number-test.true ∙ ap (λ (x : ℕ × Command). take i lines ++ x ∷ []) (sym c.loop-number-item.is) in
    let (past, n, le, k) = c.requires.room in
    let mid = inv.0 past n k in
    let w0 = (walk_desk p.book.privileged p.sizes past (take i lines)).0 in
    let kept = c.in_ok-reply.ensures.keeps w0 n mid.1 in
    let now = ap (λ (ps : Phases). length ps) mid.1.phases in
    let then = ap (λ (ps : Phases). length ps) kept.1.phases in
    let grown = phases_after c.loop-number.self.book.privileged c.loop-number.self.sizes w0 item in
    let next = collecting_next lines i item c.loop-number-test.true c.loop-number-item.is in (
      subst (λ (o : List (ℕ × Reply)). IsDeskWalked p c.command.new.self (take (i + 1) lines) o) (sym c.in_ok-push.ensures.ok)
          (desk_walked_more p c.loop-number.self c.command.new.self (take i lines) (take (i + 1) lines) item c.loop-number.replies c.in_ok-reply.reply inv.1 inv.2 taken inv.0 c.in_ok-reply.ensures.keeps),
      c.in_ok-reply.ensures.sizes ∙ inv.1,
      c.in_ok-reply.ensures.privileged ∙ inv.2,
      omega (arith, inv.3, now, then, grown, next),
    )

pub returns-clause-walked : goal.returns-clause-walked
returns-clause-walked c =
    let lines = c.args.lines.now in
    subst (λ (xs : List (ℕ × Command)). IsDeskWalked c.args.self.now c.loop-number.self xs c.loop-number.replies) (take_all c.loop-number.number-index lines c.loop-number-test.false) c.loop-number.invariant.0

pub returns-clause-grown : goal.returns-clause-grown
returns-clause-grown c =
    let lines = c.args.lines.now in
    subst (λ (xs : List (ℕ × Command)). length c.loop-number.self.phases ≤ length c.args.self.now.phases + length (collecting xs)) (take_all c.loop-number.number-index lines c.loop-number-test.false) c.loop-number.invariant.3
