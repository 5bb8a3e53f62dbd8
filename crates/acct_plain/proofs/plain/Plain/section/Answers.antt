use Rattle.std.proofs.Common.{ℕ, ◌+◌, ◌*◌, List, length, ap, subst, ◌∙◌, arith}
use Rattle.acct_base.specs.declared.sizes.Sizes.{Sizes}
use Rattle.desk_core.specs.Book.{BookView}
use Rattle.shelf.specs.Shelved.{Phases}
use Rattle.captures.specs.Lent.{desk_of}
use Rattle.acct_plain.specs.Serial.{walk_lanes, walk_desk}
use Rattle.acct_plain.specs.Kept.{Keeps}
use Rattle.acct_plain.specs.Walks.{calls_made}
use Rattle.acct_plain.proofs.plain.Plain.section.Goals as goal

pub replies-requires-clause-room : goal.replies-requires-clause-room
replies-requires-clause-room c =
    let (past, n, le, k) = c.requires.room in
    let lanes = c.args.calls.now.lanes in
    let fact = c.in_ok-lanes.ensures.walked past n k in
    ((walk_lanes c.args.self.now.sizes past lanes).0, n + 3 * calls_made lanes, omega (arith, le), fact.1)

pub returns-clause-walked : goal.returns-clause-walked
returns-clause-walked c = λ past n k.
    let p = c.args.self.now in
    let lanes = c.args.calls.now.lanes in
    let desk = desk_of c.args.calls.now.desk in
    let m = n + 3 * calls_made lanes in
    let first = c.in_ok-lanes.ensures.walked past n k in
    let w0 = (walk_lanes p.sizes past lanes).0 in
    let second = c.in_ok-replies.ensures.walked w0 m first.1 in
    let same = c.in_ok-lanes.ensures.sizes in
    let apps = ap (λ (b : BookView). b.privileged) c.in_ok-lanes.ensures.book in
    let replies = second.0 ∙ (λ i. (walk_desk (apps i) (same i) w0 desk).1) in (
      (λ i. record { lanes = first.0 i; replies = replies i }),
      subst (λ (x : List ℕ × Sizes). Keeps c.replies.new.self (walk_desk x.0 x.1 w0 desk).0 m) (λ i. (apps i, same i)) second.1,
    )

pub returns-clause-grown : goal.returns-clause-grown
returns-clause-grown c =
    let same = ap (λ (ps : Phases). length ps) c.in_ok-lanes.ensures.phases in
    omega (arith, c.in_ok-replies.ensures.grown, same)
