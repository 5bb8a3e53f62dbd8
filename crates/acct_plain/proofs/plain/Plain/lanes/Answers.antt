use Rattle.std.proofs.Common.{◌≡◌, ℕ, ◌+◌, ◌*◌, ◌∷◌, ◌++◌, [], take, List, sym, subst, ◌∙◌, arith}
use Rattle.std.proofs.lemmas.List.{take_all}
use Rattle.acct_base.specs.declared.receipt.LineReceipt.{LineReceipt}
use Rattle.acct_base.specs.Receipts.{Call}
use Rattle.acct_plain.specs.Serial.{walk_lanes}
use Rattle.acct_plain.specs.Walks.{LaneFits, AreLanesWalked, calls_made}
use Rattle.acct_plain.proofs.Walking.{lane_more_of, size_within, taken_more, all_at}
use Rattle.acct_plain.proofs.plain.Plain.lanes.Goals as goal

pub lane-requires-clause-fits : goal.lane-requires-clause-fits
lane-requires-clause-fits c = all_at LaneFits c.args.lanes.now c.loop-place.place c.lane_at-calls.result c.requires.fits c.lane_at-calls.ensures

pub lane-requires-clause-room : goal.lane-requires-clause-room
lane-requires-clause-room c =
    let (past, n, le, k) = c.requires.room in
    let i = c.loop-place.place in
    let lanes = take i c.args.lanes.now in
    let fact = c.loop-place.invariant.0 past n k in
    let within = size_within c.args.lanes.now i c.lane_at-calls.result c.lane_at-calls.ensures in
    ((walk_lanes c.args.self.now.sizes past lanes).0, n + 3 * calls_made lanes, omega (arith, le, within), fact.1)

pub loop-place-preserved : goal.loop-place-preserved
loop-place-preserved c =
    let inv = c.loop-place.invariant in
    let lanes = c.args.lanes.now in
    let i = c.loop-place.place in
    let calls = c.lane_at-calls.result in
    let taken : take (i + 1) lanes ≡ take i lanes ++ calls ∷ [] = taken_more lanes i calls c.lane_at-calls.ensures in (
      subst (λ (out : List (List (ℕ × LineReceipt))). AreLanesWalked c.args.self.now c.lane.new.self (take (i + 1) lanes) out) (sym c.in_ok-push.ensures.ok)
          (lane_more_of c.args.self.now c.loop-place.self c.lane.new.self (take i lanes) (take (i + 1) lanes) calls c.loop-place.out c.in_ok-receipts.receipts inv.1 taken inv.0 c.in_ok-receipts.ensures.walked),
      c.in_ok-receipts.ensures.sizes ∙ inv.1,
      c.in_ok-receipts.ensures.book ∙ inv.2,
      c.in_ok-receipts.ensures.phases ∙ inv.3,
    )

pub returns-clause-walked : goal.returns-clause-walked
returns-clause-walked c =
    let all : take c.loop-place.place c.args.lanes.now ≡ c.args.lanes.now = take_all c.loop-place.place c.args.lanes.now (omega (arith, c.loop-place-test.false, c.len-place-end.ensures)) in
    subst (λ (xs : List (List (ℕ × Call))). AreLanesWalked c.args.self.now c.loop-place.self xs c.loop-place.out) all c.loop-place.invariant.0
