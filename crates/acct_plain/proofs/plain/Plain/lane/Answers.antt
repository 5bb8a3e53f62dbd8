use Rattle.std.proofs.Common.{◌≡◌, ℕ, ◌+◌, ◌*◌, ◌∷◌, ◌++◌, [], take, length, List, sym, subst, ◌∙◌, arith, length-take-le}
use Rattle.std.proofs.lemmas.List.{take_all}
use Rattle.acct_base.specs.declared.receipt.LineReceipt.{LineReceipt}
use Rattle.acct_base.specs.Ranges.{IsCallInRange}
use Rattle.acct_base.specs.Receipts.{Call}
use Rattle.captures.specs.Lent.{numbered_call}
use Rattle.acct_plain.specs.Serial.{walk_lane}
use Rattle.acct_plain.specs.Walks.{IsLaneWalked}
use Rattle.acct_plain.proofs.Walking.{walked_more, taken_more, all_at}
use Rattle.acct_plain.proofs.plain.Plain.lane.Goals as goal

pub line-requires-clause-range : goal.line-requires-clause-range
line-requires-clause-range c = all_at (λ (x : ℕ × Call). IsCallInRange x.1) c.args.calls.now c.loop-place.place (numbered_call c.call_at-number.result) c.requires.fits c.call_at-number.ensures

pub line-requires-clause-room : goal.line-requires-clause-room
line-requires-clause-room c =
    let (past, n, le, k) = c.requires.room in
    let i = c.loop-place.place in
    let calls = take i c.args.calls.now in
    let fact = c.loop-place.invariant.0 past n k in
    ((walk_lane c.args.self.now.sizes past calls).0, n + 3 * length calls, omega (arith, le, c.loop-place-test.true, length-take-le i c.args.calls.now, c.len-place-end.ensures), fact.1)

pub loop-place-preserved : goal.loop-place-preserved
loop-place-preserved c =
    let inv = c.loop-place.invariant in
    let calls = c.args.calls.now in
    let i = c.loop-place.place in
    let call = numbered_call c.call_at-number.result in
    let taken : take (i + 1) calls ≡ take i calls ++ call ∷ [] = taken_more calls i call c.call_at-number.ensures in (
      subst (λ (out : List (ℕ × LineReceipt)). IsLaneWalked c.args.self.now c.line.new.self (take (i + 1) calls) out) (sym c.in_ok-push.ensures.ok)
          (walked_more c.args.self.now c.loop-place.self c.line.new.self (take i calls) (take (i + 1) calls) call c.loop-place.receipts c.in_ok-receipt.receipt inv.1 taken inv.0 c.in_ok-receipt.ensures.keeps),
      c.in_ok-receipt.ensures.sizes ∙ inv.1,
      c.in_ok-receipt.ensures.book ∙ inv.2,
      c.in_ok-receipt.ensures.phases ∙ inv.3,
    )

pub returns-clause-walked : goal.returns-clause-walked
returns-clause-walked c =
    let all : take c.loop-place.place c.args.calls.now ≡ c.args.calls.now = take_all c.loop-place.place c.args.calls.now (omega (arith, c.loop-place-test.false, c.len-place-end.ensures)) in
    subst (λ (xs : List (ℕ × Call)). IsLaneWalked c.args.self.now c.loop-place.self xs c.loop-place.receipts) all c.loop-place.invariant.0
