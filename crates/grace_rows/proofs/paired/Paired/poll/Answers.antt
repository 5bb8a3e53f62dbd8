use Rattle.std.proofs.Common.{◌≡◌, ℕ, Bool, sym, ap, ◌∙◌, arith}
use Rattle.grace_rows.specs.declared.collect_seat.Grace.TheVariants.{Clear, Inside}
use Rattle.grace_rows.specs.Seats.{is_clear, stage_of}
use Rattle.grace_rows.specs.Sights.{collect_of}
use Rattle.grace_rows.proofs.MomentLemmas.{all_left, poll_clears}
use Rattle.grace_rows.proofs.paired.Paired.poll.Goals.{then-exits-flipped, else-exits-flipped}
use Rattle.grace_rows.proofs.paired.Paired.poll.Goals as goal

apart : (n : ℕ) → Inside n ≡ Clear → ⊥
apart n e = cc

pub returns-clause-left : goal.returns-clause-left
returns-clause-left c = λ clear. let f = c.flipped.inside in let h = c.flipped.invariant in let most = c.poll_step-exits.ensures.most in
    let all : c.poll_step-exits.result ≡ f.entered = elim c.if-exits-flipped.branch [ then-exits-flipped w ↦ absurd (apart _ (sym w.result-is ∙ clear)) | else-exits-flipped w ↦ (let no = w.if-exits-flipped in omega arith) ] in
    all_left c.args.self.now (collect_of c.poll_step-exits.new.seat.me.0) f.phase
    (poll_clears f.seat.me.0 c.poll_step-exits.new.seat.me.0 f.phase f.entered c.poll_step-exits.result c.poll_step-exits.ensures.view h.kind h.phase
    (h.stage ∙ ap (λ (b : Bool). stage_of b f.entered) (h.clear ∙ (ap is_clear c.flipped.view_is ∙ c.requires.waits))) all)
