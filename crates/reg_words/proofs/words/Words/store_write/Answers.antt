use Rattle.std.proofs.Common.{rules, subst, sym, ◌≡◌, ◌≢◌, ◌++◌, ◌∷◌, [], None, List, ℕ, get_or}
use Rattle.std.proofs.Math.Logic.{∥∥₁_map}
use Rattle.reg_words.specs.declared.view.View.{View}
use Rattle.reg_words.specs.Places.{At, spot, Stays}
use Rattle.reg_words.specs.Counts.{AreOfWritten}
use Rattle.reg_words.proofs.Counts.{tidy_more}
use Rattle.reg_words.proofs.words.Words.store_write.Goals as goal

pub returns-clause-held : goal.returns-clause-held
returns-clause-held c = let d : View = c.args.seat.now.me.0 in
    let e : c.store_register.new.seat.me.0 ≡ record d { list = d.list ++ c.args.write ∷ []; places = c.claim-turn.new.places.items; pending = None } = search rules in
    let at : At d.limits c.claim-turn.new.places.items c.args.write.key c.claim-turn.result = search rules in
    let same : c.args.places.now.items ≡ d.places = search rules in
    let stays : Stays d.places c.claim-turn.new.places.items = subst (λ (p : List ℕ). Stays p c.claim-turn.new.places.items) same c.claim-turn.ensures.at.1 in
    let others : (q : ℕ) → q ≢ spot d.limits c.args.write.key c.claim-turn.result → get_or c.claim-turn.new.places.items q 0 ≡ get_or d.places q 0 = λ q ne. search rules in
    subst (λ (v : View). ∥ AreOfWritten v.limits v.places v.list ∥₁) (sym e)
    (∥∥₁_map c.requires.held (tidy_more d.limits d.places c.claim-turn.new.places.items d.list c.args.write c.claim-turn.result at stays others))
