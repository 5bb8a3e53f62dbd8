use Rattle.std.proofs.Common.{rules, refl, subst, List, ℕ}
use Rattle.acct_base.specs.declared.sizes.RegSizes.{RegSizes}
use Rattle.reg_words.specs.Counts.{AreOfWritten}
use Rattle.reg_words.proofs.Counts.{found_or_spent, room_left}
use Rattle.reg_words.proofs.words.Words.look.Goals as goal
use Rattle.reg_words.proofs.words.Words.look.Goals.{After-find}

tidy : (c : After-find) → ∥ AreOfWritten c.args.self.now.limits c.args.places.now c.args.seat.now.me.0.list ∥₁
tidy c = subst (λ (p : List ℕ). ∥ AreOfWritten c.args.self.now.limits p c.args.seat.now.me.0.list ∥₁) (search rules)
    (subst (λ (z : RegSizes). ∥ AreOfWritten z c.args.seat.now.me.0.places c.args.seat.now.me.0.list ∥₁) (search rules) c.requires.held)

pub returns-clause-found : goal.returns-clause-found
returns-clause-found c = found_or_spent c.args.self.now.limits c.args.places.now c.args.places.now c.args.seat.now.me.0.list c.args.key refl (search rules) (tidy c) c.find.result c.find.ensures

pub returns-clause-room : goal.returns-clause-room
returns-clause-room c = room_left c.args.self.now.limits c.args.places.now c.args.places.now c.args.seat.now.me.0.list c.args.key refl (search rules) (tidy c) c.find.result c.find.ensures
