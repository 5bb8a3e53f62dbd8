use Rattle.std.proofs.Common.{◌≡◌, sym, ap, subst, ◌∙◌, ℕ, arith, decimal}
use Rattle.std.proofs.lemmas.Bool.Decides.{Decides-eqb}
use Rattle.std.proofs.lemmas.Slice.Eq.{slice_eq-Decides}
use Rattle.std.proofs.lemmas.Fmt.{parse-decimal}
use Rattle.replay_main.specs.Words.{AreRounds}
use Rattle.replay_main.proofs.words.rounds_of.Goals as goal

pub returns-in_default-clause-none : goal.returns-in_default-clause-none
returns-in_default-clause-none c = λ rounds are e.
    let ok = parse-decimal 32 rounds c.args.word.now c.parse.result (omega (arith, are.1)) (omega (arith, are.1)) e c.parse.ensures.value.0 in
    let bad = c.in_default.is in
    cc

pub returns-then-not-are_rounds-clause-none : goal.returns-then-not-are_rounds-clause-none
returns-then-not-are_rounds-clause-none c = λ rounds are e.
    let ok = parse-decimal 32 rounds c.args.word.now c.parse.result (omega (arith, are.1)) (omega (arith, are.1)) e c.parse.ensures.value.0 in
    let is = c.in-Ok.is in
    let same : rounds ≡ c.in-Ok.rounds = cc in
    let yes = c.are_rounds.ensures.1 (subst AreRounds same are) in
    let no = c.if-not-are_rounds.true in
    cc

pub returns-else-eq-clause-none : goal.returns-else-eq-clause-none
returns-else-eq-clause-none c = λ rounds are e.
    let ok = parse-decimal 32 rounds c.args.word.now c.parse.result (omega (arith, are.1)) (omega (arith, are.1)) e c.parse.ensures.value.0 in
    let is = c.in-Ok.is in
    let same : rounds ≡ c.in-Ok.rounds = cc in
    let printed = slice_eq-Decides Decides-eqb c.format.result.now c.args.word.now c.eq.result c.eq.ensures in
    let yes = printed.1 (c.format.ensures.text ∙ ap (λ (n : ℕ). decimal n) (sym same) ∙ sym e) in
    let no = c.if-eq.false in
    cc
