use Rattle.std.proofs.Common.{◌≡◌, ◌∷◌, [], sym, ◌∙◌, arith}
use Rattle.std.proofs.lemmas.Bool.Decides.{Decides-eqb}
use Rattle.std.proofs.lemmas.Slice.Eq.{slice_eq-Decides}
use Rattle.replay_main.proofs.WordLists.{two_words}
use Rattle.replay_main.proofs.words.are_two.Goals as goal

pub returns-then-eq : goal.returns-then-eq
returns-then-eq c =
    let two = two_words c.args.words.now c.in-Some.first.now c.in-Some-get.second.now (omega (arith, c.len.ensures)) c.in-Some.ensures c.in-Some-get.ensures in
    let same = slice_eq-Decides Decides-eqb c.in-Some.first.now c.args.word.now c.eq.result c.eq.ensures in
    let also = slice_eq-Decides Decides-eqb c.in-Some-get.second.now c.args.other.now c.eq-then-eq.result c.eq-then-eq.ensures in (
      λ yes. two ∙ (λ i. same.0 c.if-eq.true i ∷ also.0 yes i ∷ []),
      λ e. also.1 (let both : c.in-Some.first.now ∷ c.in-Some-get.second.now ∷ [] ≡ c.args.word.now ∷ c.args.other.now ∷ [] = sym two ∙ e in cc),
    )
