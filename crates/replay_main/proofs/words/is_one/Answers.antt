use Rattle.std.proofs.Common.{◌≡◌, ℕ, List, ◌∷◌, [], sym, ap, ◌∙◌, arith}
use Rattle.std.proofs.lemmas.Bool.Decides.{Decides-eqb}
use Rattle.std.proofs.lemmas.Slice.Eq.{slice_eq-Decides}
use Rattle.replay_main.proofs.WordLists.{one_word}
use Rattle.replay_main.proofs.words.is_one.Goals as goal

pub returns-then-len-eq1 : goal.returns-then-len-eq1
returns-then-len-eq1 c =
    let one = one_word c.args.words.now c.in-Some.first.now (omega (arith, c.len.ensures)) c.in-Some.ensures in
    let same = slice_eq-Decides Decides-eqb c.in-Some.first.now c.args.word.now c.eq.result c.eq.ensures in (
      λ yes. one ∙ ap (λ (b : List ℕ). b ∷ []) (same.0 yes),
      λ e. same.1 (let both : c.in-Some.first.now ∷ [] ≡ c.args.word.now ∷ [] = sym one ∙ e in cc),
    )
