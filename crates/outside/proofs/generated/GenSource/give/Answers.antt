use Rattle.std.proofs.Common.{◌≡◌, ◌++◌, ◌-◌, [], ℕ, List, length, drop, take, ap, sym, ◌∙◌, arith}
use Rattle.std.proofs.lemmas.List.{drop_all, length-take}
use Rattle.outside.proofs.Copied.{copied-front, rest-whole}
use Rattle.outside.proofs.generated.GenSource.give.Goals.{then-self-len+in-Some, else-self-len}
use Rattle.outside.proofs.generated.GenSource.give.Goals as goal

pub returns-in-None-clause-bytes : goal.returns-in-None-clause-bytes
returns-in-None-clause-bytes c =
    let s = c.self.inside in
    sym c.self.view_is ∙ ap (λ (x : List ℕ). drop s.at s.text.bytes ++ x) (c.in-None.ensures.end.0 ∙ sym c.in-None.ensures.end.1)

pub returns-in-None-clause-end : goal.returns-in-None-clause-end
returns-in-None-clause-end c _ _ =
    let s = c.self.inside in
    ap (λ (x : List ℕ). x ++ c.next.new.self) (drop_all s.at s.text.bytes (omega arith)) ∙ c.in-None.ensures.end.1

pub returns-clause-bytes : goal.returns-clause-bytes
returns-clause-bytes c =
    let s = c.if-self-len.self-inside in
    let before = c.self.inside in
    let spent : before.at ≡ length before.text.bytes → drop before.at before.text.bytes ≡ [] = λ is. drop_all before.at before.text.bytes (omega arith) in
    let same : c.args.self.now ≡ drop s.at s.text.bytes ++ s.behind = elim c.if-self-len.branch [
      | then-self-len+in-Some w ↦ rw w.self-inside-is (sym c.self.view_is ∙ ap (λ (x : List ℕ). x ++ before.behind) (spent (w.if-self-len.true ∙ c.len.ensures.value)) ∙ w.in-Some.ensures.text)
      | else-self-len w ↦ rw w.self-inside-is (sym c.self.view_is)
    ] in
    let text : c.as_bytes.result.now ≡ s.text.bytes = c.as_bytes.ensures.value ∙ c.as_str.ensures.value in
    let long : length c.copy_from_slice.new.self ≡ c.min-n.result =
    omega (arith, c.copy_from_slice.ensures.len, length-take c.min-n.result c.args.into.now, c.min-n.ensures) in
    same ∙ copied-front s.text.bytes c.args.into.now c.copy_from_slice.new.self s.behind s.at c.min-n.result
    (c.copy_from_slice.ensures.after ∙ ap (λ (x : List ℕ). take c.min-n.result (take (length x - s.at) (drop s.at x))) text
    ∙ ap (λ (x : List ℕ). take c.min-n.result x) (rest-whole s.text.bytes s.at)) long
