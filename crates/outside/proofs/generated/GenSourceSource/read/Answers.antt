use Rattle.std.proofs.Common.{◌≡◌, ◌++◌, ◌+◌, ◌≤◌, ◌-◌, ℕ, List, length, drop, take, ap, sym, ◌∙◌, append_assoc, arith}
use Rattle.std.proofs.lemmas.List.{drop-drop, length-take}
use borrow.Rule.Slice.PartMut.{same_len_mid}
use Rattle.outside.proofs.Copied.{written-front, written-behind}
use Rattle.outside.proofs.generated.GenSourceSource.read.Goals as goal

pub loop-n-preserved : goal.loop-n-preserved
loop-n-preserved c =
    let into = c.loop-n.into in
    let part = c.give-given.new.into in
    let n = c.loop-n.n in
    let given = c.give-given.result in
    let within : n ≤ length into = c.loop-n.invariant.within in
    let room : length (take (length into - n) (drop n into)) ≤ length into - n = omega (arith, length-take (length into - n) (drop n into)) in
    let short : given ≤ length part = omega (arith, c.give-given.auto.into, c.give-given.ensures.bound) in
    record {
      within = omega (arith, same_len_mid n (length into - n) into part c.give-given.auto.into, c.give-given.ensures.bound, room);
      given = c.loop-n.invariant.given ∙ ap (λ (x : List ℕ). take n into ++ x) c.give-given.ensures.bytes
          ∙ sym (append_assoc (take n into) (take given part) c.give-given.new.self)
          ∙ ap (λ (x : List ℕ). x ++ c.give-given.new.self) (sym (written-front into part n given within short));
      kept = written-behind into part n given within short c.give-given.ensures.kept
          ∙ sym (drop-drop given n into) ∙ ap (λ (x : List ℕ). drop given x) c.loop-n.invariant.kept ∙ drop-drop given n c.args.into.now;
    }
