use Rattle.std.proofs.Common.{◌≡◌, length, ap, subst, arith, length-append}
use Rattle.std.specs.Prelude.{codes, take}
use Rattle.std.proofs.lemmas.List.{length-take-le}
use Rattle.script_text.specs.Cuts.{IsCutOff}
use Rattle.script_text.proofs.CutLines.{cut_behind, cut_within}
use Rattle.script_text.proofs.cutter.cut.Goals as goal

pub returns-then-taken-before-clause-part : goal.returns-then-taken-before-clause-part
returns-then-taken-before-clause-part c =
    let h = c.requires.1.1 in
    let same = cut_behind c.args.held.now.items c.args.piece.now c.requires.1.0 c.args.taken c.if-taken-before.true c.requires.0 h.is in
    let items = c.in_ok-extend_from_slice.ensures.items in
    let value = c.replace.ensures.value in
    subst (IsCutOff c.args.held.now.items c.args.piece.now c.args.taken) (let is : c.requires.1.0 ≡ c.replace.result.items = cc in is) h

pub overflow_sub-len : goal.overflow_sub-len
overflow_sub-len c =
    let h = c.requires.1.1 in
    omega (arith, c.len.ensures, ap length h.is, length-append c.args.held.now.items (take c.args.taken c.args.piece.now), length-append c.requires.1.0 (codes "section\n"), length-take-le c.args.taken c.args.piece.now c.requires.0)

pub returns-clause-part : goal.returns-clause-part
returns-clause-part c =
    let h = c.requires.1.1 in
    let same = cut_within c.args.held.now.items c.args.piece.now c.requires.1.0 c.args.taken c.if-taken-before.false c.requires.0 h.is in
    let items = c.truncate.ensures.items in
    let size = c.len.ensures in
    let value = c.replace-2.ensures.value in
    subst (IsCutOff c.args.held.now.items c.args.piece.now c.args.taken) (let is : c.requires.1.0 ≡ c.replace-2.result.items = cc in is) h
