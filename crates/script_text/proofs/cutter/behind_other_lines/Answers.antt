use Rattle.std.proofs.Common.{◌≡◌, [], ◌∷◌, ◌++◌, List, ℕ, sym, ap, subst, ◌∙◌}
use Rattle.std.proofs.lemmas.List.{append-nil}
use Rattle.script_text.specs.Pieces.{Lacks}
use Rattle.script_text.proofs.CutLines.{calm_lines}
use Rattle.script_text.proofs.cutter.behind_other_lines.Goals as goal
use Rattle.script_text.proofs.cutter.behind_other_lines.Goals.{in-None, in-Some}

pub returns-in-Some-cut_last_line : goal.returns-in-Some-cut_last_line
returns-in-Some-cut_last_line c =
    let calm = c.match-cut_at.calm.now in
    let m = c.in-Some-cut_last_line in
    elim c.match-cut_at.branch [
      | in-None w ↦ (
          let same : calm ≡ c.args.bytes.now = cc in
          calm_lines c.args.bytes.now calm [] m.lines.now m.field-0-1.now (sym same ∙ sym (append-nil calm)) (subst (λ (t : List ℕ). Lacks t 115) (sym same) w.in-None.ensures.none) m.ensures
          )
      | in-Some w ↦ (
          let same : calm ≡ w.in-Some.calm.now = cc in
          let tail = 115 ∷ w.in-Some.field-0-1.now in
          calm_lines c.args.bytes.now calm tail m.lines.now m.field-0-1.now (w.in-Some.ensures.found ∙ ap (λ (t : List ℕ). t ++ tail) (sym same)) (subst (λ (t : List ℕ). Lacks t 115) (sym same) w.in-Some.ensures.first) m.ensures
          )
    ]
