use Rattle.std.proofs.Common.{ℕ, List, ◌∷◌, ◌++◌, map, sym, ap, ◌∙◌}
use Rattle.std.specs.Prelude.{codes, decimal, string_bytes}
use Rattle.acct_base.specs.Text.{line_text}
use Rattle.desk_core.specs.declared.command.Command.{Command}
use Rattle.script_text.specs.declared.line.Line.TheVariants as lines
use Rattle.script_text.specs.Lines.{spelled, chain_word}
use Rattle.script_text.proofs.PrintLines.{ascending_texts, ok_text}
use Rattle.script_text.proofs.spell.put_command.Goals as goal

pub returns-in-Replace : goal.returns-in-Replace
returns-in-Replace c =
    let old = string_bytes c.args.out.now in
    let word = chain_word c.in-Replace.chain in
    ok_text c.put_replace.result (string_bytes c.put_replace.new.out) (old ++ line_text (codes "replace" ∷ word ∷ map decimal c.as_slice.result.now)) (old ++ spelled (lines.Command c.args.command.now)) c.put_replace.ensures (
    ap (λ (us : List ℕ). old ++ line_text (codes "replace" ∷ word ∷ map decimal us)) c.as_slice.ensures
    ∙ ap (λ (fs : List (List ℕ)). old ++ line_text (codes "replace" ∷ word ∷ fs)) (sym (ascending_texts 0 c.in-Replace.uids))
    ∙ ap (λ (command : Command). old ++ spelled (lines.Command command)) (sym c.in-Replace.is)
    )
