use Rattle.std.proofs.Common.{ℕ, List, ◌++◌, ap, ◌∙◌}
use Rattle.std.specs.Prelude.{codes, string_bytes}
use Rattle.script_text.specs.Lines.{chain_word}
use Rattle.script_text.proofs.PartLines.{ok_fact}
use Rattle.script_text.proofs.PrintLines.{replace_put}
use Rattle.script_text.proofs.spell.put_replace.Goals as goal

pub returns : goal.returns
returns c = ok_fact _ _ _ c.put_text-3.ensures (λ last.
    replace_put (string_bytes c.args.out.now) (string_bytes c.put_text.new.out) (string_bytes c.put_text-2.new.out) (string_bytes c.put_uids.new.out) (string_bytes c.put_text-3.new.out) (codes "replace ") (chain_word c.args.chain) c.args.uids.now
    c.in_ok-put_text.ensures (c.in_ok-put_text-2.ensures ∙ ap (λ (t : List ℕ). string_bytes c.put_text.new.out ++ t) c.chain_text-chain.ensures) c.in_ok-put_uids.ensures last
    )
