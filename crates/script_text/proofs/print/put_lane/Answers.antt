use Rattle.std.proofs.Common.{ℕ, List, ◌++◌, sym, ap, ◌∙◌, append_assoc}
use Rattle.std.specs.Prelude.{codes, string_bytes}
use Rattle.std.specs.List.{flat_map}
use Rattle.script_text.specs.Prints.{hook_text, lane_text}
use Rattle.script_text.proofs.PrintLines.{lane_put, ok_text}
use Rattle.script_text.proofs.print.put_lane.Goals as goal

pub returns : goal.returns
returns c =
    let old = string_bytes c.args.out.now in
    let hooks = flat_map hook_text c.args.lane.now in
    ok_text c.put_hooks.result (string_bytes c.put_hooks.new.out) (string_bytes c.put_text.new.out ++ hooks) (old ++ lane_text c.args.lane.now) c.put_hooks.ensures (
    ap (λ (t : List ℕ). t ++ hooks) c.in_ok-put_text.ensures ∙ append_assoc old (codes "lane\n") hooks ∙ ap (λ (t : List ℕ). old ++ t) (sym (lane_put c.args.lane.now))
    )
