use Rattle.std.proofs.Common.{◌≡◌, ℕ, List, ◌++◌, ap, ◌∙◌}
use Rattle.std.specs.Prelude.{codes, string_bytes}
use Rattle.std.specs.List.{flat_map}
use Rattle.script_text.specs.declared.map_name.MapName.{MapName}
use Rattle.script_text.specs.Prints.{map_text, priv_text, name_text}
use Rattle.script_text.proofs.PrintLines.{header_put}
use Rattle.script_text.proofs.print.print_header.Goals as goal

pub returns : goal.returns
returns c =
    let one = string_bytes c.put_text.new.out in
    let two = string_bytes c.put_maps.new.out in
    let three = string_bytes c.put_privs.new.out in
    let bytes : c.into_bytes-bytes.result.items ≡ three = let value = c.into_bytes-bytes.ensures.value in cc in
    c.from_vec.ensures
    ∙ header_put c.args.header.now one two three c.put_names.new.out.items
    (c.in_ok-put_text.ensures ∙ ap (λ (t : List ℕ). t ++ codes "netacct 1\n") c.new-out.ensures.bytes)
    (c.in_ok-put_maps.ensures ∙ ap (λ (ms : List (MapName × ℕ)). one ++ flat_map map_text ms) c.as_slice.ensures)
    (c.in_ok-put_privs.ensures ∙ ap (λ (apps : List ℕ). two ++ flat_map priv_text apps) c.as_slice-2.ensures)
    (c.in_ok-put_names.ensures ∙ ap (λ (t : List ℕ). t ++ flat_map name_text c.as_slice-3.result.now) bytes ∙ ap (λ (ns : List (ℕ × List ℕ)). three ++ flat_map name_text ns) c.as_slice-3.ensures)
