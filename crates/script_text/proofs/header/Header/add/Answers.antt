use Rattle.std.proofs.Common.{ℕ, List, ap, sym, ◌∙◌}
use Rattle.acct_base.specs.declared.sizes.Sizes.{Sizes}
use Rattle.script_text.specs.declared.map_name.MapName.{MapName}
use Rattle.script_text.specs.Parts.{default_sizes, with_size, with_sizes}
use Rattle.script_text.proofs.Sizes.{sizes_push}
use Rattle.script_text.proofs.header.Header.add.Goals as goal

pub returns-in_ok-push-in-Map-clause-sizes : goal.returns-in_ok-push-in-Map-clause-sizes
returns-in_ok-push-in-Map-clause-sizes c =
    c.with_size_of-self.ensures ∙ ap (λ (s : Sizes). with_size s c.in-Map.name c.in-Map.size) c.requires.sizes ∙ sym (sizes_push default_sizes c.args.self.now.maps (c.in-Map.name, c.in-Map.size))
    ∙ ap (λ (ms : List (MapName × ℕ)). with_sizes default_sizes ms) (sym c.in_ok-push-in-Map.ensures.ok)
